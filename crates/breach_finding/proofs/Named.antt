-- Entries that are kept list no empty name.
use Rattle.std.proofs.Common.{◌≡◌, ℕ, ◌==◌, List, [], ◌∷◌, ◌++◌, refl, sym, ◌∙◌, ap, append_assoc}
use Rattle.world_core.specs.Journals.{Each, of_seat}
use Rattle.world_core.specs.Operations.{IsReplyTo}
use Rattle.world_core.specs.Standing.{Tells, stands}
use Rattle.world_core.specs.Worlds.{IsJournal, IsOfBytes}
use Rattle.world_core.specs.declared.entry.Entry.{Entry}
use Rattle.lifecycle_core.specs.Breaches.{IsKept, honesty}
use Rattle.lifecycle_core.specs.Setting.{Setting}
use Rattle.lifecycle_core.proofs.journals.UnbrokenHonest.{told_or_lies}
use Rattle.lifecycle_core.proofs.views.Named.{filtered_list, tells_names}
use Rattle.lifecycle_core.proofs.views.OneOpening.{AllList}

module _ (setting : Setting) (tick : ℕ) (journal : List Entry) (is : IsJournal tick journal) (bytes : IsOfBytes journal) (before after : List Entry) (parts : journal ≡ before ++ after) (kept : Each (IsKept setting journal) before) where
  named_from : (front others : List Entry) → before ≡ front ++ others → AllList others
  named_from front [] own = tt
  named_from front (e ∷ others) own =
      let inside : journal ≡ front ++ e ∷ (others ++ after) = parts ∙ ap (λ (es : List Entry). es ++ after) own ∙ append_assoc front (e ∷ others) after in
      let kind : IsReplyTo e.op e.reply = is.kinds front (others ++ after) e inside in
      let tells : Tells (stands front) e.op e.reply = (told_or_lies tick journal is bytes front (others ++ after) e inside).0 (λ x y. kept front others e own honesty x y) in (
        tells_names (stands front) e.op e.reply kind tells,
        named_from (front ++ e ∷ []) others (own ∙ sym (append_assoc front (e ∷ []) others)),
      )

  pub all_named : AllList before
  all_named = named_from [] before refl

  pub seat_named : (seat : ℕ) → AllList (of_seat seat before)
  seat_named seat = filtered_list (λ (x : Entry). x.seat == seat) before all_named
