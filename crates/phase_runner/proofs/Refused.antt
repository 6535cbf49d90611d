-- A pass whose operation was answered that the journal is full has seen a full journal, and one for whose operation memory was
-- wanted has not.
use Rattle.std.proofs.Common.{◌≡◌, ◌⊎◌, ◌||◌, Bool, true, false, IsTrue, refl, ◌+◌, List, length, sym, ap, ◌∙◌, subst, inl, inr, arith, length-append}
use Rattle.std.proofs.lemmas.List.Sums.{sum_by-append}
use mathlib.Core.List.{IsPrefix}
use Rattle.world_core.specs.Keeping.{IsFull, bytes_put, bytes_told, kept_bytes}
use Rattle.world_core.specs.declared.entry.Entry.{Entry}
use Rattle.world_core.specs.declared.op.Op.{Op}
use Rattle.world_core.specs.declared.act.Acted.{Acted}
use Rattle.world_core.specs.declared.act.Acted.TheVariants.{Done, Full, NoMemory}
use Rattle.world_core.specs.Machines.{is_wanting}
use Rattle.world_turn.specs.Turns.{Acts, front_after}
use Rattle.world_turn.specs.declared.view.View.{View}

pub front_full : (v : View) (op : Op) (acted : Acted) (w : View) → Acts v op acted w → acted ≡ Full → IsFull w.front
front_full v op acted w a full = subst IsFull (sym (a.front ∙ ap (front_after v a.journal op) full)) (a.full.0 full)

-- a journal of which a front is full is full
pub full_more : (front journal : List Entry) → IsPrefix front journal → IsFull front → IsFull journal
full_more front journal p (inl many) = inl (omega (arith, many, sym (ap length p.1) ∙ length-append front p.0))
full_more front journal p (inr much) = inr (omega (arith, much, sym (ap kept_bytes p.1) ∙ sum_by-append (λ e. bytes_put e.op + bytes_told e.reply) front p.0))

pub front_short : (v : View) (op : Op) (acted : Acted) (w : View) → Acts v op acted w → acted ≡ NoMemory → ¬ IsFull w.front
front_short v op acted w a none full =
    let front : IsFull v.front = subst IsFull (a.front ∙ ap (front_after v a.journal op) none) full in
    let was : acted ≡ Full = a.full.1 (full_more v.front a.journal a.finds.front front) in
    cc

wanted_by : (b : Bool) (acted : Acted) → IsTrue (b || is_wanting acted) → IsTrue b ⊎ (acted ≡ NoMemory)
wanted_by true acted is = inl refl
wanted_by false NoMemory is = inr refl
wanted_by false (Done seen) is = absurd cc
wanted_by false Full is = absurd cc
