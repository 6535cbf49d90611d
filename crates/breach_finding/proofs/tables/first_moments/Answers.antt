use Rattle.std.proofs.Common.{◌≡◌, ◌+◌, List, [], ◌∷◌, ◌++◌, take, sym, ◌∙◌, ap, subst}
use Rattle.std.specs.BTreeMap.{get}
use Rattle.std.specs.Ordering.{nat_cmp}
use Rattle.std.proofs.lemmas.List.{take_more}
use Rattle.world_core.specs.declared.entry.Entry.{Entry}
use Rattle.world_core.specs.Journals.{of_seat}
use Rattle.breach_finding.specs.Tables.{Numbers}
use Rattle.breach_finding.proofs.Compactors.{moment_of_first}
use Rattle.breach_finding.proofs.FirstMoments.{first_added, first_kept}
use Rattle.breach_finding.proofs.tables.first_moments.Goals.{then-not-contains_key+in_ok-insert, else-not-contains_key}
use Rattle.breach_finding.proofs.tables.first_moments.Goals as goal

pub loop-entry-preserved : goal.loop-entry-preserved
loop-entry-preserved c seat =
    let front : take (c.loop-entry.entry-index + 1) c.args.journal.now ≡ take c.loop-entry.entry-index c.args.journal.now ++ c.entry-item.result ∷ [] =
    take_more c.args.journal.now c.loop-entry.entry-index c.entry-item.result c.loop-entry-test.true ∙ ap (λ (x : Entry). take c.loop-entry.entry-index c.args.journal.now ++ x ∷ []) (sym c.entry-item.is) in
    subst (λ (es : List Entry). get nat_cmp c.if-not-contains_key.begins seat ≡ moment_of_first (of_seat seat es)) (sym front)
    (elim c.if-not-contains_key.branch [
      | then-not-contains_key+in_ok-insert w ↦ ap (λ (m : Numbers). get nat_cmp m seat) w.begins-is
          ∙ first_added (take c.loop-entry.entry-index c.args.journal.now) c.entry-item.result c.loop-entry.begins c.loop-entry.invariant w.insert.new.self
          (sym c.contains_key.ensures ∙ w.if-not-contains_key.true) (λ q. w.in_ok-insert.ensures.updates.0 q) seat
      | else-not-contains_key w ↦ ap (λ (m : Numbers). get nat_cmp m seat) w.begins-is
          ∙ first_kept (take c.loop-entry.entry-index c.args.journal.now) c.entry-item.result c.loop-entry.begins c.loop-entry.invariant
          (sym c.contains_key.ensures ∙ w.if-not-contains_key.false) seat
    ])
