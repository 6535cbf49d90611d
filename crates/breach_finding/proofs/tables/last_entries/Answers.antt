use Rattle.std.proofs.Common.{◌≡◌, ◌+◌, List, [], ◌∷◌, ◌++◌, take, sym, ◌∙◌, ap, subst}
use Rattle.std.proofs.lemmas.List.{take_more}
use Rattle.std.specs.BTreeMap.{get}
use Rattle.std.specs.Ordering.{nat_cmp}
use Rattle.world_core.specs.declared.entry.Entry.{Entry}
use Rattle.world_core.specs.Journals.{of_seat}
use Rattle.breach_finding.proofs.LastEntries.{last_more, number_of_last}
use Rattle.breach_finding.proofs.tables.last_entries.Goals as goal

pub loop-entry-preserved : goal.loop-entry-preserved
loop-entry-preserved c seat =
    let front : take (c.loop-entry.entry-index + 1) c.args.journal.now ≡ take c.loop-entry.entry-index c.args.journal.now ++ c.entry-item.result ∷ [] =
    take_more c.args.journal.now c.loop-entry.entry-index c.entry-item.result c.loop-entry-test.true ∙ ap (λ (x : Entry). take c.loop-entry.entry-index c.args.journal.now ++ x ∷ []) (sym c.entry-item.is) in
    subst (λ (es : List Entry). get nat_cmp c.insert.new.self seat ≡ number_of_last (of_seat seat es)) (sym front)
    (last_more c.loop-entry.lasts c.insert.new.self (take c.loop-entry.entry-index c.args.journal.now) c.entry-item.result (λ q. c.in_ok-insert.ensures.updates.0 q) c.loop-entry.invariant seat)
