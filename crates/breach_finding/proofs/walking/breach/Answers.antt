use Rattle.std.proofs.Common.{◌≤◌, ℕ, suc, List, length, take, take_all, drop, sym, arith, subst}
use Rattle.world_core.specs.Journals.{Each}
use Rattle.world_core.specs.Standing.{stands}
use Rattle.world_core.specs.declared.entry.Entry.{Entry}
use Rattle.lifecycle_core.specs.Breaches.{IsKept}
use Rattle.breach_finding.specs.Walks.{setting_with}
use Rattle.breach_finding.specs.Watching.{IsWaiting}
use Rattle.breach_finding.proofs.SeatTables.{empty_get}
use Rattle.breach_finding.proofs.WalkTurns.{found_is, goes_on, parts_at, refused_here, walk_begins}
use Rattle.breach_finding.proofs.walking.breach.Goals as goal

pub loop-place-init : goal.loop-place-init
loop-place-init c = (
  λ seat. subst IsWaiting (sym (empty_get c.new-unders.result c.new-unders.ensures.empty seat)) tt,
  λ shelf lawful kept bytes.
      walk_begins (setting_with c.args.script.now shelf) c.args.script.now.rules.tick.ms c.args.journal.now kept c.nothing-standing.result c.new-unders.result c.new-views.result
      (c.nothing-standing.ensures c.args.journal.now) c.new-unders.ensures.empty c.new-views.ensures.empty,
)

pub entry_refusal-requires-clause-lawful : goal.entry_refusal-requires-clause-lawful
entry_refusal-requires-clause-lawful c =
    c.requires.lawful (take c.loop-place.place c.args.journal.now) (drop (suc c.loop-place.place) c.args.journal.now) c.entry_at-entry.result.now
    (parts_at c.args.journal.now c.loop-place.place c.entry_at-entry.result.now c.entry_at-entry.ensures)

pub entry_refusal-requires-clause-small : goal.entry_refusal-requires-clause-small
entry_refusal-requires-clause-small c =
    c.requires.small (take c.loop-place.place c.args.journal.now) (drop (suc c.loop-place.place) c.args.journal.now) c.entry_at-entry.result.now
    (parts_at c.args.journal.now c.loop-place.place c.entry_at-entry.result.now c.entry_at-entry.ensures)

pub returns-in-Some : goal.returns-in-Some
returns-in-Some c shelf lawful kept bytes =
    found_is (setting_with c.args.script.now shelf) c.args.journal.now c.in-Some.refusal c.entry_at-entry.result.now.seq c.breach_of.result c.breach_of.ensures.rule c.breach_of.ensures.entry c.breach_of.ensures.found c.breach_of.ensures.allowed
    (refused_here c.args.script.now shelf lawful c.args.script.now.rules.tick.ms c.args.journal.now kept bytes c.in_ok-tables.tables (c.in_ok-tables.ensures lawful)
    c.loop-place.place c.entry_at-entry.result.now c.entry_at-entry.ensures c.loop-place.followed c.entry_refusal.new.followed (c.loop-place.invariant.1 shelf lawful kept bytes) c.in_ok-refused.refused
    (c.in_ok-refused.ensures.told
    (kept.kinds (take c.loop-place.place c.args.journal.now) (drop (suc c.loop-place.place) c.args.journal.now) c.entry_at-entry.result.now (parts_at c.args.journal.now c.loop-place.place c.entry_at-entry.result.now c.entry_at-entry.ensures)))
    c.in-Some.refusal c.in-Some.is)

pub stand-requires : goal.stand-requires
stand-requires c =
    c.requires.lawful (take c.loop-place.place c.args.journal.now) (drop (suc c.loop-place.place) c.args.journal.now) c.entry_at-entry.result.now
    (parts_at c.args.journal.now c.loop-place.place c.entry_at-entry.result.now c.entry_at-entry.ensures)

pub loop-place-preserved : goal.loop-place-preserved
loop-place-preserved c = (
  c.in_ok-refused.ensures.waits,
  λ shelf lawful kept bytes.
      goes_on c.args.script.now shelf lawful c.args.script.now.rules.tick.ms c.args.journal.now kept bytes c.in_ok-tables.tables (c.in_ok-tables.ensures lawful)
      c.loop-place.place c.entry_at-entry.result.now c.entry_at-entry.ensures c.loop-place.followed c.entry_refusal.new.followed (c.loop-place.invariant.1 shelf lawful kept bytes) c.in_ok-refused.refused
      (c.in_ok-refused.ensures.told
      (kept.kinds (take c.loop-place.place c.args.journal.now) (drop (suc c.loop-place.place) c.args.journal.now) c.entry_at-entry.result.now (parts_at c.args.journal.now c.loop-place.place c.entry_at-entry.result.now c.entry_at-entry.ensures)))
      c.in_default.is c.stand.new.standing
      (c.in_ok-stand.ensures c.args.journal.now (stands (take c.loop-place.place c.args.journal.now)) c.entry_at-entry.ensures),
)

pub entry_refusal-requires-clause-waits : goal.entry_refusal-requires-clause-waits
entry_refusal-requires-clause-waits c = c.loop-place.invariant.0

pub returns : goal.returns
returns c shelf lawful kept bytes =
    let all : length c.args.journal.now ≤ c.loop-place.place = omega (arith, c.loop-place-test.false) in
    subst (λ (es : List Entry). Each (IsKept (setting_with c.args.script.now shelf) c.args.journal.now) es) (take_all c.loop-place.place c.args.journal.now all) (c.loop-place.invariant.1 shelf lawful kept bytes).kept
