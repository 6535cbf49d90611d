use Rattle.std.proofs.Common.{[], ◌∷◌, ◌^◌, ◌*◌, ap}
use Rattle.world_core.specs.Operations.{entry_of}
use Rattle.meta_fetcher.specs.contracts.sync.SyncMachine.TheImpl.{ghosts as syncs}
use Rattle.compactor.specs.Compactions.{after_sync}
use Rattle.compactor.specs.CompactStates.{most_asked, asked_compact, count_of as count_of_all}
use Rattle.compactor.proofs.CompactCounts.{same_level, level_falls, falls_at}
use Rattle.compactor.proofs.CompactSteps.{part_asks, part_ends, to_state}
use Rattle.compactor.proofs.compact.Compact.step_sync.Goals as goal

pub returns-in-Do-clause-goes_on : goal.returns-in-Do-clause-goes_on
returns-in-Do-clause-goes_on c = λ seat op asks.
    part_asks syncs.may syncs.asked c.args.sync c.step.new.self (entry_of seat op c.args.seen ∷ []) (λ own came. after_sync c.args.self.now.replicas c.args.self.now.retention came)
    _ c.in-Do.op _ c.in-Do.is (ap asked_compact c.wait_in.ensures) (to_state _ _ c.wait_in.ensures) (c.in_ok-act.ensures.goes_on seat op asks)

pub returns-in-Do-clause-falls : goal.returns-in-Do-clause-falls
returns-in-Do-clause-falls c = falls_at (most_asked * 2 ^ 70) (syncs.measure c.args.sync) (syncs.measure c.step.new.self) _ _ _ (ap count_of_all c.wait_in.ensures) c.in-Do.is c.in_ok-act.ensures.falls

pub returns-in-Done-clause-goes_on : goal.returns-in-Done-clause-goes_on
returns-in-Done-clause-goes_on c = λ seat op asks.
    part_ends syncs.may syncs.asked c.args.sync c.step.new.self (entry_of seat op c.args.seen ∷ []) (λ own came. after_sync c.args.self.now.replicas c.args.self.now.retention came)
    _ c.in-Done.end c.after_sync.result c.after_sync.new.self c.in-Done.is (c.in_ok-act.ensures.goes_on seat op asks) c.after_sync.ensures.leads

pub returns-in-Done-clause-falls : goal.returns-in-Done-clause-falls
returns-in-Done-clause-falls c = level_falls (2 ^ 70) (2 ^ 70) (syncs.measure c.args.sync) c.after_sync.result _ (same_level _) c.after_sync.ensures.falls

pub step-requires : goal.step-requires
step-requires c = c.requires.answer
