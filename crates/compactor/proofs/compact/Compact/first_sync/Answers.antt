use Rattle.std.proofs.Common.{[], ap}
use Rattle.meta_fetcher.specs.contracts.sync.SyncMachine.TheImpl.{ghosts as syncs}
use Rattle.compactor.specs.Compactions.{after_sync}
use Rattle.compactor.proofs.CompactSteps.{part_asks, part_ends, to_state}
use Rattle.compactor.specs.CompactStates.{asked_compact}
use Rattle.compactor.proofs.compact.Compact.first_sync.Goals as goal

pub returns-in-Do : goal.returns-in-Do
returns-in-Do c = record {
  goes_on = part_asks syncs.may syncs.asked c.args.sync c.first.new.self [] (λ own came. after_sync c.args.self.now.replicas c.args.self.now.retention came)
      _ c.in-Do.op _ c.in-Do.is (ap asked_compact c.wait_in.ensures) (to_state _ _ c.wait_in.ensures) c.in_ok-act.ensures;
}

pub returns-in-Done : goal.returns-in-Done
returns-in-Done c = record {
  goes_on = part_ends syncs.may syncs.asked c.args.sync c.first.new.self [] (λ own came. after_sync c.args.self.now.replicas c.args.self.now.retention came)
      _ c.in-Done.end c.after_sync.result c.after_sync.new.self c.in-Done.is c.in_ok-act.ensures c.after_sync.ensures.leads;
}
