use Rattle.std.specs.Int.{w64}
use Rattle.std.specs.Prelude.{None}
use Rattle.std.proofs.lemmas.Int.{to_z-of_z}
use Rattle.store_ranges.specs.Caches.{held}
use Rattle.store_calls.specs.Endings.{IsOver, ended_with}
use Rattle.store_calls.specs.SeriesCalls.{asking, series_call}
use Rattle.world_core.proofs.PlanLaws.{breaks_off}
use Rattle.store_calls.specs.CallRuns.{CallRun}
use Rattle.store_calls.proofs.Ended.{asked_same, ended_call, full_call, over_by}
use Rattle.world_core.proofs.BegunDrives.{not_begun}
use Rattle.store_calls.proofs.running.run_call.Goals as goal

pub into_cache-left-requires : goal.into_cache-left-requires
into_cache-left-requires g c =
    over_by _ (IsOver c.drive.new.machine) (g.H.Hand.told c.args.hand.now).seat (g.H.Hand.told c.args.hand.now).entries (g.H.Hand.told c.drive.new.hand).entries c.drive.result c.in-Ended.end c.in-Ended.is c.drive.ensures.run
    (λ made run. c.in-Ok.ensures.over made c.in-Ended.end c.drive.new.machine run)

pub returns-in-Ended-clause-run : goal.returns-in-Ended-clause-run
returns-in-Ended-clause-run g c =
    ended_call _ c.args.view.now (asking c.args.selector.now c.args.replicas.now c.args.low c.args.high) (held c.args.cache) c.drive.new.machine (g.H.Hand.told c.args.hand.now).seat (g.H.Hand.told c.args.hand.now).entries (g.H.Hand.told c.drive.new.hand).entries
    (λ made end run. asked_same c.args.view.now c.args.selector.now c.args.replicas.now (held c.args.cache) _ c.args.low _ c.args.high made (ended_with end c.drive.new.machine) (to_z-of_z w64 c.args.low c.ranges.low) (to_z-of_z w64 c.args.high c.ranges.high)
    (c.in-Ok.ensures.run made end c.drive.new.machine run))
    c.drive.result c.drive.ensures.run c.in-Ended.end c.into_cache-left.result c.in-Ended.is c.into_cache-left.ensures

pub returns-in-Full-clause-run : goal.returns-in-Full-clause-run
returns-in-Full-clause-run g c =
    full_call _ c.args.view.now (asking c.args.selector.now c.args.replicas.now c.args.low c.args.high) (held c.args.cache) c.drive.new.machine (g.H.Hand.told c.args.hand.now).seat (g.H.Hand.told c.args.hand.now).entries (g.H.Hand.told c.drive.new.hand).entries
    (λ made end run. asked_same c.args.view.now c.args.selector.now c.args.replicas.now (held c.args.cache) _ c.args.low _ c.args.high made (ended_with end c.drive.new.machine) (to_z-of_z w64 c.args.low c.ranges.low) (to_z-of_z w64 c.args.high c.ranges.high)
    (c.in-Ok.ensures.run made end c.drive.new.machine run))
    c.drive.result c.drive.ensures.run c.in-Full.is

pub returns-in-Err-clause-run : goal.returns-in-Err-clause-run
returns-in-Err-clause-run g c =
    not_begun (CallRun c.args.view.now (asking c.args.selector.now c.args.replicas.now c.args.low c.args.high) (held c.args.cache)) (g.H.Hand.told c.args.hand.now).seat None (g.H.Hand.told c.args.hand.now).entries
    (breaks_off (series_call c.args.view.now (asking c.args.selector.now c.args.replicas.now c.args.low c.args.high) (held c.args.cache)))
