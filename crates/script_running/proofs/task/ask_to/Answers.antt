use Rattle.std.proofs.Common.{◌≤◌, ◌^◌, List, length, subst, sym, ◌∙◌}
use Rattle.std.specs.Int.{w64}
use Rattle.std.proofs.lemmas.Int.{to_z-of_z}
use Rattle.moment_core.specs.declared.partition.Partition.{Partition}
use Rattle.script_core.proofs.SeatLaws.{few_partitions}
use Rattle.script_running.specs.Lending.{setting_in}
use Rattle.script_running.proofs.TaskSteps.{asks_among, asks_fit, found_by}
use Rattle.script_running.proofs.task.ask_to.Goals as goal

pub fan_out-requires : goal.fan_out-requires
fan_out-requires c = record { few = subst (λ (ps : List Partition). length ps ≤ 2 ^ 32) (sym c.partitions.ensures.are) (few_partitions c.args.means.now.script c.partitions.ensures.lawful) }

pub returns-clause-asked : goal.returns-clause-asked
returns-clause-asked c =
    found_by (setting_in c.args.means.now) c.args.gateway c.in-Some.gateway _ c.args.low _ c.args.high c.in_ok-asks.asks c.members.result.now c.copied.result c.in-Some.is (to_z-of_z w64 c.args.low c.ranges.low) (to_z-of_z w64 c.args.high c.ranges.high)
    (asks_among c.in_ok-asks.asks _ _ c.partitions.result.now c.args.means.now.script.partitions c.in_ok-asks.ensures.asks c.partitions.ensures.are) (sym c.members.ensures) (c.copied.ensures ∙ c.find_ask.ensures)

pub returns-clause-fits : goal.returns-clause-fits
returns-clause-fits c =
    asks_fit (setting_in c.args.means.now) c.args.gateway c.args.low c.args.high c.copied.result c.partitions.ensures.lawful c.ranges.low c.ranges.high
    (found_by (setting_in c.args.means.now) c.args.gateway c.in-Some.gateway _ c.args.low _ c.args.high c.in_ok-asks.asks c.members.result.now c.copied.result c.in-Some.is (to_z-of_z w64 c.args.low c.ranges.low) (to_z-of_z w64 c.args.high c.ranges.high)
    (asks_among c.in_ok-asks.asks _ _ c.partitions.result.now c.args.means.now.script.partitions c.in_ok-asks.ensures.asks c.partitions.ensures.are) (sym c.members.ensures) (c.copied.ensures ∙ c.find_ask.ensures))
