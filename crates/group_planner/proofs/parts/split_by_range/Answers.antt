use Rattle.std.proofs.Common.{to_z, of_z}
use Rattle.std.specs.Int.{w64}
use Rattle.std.proofs.lemmas.Int.{to_z-of_z}
use Rattle.group_planner.proofs.PartLaws.{one_parts, parts_told}
use Rattle.group_planner.proofs.StretchStarts.{start_is}
use Rattle.group_planner.proofs.parts.split_by_range.Goals as goal

pub returns-clause-only : goal.returns-clause-only
returns-clause-only c = one_parts c.args.range c.args.metas.now

pub returns-clause-starts : goal.returns-clause-starts
returns-clause-starts c = λ time. start_is c.args.range time c.requires

pub returns-clause-found : goal.returns-clause-found
returns-clause-found c = parts_told c.args.range (to_z w64 (of_z w64 c.args.range)) c.args.metas.now c.members.result.now c.ulids_of_parts.result (to_z-of_z w64 c.args.range c.ranges.range) c.members.ensures c.ulids_of_parts.ensures
