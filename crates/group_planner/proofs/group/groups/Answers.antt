use Rattle.std.proofs.Common.{◌∙◌, List, ap, map}
use Rattle.base.specs.Ordered.{in_order}
use Rattle.sync_filters.specs.declared.found.Found.{Found}
use Rattle.group_planner.specs.Groups.{comes_before}
use Rattle.group_planner.proofs.GroupLaws.{groups_made, one_answer}
use Rattle.group_planner.proofs.KeysOfBlocks.{groups_told, groups_short}
use Rattle.group_planner.proofs.group.groups.Goals as goal

pub returns-clause-found : goal.returns-clause-found
returns-clause-found c = groups_told c.cut.result c.args.replicas.now (map (λ (block : Found). block.meta) c.args.metas.now) (groups_made c.cut.result c.args.replicas.now (map (λ (block : Found). block.meta) c.args.metas.now) c.in_ok-members.members.items c.in_ok-keyed.keyed.items
    c.sort_by_key.new.keyed.items
    (c.in_ok-members.ensures ∙ ap (λ (l : List Found). in_order comes_before (map (λ (block : Found). block.meta) l)) c.members.ensures)
    c.in_ok-keyed.ensures c.in_ok-sort_by_key.ensures.same c.in_ok-sort_by_key.ensures.stable c.cut.ensures)

pub returns-in_err-members-clause-found : goal.returns-in_err-members-clause-found
returns-in_err-members-clause-found c = groups_short _ c.from_residual.result c.args.replicas.now (map (λ (block : Found). block.meta) c.args.metas.now) c.from_residual.ensures.1

pub returns-in_err-keyed-clause-found : goal.returns-in_err-keyed-clause-found
returns-in_err-keyed-clause-found c = groups_short _ c.from_residual-in_err-keyed.result c.args.replicas.now (map (λ (block : Found). block.meta) c.args.metas.now) c.from_residual-in_err-keyed.ensures.1

pub returns-in_err-sort_by_key-clause-found : goal.returns-in_err-sort_by_key-clause-found
returns-in_err-sort_by_key-clause-found c = groups_short _ c.from_residual-in_err-sort_by_key.result c.args.replicas.now (map (λ (block : Found). block.meta) c.args.metas.now) c.from_residual-in_err-sort_by_key.ensures.1

pub returns-clause-only : goal.returns-clause-only
returns-clause-only c = one_answer c.args.replicas.now (map (λ (block : Found). block.meta) c.args.metas.now)

pub returns-in_err-members-clause-only : goal.returns-in_err-members-clause-only
returns-in_err-members-clause-only c = one_answer c.args.replicas.now (map (λ (block : Found). block.meta) c.args.metas.now)

pub returns-in_err-keyed-clause-only : goal.returns-in_err-keyed-clause-only
returns-in_err-keyed-clause-only c = one_answer c.args.replicas.now (map (λ (block : Found). block.meta) c.args.metas.now)

pub returns-in_err-sort_by_key-clause-only : goal.returns-in_err-sort_by_key-clause-only
returns-in_err-sort_by_key-clause-only c = one_answer c.args.replicas.now (map (λ (block : Found). block.meta) c.args.metas.now)
