use Rattle.std.proofs.Common.{◌<◌, ◌^◌, length}
use Rattle.series_selection.proofs.Answered.{all_stand}
use Rattle.series_selection.proofs.Fewer.{left_small, left_few}
use Rattle.series_selection.proofs.selection.selected_numbers.Goals as goal

pub returns-clause-stand : goal.returns-clause-stand
returns-clause-stand c = all_stand c.args.index.now c.args.external.now c.args.selector.now c.matchers.result.now c.left_by_all.result c.matchers.ensures c.in_ok-listed.ensures.stand c.left_by_all.ensures.stand

pub returns-clause-small : goal.returns-clause-small
returns-clause-small c = left_small c.args.index.now c.args.external.now c.matchers.result.now c.in_ok-listed.listed (λ n. n < 2 ^ 32) c.left_by_all.result c.left_by_all.ensures.gives c.in_ok-listed.ensures.small

pub returns-clause-few : goal.returns-clause-few
returns-clause-few c = left_few c.args.index.now c.args.external.now c.matchers.result.now c.in_ok-listed.listed (length c.args.index.now.lists.bytes) c.left_by_all.result c.left_by_all.ensures.gives c.in_ok-listed.ensures.few
