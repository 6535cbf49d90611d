use Rattle.std.proofs.lemmas.Result.{IfOk-weaker}
use Rattle.vertical_merge.proofs.Merging.{merged}
use Rattle.vertical_merge.proofs.merger.merge.Goals as goal

pub returns : goal.returns
returns c = IfOk-weaker c.first_of_each.result _ _
    (λ made is. merged made c.args.added.items c.sort_by_labels.new.series.items c.in_ok-joined.joined.items
    c.in_ok-sort_by_labels.ensures.sorted c.in_ok-sort_by_labels.ensures.stable (c.sort_by_labels.ensures.inhabited c.requires) c.in_ok-joined.ensures is)
    c.first_of_each.ensures
