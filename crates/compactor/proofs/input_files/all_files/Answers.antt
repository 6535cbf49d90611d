use Rattle.std.proofs.Common.{◌∙◌, arith}
use Rattle.std.proofs.lemmas.Iterator.Adapters.{YieldsList-from_vec}
use Rattle.std.proofs.lemmas.Iterator.Consumers.{YieldsList-end}
use Rattle.compactor.proofs.PutTogether.{no_files, files_all}
use Rattle.compactor.proofs.input_files.all_files.Goals as goal

pub loop-input-init : goal.loop-input-init
loop-input-init c = no_files c.new-blocks.result c.new-numbers.result c.new-blocks.ensures c.new-numbers.ensures

pub loop-input-preserved : goal.loop-input-preserved
loop-input-preserved c = c.in_ok-add_input.ensures c.loop-input.yielded c.loop-input.invariant

pub returns : goal.returns
returns c =
    let road = YieldsList-from_vec c.into_vec-input-items.result.items c.into_iter-input-iterator.ensures.into_iter_gives.0 (omega (arith, c.into_iter-input-iterator.ensures.into_iter_gives.1, c.into_vec-input-items.result.ok)) in
    let end = YieldsList-end road c.loop-input.yielded c.loop-input.input-iterator c.loop-input.yielded_by c.next.result c.next.new.self c.in-None.is c.next.ensures.steps in
    files_all c.args.inputs c.loop-input.yielded c.loop-input.blocks c.loop-input.numbers (end.0 ∙ c.into_vec-input-items.ensures) c.loop-input.invariant
