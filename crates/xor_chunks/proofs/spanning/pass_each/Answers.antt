use Rattle.std.proofs.Common.{arith}
use Rattle.std.proofs.lemmas.Result.{err_from_is_err_and}
use Rattle.xor_chunks.specs.Known.{state_of}
use Rattle.xor_chunks.proofs.SpansRead.{passes_none, passes_one, passing_stops, passes_all}
use Rattle.xor_chunks.proofs.spanning.pass_each.Goals as goal

pub loop-init : goal.loop-init
loop-init c = passes_none _ _

pub loop-preserved : goal.loop-preserved
loop-preserved c = passes_one _ _ _ _ _ _ _ c.loop.invariant c.in_ok-after.ensures

pub returns-in_err-after : goal.returns-in_err-after
returns-in_err-after c =
    let p = err_from_is_err_and c.from_residual.result c.from_residual.ensures.1 in
    rw (p.1, p.2) (passing_stops c.loop.counter c.args.count (state_of c.args.second) _ _ _ _ c.loop.invariant c.loop-test.true c.in_err-after.ensures)

pub returns : goal.returns
returns c = passes_all _ _ _ _ _ _ c.loop.invariant (omega arith)
