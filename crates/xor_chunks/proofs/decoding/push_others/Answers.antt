use Rattle.std.proofs.Common.{inr, ap, ◌∙◌, ◌++◌, ◌∷◌, [], arith}
use Rattle.std.proofs.lemmas.Result.{err_from_is_err_and}
use Rattle.xor_chunks.proofs.Loops.{begins, goes_on, stops, ends}
use Rattle.xor_chunks.proofs.decoding.push_others.Goals as goal

pub loop-init : goal.loop-init
loop-init c = begins _ _ _

pub loop-preserved : goal.loop-preserved
loop-preserved c = goes_on _ _ _ _ _ _ _ _ _ _ c.loop.invariant c.in_ok-after.ensures (c.in_ok-samples.ensures ∙ ap (λ s. c.loop.samples.items ++ s ∷ []) c.sample.ensures)

pub returns-in_err-after : goal.returns-in_err-after
returns-in_err-after c =
    let p = err_from_is_err_and c.from_residual.result c.from_residual.ensures.1 in
    rw (p.1, p.2) (inr (stops c.args.samples.items c.loop.samples.items c.loop.counter c.args.count _ _ _ _ _ c.loop.invariant c.loop-test.true c.in_err-after.ensures))

pub returns : goal.returns
returns c = ends _ _ _ _ _ _ _ _ c.loop.invariant (omega arith)
