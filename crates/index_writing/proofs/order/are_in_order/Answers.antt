use Rattle.std.proofs.Common.{refl, sym, ◌∙◌, arith}
use Rattle.std.proofs.lemmas.Bool.{true≢false}
use Rattle.index_writing.proofs.ChunkOrder.{step, stop, end}
use Rattle.index_writing.proofs.order.are_in_order.Goals as goal

pub loop-chunk-preserved : goal.loop-chunk-preserved
loop-chunk-preserved c = step _ _ _ _ _ c.loop-chunk.invariant c.loop-chunk-test.true refl (c.starts_after.ensures.0 c.if-not-starts_after.false)

pub returns-then-not-starts_after : goal.returns-then-not-starts_after
returns-then-not-starts_after c =
    ((λ yes. absurd (true≢false (sym yes))), λ whole. absurd (stop _ _ _ _ _ c.loop-chunk.invariant c.loop-chunk-test.true refl (λ starts. true≢false (sym (c.starts_after.ensures.1 starts) ∙ c.if-not-starts_after.true)) whole))

pub returns : goal.returns
returns c = ((λ yes. end _ _ c.loop-chunk.chunk-index c.loop-chunk.invariant (omega arith)), λ whole. refl)
