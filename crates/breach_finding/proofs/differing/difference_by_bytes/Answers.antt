use Rattle.std.proofs.Common.{◌≡◌, take, length, sym, ◌∙◌, subst, arith}
use Rattle.breach_finding.proofs.Texts.{differ_at, ends_apart, one_further}
use Rattle.breach_finding.proofs.differing.difference_by_bytes.Goals as goal

pub returns-then-x-y : goal.returns-then-x-y
returns-then-x-y c = differ_at c.args.one.now c.args.other.now c.loop-place.place c.byte_at-x.result c.byte_at-y.result c.loop-place.invariant c.byte_at-x.ensures.next c.byte_at-y.ensures.next c.if-x-y.true

pub loop-place-preserved : goal.loop-place-preserved
loop-place-preserved c =
    one_further c.args.one.now c.args.other.now c.loop-place.place c.shorter-count.result c.loop-place-test.true c.shorter-count.ensures.within c.shorter-count.ensures.also c.loop-place.invariant
    (sym c.byte_at-x.ensures.next ∙ c.if-x-y.false ∙ c.byte_at-y.ensures.next)

pub returns : goal.returns
returns c =
    let end : c.loop-place.place ≡ c.shorter-count.result = omega (arith, c.loop-place-test.false, c.loop-place.auto.place-end) in
    differ_at c.args.one.now c.args.other.now c.shorter-count.result c.byte_at.result c.byte_at-2.result
    (subst (λ n. take n c.args.one.now ≡ take n c.args.other.now) end c.loop-place.invariant) c.byte_at.ensures.next c.byte_at-2.ensures.next
    (ends_apart (length c.args.one.now) (length c.args.other.now) c.shorter-count.result c.byte_at.result c.byte_at-2.result c.shorter-count.ensures.within c.shorter-count.ensures.also c.shorter-count.ensures.is
    c.if-one-other.false c.byte_at.ensures.byte c.byte_at.ensures.end c.byte_at-2.ensures.byte c.byte_at-2.ensures.end)
