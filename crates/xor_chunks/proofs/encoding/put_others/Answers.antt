use Rattle.std.proofs.Common.{refl, sym, subst, ◌∙◌, rules}
use Rattle.xor_chunks.proofs.PutLoops.{HasPut, put_begins, at_place, put_goes_on, put_ends, put_cast, patterns_go_on}
use Rattle.xor_chunks.proofs.encoding.put_others.Goals as goal

pub loop-sample-init : goal.loop-sample-init
loop-sample-init c = record {
  put = subst (λ p. HasPut c.args.writer c.args.second c.args.samples.now 0 c.args.writer p) (put_cast _ (search rules) (search rules)) (put_begins _ _ _ c.requires);
  patterns = search rules;
}

pub put_next-requires : goal.put_next-requires
put_next-requires c = at_place _ _ _ _ _ _ _ c.loop-sample.invariant.put c.loop-sample-test.true

pub loop-sample-preserved : goal.loop-sample-preserved
loop-sample-preserved c = record {
  put =
      put_goes_on _ _ _ _ _ _ _ _ _ _ c.loop-sample.invariant.put c.loop-sample-test.true refl c.in_ok-after.ensures.bits
      (sym (put_cast _ (search rules) (search rules)) ∙ c.in_ok-after.ensures.put);
  patterns = patterns_go_on _ _ _ _ c.loop-sample.invariant.patterns c.loop-sample-test.true refl c.in_ok-after.ensures.pattern;
}

pub returns-clause-bits : goal.returns-clause-bits
returns-clause-bits c = put_ends _ _ _ _ _ _ c.loop-sample.invariant.put c.loop-sample-test.false
