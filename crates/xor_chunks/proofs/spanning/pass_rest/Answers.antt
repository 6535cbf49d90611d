use Rattle.std.proofs.Common.{subst, ℤ, List, Bool, Result, arith}
use Rattle.std.proofs.lemmas.Int.{ints}
use Rattle.base.specs.Reading.{Answers}
use Rattle.xor_chunks.specs.declared.refusal.XorRefusal.{XorRefusal}
use Rattle.xor_chunks.proofs.SpansRead.{rest_ends}
use Rattle.xor_chunks.proofs.Followed.{followed_end}
use Rattle.xor_chunks.proofs.spanning.pass_rest.Goals as goal

pub pass_others-requires : goal.pass_others-requires
pass_others-requires c = followed_end _ _ _ _ _ _ c.new-reader.ensures c.in_ok-second.ensures

pub returns : goal.returns
returns c =
    let same = rest_ends _ _ _ _ _ c.args.bytes.now c.in_ok-gap.bytes.now c.new-reader.result c.follow.new.reader c.if-count-eq0.false c.in_ok-gap.ensures c.new-reader.ensures (omega (arith, ints, c.from.ensures, c.from.type_inv)) c.in_ok-second.ensures in
    subst (λ (r : Result (ℤ × List Bool) XorRefusal). Answers (λ x. (x.0.time, x.1)) c.pass_others.result r) same c.pass_others.ensures
