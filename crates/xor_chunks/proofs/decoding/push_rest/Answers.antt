use Rattle.std.proofs.Common.{ap, subst, ◌∙◌, ◌++◌, ◌∷◌, [], List, Bool, Result, arith}
use Rattle.label_sets.specs.declared.sample.Sample.{Sample}
use Rattle.std.proofs.lemmas.Int.{ints}
use Rattle.base.specs.Reading.{Gives}
use Rattle.xor_chunks.specs.declared.refusal.XorRefusal.{XorRefusal}
use Rattle.xor_chunks.specs.declared.refusal.XorRefusal.TheVariants.{NoMemory}
use Rattle.xor_chunks.specs.Known.{state_of}
use Rattle.xor_chunks.proofs.Loops.{rest_steps}
use Rattle.xor_chunks.proofs.decoding.push_rest.Goals as goal

pub returns : goal.returns
returns c =
    let pushed = c.in_ok-push.ensures.items ∙ ap (λ s. c.args.samples.items ++ s ∷ []) c.sample.ensures in
    let same = rest_steps _ _ _ _ _ (state_of c.args.first) (state_of c.in_ok-second.second) c.args.bytes.now c.in_ok-gap.bytes.now c.new-reader.result c.follow.new.reader c.if-count-eq0.false c.in_ok-gap.ensures c.new-reader.ensures (omega (arith, ints, c.from.ensures, c.from.type_inv)) c.in_ok-second.ensures pushed in
    subst (λ (r : Result (List Sample × List Bool) XorRefusal). Gives NoMemory (λ x. (x.0.items, x.1)) c.push_others.result r) same c.push_others.ensures
