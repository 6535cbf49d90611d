use Rattle.std.proofs.Common.{◌≡◌, true, sym, ◌∙◌, subst}
use Rattle.xor_chunks.specs.declared.spanning.SampleSpan.{SampleSpan}
use Rattle.block_content.specs.StoredPlaces.{lies_within}
use Rattle.base.proofs.FirstLaws.{some_is}
use Rattle.block_content.proofs.FoundPlaces.{all_within}
use Rattle.block_content.proofs.places.time_outside.Goals as goal

pub returns-in_default-clause-time : goal.returns-in_default-clause-time
returns-in_default-clause-time c = all_within c.args.meta.now c.args.content.now c.args.span c.requires (λ one is. absurd (c.in_default.not-Some one is))

pub returns-then-lies_within-clause-time : goal.returns-then-lies_within-clause-time
returns-then-lies_within-clause-time c =
    let lies : lies_within c.args.meta.now c.in-Some.span ≡ true = sym c.lies_within.ensures ∙ c.if-lies_within.true in
    all_within c.args.meta.now c.args.content.now c.args.span c.requires (λ one is. subst (λ (s : SampleSpan). lies_within c.args.meta.now s ≡ true) (some_is c.in-Some.span one (sym c.in-Some.is ∙ is)) lies)
