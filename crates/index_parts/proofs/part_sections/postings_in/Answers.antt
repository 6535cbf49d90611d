use Rattle.std.proofs.Common.{◌∙◌, ◌-◌, inr}
use Rattle.index_parts.specs.Postings.{IsNextPosting}
use Rattle.index_parts.specs.PostingsReading.{posting_at, postings_at}
use Rattle.index_parts.specs.Parts.{part_of}
use Rattle.index_parts.proofs.SectionShifts.{posting_turned}
use Rattle.index_parts.proofs.Slices.{refused_in, fits_in, list_stands, known_told, index_told, none_outside, list_here, list_before, short_told, not_refused, refusal_of, refused_here}
use Rattle.index_parts.proofs.part_sections.postings_in.Goals as goal

pub shifted_refusal-requires : goal.shifted_refusal-requires
shifted_refusal-requires c =
    let part = part_of c.args.part in
    let told = known_told posting_at posting_turned part c.args.at c.if-at-part.false c.ranges.at.fits c.requires.fits in
    fits_in c.args.part.begin _ _ c.in-Err.refusal told c.in-Err.ensures.exact

pub returns-in-Ok-clause-found : goal.returns-in-Ok-clause-found
returns-in-Ok-clause-found c = λ index is. list_stands IsNextPosting (part_of c.args.part) index c.args.at c.in-Ok.numbers is c.if-at-part.false c.in-Ok.ensures.found

pub returns-in-Ok-clause-same : goal.returns-in-Ok-clause-same
returns-in-Ok-clause-same c = λ index is lies. (index_told posting_at posting_turned (part_of c.args.part) c.args.at c.if-at-part.false c.ranges.at.fits c.requires.fits index is lies).found c.in-Ok.numbers c.in-Ok.ensures.exact

pub returns-in-Ok-clause-outside : goal.returns-in-Ok-clause-outside
returns-in-Ok-clause-outside c = λ outside. absurd (not_refused (postings_at c.args.part.bytes.now (c.args.at - c.args.part.begin)) _ _ c.in-Ok.ensures.exact (none_outside posting_at posting_turned (part_of c.args.part) c.args.at c.if-at-part.false c.ranges.at.fits c.requires.fits outside))

pub returns-in-Ok-clause-exact : goal.returns-in-Ok-clause-exact
returns-in-Ok-clause-exact c =
    let part = part_of c.args.part in
    list_here part c.args.at c.if-at-part.false ∙ (known_told posting_at posting_turned part c.args.at c.if-at-part.false c.ranges.at.fits c.requires.fits).found c.in-Ok.numbers c.in-Ok.ensures.exact

pub returns-in-Err-clause-same : goal.returns-in-Err-clause-same
returns-in-Err-clause-same c = λ index is lies. refused_in c.args.part.begin _ _ c.in-Err.refusal c.shifted_refusal.result (index_told posting_at posting_turned (part_of c.args.part) c.args.at c.if-at-part.false c.ranges.at.fits c.requires.fits index is lies) c.shifted_refusal.ensures c.in-Err.ensures.exact

pub returns-in-Err-clause-outside : goal.returns-in-Err-clause-outside
returns-in-Err-clause-outside c = λ outside. refusal_of c.shifted_refusal.result _ _ (short_told (part_of c.args.part) c.args.at _ c.in-Err.refusal c.shifted_refusal.result c.if-at-part.false (none_outside posting_at posting_turned (part_of c.args.part) c.args.at c.if-at-part.false c.ranges.at.fits c.requires.fits outside) c.shifted_refusal.ensures c.in-Err.ensures.exact)

pub returns-in-Err-clause-exact : goal.returns-in-Err-clause-exact
returns-in-Err-clause-exact c =
    let part = part_of c.args.part in
    refused_here part c.args.at c.shifted_refusal.result c.if-at-part.false (refused_in c.args.part.begin _ _ c.in-Err.refusal c.shifted_refusal.result (known_told posting_at posting_turned part c.args.at c.if-at-part.false c.ranges.at.fits c.requires.fits) c.shifted_refusal.ensures c.in-Err.ensures.exact)

pub returns-then-at-part-clause-exact : goal.returns-then-at-part-clause-exact
returns-then-at-part-clause-exact c = inr (list_before (part_of c.args.part) c.args.at c.if-at-part.true)
