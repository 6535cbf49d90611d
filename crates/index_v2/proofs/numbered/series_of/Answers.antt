use Rattle.std.proofs.Common.{◌≡◌, ◌⊎◌, ◌*◌, ◌-◌, Ok, Err, subst, arith}
use Rattle.index_parts.specs.declared.refusal.PartRefusal.TheVariants.{NoMemory}
use Rattle.index_parts.specs.Parts.{part_of}
use Rattle.index_parts.proofs.Slices.{fits_in}
use Rattle.index_v2.specs.SeriesLabels.{labelled_at}
use Rattle.index_v2.proofs.SeriesSlices.{series_known_told, series_index_told, series_stands_in, number_found, number_refused, series_few_in, refused_or_none}
use Rattle.index_v2.proofs.SeriesOutside.{series_outside}
use Rattle.index_v2.proofs.numbered.series_of.Goals as goal

pub shifted_refusal-requires : goal.shifted_refusal-requires
shifted_refusal-requires c =
    let here = part_of c.args.part in
    let told = series_known_told _ _ _ c.requires.begins (omega arith) c.requires.fits in
    fits_in _ _ _ _ told (subst (λ n. (c.in-Err.refusal ≡ NoMemory) ⊎ (labelled_at c.args.part.bytes.now c.args.symbols.now (16 * n - c.args.part.begin) ≡ Err c.in-Err.refusal)) c.from.ensures c.in-Err.ensures.exact)

pub returns-in-Ok-clause-found : goal.returns-in-Ok-clause-found
returns-in-Ok-clause-found c = λ index is. series_stands_in (part_of c.args.part) index c.args.symbols.now c.args.number c.in-Ok.series is c.requires.begins c.series_at.ensures.bytes (subst (λ n. labelled_at c.args.part.bytes.now c.args.symbols.now (16 * n - c.args.part.begin) ≡ Ok c.in-Ok.series) c.from.ensures c.in-Ok.ensures.exact)

pub returns-in-Ok-clause-same : goal.returns-in-Ok-clause-same
returns-in-Ok-clause-same c = λ index is lies.
    number_found c.args.number c.args.part.begin _ _ (series_index_told _ _ _ c.requires.begins (omega arith) c.requires.fits _ is lies) c.in-Ok.series (subst (λ n. labelled_at c.args.part.bytes.now c.args.symbols.now (16 * n - c.args.part.begin) ≡ Ok c.in-Ok.series) c.from.ensures c.in-Ok.ensures.exact)

pub returns-in-Ok-clause-exact : goal.returns-in-Ok-clause-exact
returns-in-Ok-clause-exact c =
    number_found _ c.args.part.begin _ _ (series_known_told _ _ _ c.requires.begins (omega arith) c.requires.fits) _ (subst (λ n. labelled_at c.args.part.bytes.now c.args.symbols.now (16 * n - c.args.part.begin) ≡ Ok c.in-Ok.series) c.from.ensures c.in-Ok.ensures.exact)

pub returns-in-Ok-clause-few : goal.returns-in-Ok-clause-few
returns-in-Ok-clause-few c = series_few_in _ _ _ _ c.series_at.ensures.bytes (subst (λ n. labelled_at c.args.part.bytes.now c.args.symbols.now (16 * n - c.args.part.begin) ≡ Ok c.in-Ok.series) c.from.ensures c.in-Ok.ensures.exact)

pub returns-in-Err-clause-same : goal.returns-in-Err-clause-same
returns-in-Err-clause-same c = λ index is lies.
    number_refused c.args.number c.args.part.begin _ _ (series_index_told _ _ _ c.requires.begins (omega arith) c.requires.fits _ is lies) c.in-Err.refusal c.shifted_refusal.result c.refused_of.result c.shifted_refusal.ensures c.refused_of.ensures (subst (λ n. (c.in-Err.refusal ≡ NoMemory) ⊎ (labelled_at c.args.part.bytes.now c.args.symbols.now (16 * n - c.args.part.begin) ≡ Err c.in-Err.refusal)) c.from.ensures c.in-Err.ensures.exact)

pub returns-in-Err-clause-exact : goal.returns-in-Err-clause-exact
returns-in-Err-clause-exact c =
    number_refused _ _ _ _ (series_known_told _ _ _ c.requires.begins (omega arith) c.requires.fits) _ _ _ c.shifted_refusal.ensures c.refused_of.ensures (subst (λ n. (c.in-Err.refusal ≡ NoMemory) ⊎ (labelled_at c.args.part.bytes.now c.args.symbols.now (16 * n - c.args.part.begin) ≡ Err c.in-Err.refusal)) c.from.ensures c.in-Err.ensures.exact)

pub returns-in-Ok-clause-outside : goal.returns-in-Ok-clause-outside
returns-in-Ok-clause-outside c = λ outside told.
    refused_or_none (λ s. s) (Ok c.in-Ok.series) _ _ (series_outside (part_of c.args.part) _ _ c.requires.begins (omega arith) c.requires.fits outside told) (returns-in-Ok-clause-exact c)

pub returns-in-Err-clause-outside : goal.returns-in-Err-clause-outside
returns-in-Err-clause-outside c = λ outside told.
    refused_or_none (λ s. s) (Err c.refused_of.result) _ _ (series_outside (part_of c.args.part) _ _ c.requires.begins (omega arith) c.requires.fits outside told) (returns-in-Err-clause-exact c)
