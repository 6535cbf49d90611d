-- The samples of a series that were read, under its final labels.
use Rattle.std.proofs.Common.{◌≡◌, ℕ, ◌+◌, ◌<◌, Bool, true, List, [], ◌∷◌, ◌++◌, take, length, get_or, filter, refl, sym, ap, ap₂, ◌∙◌, append-nil}
use Rattle.std.specs.List.{flat_map}
use Rattle.std.proofs.lemmas.List.{take_more}
use Rattle.std.proofs.lemmas.List.Elements.{filter-append}
use Rattle.std.proofs.lemmas.List.Concat.{flat_map-append}
use Rattle.base.proofs.Lists.{filter_hit}
use Rattle.label_sets.specs.declared.label.Label.{Label}
use Rattle.label_sets.specs.declared.sample.Sample.{Sample}
use Rattle.label_sets.specs.declared.series.Series.{Series}
use Rattle.label_sets.specs.Finals.{final_of}
use Rattle.label_sets.specs.Triples.{Triple, triples_under, triples_of}
use Rattle.index_parts.specs.declared.chunk_place.ChunkPlace.{ChunkPlace}
use Rattle.index_parts.specs.declared.index_series.IndexSeries.{IndexSeries}
use Rattle.store_ranges.specs.Reads.{Query, Block}
use Rattle.store_chunks.specs.ChunkReads.{Read}
use Rattle.store_chunks.specs.Taken.{samples_of, taken, shown}

-- ---- the places that meet the range

pub met : (f : ChunkPlace → List Sample) (p : ChunkPlace → Bool) (place : ChunkPlace) (before after : List Sample) → p place ≡ true → after ≡ before ++ f place → after ≡ before ++ flat_map f (filter p (place ∷ []))
met f p place before after is so =
    so ∙ ap (λ (l : List Sample). before ++ l) (sym (append-nil (f place)) ∙ sym (ap (flat_map f) (filter_hit p place [] is)))

pub met_more : (f : ChunkPlace → List Sample) (p : ChunkPlace → Bool) (xs : List ChunkPlace) (i : ℕ) (d : ChunkPlace) (before after : List Sample) → i < length xs
    → before ≡ flat_map f (filter p (take i xs)) → after ≡ before ++ flat_map f (filter p (get_or xs i d ∷ [])) → after ≡ flat_map f (filter p (take (i + 1) xs))
met_more f p xs i d before after within was is =
    is ∙ ap (λ (l : List Sample). l ++ flat_map f (filter p (get_or xs i d ∷ []))) was
    ∙ sym (ap (λ (l : List ChunkPlace). flat_map f (filter p l)) (take_more xs i d within)
    ∙ ap (flat_map f) (filter-append p (take i xs) (get_or xs i d ∷ [])) ∙ flat_map-append f (filter p (take i xs)) (filter p (get_or xs i d ∷ [])))

-- ---- triples

pub shown_is : (query : Query) (block : Block) (found : List Read) (series : IndexSeries) (labels : List Label) (samples : List Sample) → labels ≡ final_of series.labels block.external query.replicas
    → samples ≡ flat_map (samples_of found) (taken query series) → triples_under labels samples ≡ shown query block found series
unfolding shown
shown_is query block found series labels samples is are = ap₂ triples_under is are

pub none_shown : (f : IndexSeries → List Triple) → triples_of [] ≡ flat_map f []
unfolding triples_of
none_shown f = refl

pub more_shown : (f : IndexSeries → List Triple) (xs : List IndexSeries) (i : ℕ) (d : IndexSeries) (made more : List Series) (one : Series) → i < length xs
    → triples_of made ≡ flat_map f (take i xs) → triples_under one.labels one.samples ≡ f (get_or xs i d) → more ≡ made ++ one ∷ [] → triples_of more ≡ flat_map f (take (i + 1) xs)
unfolding triples_of
more_shown f xs i d made more one within was is so =
    ap (flat_map (λ (s : Series). triples_under s.labels s.samples)) so
    ∙ flat_map-append (λ (s : Series). triples_under s.labels s.samples) made (one ∷ [])
    ∙ ap₂ (λ (a b : List Triple). a ++ b) was (append-nil (triples_under one.labels one.samples) ∙ is ∙ sym (append-nil (f (get_or xs i d))))
    ∙ sym (ap (flat_map f) (take_more xs i d within) ∙ flat_map-append f (take i xs) (get_or xs i d ∷ []))
