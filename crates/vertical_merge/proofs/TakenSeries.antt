-- Samples of series, series by series.
use Rattle.std.proofs.Common.{◌≡◌, List, [], ◌∷◌, ◌++◌, length, map, take, drop, Result, Ok, Err, refl, sym, ap, ◌∙◌, append_assoc, append-nil}
use Rattle.std.specs.Result.{OnErr}
use Rattle.std.proofs.lemmas.List.{take-append-drop}
use Rattle.std.proofs.lemmas.List.Concat.{flat_map-append}
use Rattle.label_sets.specs.declared.series.Series.{Series}
use Rattle.label_sets.specs.Triples.{Triple, triples_of, triples_under}

pub none_taken : (before : List Triple) → before ≡ before ++ triples_of []
unfolding triples_of
none_taken before = sym (append-nil before)

-- the samples of one more series
pub one_taken : (done : List Series) (one : Series) (first before after : List Triple) → before ≡ first ++ triples_of done
    → after ≡ before ++ triples_under one.labels one.samples → after ≡ first ++ triples_of (done ++ one ∷ [])
unfolding triples_of
one_taken done one first _ _ was is =
    is ∙ ap (λ ts. ts ++ triples_under one.labels one.samples) was ∙ append_assoc first (triples_of done) (triples_under one.labels one.samples)
    ∙ ap (λ ts. first ++ (triples_of done ++ ts)) (sym (append-nil (triples_under one.labels one.samples)))
    ∙ ap (λ ts. first ++ ts) (sym (flat_map-append (λ s. triples_under s.labels s.samples) done (one ∷ [])))

same_each : (xs : List Series) → map (λ (s : Series). s) xs ≡ xs
same_each [] = refl
same_each (x ∷ xs) = ap (λ l. x ∷ l) (same_each _)

-- where memory ran out, those before were added
pub some_taken : (all items done : List Series) (first before after : List Triple) → items ≡ all → map (λ (s : Series). s) done ≡ take (length done) items → before ≡ first ++ triples_of done → after ≡ before
    → (added : List Triple) × (rest : List Triple) × (triples_of all ≡ added ++ rest) × (after ≡ first ++ added)
unfolding triples_of
some_taken _ items done _ _ _ items_are so_far was same =
    let left = drop (length done) items in
    let whole = sym items_are ∙ sym (take-append-drop _ _) ∙ ap (λ l. l ++ left) (sym so_far ∙ same_each _) in
    (triples_of done, triples_of left, ap triples_of whole ∙ flat_map-append (λ s. triples_under s.labels s.samples) done left, same ∙ was)

pub where_stopped : {X E : Type 0} {P : Type 0} (r : Result X E) → P → OnErr r P
where_stopped {X} {E} {P} (Ok x) p = tt
where_stopped {X} {E} {P} (Err e) p = p
