-- A series behind others, told by their ranks.
use Rattle.std.proofs.Common.{◌≡◌, ℕ, ◌-◌, ◌*◌, Bool, true, false, List, [], ◌∷◌, length, Option, Some, None, Result, Ok, Err, refl, sym, ap, subst, ◌∙◌, arith, ◌⊎◌, inl, inr}
use Rattle.std.specs.Prelude.{slice_get}
use Rattle.std.specs.Ordering.{is_lt}
use Rattle.std.specs.Cmp.Lexicographic.{slice_cmp}
use Rattle.std.proofs.lemmas.Option.{slice_get-get_or, slice_get_within}
use Rattle.base.specs.Reading.{refused_as}
use Rattle.index_parts.specs.declared.index_series.IndexSeries.{IndexSeries}
use Rattle.index_parts.specs.declared.refusal.PartRefusal.{PartRefusal}
use Rattle.index_v2.specs.declared.ranks.Ranks.{Ranks}
use Rattle.index_v2.specs.Ranks.{AreSymbols, IsRanked, AreRanked, compare_ranks, series_ranks_at}
use Rattle.index_v2.specs.SeriesLabels.{labelled_at, numbered_at}
use Rattle.index_v2.specs.declared.refusal.IndexRefusal.{IndexRefusal}
use Rattle.index_v2.specs.declared.refusal.IndexRefusal.TheVariants.{NoMemory, BadSeries}
use Rattle.index_parts.specs.declared.refusal.PartRefusal.TheVariants as part
use Rattle.index_v2.specs.Opening.{refused_of}
use Rattle.index_v2.specs.WholeReading.{stands_behind, may_stand_behind, behind_at}
use Rattle.index_v2.proofs.LabelRanks.{are_read}
use Rattle.index_v2.proofs.RankedGaps.{nth}
use Rattle.index_v2.proofs.SymbolRanks.{sets_so}

none_made : (made : List IndexSeries) (series : IndexSeries) → length made ≡ 0 → true ≡ may_stand_behind (slice_get made (length made - 1)) series
none_made [] series e = refl
none_made (m ∷ made) series e = absurd (omega (arith, e))

no_last : {A : Type 0} (xs : List A) → slice_get xs (length xs - 1) ≡ None → length xs ≡ 0
no_last [] e = refl
no_last (x ∷ xs) e =
    let some = slice_get-get_or (x ∷ xs) (length (x ∷ xs) - 1) x (omega arith) in
    absurd cc

pub behind_none : (symbols : List (List ℕ)) (made : List IndexSeries) (ranks : List (List Ranks)) (series : IndexSeries) → AreRanked symbols made ranks → slice_get ranks (length ranks - 1) ≡ None → true ≡ may_stand_behind (slice_get made (length made - 1)) series
behind_none symbols made ranks series are none = none_made made series (are.many ∙ no_last ranks none)

pub behind_some : (symbols : List (List ℕ)) (made : List IndexSeries) (ranks : List (List Ranks)) (series : IndexSeries) (last its : List Ranks) (b : Bool) → AreSymbols symbols → AreRanked symbols made ranks → IsRanked symbols series its → slice_get ranks (length ranks - 1) ≡ Some last → b ≡ is_lt (slice_cmp compare_ranks last its) → b ≡ may_stand_behind (slice_get made (length made - 1)) series
behind_some symbols made ranks series last its b known are is at e =
    let x = nth made (length made - 1) (omega (arith, are.many, slice_get_within ranks (length ranks - 1) last at)) in
    let before = are.each (length made - 1) x.0 last x.1 (ap (λ (n : ℕ). slice_get ranks (n - 1)) are.many ∙ at) in
    e ∙ ap is_lt (sets_so symbols x.0.labels series.labels last its known before.labels is.labels) ∙ sym (ap (λ (o : Option IndexSeries). may_stand_behind o series) x.1)

-- ---- a series that was read, and its ranks

labelled_of : {E : Type 0} (to : PartRefusal → E) (r : Result IndexSeries PartRefusal) (series : IndexSeries) → refused_as to r ≡ Ok series → r ≡ Ok series
labelled_of to (Ok s) series e = cc
labelled_of to (Err refusal) series e = absurd cc

pub ranks_given : (index : List ℕ) (symbols : List (List ℕ)) (at : ℕ) (series : IndexSeries) (list : List Ranks) → AreSymbols symbols → labelled_at index symbols at ≡ Ok series → series_ranks_at index at ≡ Ok list → IsRanked symbols series list
ranks_given index symbols at series list are e read =
    let known = are_read index symbols at series are e in
    let same : known.ranks ≡ list = cc in
    subst (IsRanked symbols series) same known.ranked

pub ranks_not_refused : {P : Type 0} (index : List ℕ) (symbols : List (List ℕ)) (at : ℕ) (series : IndexSeries) (refusal : PartRefusal) → AreSymbols symbols → labelled_at index symbols at ≡ Ok series → series_ranks_at index at ≡ Err refusal → P
ranks_not_refused index symbols at series refusal are e read = let known = (are_read index symbols at series are e).read in absurd cc

pub ranks_refused : {P : Type 0} (index : List ℕ) (symbols : List (List ℕ)) (at number : ℕ) (series : IndexSeries) (refusal : PartRefusal) (answer : IndexRefusal) → AreSymbols symbols → labelled_at index symbols at ≡ Ok series → (refusal ≡ part.NoMemory) ⊎ (series_ranks_at index at ≡ Err refusal) → answer ≡ refused_of number refusal → (answer ≡ NoMemory) ⊎ P
ranks_refused index symbols at number series refusal answer are e (inl out) is = inl (is ∙ ap (refused_of number) out)
ranks_refused index symbols at number series refusal answer are e (inr read) is = ranks_not_refused index symbols at series refusal are e read

-- ---- behind others

module _ (index : List ℕ) (symbols : List (List ℕ)) (last : Option ℕ) (before : Option IndexSeries) (number : ℕ) where
  pub behind_unread : (e : IndexRefusal) → numbered_at index symbols number ≡ Err e → behind_at index symbols last before number ≡ Err e
  unfolding behind_at
  behind_unread e read = rw read refl

  module _ (one : IndexSeries) (read : numbered_at index symbols number ≡ Ok one) where
    pub behind_read : (b d : Bool) → b ≡ stands_behind index last number → b ≡ true → d ≡ may_stand_behind before one → d ≡ true → behind_at index symbols last before number ≡ Ok one
    unfolding behind_at
    behind_read b d is so' its so = rw (read, sym is ∙ so', sym its ∙ so) refl

    pub behind_within : (b : Bool) → b ≡ stands_behind index last number → b ≡ false → behind_at index symbols last before number ≡ Err (BadSeries number (part.Unordered (16 * number)))
    unfolding behind_at
    behind_within b is never = rw (read, sym is ∙ never) refl

    pub behind_below : (b d : Bool) → b ≡ stands_behind index last number → b ≡ true → d ≡ may_stand_behind before one → d ≡ false → behind_at index symbols last before number ≡ Err (BadSeries number (part.Unordered (16 * number)))
    unfolding behind_at
    behind_below b d is so' its low = rw (read, sym is ∙ so', sym its ∙ low) refl
