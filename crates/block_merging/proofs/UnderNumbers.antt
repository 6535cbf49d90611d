-- The numbers of the series of an index.
use Rattle.std.proofs.Common.{◌≡◌, inl, ℕ, ◌^◌, ◌<◌, List, [], ◌∷◌, map, refl, sym, ap, subst, ◌∙◌}
use Rattle.std.specs.Prelude.{Contains}
use Rattle.std.specs.List.{All}
use Rattle.std.specs.List.Sorted.{IsStrictlyIncreasing}
use Rattle.std.specs.Ordering.{nat_cmp, ordering_reverse}
use Rattle.std.specs.declared.cmp.Ordering.TheVariants.{Less, Greater}
use Rattle.std.proofs.lemmas.Cmp.{nat_cmp_total}
use Rattle.std.proofs.lemmas.Map.Keys.{sorted_from_strictly_increasing}
use Rattle.base.proofs.Membership.{of_map, into_map}
use Rattle.base.proofs.SameMembers.{same_ascending}
use Rattle.index_parts.specs.declared.postings_row.PostingsRow.{PostingsRow}
use Rattle.index_parts.specs.Opened.{Opened}
use Rattle.index_parts.specs.declared.index_series.IndexSeries.{IndexSeries}
use Rattle.index_parts.specs.IndexFile.{AreListed, AreSeriesOf, AreNumbersOf}
use Rattle.index_v2.proofs.ListNumbers.{numbers_small, none_small, listed_rises}

abbrev first_of : ℕ × IndexSeries → ℕ
first_of one = one.0

-- ---- the numbers of an index

turns : (x y : ℕ) → nat_cmp x y ≡ Less → nat_cmp y x ≡ Less → ⊥
turns x y a b = let e : Less ≡ Greater = sym a ∙ nat_cmp_total.antisymm x y ∙ ap ordering_reverse b in cc

pub listed_small : (index : List ℕ) (rows : List PostingsRow) (numbers : List ℕ) → AreListed index rows numbers → All (λ n. n < 2 ^ 32) numbers
listed_small index [] numbers are = subst (All (λ n. n < 2 ^ 32)) (sym are) none_small
listed_small index (row ∷ rows) numbers are = numbers_small index row.offset numbers are

-- the numbers of all series are those under which they are listed
pub numbers_listed : (opened : Opened) (listed : List (ℕ × IndexSeries)) (numbers : List ℕ) → AreSeriesOf opened listed → IsStrictlyIncreasing numbers → AreNumbersOf listed [] [] numbers → numbers ≡ map (λ one. one.0) listed
numbers_listed opened listed numbers series rises are = same_ascending nat_cmp turns numbers (map first_of listed) (sorted_from_strictly_increasing numbers rises)
    (sorted_from_strictly_increasing (map first_of listed) (listed_rises opened.bytes opened.rows (map first_of listed) series.numbers_are))
    (λ n among. let w = are.only n among in into_map first_of listed (n, w.0) w.1)
    (λ n among. let w = of_map first_of listed n among in subst (Contains numbers) w.2 (are.all w.0.0 w.0.1 w.1 (inl (refl, refl))))
