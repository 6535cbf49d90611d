-- The order of ranks is that of the texts.
use Rattle.std.proofs.Common.{◌≡◌, ℕ, ◌+◌, ◌*◌, List, [], ◌∷◌, Some, refl, sym, ap, ap₂, ◌∙◌, arith, inl, inr}
use Rattle.std.specs.Prelude.{slice_get, nat_lt}
use Rattle.std.specs.declared.cmp.Ordering.TheVariants.{Less, Greater}
use Rattle.std.specs.Ordering.{nat_cmp, ordering_then, ordering_reverse, is_lt}
use Rattle.std.specs.Cmp.Lexicographic.{slice_cmp}
use Rattle.std.specs.List.Sorted.{IsStrictlySortedBy}
use Rattle.std.proofs.lemmas.Bool.{cases_lt, lt-ltb, le-ltb}
use Rattle.std.proofs.lemmas.Cmp.{nat_cmp_total, nat_list_cmp_total}
use Rattle.std.proofs.lemmas.Option.{same_Some}
use Rattle.base.proofs.Bools.{nat_cmp-Less, nat_cmp-Equal, nat_cmp-Greater}
use Rattle.base.proofs.Order.{Less-at_places}
use Rattle.label_sets.specs.declared.label.Label.{Label}
use Rattle.label_sets.specs.Labels.{compare_texts, compare_labels, compare_sets}
use Rattle.label_sets.proofs.LabelValues.{compare_self}
use Rattle.index_parts.specs.declared.postings_row.PostingsRow.{PostingsRow}
use Rattle.index_parts.specs.RowOrder.{compare_row}
use Rattle.index_v2.specs.declared.ranks.Ranks.{Ranks}
use Rattle.index_v2.specs.Ranks.{AreSymbols, IsRankOf, IsSymbolRank, IsLabelRank, AreLabelRanks, IsRowRank, compare_ranks}

reversed_less : (a b : List ℕ) → compare_texts a b ≡ Less → compare_texts b a ≡ Greater
reversed_less a b e = nat_list_cmp_total.antisymm b a ∙ ap ordering_reverse e

-- symbols by their numbers
symbols_so : (symbols : List (List ℕ)) (i j : ℕ) (x y : List ℕ) → IsStrictlySortedBy compare_texts symbols → slice_get symbols i ≡ Some x → slice_get symbols j ≡ Some y → nat_cmp (2 * i + 1) (2 * j + 1) ≡ compare_texts x y
symbols_so symbols i j x y ascend at there =
    elim (cases_lt i j) [
      | inl less ↦ nat_cmp-Less (2 * i + 1) (2 * j + 1) (omega (arith, less)) ∙ sym (Less-at_places compare_texts symbols i j x y ascend less at there)
      | inr other ↦ elim (cases_lt j i) [
        | inl more ↦ nat_cmp-Greater (2 * i + 1) (2 * j + 1) (omega (arith, more)) ∙ sym (reversed_less y x (Less-at_places compare_texts symbols j i y x ascend more there at))
        | inr not ↦
            let one : i ≡ j = omega (arith, other, not) in
            let same : x ≡ y = same_Some x y (sym at ∙ ap (slice_get symbols) one ∙ there) in
            ap (λ (n : ℕ). nat_cmp (2 * n + 1) (2 * j + 1)) one ∙ nat_cmp-Equal (2 * j + 1) ∙ sym (ap (λ (t : List ℕ). compare_texts t y) same ∙ compare_self y)
      ]
    ]

-- the rank of a symbol is one of its text
pub rank_of_symbol : (symbols : List (List ℕ)) (text : List ℕ) (number : ℕ) → AreSymbols symbols → slice_get symbols number ≡ Some text → IsRankOf symbols text (2 * number + 1)
rank_of_symbol symbols text number are at n symbol there = symbols_so symbols number n text symbol are.ascend at there

against : (symbols : List (List ℕ)) (text other : List ℕ) (rank its : ℕ) → IsRankOf symbols text rank → IsSymbolRank symbols other its → nat_cmp rank its ≡ compare_texts text other
against symbols text other rank its is symbol = ap (nat_cmp rank) symbol.rank_is ∙ is symbol.number other symbol.stands

symbol_ranked : (symbols : List (List ℕ)) (text : List ℕ) (rank : ℕ) → AreSymbols symbols → IsSymbolRank symbols text rank → IsRankOf symbols text rank
symbol_ranked symbols text rank are is n symbol there = ap (λ (r : ℕ). nat_cmp r (2 * n + 1)) is.rank_is ∙ rank_of_symbol symbols text is.number are is.stands n symbol there

-- ---- labels

labels_so : (symbols : List (List ℕ)) (one other : Label) (r q : Ranks) → AreSymbols symbols → IsLabelRank symbols one r → IsLabelRank symbols other q → compare_ranks r q ≡ compare_labels one other
labels_so symbols one other r q are is its =
    ap₂ ordering_then (against symbols one.name other.name r.name q.name (symbol_ranked symbols _ _ are is.name_is) its.name_is) (against symbols one.value other.value r.value q.value (symbol_ranked symbols _ _ are is.value_is) its.value_is)

pub sets_so : (symbols : List (List ℕ)) (one other : List Label) (rs qs : List Ranks) → AreSymbols symbols → AreLabelRanks symbols one rs → AreLabelRanks symbols other qs → slice_cmp compare_ranks rs qs ≡ compare_sets one other
sets_so symbols [] [] [] [] are is its = refl
sets_so symbols [] (m ∷ other) [] (q ∷ qs) are is its = refl
sets_so symbols (l ∷ one) [] (r ∷ rs) [] are is its = refl
sets_so symbols (l ∷ one) (m ∷ other) (r ∷ rs) (q ∷ qs) are is its = ap₂ ordering_then (labels_so symbols l m r q are is.0 its.0) (sets_so symbols one other rs qs are is.1 its.1)
sets_so symbols [] other (r ∷ rs) qs are is its = absurd is
sets_so symbols (l ∷ one) other [] qs are is its = absurd is
sets_so symbols [] [] [] (q ∷ qs) are is its = absurd its
sets_so symbols [] (m ∷ other) [] [] are is its = absurd its
sets_so symbols (l ∷ one) [] (r ∷ rs) (q ∷ qs) are is its = absurd its
sets_so symbols (l ∷ one) (m ∷ other) (r ∷ rs) [] are is its = absurd its

-- ---- rows

pub row_so : (symbols : List (List ℕ)) (row : PostingsRow) (its : Ranks) (label : Label) (r : Ranks) → IsRowRank symbols row its → IsLabelRank symbols label r → compare_ranks its r ≡ compare_row row label.name label.value
row_so symbols row its label r is one = ap₂ ordering_then (against symbols row.name label.name its.name r.name is.name_is one.name_is) (against symbols row.value label.value its.value r.value is.value_is one.value_is)

turned : (a b : ℕ) (x y : List ℕ) → nat_cmp a b ≡ compare_texts x y → nat_cmp b a ≡ compare_texts y x
turned a b x y e = nat_cmp_total.antisymm b a ∙ ap ordering_reverse e ∙ sym (nat_list_cmp_total.antisymm y x)

-- a label against a row
pub label_so : (symbols : List (List ℕ)) (label : Label) (r : Ranks) (row : PostingsRow) (its : Ranks) → IsLabelRank symbols label r → IsRowRank symbols row its → compare_ranks r its ≡ compare_labels label (record { name = row.name; value = row.value })
label_so symbols label r row its one is =
    ap₂ ordering_then (turned its.name r.name row.name label.name (against symbols row.name label.name its.name r.name is.name_is one.name_is)) (turned its.value r.value row.value label.value (against symbols row.value label.value its.value r.value is.value_is one.value_is))

-- ---- by the numbers themselves

pub number_order : (symbols : List (List ℕ)) (i j : ℕ) (x y : List ℕ) → AreSymbols symbols → slice_get symbols i ≡ Some x → slice_get symbols j ≡ Some y → nat_lt i j ≡ is_lt (compare_texts x y)
number_order symbols i j x y are at there =
    elim (cases_lt i j) [
      | inl less ↦ lt-ltb i j less ∙ sym (ap is_lt (Less-at_places compare_texts symbols i j x y are.ascend less at there))
      | inr other ↦ elim (cases_lt j i) [
        | inl more ↦ le-ltb i j other ∙ sym (ap is_lt (reversed_less y x (Less-at_places compare_texts symbols j i y x are.ascend more there at)))
        | inr not ↦
            let same : x ≡ y = same_Some x y (sym at ∙ ap (slice_get symbols) (omega (arith, other, not)) ∙ there) in
            le-ltb i j other ∙ sym (ap (λ (t : List ℕ). is_lt (compare_texts t y)) same ∙ ap is_lt (compare_self y))
      ]
    ]
