-- The ranks of the texts of rows, each looked up among the symbols.
use Rattle.std.proofs.Common.{◌≡◌, ℕ, ◌+◌, ◌*◌, ◌<◌, ◌≤◌, Bool, true, List, [], ◌∷◌, ◌++◌, length, Some, None, refl, sym, ap, subst, ◌∙◌, arith, inl, inr}
use Rattle.std.specs.Prelude.{slice_get}
use Rattle.std.specs.Str.{bytes_eq}
use Rattle.std.specs.Cmp.Lexicographic.{bytes_decides}
use Rattle.std.specs.Ordering.{ordering_reverse}
use Rattle.std.specs.declared.cmp.Ordering.TheVariants.{Less, Equal, Greater}
use Rattle.std.specs.List.Sorted.{IsStrictlySortedBy}
use Rattle.std.proofs.lemmas.Bool.{cases_lt}
use Rattle.std.proofs.lemmas.Cmp.{nat_list_cmp_total}
use Rattle.std.proofs.lemmas.List.{length-append}
use Rattle.std.proofs.lemmas.Option.{same_Some, slice_get_within, slice_get-get_or}
use Rattle.base.proofs.Bools.{nat_cmp-Less, nat_cmp-Greater}
use Rattle.base.proofs.Order.{Less-at_places}
use Rattle.label_sets.specs.Labels.{compare_texts}
use Rattle.label_sets.proofs.LabelValues.{same_text}
use Rattle.index_parts.specs.declared.postings_row.PostingsRow.{PostingsRow}
use Rattle.index_parts.specs.Rows.{compare_rows}
use Rattle.index_v2.specs.declared.ranks.Ranks.{Ranks}
use Rattle.index_v2.specs.Ranks.{AreSymbols, IsRankOf, IsRowRank, AreRowRanks}
use Rattle.index_v2.proofs.LabelRanks.{slice_front}
use Rattle.index_v2.proofs.SymbolRanks.{rank_of_symbol}

-- ---- the search

-- the symbols below a place are less than the text, and those from another on greater
pub record IsTextBetween (symbols : List (List ℕ)) (text : List ℕ) (low high : ℕ) : Type 0 where
  pub ordered : low ≤ high
  pub within : high ≤ length symbols
  pub below : (k : ℕ) (symbol : List ℕ) → k < low → slice_get symbols k ≡ Some symbol → compare_texts text symbol ≡ Greater
  pub above : (k : ℕ) (symbol : List ℕ) → high ≤ k → slice_get symbols k ≡ Some symbol → compare_texts text symbol ≡ Less

pub text_start : (symbols : List (List ℕ)) (text : List ℕ) (high : ℕ) → high ≡ length symbols → IsTextBetween symbols text 0 high
text_start symbols text high e = record {
  ordered = omega arith;
  within = omega (arith, e);
  below = λ k symbol lt at. absurd (omega (arith, lt));
  above = λ k symbol le at. absurd (omega (arith, le, e, slice_get_within symbols k symbol at));
}

turned_less : (x text : List ℕ) → compare_texts x text ≡ Less → compare_texts text x ≡ Greater
turned_less x text e = nat_list_cmp_total.antisymm text x ∙ ap ordering_reverse e

turned_greater : (x text : List ℕ) → compare_texts x text ≡ Greater → compare_texts text x ≡ Less
turned_greater x text e = nat_list_cmp_total.antisymm text x ∙ ap ordering_reverse e

at_or_before : (symbols : List (List ℕ)) (k middle : ℕ) (one here text : List ℕ) → IsStrictlySortedBy compare_texts symbols → slice_get symbols k ≡ Some one → slice_get symbols middle ≡ Some here → k < middle + 1 → compare_texts here text ≡ Less → compare_texts one text ≡ Less
at_or_before symbols k middle one here text ascend at there lt less = elim (cases_lt k middle) [
  | inl before ↦ nat_list_cmp_total.trans one here text (Less-at_places compare_texts symbols k middle one here ascend before at there) less
  | inr not ↦
      let same : one ≡ here = same_Some one here (sym at ∙ ap (slice_get symbols) (omega (arith, lt, not)) ∙ there) in
      ap (λ (t : List ℕ). compare_texts t text) same ∙ less
]

at_or_behind : (symbols : List (List ℕ)) (k middle : ℕ) (one here text : List ℕ) → IsStrictlySortedBy compare_texts symbols → slice_get symbols k ≡ Some one → slice_get symbols middle ≡ Some here → middle ≤ k → compare_texts text here ≡ Less → compare_texts text one ≡ Less
at_or_behind symbols k middle one here text ascend at there le less = elim (cases_lt middle k) [
  | inl behind ↦ nat_list_cmp_total.trans text here one less (Less-at_places compare_texts symbols middle k here one ascend behind there at)
  | inr not ↦
      let same : here ≡ one = same_Some here one (sym there ∙ ap (slice_get symbols) (omega (arith, le, not)) ∙ at) in
      ap (compare_texts text) (sym same) ∙ less
]

module _ (symbols : List (List ℕ)) (text : List ℕ) (low high middle : ℕ) (here : List ℕ) (are : AreSymbols symbols) (b : IsTextBetween symbols text low high) (lt : middle < high) (there : slice_get symbols middle ≡ Some here) where
  pub text_raised : (new : ℕ) → compare_texts here text ≡ Less → new ≡ middle + 1 → IsTextBetween symbols text new high
  text_raised new less e = record {
    ordered = omega (arith, lt, e);
    within = b.within;
    below = λ k one before at. turned_less one text (at_or_before symbols k middle one here text are.ascend at there (omega (arith, before, e)) less);
    above = b.above;
  }

  pub text_lowered : low ≤ middle → compare_texts here text ≡ Greater → IsTextBetween symbols text low middle
  text_lowered le greater = record {
    ordered = le;
    within = omega (arith, lt, b.within);
    below = b.below;
    above = λ k one behind at. at_or_behind symbols k middle one here text are.ascend at there behind (turned_greater here text greater);
  }

  pub text_found : (rank : ℕ) → compare_texts here text ≡ Equal → rank ≡ 2 * middle + 1 → IsRankOf symbols text rank
  text_found rank equal e = subst (IsRankOf symbols text) (sym e) (rank_of_symbol symbols text middle are (there ∙ ap Some (same_text here text equal)))

pub text_between : (symbols : List (List ℕ)) (text : List ℕ) (low high rank : ℕ) → IsTextBetween symbols text low high → high ≤ low → rank ≡ 2 * low → IsRankOf symbols text rank
text_between symbols text low high rank b le e n symbol at = elim (cases_lt n low) [
  | inl below ↦ nat_cmp-Greater rank (2 * n + 1) (omega (arith, below, e)) ∙ sym (b.below n symbol below at)
  | inr above ↦ nat_cmp-Less rank (2 * n + 1) (omega (arith, above, e)) ∙ sym (b.above n symbol (omega (arith, above, le)) at)
]

pub text_within : {P : Type 0} (symbols : List (List ℕ)) (text : List ℕ) (low high middle : ℕ) → IsTextBetween symbols text low high → middle < high → None ≡ slice_get symbols middle → P
text_within symbols text low high middle b lt none =
    let at = slice_get-get_or symbols middle [] (omega (arith, lt, b.within)) in
    absurd cc

-- ---- all rows

pub record RowsSoFar (symbols : List (List ℕ)) (rows : List PostingsRow) (place : ℕ) (ranks : List Ranks) : Type 0 where
  pub many : length ranks ≡ place
  pub each : (k : ℕ) (row : PostingsRow) (its : Ranks) → slice_get rows k ≡ Some row → slice_get ranks k ≡ Some its → IsRowRank symbols row its

pub rows_start : (symbols : List (List ℕ)) (rows : List PostingsRow) → RowsSoFar symbols rows 0 []
rows_start symbols rows = record { many = refl; each = λ k row its at there. absurd cc }

pub rows_more : (symbols : List (List ℕ)) (rows : List PostingsRow) (place : ℕ) (ranks new : List Ranks) (row : PostingsRow) (its : Ranks) → RowsSoFar symbols rows place ranks → slice_get rows place ≡ Some row → IsRowRank symbols row its → new ≡ ranks ++ its ∷ [] → RowsSoFar symbols rows (place + 1) new
rows_more symbols rows place ranks new row its far at is e = subst (RowsSoFar symbols rows (place + 1)) (sym e) (record {
  many = omega (arith, far.many, length-append ranks (its ∷ []));
  each = λ k other r here there. elim (slice_front ranks its r k there) [
    | inl before ↦ far.each k other r here before
    | inr last ↦
        let same : row ≡ other = same_Some row other (sym at ∙ ap (slice_get rows) (sym (last.0 ∙ far.many)) ∙ here) in
        subst (IsRowRank symbols other) last.1 (subst (λ (x : PostingsRow). IsRowRank symbols x its) same is)
  ];
})

pub rows_end : (symbols : List (List ℕ)) (rows : List PostingsRow) (place : ℕ) (ranks : List Ranks) → RowsSoFar symbols rows place ranks → length rows ≤ place → place ≤ length rows → IsStrictlySortedBy compare_rows rows → AreRowRanks symbols rows ranks
rows_end symbols rows place ranks far le ge ascend = record { many = omega (arith, far.many, le, ge); ascend = ascend; each = far.each }

-- ---- a symbol that is the text

pub symbol_is : (symbols : List (List ℕ)) (text symbol : List ℕ) (number : ℕ) (b : Bool) → AreSymbols symbols → slice_get symbols number ≡ Some symbol → b ≡ bytes_eq symbol text → b ≡ true → IsRankOf symbols text (2 * number + 1)
symbol_is symbols text symbol number b are at test e = rank_of_symbol symbols text number are (at ∙ ap Some ((bytes_decides symbol text).0 (sym test ∙ e)))
