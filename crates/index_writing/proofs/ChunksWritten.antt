-- Chunks that are written, and the series that they stand in.
use Rattle.base.proofs.SignedRanges.{pos-unsigned_abs}
use Rattle.std.proofs.Common.{◌≡◌, ℕ, suc, ◌+◌, ◌-◌, ◌^◌, ◌<◌, ◌≤◌, List, [], ◌∷◌, ◌++◌, length, get_or, drop, zip, Option, Some, None, refl, sym, ap, subst, ◌∙◌, append_assoc, add-one, arith, ℤ, pos, negsuc, ◌+ℤ◌, ◌-ℤ◌, ◌≤ℤ◌, ◌<ℤ◌}
use Rattle.std.specs.Int.{w64}
use Rattle.std.specs.Int.RustNames.{FitsSigned, unsigned_abs}
use Rattle.std.specs.List.{AllByRecursion, flat_map}
use Rattle.std.proofs.Math.Seq.{drop-cons}
use Rattle.std.proofs.lemmas.Int.{ints}
use Rattle.std.proofs.lemmas.List.{append-nil, drop_all}
use Rattle.std.proofs.lemmas.List.Concat.{flat_map-cons}
use Rattle.base.specs.Grammar.{AreTexts}
use Rattle.wire_bytes.specs.Written.{uvarint_text}
use Rattle.wire_bytes.proofs.GroupTexts.{uvarint_text_is, varint_text_is}
use Rattle.index_parts.specs.declared.chunk_place.ChunkPlace.{ChunkPlace}
use Rattle.index_parts.specs.declared.raw_series.RawSeries.{RawSeries}
use Rattle.index_parts.specs.Turns.{AreInTurn, InOrderAfter, InOrder}
use Rattle.index_parts.specs.Framed.{IsEntry}
use Rattle.index_parts.specs.SeriesEntry.{reference_of, IsLabel, Begins, Refers, IsNextChunk, IsSeries, StartsAfter, FitsTypes, label_text, span, begin_text, refer_text, chunk_text, chunks_text, labels_text, series_content}

-- ---- the loop over chunks: what was written and what is still to write is the whole

module _ (chunks : List ChunkPlace) (i : ℕ) (d : ChunkPlace) (lt : i < length chunks) where
  next_is : drop i chunks ≡ get_or chunks i d ∷ drop (i + 1) chunks
  next_is = drop-cons _ i d lt ∙ ap (λ n. get_or chunks i d ∷ drop n chunks) (sym (add-one i))

  next_text : (before : Option ChunkPlace) → chunks_text before (drop i chunks) ≡ chunk_text before (get_or chunks i d) ++ chunks_text (Some (get_or chunks i d)) (drop (i + 1) chunks)
  unfolding chunks_text
  next_text before = ap (chunks_text before) next_is

  pub chunks_more : (before : Option ChunkPlace) (start old new whole : List ℕ) → old ++ chunks_text before (drop i chunks) ≡ start ++ whole → new ≡ old ++ chunk_text before (get_or chunks i d) → new ++ chunks_text (Some (get_or chunks i d)) (drop (i + 1) chunks) ≡ start ++ whole
  chunks_more before _ old _ _ so_far put =
      let rest = chunks_text (Some (get_or chunks i d)) (drop (i + 1) chunks) in
      ap (λ l. l ++ rest) put ∙ append_assoc old (chunk_text before (get_or chunks i d)) rest ∙ ap (λ l. old ++ l) (sym (next_text _)) ∙ so_far

  pub order_more : (before : Option ChunkPlace) → InOrderAfter StartsAfter before (drop i chunks) → InOrderAfter StartsAfter (Some (get_or chunks i d)) (drop (i + 1) chunks)
  order_more before order = let o = subst (λ l. InOrderAfter StartsAfter before l) next_is order in o.1

pub chunks_all : (chunks : List ChunkPlace) (i : ℕ) (before : Option ChunkPlace) (start new whole : List ℕ) → new ++ chunks_text before (drop i chunks) ≡ start ++ whole → length chunks ≤ i → new ≡ start ++ whole
unfolding chunks_text
chunks_all _ i before _ new _ so_far past =
    sym (append-nil new) ∙ ap (λ l. new ++ l) (ap (chunks_text before) (sym (drop_all i _ past))) ∙ so_far

-- ---- a chunk that is written is a text of it

abs_most : (z : ℤ) (n : ℕ) → z ≤ℤ pos n → pos 0 ≤ℤ (z +ℤ pos n) → unsigned_abs z ≤ n
abs_most (pos m) n high low = omega (arith, ints, high)
abs_most (negsuc m) n high low = omega (arith, ints, low)

-- what the types of an earlier chunk's fields say
abbrev FitsBefore : Option ChunkPlace → Type 0
FitsBefore None = Unit {0}
FitsBefore (Some b) = FitsTypes b

bounds : (z : ℤ) → FitsSigned w64 z → (pos 0 ≤ℤ (z +ℤ pos (2 ^ 63))) × (z <ℤ pos (2 ^ 63))
bounds (pos n) fits = let small = fits.sfits in (omega (arith, ints), omega (arith, ints))
bounds (negsuc n) fits = let small = fits.sfits in (omega (arith, ints), omega arith)

from_bounds : (z : ℤ) → pos 0 ≤ℤ (z +ℤ pos (2 ^ 63)) → z <ℤ pos (2 ^ 63) → FitsSigned w64 z
from_bounds (pos n) low high = record { sfits = omega (arith, ints, high) }
from_bounds (negsuc n) low high = record { sfits = omega (arith, ints, low) }

-- so long after a time is the other
later_is : (a b : ℤ) → a ≤ℤ b → b ≡ a +ℤ pos (span a b)
later_is a b le =
    let d : pos 0 ≤ℤ (b -ℤ a) = omega (arith, ints, le) in
    omega (arith, ints, pos-unsigned_abs (b -ℤ a) d)

later_fits : (a b : ℤ) → FitsSigned w64 a → FitsSigned w64 b → span a b < 2 ^ 64
later_fits a b fa fb =
    let x = bounds a fa in
    let y = bounds b fb in
    let most : unsigned_abs (b -ℤ a) ≤ 2 ^ 64 - 1 = abs_most (b -ℤ a) (2 ^ 64 - 1) (omega (arith, ints, x.0, x.1, y.0, y.1)) (omega (arith, ints, x.0, x.1, y.0, y.1)) in
    omega arith

step_is : (r s : ℕ) → pos r ≡ pos s +ℤ (pos r -ℤ pos s)
step_is r s = omega (arith, ints)

step_fits : (r s : ℕ) → r < 2 ^ 63 → s < 2 ^ 63 → FitsSigned w64 (pos r -ℤ pos s)
step_fits r s a b = from_bounds _ (omega (arith, ints, a, b)) (omega (arith, ints, a, b))

begins_written : (before : Option ChunkPlace) (chunk : ChunkPlace) → StartsAfter before chunk → FitsBefore before → FitsTypes chunk → Begins before (begin_text before chunk) chunk.min
begins_written None _ follows fb fits = varint_text_is _ fits.0
begins_written (Some b) chunk follows fb fits = (span b.max chunk.min, uvarint_text_is _ (later_fits _ _ fb.1 fits.0), later_is _ _ follows.0)

refers_written : (before : Option ChunkPlace) (chunk : ChunkPlace) → StartsAfter before chunk → FitsBefore before → FitsTypes chunk → Refers before (refer_text before chunk) (reference_of chunk)
refers_written None _ follows fb fits = uvarint_text_is _ (omega arith)
refers_written (Some b) chunk follows fb fits =
    (pos (reference_of chunk) -ℤ pos (reference_of b), varint_text_is _ (step_fits _ (reference_of b) (omega (arith, follows.2)) (omega arith)), step_is _ _)

lasts : (before : Option ChunkPlace) (chunk : ChunkPlace) → StartsAfter before chunk → chunk.min ≤ℤ chunk.max
lasts None _ follows = follows.0
lasts (Some b) _ follows = follows.1

chunk_written : (before : Option ChunkPlace) (chunk : ChunkPlace) → StartsAfter before chunk → FitsBefore before → FitsTypes chunk → IsNextChunk before (chunk_text before chunk) chunk
chunk_written before chunk follows fb fits = record {
  begin = begin_text before chunk;
  span = uvarint_text (span chunk.min chunk.max);
  reference = refer_text before chunk;
  lasts = span chunk.min chunk.max;
  begins = begins_written _ _ follows fb fits;
  span_is = uvarint_text_is _ (later_fits _ _ fits.0 fits.1);
  max_is = later_is _ _ (lasts _ _ follows);
  min_fits = fits.0;
  max_fits = fits.1;
  refers = refers_written _ _ follows fb fits;
  segment_fits = fits.2;
  offset_fits = fits.3;
  text_is = refl;
}

chunks_written : (before : Option ChunkPlace) (chunks : List ChunkPlace) → InOrderAfter StartsAfter before chunks → FitsBefore before → AllByRecursion FitsTypes chunks → AreInTurn IsNextChunk before (chunks_text before chunks) chunks
unfolding chunks_text
chunks_written _ [] order fb fit = refl
chunks_written before (chunk ∷ chunks) order fb fit =
    (chunk_text before chunk, chunks_text (Some chunk) chunks, chunk_written before chunk order.0 fb fit.0, chunks_written (Some chunk) chunks order.1 fit.0 fit.1, refl)

-- ---- a series that is written stands where it was written

labels_written : (names values : List ℕ) → ((k : ℕ) → get_or names k 0 < 2 ^ 64) → ((k : ℕ) → get_or values k 0 < 2 ^ 64) → AreTexts IsLabel (flat_map label_text (zip names values)) (zip names values)
labels_written [] _ fn fv = refl
labels_written (name ∷ names) [] fn fv = refl
labels_written (name ∷ names) (value ∷ values) fn fv =
    let first : IsLabel (label_text (name, value)) (name, value) = record { name = uvarint_text name; value = uvarint_text value; name_is = uvarint_text_is _ (fn 0); value_is = uvarint_text_is _ (fv 0); text_is = refl } in
    (label_text (name, value), flat_map label_text (zip names values), first, labels_written names _ (λ k. fn (suc k)) (λ k. fv (suc k)), flat_map-cons label_text _ _)

-- what the types of a series' fields say
pub record FitsSeries (series : RawSeries) : Type 0 where
  pub names : (k : ℕ) → get_or series.names k 0 < 2 ^ 64
  pub values : (k : ℕ) → get_or series.values k 0 < 2 ^ 64
  pub label_count : length series.names < 2 ^ 64
  pub chunk_count : length series.chunks < 2 ^ 64
  pub chunks : AllByRecursion FitsTypes series.chunks

regroup : (a b c d : List ℕ) → (a ++ b) ++ (c ++ d) ≡ a ++ b ++ c ++ d ++ []
regroup a b c d = sym (append_assoc (a ++ b) c d) ∙ sym (append-nil (a ++ b ++ c ++ d))

pub series_stands : (index : List ℕ) (at : ℕ) (series : RawSeries) → length series.names ≡ length series.values → InOrder StartsAfter series.chunks → FitsSeries series → IsEntry index at (series_content series) → IsSeries index at series
unfolding labels_text
series_stands _ _ series many order fits entry = record {
  content = series_content series;
  label_count = uvarint_text (length series.names);
  labels = flat_map label_text (zip series.names series.values);
  chunk_count = uvarint_text (length series.chunks);
  chunks = chunks_text None series.chunks;
  left_over = [];
  entry = entry;
  content_is = regroup (uvarint_text (length series.names)) (flat_map label_text (zip series.names series.values)) (uvarint_text (length series.chunks)) (chunks_text None series.chunks);
  as_many = many;
  label_count_is = uvarint_text_is _ fits.label_count;
  labels_are = labels_written _ _ fits.names fits.values;
  chunk_count_is = uvarint_text_is _ fits.chunk_count;
  chunks_are = chunks_written _ _ order tt fits.chunks;
}
