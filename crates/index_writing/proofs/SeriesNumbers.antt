-- Series by their numbers, which rise.
use Rattle.std.proofs.Common.{ℕ, ◌*◌, ◌/◌, ◌≤◌, List, [], ◌∷◌, ◌++◌, length, map, arith, length-append}
use Rattle.std.specs.Int.{w32, to_be_bytes}
use Rattle.std.specs.List.{AllByRecursion, Contains, AllPairs}
use Rattle.wire_bytes.specs.Crc.{crc}
use Rattle.wire_bytes.specs.Written.{uvarint_text}
use Rattle.index_parts.specs.declared.raw_series.RawSeries.{RawSeries}
use Rattle.index_parts.specs.Framed.{entry_text}
use Rattle.index_parts.specs.SeriesEntry.{series_text, series_content}
use Rattle.index_writing.specs.Aligned.{padded, places_at}
use Rattle.index_writing.specs.Written.{numbers_behind}
use Rattle.base.proofs.Lists.{AllByRecursion-weaker}
use Rattle.base.proofs.Membership.{each_member}
use Rattle.index_writing.proofs.OrderedEntries.{Below, no_pairs, pairs_cons}
use Rattle.index_writing.proofs.AlignedTexts.{padded_longer}
use Rattle.index_writing.proofs.Standing.{multiple}

series_size : (series : RawSeries) → 1 ≤ length (series_text series)
unfolding entry_text
series_size series =
    let content = series_content series in
    omega (arith, length-append (uvarint_text (length content) ++ content) (to_be_bytes w32 (crc content)), length-append (uvarint_text (length content)) content)

abbrev numbers_of : List ℕ → List (List ℕ) → List ℕ
numbers_of text texts = map (λ place. place / 16) (places_at 16 text texts)

-- a number's place is not before the end of the text
places_after : (text : List ℕ) (texts : List (List ℕ)) (least : ℕ) → least ≤ length text → AllByRecursion (λ n. least ≤ 16 * n) (numbers_of text texts)
unfolding places_at
places_after _ [] _ le = tt
places_after text (next ∷ texts) least le =
    (omega (arith, padded_longer 16 text, multiple text), places_after (padded 16 text ++ next) texts least (omega (arith, padded_longer 16 text, length-append (padded 16 text) next)))

pub numbers_after : (front : List ℕ) (series : List RawSeries) (n : ℕ) → Contains (numbers_behind front series) n → length front ≤ 16 * n
numbers_after front _ n h = each_member _ _ n (places_after front _ _ (omega arith)) h

pub numbers_rise : (front : List ℕ) (series : List RawSeries) → AllPairs Below (numbers_behind front series)
unfolding places_at
numbers_rise _ [] = no_pairs Below
numbers_rise front (one ∷ series) =
    let next = padded 16 front ++ series_text one in
    let behind = AllByRecursion-weaker _ (Below (length (padded 16 front) / 16)) (λ n le. omega (arith, le, multiple front, series_size one, length-append (padded 16 front) (series_text one))) _ (places_after next (map series_text series) (length next) (omega arith)) in
    pairs_cons Below _ _ behind (numbers_rise next series)
