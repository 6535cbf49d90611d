-- Series that are written stand one behind the other.
use Rattle.std.proofs.Common.{◌≡◌, ℕ, ◌+◌, ◌*◌, ◌/◌, ◌^◌, ◌<◌, ◌≤◌, List, [], ◌∷◌, ◌++◌, length, drop, map, Option, Some, None, Ok, refl, sym, ap, ◌∙◌, subst, arith, append_assoc, length-append}
use Rattle.std.specs.Prelude.{IfSome}
use Rattle.std.specs.Int.{w32, to_be_bytes}
use Rattle.std.proofs.lemmas.List.{drop_at}
use Rattle.base.proofs.Binds.{ok_is}
use Rattle.wire_bytes.specs.Crc.{crc}
use Rattle.wire_bytes.specs.Fields.{uvarint_at}
use Rattle.wire_bytes.specs.Position.{Position}
use Rattle.wire_bytes.specs.Written.{uvarint_text}
use Rattle.wire_bytes.specs.declared.varint.WireRefusal.{WireRefusal}
use Rattle.wire_bytes.proofs.FieldLaws.{uvarint_again}
use Rattle.wire_bytes.proofs.GroupTexts.{uvarint_text_is}
use Rattle.index_parts.specs.Framed.{IsEntry, entry_text}
use Rattle.index_parts.specs.IndexFile.{StandsBehind}
use Rattle.index_parts.specs.Placed.{at_place}
use Rattle.index_parts.specs.SeriesEntry.{series_content, series_text}
use Rattle.index_parts.specs.Turns.{InOrderAfter}
use Rattle.index_parts.specs.declared.raw_series.RawSeries.{RawSeries}
use Rattle.index_parts.proofs.FrameLaws.{regroup}
use Rattle.index_writing.specs.Aligned.{padded, each_at, places_at}
use Rattle.index_writing.specs.Written.{numbers_behind}
use Rattle.index_writing.proofs.AlignedTexts.{padded_longer}
use Rattle.index_writing.proofs.Standing.{each_begins, multiple}

-- the length of an entry's content is what is read before it
size_read : (index : List ℕ) (at : ℕ) (content : List ℕ) → IsEntry index at content → (q : Position) × (uvarint_at (at_place index at) ≡ Ok (length content, q))
size_read index at content is =
    (_, uvarint_again (at_place index at) is.size (length content) (content ++ is.sum ++ is.after) is.size_is (is.stands ∙ sym (regroup is.size content is.sum is.after)))

-- what stands where content was put is as long as that
as_long : (before content after index other : List ℕ) → index ≡ before ++ (entry_text content ++ after) → length content < 2 ^ 64 → IsEntry index (length before) other → length other ≡ length content
unfolding entry_text
as_long before content after index other whole small is =
    let n = length content in
    let sum = to_be_bytes w32 (crc content) in
    let there : drop (length before) index ≡ uvarint_text n ++ (content ++ sum ++ after) = ap (drop (length before)) whole ∙ drop_at before _ (length before) refl ∙ sym (regroup (uvarint_text n) content sum after) in
    let one = size_read index (length before) other is in
    let two = uvarint_again (at_place index (length before)) (uvarint_text n) n (content ++ sum ++ after) (uvarint_text_is n small) there in
    ap (λ (x : ℕ × Position). x.0) (ok_is {E = WireRefusal} _ _ (sym one.1 ∙ two))

content_less : (one : RawSeries) → length (series_content one) ≤ length (series_text one)
unfolding entry_text
content_less one =
    let content = series_content one in
    omega (arith, length-append (uvarint_text (length content) ++ content) (to_be_bytes w32 (crc content)), length-append (uvarint_text (length content)) content)

module _ (whole : List ℕ) where
  -- what the series of a number holds ends within so many bytes
  abbrev EndsBy : ℕ → ℕ → Type 0
  EndsBy end number = (content : List ℕ) → IsEntry whole (16 * number) content → 16 * number + length content ≤ end

  behind_by : (last : Option ℕ) (end number : ℕ) → IfSome last (EndsBy end) → end ≤ 16 * number → StandsBehind whole last number
  behind_by None end number ends le = tt
  behind_by (Some n) end number ends le = λ content is. omega (arith, ends content is, le)

  pub apart_written : (last : Option ℕ) (front more : List ℕ) (series : List RawSeries) → length whole < 2 ^ 64 → whole ≡ each_at 16 front (map series_text series) ++ more → IfSome last (EndsBy (length front)) → InOrderAfter (StandsBehind whole) last (numbers_behind front series)
  unfolding each_at places_at
  apart_written last front more [] small e ends = tt
  apart_written last front more (one ∷ series) small e ends =
      let here = padded 16 front in
      let next = here ++ series_text one in
      let begins = each_begins 16 next (map series_text series) in
      let at : whole ≡ here ++ (series_text one ++ (begins.more ++ more)) = e ∙ ap (λ (l : List ℕ). l ++ more) begins.is ∙ append_assoc next begins.more more ∙ append_assoc here (series_text one) (begins.more ++ more) in
      let fits : length (series_content one) < 2 ^ 64 = omega (arith, small, content_less one, ap length at, length-append here (series_text one ++ (begins.more ++ more)), length-append (series_text one) (begins.more ++ more)) in
      let ended : EndsBy (length next) (length here / 16) = λ content is.
      let same = as_long here (series_content one) (begins.more ++ more) whole content at fits (subst (λ (p : ℕ). IsEntry whole p content) (multiple front) is) in
      omega (arith, same, multiple front, length-append here (series_text one), content_less one) in
      (behind_by last (length front) (length here / 16) ends (omega (arith, padded_longer 16 front, multiple front)), apart_written (Some (length here / 16)) next more series small e ended)
