-- The postings lists that are written are few, as they stand before the table.
use Rattle.std.proofs.Common.{◌≡◌, ℕ, ◌+◌, ◌-◌, ◌*◌, ◌^◌, ◌<◌, ◌≤◌, List, [], ◌∷◌, ◌++◌, length, drop, map, refl, sym, ap, ◌∙◌, arith, append_assoc, length-append}
use Rattle.std.specs.Int.{w32, to_be_bytes}
use Rattle.std.specs.List.{sum_by}
use Rattle.std.proofs.lemmas.Bool.{le-ltb}
use Rattle.std.proofs.lemmas.List.{drop_at}
use Rattle.std.proofs.lemmas.List.Sums.{sum_by-cons}
use Rattle.wire_bytes.specs.Crc.{crc}
use Rattle.wire_bytes.proofs.FixedLaws.{wide32, number_again}
use Rattle.index_parts.specs.Framed.{section_text}
use Rattle.index_parts.specs.Lists.{list_content}
use Rattle.index_parts.specs.IndexFile.{labels_of}
use Rattle.index_parts.specs.Parts.{file, told, list_size, lists_size}
use Rattle.index_parts.specs.Placed.{at_place}
use Rattle.index_parts.specs.Postings.{postings_text}
use Rattle.index_parts.specs.declared.index_series.IndexSeries.{IndexSeries}
use Rattle.index_parts.specs.declared.postings_row.PostingsRow.{PostingsRow}
use Rattle.index_parts.proofs.FrameLaws.{regroup}
use Rattle.index_writing.specs.declared.label_groups.LabelRow.{LabelRow}
use Rattle.index_writing.specs.Aligned.{padded, each_at, places_at}
use Rattle.index_writing.specs.SymbolsInUse.{symbols_of, symbol_of}
use Rattle.index_writing.specs.WriteSteps.{greatest}
use Rattle.index_parts.specs.LabelIndices.{label_offsets_text}
use Rattle.index_writing.specs.Written.{label_rows, parts_of, toc_of, with_label_indices, with_lists, with_label_offsets, offset_rows, written}
use Rattle.index_writing.proofs.AlignedTexts.{padded_longer}
use Rattle.index_writing.proofs.IndexWritten.{numbers, rows, all_place, row_places, many_rows, table}
use Rattle.index_writing.proofs.SectionSizes.{section_least}
use Rattle.index_writing.proofs.Standing.{each_begins}
use Rattle.index_writing.proofs.TableRows.{row_of_all}
use Rattle.index_writing.proofs.WrittenIndex.{written_lists}

-- the length before a section's content is read
size_written : (here content rest whole : List ℕ) → length whole ≤ greatest → whole ≡ here ++ (section_text content ++ rest) → list_size (file whole) (length here) ≡ length content
unfolding section_text
size_written here content rest whole room e =
    let n = length content in
    let sum = to_be_bytes w32 (crc content) in
    let small : n < 2 ^ 32 = omega (arith, room, ap length e, section_least content, length-append here (section_text content ++ rest), length-append (section_text content) rest) in
    let there : drop (length here) whole ≡ to_be_bytes w32 n ++ (content ++ sum ++ rest) = ap (drop (length here)) e ∙ drop_at here _ (length here) refl ∙ sym (regroup (to_be_bytes w32 n) content sum rest) in
    let read = number_again w32 wide32 (at_place whole (length here)) (to_be_bytes w32 n) n (content ++ sum ++ rest) (record { fits = small; digits = refl }) there in
    let from_start : length here - 0 ≡ length here = omega arith in
    rw (le-ltb (length here) 0 (omega arith), from_start) (ap told read)

module _ (whole : List ℕ) (room : length whole ≤ greatest) where
  abbrev size : ℕ → ℕ
  size = list_size (file whole)

  -- what is read of the lists behind a front, with the front, is no more than it all
  abbrev AreSmall : List ℕ → List (List ℕ) → Type 0
  AreSmall front texts = sum_by size (places_at 4 front texts) + length front ≤ length (each_at 4 front texts)

  one_more : (front more numbers : List ℕ) (texts : List (List ℕ)) → whole ≡ each_at 4 front (postings_text numbers ∷ texts) ++ more → AreSmall (padded 4 front ++ postings_text numbers) texts → AreSmall front (postings_text numbers ∷ texts)
  unfolding each_at places_at
  one_more front more numbers texts e others =
      let here = padded 4 front in
      let text = postings_text numbers in
      let next = here ++ text in
      let begins = each_begins 4 next texts in
      let at : whole ≡ here ++ (text ++ (begins.more ++ more)) = e ∙ ap (λ (l : List ℕ). l ++ more) begins.is ∙ append_assoc next begins.more more ∙ append_assoc here text (begins.more ++ more) in
      let one = size_written here (list_content (to_be_bytes w32) numbers) (begins.more ++ more) whole room at in
      omega (arith, one, others, section_least (list_content (to_be_bytes w32) numbers), length-append here text, padded_longer 4 front, sum_by-cons size (length here) (places_at 4 next texts))

  rows_small : (front more : List ℕ) (rows : List LabelRow) → whole ≡ each_at 4 front (map (λ (row : LabelRow). postings_text row.series) rows) ++ more → AreSmall front (map (λ (row : LabelRow). postings_text row.series) rows)
  unfolding each_at places_at
  rows_small front more [] e = let none : sum_by size [] ≡ 0 = refl in omega (arith, none)
  rows_small front more (row ∷ rows) e =
      one_more front more row.series (map (λ (r : LabelRow). postings_text r.series) rows) e (rows_small (padded 4 front ++ postings_text row.series) more rows e)

-- the places of rows are those of their lists
offsets_same : (f : ℕ → ℕ) (symbols : List (List ℕ)) (rows : List LabelRow) (places : List ℕ) → length places ≡ length rows → sum_by (λ (row : PostingsRow). f row.offset) (label_rows symbols rows places) ≡ sum_by f places
unfolding label_rows
offsets_same f symbols [] [] many = refl
offsets_same f symbols [] (place ∷ places) many = absurd (omega (arith, many))
offsets_same f symbols (row ∷ rows) [] many = absurd (omega (arith, many))
offsets_same f symbols (row ∷ rows) (place ∷ places) many =
    let first : PostingsRow = record { name = symbol_of symbols row.name; value = symbol_of symbols row.value; offset = place } in
    omega (arith, offsets_same f symbols rows places (omega (arith, many)), sum_by-cons f place places, sum_by-cons (λ (r : PostingsRow). f r.offset) first (label_rows symbols rows places))

pub lists_few : (list : List IndexSeries) → length (written list) ≤ greatest → lists_size (file (written list)) (table list) ≤ 8 * ((toc_of (parts_of list)).postings_table + length (table list) + labels_of list)
unfolding parts_of toc_of with_lists with_label_offsets each_at places_at
lists_few list room =
    let f = list_size (file (written list)) in
    let front = with_label_indices (parts_of list) in
    let more = written_lists list in
    let texts = map (λ (row : LabelRow). postings_text row.series) (rows list) in
    let others = rows_small (written list) room (padded 4 front ++ postings_text (numbers list)) more.more (rows list) more.is in
    let all = one_more (written list) room front more.more (numbers list) texts more.is others in
    let offsets = offsets_same f (symbols_of list) (rows list) (row_places list) (many_rows list) in
    omega (
      arith,
      all,
      offsets,
      sum_by-cons (λ (row : PostingsRow). f row.offset) (row_of_all (all_place list)) (label_rows (symbols_of list) (rows list) (row_places list)),
      sum_by-cons f (all_place list) (row_places list),
      length-append (with_lists (parts_of list)) (label_offsets_text (offset_rows (parts_of list))),
    )
