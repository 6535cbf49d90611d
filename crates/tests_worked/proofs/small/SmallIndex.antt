-- The small index is the one that is written of its series, and its sections are read as what it is made of.
use Rattle.std.proofs.Common.{◌≡◌, ℕ, pos, List, [], ◌∷◌, Some, Ok, codes, refl}
use Rattle.std.specs.Prelude.{slice_get}
use Rattle.std.specs.Str.{is_utf8, chars}
use lib.Utf8.{encode}
use Rattle.base.specs.Members.{members_at}
use Rattle.wire_bytes.specs.Crc.{crc, remainder}
use Rattle.wire_bytes.specs.Fields.{bytes_at, groups_of, number_at, uvarint_at, varint_at}
use Rattle.wire_bytes.specs.Written.{groups_text, varint_text}
use Rattle.label_sets.specs.Labels.{value_of}
use Rattle.label_sets.specs.Ordered.{in_order, placed}
use Rattle.index_parts.specs.Contents.{references_text, toc_text}
use Rattle.index_parts.specs.ContentsReading.{references_at, toc_at}
use Rattle.index_parts.specs.Framed.{entry_text, section_text}
use Rattle.index_parts.specs.Framing.{framed_at, summed_at}
use Rattle.index_parts.specs.ListReading.{list_at, turns_at}
use Rattle.index_parts.specs.PostingsReading.{posting_at}
use Rattle.index_parts.specs.Placed.{text_at}
use Rattle.index_parts.specs.RowsReading.{postings_table_at, row_at}
use Rattle.index_parts.specs.SeriesEntry.{chunks_text, labels_text}
use Rattle.index_parts.specs.SeriesReading.{begin_at, chunk_at, chunks_at, label_at, labels_begin_at, later_at, reference_at, symbol_number_at}
use Rattle.index_parts.specs.SymbolsReading.{symbol_at, symbols_at}
use Rattle.index_parts.specs.declared.chunk_place.ChunkPlace.{ChunkPlace}
use Rattle.index_parts.specs.declared.postings_row.PostingsRow.{PostingsRow}
use Rattle.index_parts.specs.declared.toc_reading.Toc.{Toc}
use Rattle.index_parts.specs.Parts.{Part, known}
use Rattle.index_parts.specs.declared.index_series.IndexSeries.{IndexSeries}
use Rattle.index_parts.specs.IndexFile.{IsIndex}
use Rattle.index_parts.specs.Opened.{Opened}
use Rattle.index_writing.specs.Aligned.{each_at, padded, places_at}
use Rattle.index_writing.specs.LabelGroups.{all_entries, entries_of, grouped, names_of, rows_of}
use Rattle.index_writing.specs.SymbolsInUse.{number_of, raw_of, symbol_of, symbols_of, texts_of}
use Rattle.index_writing.specs.Written.{label_index_places, label_rows, list_places, parts_of, table_rows, toc_of, up_to_symbols, with_label_indices, with_label_offsets, with_lists, with_series, with_table, written}
use Rattle.index_v2.specs.Held.{whole_file}
use Rattle.index_v2.specs.Opening.{contents_at, opened_at}
use Rattle.index_v2.specs.PostingsLists.{list_of, row_of}
use Rattle.index_v2.specs.SeriesLabels.{label_of, labelled_at, labels_of, numbered_at, texts_at}
use Rattle.index_v2.specs.WholeReading.{all_at, behind_at, belongs, differing_at, few_at, gap_among, gap_from, gap_of, lists_at, present_at, stray_from, whole_at}
use Rattle.index_v2.proofs.OpeningLaws.{opened_found}
use Rattle.index_v2.proofs.WholeRead.{whole_found}
use Rattle.tests_worked.specs.SmallFiles as files
use Rattle.tests_worked.proofs.small.SmallBytes.{index_bytes}

-- ---- what it is made of

abbrev pub place : ChunkPlace
place = record { min = pos 1000; max = pos 1000; segment = 0; offset = 8 }

abbrev pub listed : IndexSeries
listed = record { labels = files.up.labels; chunks = place ∷ [] }

abbrev pub toc : Toc
toc = record { symbols = 5; series = 32; label_indices = 48; label_offsets = 100; postings = 68; postings_table = 123 }

abbrev pub texts : List (List ℕ)
texts = codes "__name__" ∷ codes "up" ∷ []

-- the row of all series, and that of the label
abbrev pub all_row : PostingsRow
all_row = record { name = []; value = []; offset = 68 }

abbrev pub label_row : PostingsRow
label_row = record { name = codes "__name__"; value = codes "up"; offset = 84 }

abbrev pub rows : List PostingsRow
rows = all_row ∷ label_row ∷ []

abbrev pub part : ℕ → List ℕ → Part
part begin bytes = record { begin = begin; bytes = bytes }

-- ---- it is written

pub index_is : files.index ≡ written (listed ∷ [])
unfolding files.index files.symbols files.series files.label_index files.lists files.label_offsets files.table files.contents
    written with_table with_label_offsets with_lists with_label_indices with_series parts_of up_to_symbols toc_of table_rows label_rows list_places label_index_places
    symbols_of texts_of number_of symbol_of raw_of all_entries entries_of rows_of names_of grouped padded each_at places_at
    section_text entry_text toc_text references_text chunks_text labels_text groups_text varint_text crc remainder in_order placed
index_is = refl

-- ---- the sections are read

pub contents_read : toc_at files.contents ≡ Ok toc
unfolding files.contents toc_at summed_at references_at bytes_at number_at crc remainder
contents_read = refl

pub symbols_read : symbols_at (known (part 5 files.symbols)) 5 ≡ Ok texts
unfolding files.symbols list_at turns_at framed_at summed_at members_at symbol_at text_at bytes_at number_at uvarint_at groups_of crc remainder is_utf8 chars encode
symbols_read = refl

pub table_read : postings_table_at (known (part 123 files.table)) 123 ≡ Ok rows
unfolding files.table list_at turns_at framed_at summed_at members_at row_at text_at bytes_at number_at uvarint_at groups_of crc remainder is_utf8 chars encode
table_read = refl

-- the list of all series
pub all_read : list_of (part 68 files.lists) (slice_get rows 0) ≡ Ok (2 ∷ [])
unfolding files.lists list_at turns_at framed_at summed_at members_at posting_at bytes_at number_at crc remainder
all_read = refl

-- and that of the label
pub label_read : list_of (part 68 files.lists) (Some label_row) ≡ Ok (2 ∷ [])
unfolding files.lists list_at turns_at framed_at summed_at members_at posting_at bytes_at number_at crc remainder
label_read = refl

pub series_read : numbered_at (known (part 32 files.series)) texts 2 ≡ Ok listed
unfolding files.series labelled_at texts_at labels_of label_of labels_begin_at label_at symbol_number_at chunks_at chunk_at begin_at later_at reference_at
    turns_at members_at framed_at summed_at bytes_at number_at uvarint_at varint_at groups_of crc remainder
series_read = refl

-- ---- the whole is read

abbrev pub opened : Opened
opened = record { bytes = files.index; toc = toc; symbols = texts; rows = rows }

pub opened_read : opened_at files.index ≡ Ok opened
unfolding files.index files.symbols files.series files.label_index files.lists files.label_offsets files.table files.contents
    opened_at contents_at toc_at references_at list_at turns_at framed_at summed_at members_at symbol_at row_at text_at bytes_at number_at uvarint_at groups_of crc remainder is_utf8 chars encode
opened_read = refl

pub whole_read : whole_at (whole_file opened) ≡ Ok (listed ∷ [])
unfolding files.index files.symbols files.series files.label_index files.lists files.label_offsets files.table files.contents
    whole_at row_of present_at all_at behind_at few_at differing_at lists_at stray_from gap_among gap_of gap_from belongs value_of
    labelled_at texts_at labels_of label_of labels_begin_at label_at symbol_number_at chunks_at chunk_at begin_at later_at reference_at
    list_at turns_at framed_at summed_at members_at posting_at bytes_at number_at uvarint_at varint_at groups_of crc remainder
whole_read = refl

pub is_index : IsIndex files.index (listed ∷ [])
is_index = whole_found opened index_bytes (opened_found files.index opened index_bytes opened_read).1 (listed ∷ []) whole_read
