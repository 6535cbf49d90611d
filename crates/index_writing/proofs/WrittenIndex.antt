-- What is written of a list of series begins with its sections, one after another.
use Rattle.std.proofs.Common.{◌≡◌, ℕ, ◌≤◌, List, ◌++◌, length, take, refl, ap, arith, length-append}
use Rattle.index_parts.specs.Contents.{toc_text, references_text}
use Rattle.index_parts.specs.declared.index_series.IndexSeries.{IndexSeries}
use Rattle.index_writing.specs.declared.parts.Parts.{Parts}
use Rattle.index_parts.specs.IndexFile.{header, least_size}
use Rattle.index_writing.specs.SymbolsInUse.{symbols_of}
use Rattle.index_writing.specs.Written.{up_to_symbols, parts_of, with_series, with_label_indices, with_lists, with_label_offsets, with_table, toc_of, written}
use Rattle.index_writing.proofs.Standing.{StartsWith, goes_on, longer, each_begins}

-- ---- of any parts

module _ (parts : Parts) where
  pub indices_series : StartsWith (with_label_indices parts) (with_series parts)
  unfolding with_label_indices
  indices_series = each_begins 4 _ _

  pub lists_indices : StartsWith (with_lists parts) (with_label_indices parts)
  unfolding with_lists
  lists_indices = each_begins 4 _ _

  pub offsets_lists : StartsWith (with_label_offsets parts) (with_lists parts)
  unfolding with_label_offsets
  offsets_lists = record { more = _; is = refl }

  table_offsets : StartsWith (with_table parts) (with_label_offsets parts)
  unfolding with_table
  table_offsets = record { more = _; is = refl }

symbols_header : (symbols : List (List ℕ)) → StartsWith (up_to_symbols symbols) header
unfolding up_to_symbols
symbols_header _ = record { more = _; is = refl }

pub front_size : (symbols : List (List ℕ)) → 5 ≤ length (up_to_symbols symbols)
front_size symbols = longer (symbols_header symbols)

toc_size : (list : List IndexSeries) → length (toc_text (toc_of (parts_of list))) ≡ 52
unfolding toc_text references_text
toc_size list =
    let toc = toc_of (parts_of list) in
    omega arith

-- ---- of a list

module _ (list : List IndexSeries) where
  pub written_table : written list ≡ with_table (parts_of list) ++ toc_text (toc_of (parts_of list))
  unfolding written
  written_table = refl

  pub series_symbols : StartsWith (with_series (parts_of list)) (up_to_symbols (symbols_of list))
  unfolding parts_of with_series
  series_symbols = each_begins 16 _ _

  pub indices_symbols : StartsWith (with_label_indices (parts_of list)) (up_to_symbols (symbols_of list))
  indices_symbols = goes_on (indices_series _) series_symbols

  pub offsets_symbols : StartsWith (with_label_offsets (parts_of list)) (up_to_symbols (symbols_of list))
  offsets_symbols = goes_on (offsets_lists _) (goes_on (lists_indices _) indices_symbols)

  pub written_lists : StartsWith (written list) (with_lists (parts_of list))
  written_lists = goes_on (record { more = _; is = written_table }) (goes_on (table_offsets _) (offsets_lists _))

  pub written_indices : StartsWith (written list) (with_label_indices (parts_of list))
  written_indices = goes_on written_lists (lists_indices _)

  pub written_series : StartsWith (written list) (with_series (parts_of list))
  written_series = goes_on written_indices (indices_series _)

  pub begins : take 5 (written list) ≡ header
  begins = ap (take 5) (goes_on written_series (goes_on series_symbols (symbols_header _))).is

  pub long : least_size ≤ length (written list)
  long =
      omega (arith, front_size (symbols_of list), longer (goes_on (table_offsets (parts_of list)) offsets_symbols), ap length written_table, toc_size list, length-append (with_table (parts_of list)) (toc_text (toc_of (parts_of list))))
