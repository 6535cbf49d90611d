-- How much an index names, label by label and series by series, and what the test of it tells.
use Rattle.std.proofs.Common.{◌≡◌, ℕ, ◌+◌, ◌-◌, ◌*◌, ◌^◌, ◌<◌, min, List, length, map, take, get_or, sum_by, Bool, true, ◌&&◌, Ok, refl, sym, ap, ap₂, ◌∙◌, arith}
use Rattle.std.specs.Prelude.{nat_le}
use Rattle.std.proofs.lemmas.Bool.{and_parts, and_from, leb-true, le-leb}
use Rattle.std.proofs.lemmas.List.Recursion.{is_sum_by}
use Rattle.std.proofs.lemmas.List.Sums.{sum_by-cons}
use Rattle.base.specs.Grammar.{IsBytes}
use Rattle.base.proofs.Binds.{one_answer}
use Rattle.index_parts.specs.declared.index_series.IndexSeries.{IndexSeries}
use Rattle.index_v2.specs.LentLabels.{as_label}
use Rattle.index_v2.specs.declared.lent_series.LentLabel.{LentLabel}
use Rattle.block_meta.specs.declared.block_files.BlockFiles.{BlockFiles}
use Rattle.block_content.specs.ContentReading.{index_at, series_bytes}
use Rattle.block_content.specs.Named.{counted, label_bytes, lent_bytes, text_bytes, names_few, NamesFew}
use Rattle.block_content.proofs.ChunkWalks.{sum_more}
use Rattle.block_content.proofs.TimesAndOrder.{index_found, index_again}

-- ---- texts

pub texts_more : (labels : List LentLabel) (i bytes more n : ℕ) (x d : LentLabel) → bytes ≡ counted (sum_by lent_bytes (take i labels)) → i < length labels → x ≡ get_or labels i d → n ≡ counted (lent_bytes x) → more ≡ min (bytes + n) (2 ^ 64 - 1) → more ≡ counted (sum_by lent_bytes (take (i + 1) labels))
texts_more labels i bytes more n x d far lt at is added = sum_more lent_bytes labels i x d bytes more n far lt at added (omega (arith, is))

pub series_texts : (one : IndexSeries) (labels : List LentLabel) → map as_label labels ≡ one.labels → sum_by lent_bytes labels ≡ text_bytes one
series_texts one labels same = sym (is_sum_by (λ (ls : List LentLabel). sum_by label_bytes (map as_label ls)) lent_bytes refl (λ l ls. sum_by-cons label_bytes (as_label l) (map as_label ls)) labels) ∙ ap (sum_by label_bytes) same

-- ---- what the test tells

pub few_told : (index : List ℕ) (segments : List (List ℕ)) (indexed : List IndexSeries) (bytes chunks : ℕ) (r : Bool) → bytes ≡ counted (sum_by length segments) → chunks ≡ counted (sum_by (series_bytes segments) indexed)
    → r ≡ (nat_le chunks (counted (8 * bytes)) && nat_le (counted (sum_by text_bytes indexed)) (counted (64 * length index))) → names_few index segments indexed ≡ r
few_told index segments indexed bytes chunks r is named told =
    let limit : counted (8 * bytes) ≡ counted (8 * sum_by length segments) = omega (arith, is) in
    sym (told ∙ ap₂ (λ (c m : ℕ). nat_le c m && nat_le (counted (sum_by text_bytes indexed)) (counted (64 * length index))) named limit)

module _ (files : BlockFiles) (bytes : IsBytes files.index) (indexed : List IndexSeries) (read : index_at files.index ≡ Ok indexed) where
  pub few_found : names_few files.index files.segments indexed ≡ true → NamesFew files
  few_found passed =
      let parts = and_parts _ _ passed in
      record { indexed = indexed; index_is = index_found files.index indexed bytes read; chunks = leb-true _ _ parts.0; texts = leb-true _ _ parts.1 }

  pub few_again : NamesFew files → names_few files.index files.segments indexed ≡ true
  few_again few =
      let same : few.indexed ≡ indexed = one_answer few.indexed indexed (index_at files.index) (index_again files.index few.indexed bytes few.index_is) read in
      ap (names_few files.index files.segments) (sym same) ∙ and_from _ _ (le-leb _ _ few.chunks) (le-leb _ _ few.texts)
