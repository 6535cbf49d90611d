-- What is written of a list of series is an index of it, and has its label indices.
use Rattle.std.proofs.Common.{◌≡◌, ◌≢◌, ℕ, ◌*◌, ◌<◌, ◌≤◌, false, List, [], ◌∷◌, ◌++◌, length, map, None, Result, Ok, Err, refl, sym, ap, ◌∙◌, subst, arith, inr}
use Rattle.std.specs.Prelude.{slice_get, option_map, unwrap_or, MatchBool, OnOk, ◌==◌}
use Rattle.std.specs.List.{Contains}
use Rattle.std.specs.List.Sorted.{IsStrictlySortedBy}
use Rattle.std.proofs.lemmas.Bool.Decides.{nat_tests}
use Rattle.index_parts.specs.Turns.{InOrder}
use Rattle.index_parts.specs.Contents.{IsToc, toc_text}
use Rattle.index_parts.specs.LabelIndices.{IsLabelOffsets}
use Rattle.index_parts.specs.Postings.{IsPostings}
use Rattle.index_parts.specs.Rows.{MayComeAfter, IsPostingsTable}
use Rattle.index_parts.specs.Symbols.{IsSymbols}
use Rattle.index_parts.specs.declared.index_series.IndexSeries.{IndexSeries}
use Rattle.index_writing.specs.declared.parts.Parts.{Parts}
use Rattle.index_parts.specs.Opened.{Opened}
use Rattle.index_parts.specs.IndexFile.{StandsBehind, compare_series, Holds, IsIndex}
use Rattle.index_parts.specs.LabelTable.{HasLabelIndices}
use Rattle.index_writing.specs.SymbolsInUse.{symbols_of, raw_of}
use Rattle.index_writing.specs.Aligned.{places_at}
use Rattle.index_writing.specs.declared.write_refusal.IndexWriteRefusal.{IndexWriteRefusal}
use Rattle.index_parts.specs.declared.toc_reading.Toc.{Toc}
use Rattle.index_writing.specs.WriteSteps.{greatest, Makes, EachStands}
use Rattle.index_writing.specs.Written.{AreWritable, first_or, up_to_symbols, table_rows, offset_rows, parts_of, with_series, with_label_indices, with_lists, list_places, with_label_offsets, with_table, toc_of, written}
use Rattle.base.proofs.Lists.{zip_firsts, zip_seconds}
use Rattle.base.proofs.Membership.{contains_first}
use Rattle.index_writing.proofs.SeriesApart.{apart_written}
use Rattle.index_writing.proofs.ListsFew.{lists_few}
use Rattle.index_writing.proofs.SeriesNumbers.{numbers_after}
use Rattle.index_writing.proofs.AlignedTexts.{padded_longer}
use Rattle.index_writing.proofs.Standing.{longer}
use Rattle.index_writing.proofs.TableLaws.{AreLawful, table_in_order}
use Rattle.index_writing.proofs.WrittenIndex.{indices_symbols, offsets_symbols, written_series, written_table, begins, front_size, long}
use Rattle.index_writing.proofs.LabelTableLaw.{label_table_law}
use Rattle.index_writing.proofs.IndexWritten.{numbers, all_place, table, table_is, many, numbered, listed, all_stands, rows_hold, complete, series_hold}

-- the table of these parts stands in the text, whatever follows
abbrev pub TableStands : List ℕ → Parts → Type 0
TableStands text parts = InOrder MayComeAfter (table_rows parts.symbols parts.rows (list_places parts)) → (after : List ℕ) → IsPostingsTable (text ++ after) (length (with_label_offsets parts)) (table_rows parts.symbols parts.rows (list_places parts))

-- the table of label indices of these parts stands in the text, whatever follows
abbrev pub OffsetsStand : List ℕ → Parts → Type 0
OffsetsStand text parts = (after : List ℕ) → IsLabelOffsets (text ++ after) (length (with_lists parts)) (offset_rows parts)

-- what the calls that wrote it have shown
pub record IsShown (list : List IndexSeries) : Type 0 where
  pub room : length (written list) ≤ greatest
  pub labels : AreLawful list
  pub symbols : (after : List ℕ) → IsSymbols (with_series (parts_of list) ++ after) 5 (symbols_of list)
  pub series : EachStands (with_series (parts_of list)) (parts_of list).numbers (parts_of list).series
  pub table : TableStands (with_table (parts_of list)) (parts_of list)
  pub offsets : OffsetsStand (with_table (parts_of list)) (parts_of list)
  pub toc : IsToc (written list) (toc_of (parts_of list))

holds_at : {A : Type 0} (IsSectionOf : List ℕ → ℕ → List A → Type 0) (index : List ℕ) (reference : ℕ) (members : List A) → 0 < reference → IsSectionOf index reference members → Holds IsSectionOf index reference members
holds_at IsSectionOf index reference members some stands =
    let test : (reference == 0) ≡ false = grind (arith, nat_tests) in
    subst (λ b. MatchBool b (members ≡ []) (IsSectionOf index reference members)) (sym test) stands

-- ---- sections are present

module _ (list : List IndexSeries) where
  table_place : 0 < length (with_label_offsets (parts_of list))
  table_place = omega (arith, front_size (symbols_of list), longer (offsets_symbols list))

  symbols_present : (toc_of (parts_of list)).symbols ≢ 0
  unfolding toc_of
  symbols_present e = omega arith

  series_place : (ns : List ℕ) → ((n : ℕ) → Contains ns n → length (up_to_symbols (symbols_of list)) ≤ 16 * n) → 0 < unwrap_or (option_map (λ number. 16 * number) (slice_get ns 0)) (length (up_to_symbols (symbols_of list)))
  series_place [] after = omega (arith, front_size (symbols_of list))
  series_place (n ∷ ns) after = omega (arith, front_size (symbols_of list), after n (contains_first n _))

  series_present : (toc_of (parts_of list)).series ≢ 0
  unfolding toc_of parts_of
  series_present e = omega (arith, series_place (numbers list) (λ n h. numbers_after (up_to_symbols (symbols_of list)) (map (raw_of (symbols_of list)) list) n h))

  first_place : first_or 0 (list_places (parts_of list)) ≡ all_place list
  unfolding list_places places_at
  first_place = refl

  postings_present : (toc_of (parts_of list)).postings ≢ 0
  unfolding toc_of
  postings_present e = omega (arith, first_place, padded_longer 4 (with_label_indices (parts_of list)), front_size (symbols_of list), longer (indices_symbols list))

-- ---- all of it

module _ (list : List IndexSeries) (shown : IsShown list) where
  abbrev opened : Opened
  opened = record { bytes = written list; toc = toc_of (parts_of list); symbols = symbols_of list; rows = table list }

  symbols_shown : IsSymbols (written list) (toc_of (parts_of list)).symbols (symbols_of list)
  unfolding toc_of
  symbols_shown = let more = written_series list in subst (λ l. IsSymbols l 5 (symbols_of list)) (sym more.is) (shown.symbols more.more)

  symbols_hold : Holds IsSymbols (written list) (toc_of (parts_of list)).symbols (symbols_of list)
  unfolding toc_of
  symbols_hold = holds_at IsSymbols (written list) 5 (symbols_of list) (omega arith) symbols_shown

  table_holds : Holds IsPostingsTable (written list) (toc_of (parts_of list)).postings_table (table list)
  unfolding toc_of parts_of
  table_holds =
      let place = length (with_label_offsets (parts_of list)) in
      let stands = shown.table (table_in_order list (numbers list) (numbered list shown.labels) _) (toc_text (toc_of (parts_of list))) in
      holds_at IsPostingsTable (written list) _ _ (table_place list) (subst (λ l. IsPostingsTable l place (table list)) (sym (written_table list)) (subst (IsPostingsTable _ place) (table_is list) stands))

  stand_apart : InOrder (StandsBehind (written list)) (numbers list)
  unfolding parts_of with_series
  stand_apart = let more = written_series list in apart_written (written list) None (up_to_symbols (symbols_of list)) more.more (map (raw_of (symbols_of list)) list) (let room = shown.room in omega arith) more.is tt

  pub index_law : AreWritable list → IsIndex (written list) list
  unfolding parts_of
  index_law lawful = record {
    opened = opened;
    bytes_are = refl;
    is_opened = record { begins = begins list; long = long list; toc_is = shown.toc; symbols_are = symbols_hold; rows_are = table_holds };
    listed = listed list;
    list_is = zip_seconds _ _ (many list);
    series_are = record {
      numbers_are = subst (IsPostings (written list) (all_place list)) (sym (zip_firsts _ _ (many list))) (all_stands list shown.room shown.labels);
      present = inr (symbols_present list, series_present list, postings_present list);
      stand = λ n s has. series_hold list shown.room shown.labels n s shown.series has;
      apart = subst (λ (ns : List ℕ). InOrder (StandsBehind (written list)) ns) (sym (zip_firsts _ _ (many list))) stand_apart;
      ascend = subst (IsStrictlySortedBy compare_series) (sym (zip_seconds _ _ (many list))) lawful.ascend;
    };
    rows_are = rows_hold list shown.room shown.labels;
    complete = λ n s has label h. complete list shown.room shown.labels n s label has h;
    lists_few = lists_few list shown.room;
  }

  offsets_shown : IsLabelOffsets (written list) (toc_of (parts_of list)).label_offsets (offset_rows (parts_of list))
  unfolding toc_of
  offsets_shown =
      subst (λ l. IsLabelOffsets l (length (with_lists (parts_of list))) (offset_rows (parts_of list))) (sym (written_table list)) (shown.offsets (toc_text (toc_of (parts_of list))))

  pub label_indices_law : HasLabelIndices (written list) list
  label_indices_law = label_table_law list shown.room shown.labels shown.toc symbols_shown offsets_shown

-- ---- as the calls show it

-- what was written, and what the calls have shown of it
abbrev pub Shown : List ℕ → List IndexSeries → Type 0
Shown out list = (out ≡ written list) × IsShown list

shown_at : (r : Result (Unit {0}) IndexWriteRefusal) (list : List IndexSeries) (first third out : List ℕ) (toc : Toc) → first ≡ with_series (parts_of list) → AreLawful list → ((after : List ℕ) → IsSymbols (first ++ after) 5 (symbols_of list)) → Makes r out (third ++ toc_text toc) → OnOk r (IsToc out toc)
    → EachStands first (parts_of list).numbers (parts_of list).series → third ≡ with_table (parts_of list) → TableStands third (parts_of list) → OffsetsStand third (parts_of list) → toc ≡ toc_of (parts_of list) → OnOk r (Shown out list)
shown_at (Err e) _ _ _ _ _ first_is labels symbols makes stands series third_is stand offsets toc_is = tt
shown_at (Ok x) list _ _ out toc first_is labels symbols made stands series third_is stand offsets toc_is =
    let text = ap (λ l. l ++ toc_text toc) third_is ∙ ap (λ t. with_table (parts_of list) ++ toc_text t) toc_is ∙ sym (written_table _) in
    let makes = subst (λ l. Makes {A = Unit {0}} (Ok x) out l) text made in (
      makes.0,
      record {
        room = makes.1;
        labels = labels;
        symbols = subst (λ (l : List ℕ). (after : List ℕ) → IsSymbols (l ++ after) 5 (symbols_of list)) first_is symbols;
        series = subst (λ (l : List ℕ). EachStands l (parts_of list).numbers (parts_of list).series) first_is series;
        table = subst (λ (l : List ℕ). TableStands l (parts_of list)) third_is stand;
        offsets = subst (λ (l : List ℕ). OffsetsStand l (parts_of list)) third_is offsets;
        toc = subst (λ (l : List ℕ). IsToc l (toc_of (parts_of list))) makes.0 (subst (λ (t : Toc). IsToc out t) toc_is stands);
      },
    )

pub fill_shown : (r : Result (Unit {0}) IndexWriteRefusal) (list : List IndexSeries) (parts : Parts) (first third out : List ℕ) (toc : Toc) → parts ≡ parts_of list → first ≡ with_series (parts_of list) → AreLawful list → ((after : List ℕ) → IsSymbols (first ++ after) 5 (symbols_of list)) → Makes r out (third ++ toc_text toc) → OnOk r (IsToc out toc)
    → EachStands first parts.numbers parts.series → third ≡ with_table parts → TableStands third parts → OffsetsStand third parts → toc ≡ toc_of parts → OnOk r (Shown out list)
fill_shown r list _ first third out toc is first_is labels symbols makes stands =
    subst (λ p. EachStands first p.numbers p.series → third ≡ with_table p → TableStands third p → OffsetsStand third p → toc ≡ toc_of p → OnOk r (Shown out list)) (sym is) (shown_at r _ _ _ _ _ first_is labels symbols makes stands)

pub fill_index : (r : Result (Unit {0}) IndexWriteRefusal) (list : List IndexSeries) (out : List ℕ) → AreWritable list → OnOk r (Shown out list) → OnOk r (IsIndex out list)
fill_index (Err e) _ _ lawful shown = tt
fill_index (Ok x) list _ lawful shown = subst (λ l. IsIndex l list) (sym shown.0) (index_law _ shown.1 lawful)

pub fill_label_indices : (r : Result (Unit {0}) IndexWriteRefusal) (list : List IndexSeries) (out : List ℕ) → OnOk r (Shown out list) → OnOk r (HasLabelIndices out list)
fill_label_indices (Err e) _ _ shown = tt
fill_label_indices (Ok x) list _ shown = subst (λ l. HasLabelIndices l list) (sym shown.0) (label_indices_law _ shown.1)
