-- What is read in a part of an index stands so in the index.
use Rattle.std.proofs.Common.{◌≡◌, ℕ, ◌+◌, ◌-◌, ◌*◌, ◌<◌, ◌≤◌, List, [], ◌++◌, take, drop, get_or, length, replicate, Option, Result, Ok, Err, sym, ap, subst, ◌∙◌, inl, inr, append_assoc, append-nil, arith}
use Rattle.std.proofs.Math.Seq.{take-nil}
use Rattle.std.proofs.lemmas.Bool.{cases_lt}
use Rattle.std.proofs.lemmas.List.{drop-drop, drop_all, drop_at, get_or-append-add, get_or-replicate, get_or_append_left, length-drop, length-replicate, length-take-le, take-append-drop}
use Rattle.base.specs.Grammar.{IsBytes}
use Rattle.base.proofs.Binds.{ok_is}
use Rattle.wire_bytes.specs.Position.{Position}
use Rattle.index_parts.specs.declared.refusal.PartRefusal.{PartRefusal}
use Rattle.index_parts.specs.declared.refusal.PartRefusal.TheVariants.{Short}
use Rattle.index_parts.specs.declared.toc_reading.Toc.{Toc}
use Rattle.index_parts.specs.Contents.{IsToc}
use Rattle.index_parts.specs.ContentsReading.{toc_at}
use Rattle.index_parts.specs.Framed.{IsFramed}
use Rattle.index_parts.specs.ListReading.{list_at}
use Rattle.index_parts.specs.Lists.{IsList}
use Rattle.index_parts.specs.Postings.{IsNextPosting, IsPostings}
use Rattle.index_parts.specs.PostingsReading.{posting_at}
use Rattle.index_parts.specs.SeriesEntry.{IsSeries}
use Rattle.index_parts.proofs.ListLaws.{IsTurnOf, list_found}
use Rattle.index_parts.proofs.PostingsLaws.{posting_turn}
use Rattle.index_parts.proofs.TocLaws.{toc_again, toc_found}
use Rattle.index_parts.proofs.FrameLaws.{regroup}
use Rattle.index_parts.specs.Parts.{IsPartOf, Part, known, list_in}
use Rattle.index_parts.proofs.Slices.{list_before, list_here, list_stands}
use Rattle.index_parts.proofs.SeriesSlices.{series_stands}
use Rattle.index_parts.specs.IndexFile.{IsSeriesOf}
use Rattle.index_parts.specs.declared.index_series.IndexSeries.{IndexSeries}
use Rattle.index_v2.specs.SeriesLabels.{numbered_at}
use Rattle.index_v2.specs.declared.refusal.IndexRefusal.{IndexRefusal}
use Rattle.index_v2.proofs.LabelLaws.{numbered_again, numbered_found}

-- ---- parts

-- bytes of an index that are as many as were asked for, of which there are some, are a part of it
pub is_part : (index : List ℕ) (from len : ℕ) (bytes : List ℕ) → take len (drop from index) ≡ bytes → length bytes ≡ len → 0 < len → IsPartOf (record { begin = from; bytes = bytes }) index
is_part index from len bytes is long some = elim (cases_lt (length index) from) [
  | inl past ↦
      let none : bytes ≡ [] = sym is ∙ ap (take len) (drop_all from index (omega (arith, past))) ∙ take-nil len in
      let zero = ap length none in absurd (omega (arith, zero, long, some))
  | inr le ↦ record {
    before = take from index;
    after = drop len (drop from index);
    begins = length-take-le from index le;
    stands = sym (take-append-drop from index) ∙ ap (λ l. take from index ++ l) (sym (take-append-drop len (drop from index)))
        ∙ sym (append_assoc (take from index) (take len (drop from index)) (drop len (drop from index)))
        ∙ ap (λ l. take from index ++ l ++ drop len (drop from index)) is;
  }
]

abbrev zeros : ℕ → List ℕ
zeros n = replicate n 0

-- what stands behind the begin of a part
known_behind : (part : Part) (at : ℕ) → part.begin ≤ at → drop at (known part) ≡ drop (at - part.begin) part.bytes
known_behind part at le =
    let size : length (zeros part.begin) ≡ part.begin = length-replicate {A = ℕ} part.begin 0 in
    let far : part.begin + (at - part.begin) ≡ at = omega (arith, le) in
    ap (λ n. drop n (known part)) (sym far) ∙ sym (drop-drop (at - part.begin) part.begin (known part))
    ∙ ap (drop (at - part.begin)) (drop_at (zeros part.begin) part.bytes part.begin size)

known_bytes : (part : Part) → IsBytes part.bytes → IsBytes (known part)
known_bytes part are i = elim (cases_lt i part.begin) [
  | inl lt ↦
      let size : length (zeros part.begin) ≡ part.begin = length-replicate {A = ℕ} part.begin 0 in
      let zero : get_or (known part) i 0 ≡ 0 = get_or_append_left (zeros part.begin) part.bytes 0 i (omega (arith, lt, size)) ∙ get_or-replicate part.begin i 0 0 lt in
      subst (λ n. n < 256) (sym zero) (omega arith)
  | inr le ↦
      let size : length (zeros part.begin) ≡ part.begin = length-replicate {A = ℕ} part.begin 0 in
      let far : length (zeros part.begin) + (i - part.begin) ≡ i = omega (arith, le, size) in
      let there : get_or (known part) i 0 ≡ get_or part.bytes (i - part.begin) 0 =
      ap (λ n. get_or (known part) n 0) (sym far) ∙ get_or-append-add (zeros part.begin) part.bytes (i - part.begin) 0 in
      subst (λ n. n < 256) (sym there) (are (i - part.begin))
]

-- ---- lists

shifted_frame : (IsSize : List ℕ → ℕ → Type 0) (part : Part) (at : ℕ) (content : List ℕ) → part.begin ≤ at → IsFramed IsSize (known part) at content → IsFramed IsSize part.bytes (at - part.begin) content
shifted_frame IsSize part at content le frame = record {
  size = frame.size;
  sum = frame.sum;
  after = frame.after;
  size_is = frame.size_is;
  sum_is = frame.sum_is;
  stands = sym (known_behind part at le) ∙ frame.stands;
}

pub list_in_index : {A : Type 0} (IsNext : Option A → List ℕ → A → Type 0) (read : Option A × Position → Result (A × (Option A × Position)) PartRefusal) → IsTurnOf IsNext read
    → (part : Part) (index : List ℕ) (at : ℕ) (members : List A) → IsPartOf part index → part.begin ≤ at → IsBytes part.bytes → list_at read (known part) at ≡ Ok members → IsList IsNext index at members
list_in_index IsNext read turn part index at members is le are e =
    let list = list_found IsNext read turn (known part) at members (known_bytes part are) e in
    list_stands IsNext part index at members is le (record {
      content = list.content;
      count = list.count;
      texts = list.texts;
      left_over = list.left_over;
      section = shifted_frame _ part at list.content le list.section;
      content_is = list.content_is;
      count_is = list.count_is;
      texts_are = list.texts_are;
    })

-- a postings list that is read in a part
pub postings_in_index : (part : Part) (index : List ℕ) (at : ℕ) (numbers : List ℕ) → IsPartOf part index → IsBytes part.bytes → list_in part at ≡ Ok numbers → IsPostings index at numbers
postings_in_index part index at numbers is are e = elim (cases_lt at part.begin) [
  | inl lt ↦ let no : list_in part at ≡ Err (Short at) = list_before part at lt in absurd (cc (e, no))
  | inr le ↦ list_in_index IsNextPosting posting_at posting_turn part index at numbers is le are (sym (list_here part at le) ∙ e)
]

-- ---- series

pub series_in_index : (part : Part) (index : List ℕ) (symbols : List (List ℕ)) (number : ℕ) (series : IndexSeries) → IsPartOf part index → part.begin ≤ 16 * number → IsBytes part.bytes
    → numbered_at (known part) symbols number ≡ Ok series → IsSeriesOf index symbols number series
series_in_index part index symbols number series is le are e =
    let read = numbered_found (known part) symbols number series (known_bytes part are) e in
    let stands : IsSeries (known part) (16 * number) (record { names = read.names; values = read.values; chunks = series.chunks }) = read.stands in
    let shifted : IsSeries part.bytes (16 * number - part.begin) (record { names = read.names; values = read.values; chunks = series.chunks }) = record {
      content = stands.content;
      label_count = stands.label_count;
      labels = stands.labels;
      chunk_count = stands.chunk_count;
      chunks = stands.chunks;
      left_over = stands.left_over;
      entry = shifted_frame _ part (16 * number) stands.content le stands.entry;
      content_is = stands.content_is;
      as_many = stands.as_many;
      label_count_is = stands.label_count_is;
      labels_are = stands.labels_are;
      chunk_count_is = stands.chunk_count_is;
      chunks_are = stands.chunks_are;
    } in
    record {
      names = read.names;
      values = read.values;
      stands = series_stands part index (16 * number) (record { names = read.names; values = read.values; chunks = series.chunks }) is le shifted;
      names_are = read.names_are;
      values_are = read.values_are;
      lawful = read.lawful;
    }

-- there is one series of a number
pub one_series : (index : List ℕ) (symbols : List (List ℕ)) (number : ℕ) (one other : IndexSeries) → IsSeriesOf index symbols number one → IsSeriesOf index symbols number other → one ≡ other
one_series index symbols number one other is so = ok_is {E = IndexRefusal} one other (sym (numbered_again index symbols number one is) ∙ numbered_again index symbols number other so)

-- ---- the table of contents

-- what is read of the end of an index is its table of contents
pub toc_in_index : (index bytes : List ℕ) (toc opened : Toc) → IsBytes bytes → take 52 (drop (length index - 52) index) ≡ bytes → length bytes ≡ 52 → toc_at bytes ≡ Ok toc → IsToc index opened → toc ≡ opened
toc_in_index index bytes toc opened are is long e stands =
    let found = toc_found bytes toc are e in
    let none : drop 52 (drop (length index - 52) index) ≡ [] = drop_all 52 (drop (length index - 52) index) (omega (arith, length-drop (length index - 52) index)) in
    let front = take (length index - 52) index in
    let whole : index ≡ front ++ bytes =
    sym (take-append-drop (length index - 52) index) ∙ ap (λ l. front ++ l) (sym (take-append-drop 52 (drop (length index - 52) index)) ∙ ap (λ l. take 52 (drop (length index - 52) index) ++ l) none ∙ append-nil (take 52 (drop (length index - 52) index)) ∙ is) in
    let here : IsToc index toc = record {
      before = front ++ found.before;
      references = found.references;
      sum = found.sum;
      references_are = found.references_are;
      sum_is = found.sum_is;
      stands = whole ∙ ap (λ l. front ++ l) found.stands ∙ regroup front found.before found.references found.sum;
    } in
    ok_is {E = PartRefusal} toc opened (sym (toc_again index toc here) ∙ toc_again index opened stands)
