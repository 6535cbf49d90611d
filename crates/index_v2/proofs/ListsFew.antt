-- Lists that are few for the rows, the labels of the series and the bytes before the table: how long they are said to be, row by
-- row.
use Rattle.std.proofs.Common.{◌≡◌, ℕ, ◌+◌, ◌-◌, ◌*◌, ◌<◌, ◌≤◌, Bool, true, false, List, [], ◌∷◌, length, take, take_all, sum_by, None, Some, Ok, refl, sym, ap, ap₂, ◌∙◌, arith}
use Rattle.std.specs.Prelude.{slice_get, nat_le}
use Rattle.std.specs.List.{Contains}
use Rattle.std.proofs.lemmas.Bool.{le-leb, lt-leb, leb-true}
use Rattle.std.proofs.lemmas.List.{drop_all}
use Rattle.std.proofs.lemmas.List.Sums.{sum_by-cons, sum_by_push, sum_by-take-le}
use Rattle.base.specs.Grammar.{IsBytes}
use Rattle.base.specs.Reading.{unless}
use Rattle.base.proofs.Membership.{contains_first, contains_later}
use Rattle.wire_bytes.specs.Fields.{number_at}
use Rattle.std.specs.Int.{w32}
use Rattle.index_parts.specs.Placed.{at_place}
use Rattle.index_parts.specs.Opened.{Opened}
use Rattle.index_parts.specs.IndexFile.{labels_of, AreFewLists}
use Rattle.index_parts.specs.Parts.{Part, file, IsPartOf, HoldsSection, told, list_size, lists_size}
use Rattle.index_parts.specs.declared.index_series.IndexSeries.{IndexSeries}
use Rattle.index_parts.specs.declared.postings_row.PostingsRow.{PostingsRow}
use Rattle.index_parts.specs.declared.refusal.PartRefusal.TheVariants as part
use Rattle.index_parts.specs.declared.toc_reading.Toc.{Toc}
use Rattle.index_parts.proofs.Slices.{size_of_index}
use Rattle.index_v2.specs.declared.refusal.IndexRefusal.{IndexRefusal}
use Rattle.index_v2.specs.declared.refusal.IndexRefusal.TheVariants.{BadSection}
use Rattle.index_v2.specs.Sizes.{members_of}
use Rattle.index_v2.specs.WholeReading.{all_at, few_at}
use Rattle.index_v2.proofs.SeriesApart.{all_bounded}
use Rattle.index_v2.proofs.WholeLoops.{front_more}

-- past the end no length is told
pub no_size : (bytes : List ℕ) (at : ℕ) → length bytes < at → 0 ≡ told (number_at w32 (at_place bytes at))
unfolding number_at
no_size bytes at past = rw (drop_all at bytes (omega arith)) refl

-- ---- row by row

module _ (here : Part) (rows : List PostingsRow) (most : ℕ) where
  -- what is left for the rows from a place on
  abbrev pub SizesSoFar : ℕ → ℕ → Type 0
  SizesSoFar place left = left + lists_size here (take place rows) ≡ most

  pub sizes_start : SizesSoFar 0 most
  sizes_start = let none : lists_size here (take 0 rows) ≡ 0 = refl in omega (arith, none)

  module _ (place left size : ℕ) (row : PostingsRow) (far : SizesSoFar place left) (at : slice_get rows place ≡ Some row) (is : size ≡ list_size here row.offset) where
    size_more : lists_size here (take (place + 1) rows) ≡ lists_size here (take place rows) + list_size here row.offset
    size_more = ap (lists_size here) (front_more rows place row at) ∙ sum_by_push (λ (r : PostingsRow). list_size here r.offset) (take place rows) row

    pub sizes_step : (next : ℕ) → size ≤ left → next ≡ left - size → SizesSoFar (place + 1) next
    sizes_step next le e = omega (arith, far, size_more, is, le, e)

    pub sizes_over : left < size → false ≡ nat_le (lists_size here rows) most
    sizes_over lt = sym (lt-leb (lists_size here rows) most (omega (arith, far, size_more, is, lt, sum_by-take-le (λ (r : PostingsRow). list_size here r.offset) rows (place + 1))))

  pub sizes_end : (place left : ℕ) → SizesSoFar place left → length rows ≤ place → true ≡ nat_le (lists_size here rows) most
  sizes_end place left far le = sym (le-leb (lists_size here rows) most (omega (arith, far, ap (lists_size here) (take_all place rows le))))

-- ---- what is tested

few_told : (b : Bool) (e : IndexRefusal) → unless b e ≡ Ok tt → b ≡ true
few_told true e h = refl
few_told false e h = absurd (cc (h))

module _ (opened : Opened) (list : List IndexSeries) where
  abbrev most : ℕ
  most = 8 * (opened.toc.postings_table + length opened.rows + labels_of list)

  pub few_found : few_at opened.toc (file opened.bytes) opened.rows list ≡ Ok tt → AreFewLists opened list
  unfolding few_at
  few_found e = leb-true (lists_size (file opened.bytes) opened.rows) most (few_told _ (BadSection 5 (part.Unordered opened.toc.postings)) e)

  pub few_again : AreFewLists opened list → few_at opened.toc (file opened.bytes) opened.rows list ≡ Ok tt
  unfolding few_at
  few_again few = rw (le-leb (lists_size (file opened.bytes) opened.rows) most few) refl

-- ---- over a part

sizes_same : (here : Part) (index : List ℕ) → IsPartOf here index → (rows : List PostingsRow) → ((row : PostingsRow) → Contains rows row → HoldsSection here row.offset) → lists_size here rows ≡ lists_size (file index) rows
sizes_same here index is [] lie = refl
sizes_same here index is (row ∷ rows) lie =
    omega (
      arith,
      size_of_index here index row.offset is (lie row (contains_first row rows)),
      sizes_same here index is rows (λ one has. lie one (contains_later _ _ _ has)),
      sum_by-cons (λ (r : PostingsRow). list_size here r.offset) row rows,
      sum_by-cons (λ (r : PostingsRow). list_size (file index) r.offset) row rows,
    )

pub few_same : (here : Part) (index : List ℕ) (rows others : List PostingsRow) (toc other : Toc) (list : List IndexSeries) → IsPartOf here index → ((row : PostingsRow) → Contains rows row → HoldsSection here row.offset) → rows ≡ others → toc ≡ other → few_at toc here rows list ≡ few_at other (file index) others list
unfolding few_at
few_same here index rows others toc other list is lie same tocs =
    ap₂ (λ (n : ℕ) (t : Toc). unless (nat_le n (8 * (t.postings_table + length rows + labels_of list))) (BadSection 5 (part.Unordered t.postings))) (sizes_same here index is rows lie) tocs
    ∙ ap (λ (l : List PostingsRow). unless (nat_le (lists_size (file index) l) (8 * (other.postings_table + length l + labels_of list))) (BadSection 5 (part.Unordered other.postings))) same

-- ---- labels

-- the labels are among what the series have
labels_members : (list : List IndexSeries) → labels_of list ≤ sum_by members_of list
labels_members [] = let none : labels_of [] ≡ 0 = refl in omega (arith, none)
labels_members (one ∷ list) = omega (arith, labels_members list, sum_by-cons (λ (s : IndexSeries). length s.labels) one list, sum_by-cons members_of one list)

pub labels_few : (index : List ℕ) (symbols : List (List ℕ)) (numbers : List ℕ) (list : List IndexSeries) → IsBytes index → all_at index symbols None None numbers ≡ Ok list → labels_of list ≤ length index
labels_few index symbols numbers list bytes e = omega (arith, labels_members list, all_bounded index symbols numbers list bytes e)
