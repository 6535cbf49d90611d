-- The whole index of a block that stands is read: it opens, and the lists and the series that a selector needs are in it.
use Rattle.std.proofs.Common.{◌≡◌, ℕ, Bool, true, false, List, [], ◌∷◌, Some, Result, Ok, Err, refl, sym, ap, subst, ◌∙◌, inl, inr}
use Rattle.std.specs.Prelude.{Contains, IsErr, IsOk, slice_get, if◌then◌else◌}
use Rattle.std.specs.List.{AllZip, filter}
use Rattle.base.proofs.Membership.{contains_first, contains_later, into_map, member_cases, no_member, of_filter}
use Rattle.base.specs.Grammar.{IsBytes}
use Rattle.base.specs.Reading.{refused_as}
use Rattle.base.proofs.Binds.{ok_is}
use Rattle.label_sets.specs.declared.label.Label.{Label}
use Rattle.matchers.specs.declared.matcher.Matcher.{Matcher}
use Rattle.index_parts.specs.declared.postings_row.PostingsRow.{PostingsRow}
use Rattle.index_parts.specs.Postings.{IsNextPosting, IsPostings}
use Rattle.index_parts.specs.PostingsReading.{posting_at, postings_at}
use Rattle.index_parts.proofs.ListLaws.{list_again}
use Rattle.index_parts.proofs.PostingsLaws.{posting_turn}
use Rattle.index_parts.specs.Parts.{file}
use Rattle.index_parts.specs.IndexFile.{IsIndex, IsSeriesOf}
use Rattle.index_parts.specs.Opened.{Opened}
use Rattle.index_parts.specs.declared.index_series.IndexSeries.{IndexSeries}
use Rattle.index_v2.specs.Opening.{opened_at, refused_in}
use Rattle.index_v2.specs.PostingsLists.{list_of}
use Rattle.index_v2.specs.SeriesLabels.{numbered_at}
use Rattle.index_v2.specs.WholeReading.{lists_at}
use Rattle.index_v2.specs.declared.refusal.IndexRefusal.{IndexRefusal}
use Rattle.index_v2.proofs.HeldLaws.{file_is}
use Rattle.index_v2.proofs.LabelLaws.{numbered_again}
use Rattle.index_v2.proofs.OpeningLaws.{opened_again}
use Rattle.index_v2.proofs.WholeParts.{lists_again}
use Rattle.series_selection.specs.Selections.{IsListed, IsSelection, decides, rows_read}
use Rattle.series_selection.proofs.Matching.{one_list}
use Rattle.series_selection.proofs.Answered.{read_rows}
use Rattle.base.specs.Firsts.{each_at}
use Rattle.base.proofs.FirstLaws.{each_again}
use Rattle.store_ranges.specs.IndexReads.{tables_of}
use Rattle.store_ranges.specs.Reads.{Block, Query}
use Rattle.store_calls.proofs.BlockFindings.{LackLists}
use Rattle.store_calls.proofs.ExactIndex.{IsTakenFrom}
use Rattle.store_calls.proofs.ExactSelection.{selection_stands}
use Rattle.store_calls.proofs.PartLaws.{one_series}

-- ---- what is read is not refused

pub not_refused : {A E : Type 0} (r : Result A E) (x : A) → r ≡ Ok x → IsErr r → ⊥
not_refused (Ok y) x is err = cc (err)
not_refused (Err e) x is err = cc (is)

pub all_read : {A B R : Type 0} (read : A → Result B R) (xs : List A) → ((x : A) → Contains xs x → (y : B) × (read x ≡ Ok y)) → (ys : List B) × AllZip (λ x y. read x ≡ Ok y) xs ys
all_read read [] each = ([], tt)
all_read read (x ∷ xs) each =
    let first = each x (contains_first x xs) in
    let later = all_read read xs (λ y among. each y (contains_later x y xs among)) in
    (first.0 ∷ later.0, (first.1, later.1))

pub each_read_so : {A B R : Type 0} (read : A → Result B R) (xs : List A) → ((x : A) → Contains xs x → (y : B) × (read x ≡ Ok y)) → IsErr (each_at read xs) → ⊥
each_read_so read xs each err =
    let all = all_read read xs each in
    not_refused (each_at read xs) all.0
    (each_again read (λ x y. read x ≡ Ok y) (λ x e. read x ≡ Err e) (record { found = λ x y so. so; again = λ x y so. so; refused = λ x e so. so; refuses = λ x e so. so }) xs all.0 all.1) err

-- ---- rows that are read

decided_among : (external : List Label) (rows : List PostingsRow) (m : Matcher) (b : Bool) (row : PostingsRow) → Contains (if b then [] else filter (decides m) rows) row → Contains rows row
decided_among external rows m true row has = absurd (no_member row has)
decided_among external rows m false row has = of_filter (decides m) rows row has

module _ (query : Query) (block : Block) (index : List ℕ) (indexed : List IndexSeries) (is : IsIndex index indexed) (are : IsBytes is.opened.bytes) where
  abbrev I : List ℕ
  I = is.opened.bytes

  -- ---- it opens

  pub opens : opened_at I ≡ Ok is.opened
  opens = opened_again I is.opened refl is.is_opened

  pub opened_so : (bytes : List ℕ) (opened : Opened) → bytes ≡ I → opened_at bytes ≡ Ok opened → opened ≡ is.opened
  opened_so bytes opened same read = ok_is {E = IndexRefusal} opened is.opened (sym read ∙ ap opened_at same ∙ opens)

  -- ---- its lists are read

  list_there : (row : PostingsRow) → Contains is.opened.rows row → (list : List ℕ) × (postings_at I row.offset ≡ Ok list)
  list_there row among = let exact = is.rows_are row among in (exact.numbers, list_again IsNextPosting posting_at posting_turn I row.offset exact.numbers exact.stands)

  first_list : (rows : List PostingsRow) → ((row : PostingsRow) → Contains rows row → Contains is.opened.rows row) → IsErr (list_of (file I) (slice_get rows 0)) → ⊥
  first_list [] among err = cc (err)
  first_list (row ∷ rows) among err =
      let list = list_there row (among row (contains_first row rows)) in
      not_refused (list_of (file I) (Some row)) list.0 (ap (refused_as (refused_in 5)) list.1) err

  pub lacks_none : LackLists query block (tables_of is.opened) → ⊥
  lacks_none (inl err) = first_list is.opened.rows (λ row among. among) err
  lacks_none (inr err) =
      let lists = lists_again I (rows_read block.external is.opened.rows query.selector) (λ row has. list_there row (read_rows block.external is.opened.rows query.selector row has)) in
      not_refused (lists_at (file I) (rows_read block.external is.opened.rows query.selector)) lists.0 lists.1 err

  -- ---- its series are read

  -- a series that the selector takes is listed
  listed_there : (numbers : List ℕ) → IsSelection (λ row listed. IsPostings I row.offset listed) is.opened.rows block.external query.selector numbers → (number : ℕ) → Contains numbers number
      → (series : IndexSeries) × Contains is.listed (number, series)
  listed_there numbers selection number has =
      let first : IsListed (λ row listed. IsPostings I row.offset listed) is.opened.rows number = ((selection.taken number).0 has).listed in
      let exact = is.rows_are first.first (subst (λ l. Contains l first.first) (sym first.begins) (contains_first first.first first.others)) in
      let same : first.listed.numbers ≡ exact.numbers = one_list I first.first first.listed.numbers exact.numbers first.listed.list_is exact.stands in
      let found = exact.only number (subst (λ l. Contains l number) same first.listed.has) in (found.0, found.1)

  pub series_read : (numbers : List ℕ) → IsSelection (λ row listed. IsPostings I row.offset listed) is.opened.rows block.external query.selector numbers
      → IsErr (each_at (numbered_at I is.opened.symbols) numbers) → ⊥
  series_read numbers selection err =
      each_read_so (numbered_at I is.opened.symbols) numbers
      (λ number has.
      let found = listed_there numbers selection number has in
      (found.0, numbered_again I is.opened.symbols number found.0 (is.series_are.stand number found.0 found.1))) err

  -- what is taken is of the index
  taken_listed : (numbers : List ℕ) (series : List IndexSeries) → ((number : ℕ) → Contains numbers number → (own : IndexSeries) × Contains is.listed (number, own))
      → AllZip (IsSeriesOf I is.opened.symbols) numbers series → (one : IndexSeries) → Contains series one → Contains indexed one
  taken_listed [] [] each stand one has = absurd (no_member one has)
  taken_listed [] (s ∷ series) each stand one has = absurd stand
  taken_listed (number ∷ numbers) [] each stand one has = absurd stand
  taken_listed (number ∷ numbers) (s ∷ series) each stand one has = elim (member_cases s one series has) [
    | inl same ↦
        let own = each number (contains_first number numbers) in
        let is_own : s ≡ own.0 = one_series I is.opened.symbols number s own.0 stand.0 (is.series_are.stand number own.0 own.1) in
        subst (Contains indexed) (sym is_own ∙ same) (subst (λ l. Contains l own.0) is.list_is (into_map (λ (x : ℕ × IndexSeries). x.1) is.listed (number, own.0) own.1))
    | inr later ↦ taken_listed numbers series (λ n among. each n (contains_later number n numbers among)) stand.1 one later
  ]

  pub taken_among : (series : List IndexSeries) → IsTakenFrom query block index indexed is are series → (one : IndexSeries) → Contains series one → Contains indexed one
  taken_among series taken one has = taken_listed taken.numbers series (listed_there taken.numbers taken.selection) taken.stand one has

  pub selects_so : (numbers : List ℕ) → IsOk (lists_at (file I) (rows_read block.external is.opened.rows query.selector))
      → IsSelection (λ row listed. list_of (file I) (Some row) ≡ Ok listed) is.opened.rows block.external query.selector numbers
      → IsSelection (λ row listed. IsPostings I row.offset listed) is.opened.rows block.external query.selector numbers
  selects_so numbers lists taken = selection_stands (file I) I block.external is.opened.rows query.selector numbers (file_is I) are lists taken
