-- What a reader of an index answers, which holds the index's bytes or parts of them.
use Rattle.std.proofs.Common.{◌≡◌, ℕ, List, [], length, Option, Some, None, Result, Ok, Err, refl, sym, ap, subst, ◌∙◌, arith, ◌⊎◌, inl, inr}
use Rattle.std.specs.Prelude.{slice_get, option_map, IfOk, IfErr, IfSome}
use Rattle.std.proofs.lemmas.Option.{same_Some}
use Rattle.base.proofs.Membership.{contains_place}
use Rattle.base.specs.Reading.{refused_as, Gives}
use Rattle.base.proofs.Binds.{ok_is}
use Rattle.index_parts.specs.declared.postings_row.PostingsRow.{PostingsRow}
use Rattle.index_parts.specs.Postings.{IsNextPosting, IsPostings}
use Rattle.index_parts.specs.PostingsReading.{posting_at}
use Rattle.index_parts.proofs.ListLaws.{list_again}
use Rattle.index_parts.proofs.PostingsLaws.{posting_turn}
use Rattle.index_parts.specs.declared.index_series.IndexSeries.{IndexSeries}
use Rattle.index_parts.specs.Opened.{Opened}
use Rattle.index_parts.specs.IndexFile.{IsOpened, IsIndex, AreNumbersOf}
use Rattle.index_parts.specs.Parts.{file, IsPartOf, HoldsSection}
use Rattle.index_v2.specs.declared.refusal.IndexRefusal.{IndexRefusal}
use Rattle.index_v2.specs.declared.refusal.IndexRefusal.TheVariants.{NoMemory}
use Rattle.index_v2.specs.Held.{Held, opened_of, IsWhole, IsHeldOf, IsReaderOf, HasList}
use Rattle.index_v2.specs.Opening.{refused_in, opened_at}
use Rattle.index_v2.specs.PostingsLists.{list_of}
use Rattle.index_v2.proofs.OpeningLaws.{opened_again}
use Rattle.index_v2.proofs.WholeLaws.{ok_same}
use Rattle.index_v2.proofs.HeldLaws.{opened_whole, file_is, list_same}

-- ---- what it holds

-- a reader of a whole file holds what the file has
pub whole_holds : (held : Held) → IsWhole held → IsHeldOf held (opened_of held)
whole_holds held whole = record {
  toc_is = refl;
  symbols_are = refl;
  rows_are = refl;
  lists_are = subst (λ p. IsPartOf p held.bytes) (sym whole.lists_are) (file_is _);
  series_are = inr refl;
}

module _ (held : Held) (opened : Opened) (is : IsOpened opened) (same : held.bytes ≡ opened.bytes) where
  -- a reader of an index's bytes is one of a whole file
  pub whole_from : IsWhole held ⊎ (held.bytes ≡ []) → IsWhole held
  whole_from (inl whole) = whole
  whole_from (inr none) = let long = is.long in let empty = ap length (sym same ∙ none) in absurd (omega arith)

  same_opened : IsWhole held → opened ≡ opened_of held
  same_opened whole = ok_same (opened_at held.bytes) _ _ (opened_again _ _ (sym same) is) (opened_whole _ whole)

  whole_held : IsWhole held → IsHeldOf held opened
  whole_held whole = subst (IsHeldOf held) (sym (same_opened whole)) (whole_holds _ whole)

pub reader_holds : (held : Held) (opened : Opened) → IsWhole held ⊎ (held.bytes ≡ []) → IsOpened opened → IsReaderOf held opened → IsHeldOf held opened
reader_holds _ opened one is (inl same) = whole_held _ _ is same (whole_from _ opened is same one)
reader_holds _ _ one is (inr holds) = holds

-- ---- lists

-- what is read is what stands there, and only memory is wanting
pub read_is : {Y E : Type 0} (Is : Y → Type 0) (r read : Result Y E) (y : Y) → read ≡ Ok y → Is y → IfOk r (λ x. read ≡ Ok x) → IfOk r Is
read_is {Y} {E} Is (Ok x) _ y one is h = subst Is (ok_is {E = E} y x (sym one ∙ h)) is
read_is Is (Err d) _ y one is h = tt

pub only_memory : {Y E : Type 0} (no_memory : E) (r read : Result Y E) (y : Y) → read ≡ Ok y → Gives no_memory (λ x. x) r read → IfErr r (λ e. e ≡ no_memory)
only_memory _ (Ok x) _ y one h = tt
only_memory _ (Err d) _ y one (inl out) = out
only_memory _ (Err d) _ y one (inr refused) = let no = sym refused ∙ one in absurd cc

-- a list that is asked for, in what is held and in the index
lies_at : (held : Held) (row : Option PostingsRow) → IfSome row (λ r. HoldsSection held.lists r.offset) → (r : PostingsRow) → row ≡ Some r → HoldsSection held.lists r.offset
lies_at _ None lies r is = absurd cc
lies_at held (Some one) lies r is = subst (λ x. HoldsSection held.lists x.offset) (same_Some _ r is) lies

pub list_there : (held : Held) (opened : Opened) (row : Option PostingsRow) → IsWhole held ⊎ (held.bytes ≡ []) → IsOpened opened → HasList held opened row → list_of held.lists row ≡ list_of (file opened.bytes) row
list_there _ opened row one is (inl same) =
    let whole = whole_from _ opened is same one in
    ap (λ p. list_of p row) (whole.lists_are ∙ ap file same)
list_there held _ _ one is (inr has) = list_same _ _ has.0.lists_are _ (lies_at held _ has.1)

pub has_reader : (held : Held) (opened : Opened) (row : Option PostingsRow) → HasList held opened row → IsReaderOf held opened
has_reader _ _ _ (inl same) = inl same
has_reader _ _ _ (inr has) = inr has.0

module _ (index : List ℕ) (list : List IndexSeries) (is : IsIndex index list) (place : ℕ) (row : PostingsRow) (at : slice_get is.opened.rows place ≡ Some row) where
  -- each row has a list, of exactly the numbers of the series that belong to it
  pub row_read : (numbers : List ℕ) × (list_of (file is.opened.bytes) (Some row) ≡ Ok numbers) × AreNumbersOf is.listed row.name row.value numbers
  row_read =
      let exact = is.rows_are row (contains_place _ _ _ at) in
      let read = list_again IsNextPosting posting_at posting_turn _ _ _ exact.stands in
      (exact.numbers, ap (refused_as (refused_in 5)) read, record { only = exact.only; all = exact.all })

-- ---- the list of a row

pub row_is : {X Y : Type 0} (f : X → Y) (o : Option X) (x : X) (s : Option Y) → o ≡ Some x → option_map f o ≡ s → s ≡ Some (f x)
row_is f o x s is e = sym e ∙ ap (option_map f) is

list_stands : (index : List ℕ) (row : PostingsRow) (r : Result (List ℕ) IndexRefusal) → IfOk r (λ numbers. IsPostings index row.offset numbers) → IfOk r (λ numbers. list_of (file index) (Some row) ≡ Ok numbers)
list_stands _ _ (Ok numbers) stands = ap (refused_as (refused_in 5)) (list_again IsNextPosting posting_at posting_turn _ _ _ stands)
list_stands _ _ (Err d) stands = tt

module _ (held : Held) (index : List ℕ) (list : List IndexSeries) (is : IsIndex index list) (place : ℕ) (one : PostingsRow) (at : slice_get held.rows place ≡ Some one) (holds : IsHeldOf held is.opened) (r : Result (List ℕ) IndexRefusal) where
  there : slice_get is.opened.rows place ≡ Some one
  there = ap (λ rows. slice_get rows place) (sym holds.rows_are) ∙ at

  pub row_agrees : IfOk r (λ numbers. IsPostings is.opened.bytes one.offset numbers) → (row : PostingsRow) → slice_get held.rows place ≡ Some row → IfOk r (λ numbers. AreNumbersOf is.listed row.name row.value numbers)
  row_agrees stands row same =
      let read = row_read index list is place _ there in
      let agrees = read_is _ r _ _ read.1 read.2 (list_stands _ one r stands) in
      subst (λ x. IfOk r (λ numbers. AreNumbersOf is.listed x.name x.value numbers)) (same_Some _ _ (sym at ∙ same)) agrees

  pub row_wanting : IsWhole held ⊎ (held.bytes ≡ []) → HasList held is.opened (slice_get held.rows place) → Gives NoMemory (λ xs. xs) r (list_of held.lists (Some one)) → IfErr r (λ e. e ≡ NoMemory)
  row_wanting kind has given =
      let read = row_read index list is place _ there in
      let has' = subst (HasList held is.opened) at has in
      only_memory _ r _ _ (list_there _ _ (Some one) kind is.is_opened has' ∙ read.1) given
