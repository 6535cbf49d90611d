-- A postings list that is asked for, in an index of a list of series.
use Rattle.std.proofs.Common.{◌≡◌, ℕ, zero, suc, Bool, true, false, List, [], ◌∷◌, map, Option, Some, None, Result, Ok, Err, refl, sym, ap, subst, ◌∙◌, arith, inl, inr}
use Rattle.std.specs.Prelude.{slice_get, find, MatchResult}
use Rattle.std.specs.List.{Contains}
use Rattle.std.specs.Str.{bytes_eq}
use Rattle.std.specs.Cmp.Lexicographic.{bytes_decides}
use Rattle.std.proofs.lemmas.Bool.{and_parts}
use Rattle.std.proofs.lemmas.Option.{same_Some}
use Rattle.base.proofs.Membership.{contains_first, contains_later, contains_place, place_of_member}
use Rattle.base.proofs.Bools.{bytes_eq-itself}
use Rattle.base.specs.Reading.{refused_as, Gives}
use Rattle.base.proofs.Binds.{ok_is}
use Rattle.label_sets.specs.declared.label.Label.{Label}
use Rattle.label_sets.proofs.LabelValues.{by_bool}
use Rattle.index_parts.specs.declared.postings_row.PostingsRow.{PostingsRow}
use Rattle.index_parts.specs.Rows.{IsPostingsTable}
use Rattle.index_parts.specs.Postings.{IsNextPosting}
use Rattle.index_parts.specs.PostingsReading.{posting_at}
use Rattle.index_parts.proofs.ListLaws.{list_again}
use Rattle.index_parts.proofs.PostingsLaws.{posting_turn}
use Rattle.index_parts.specs.declared.index_series.IndexSeries.{IndexSeries}
use Rattle.index_parts.specs.Opened.{Opened}
use Rattle.index_parts.specs.IndexFile.{BelongsTo, AreListed, HasRow, IsIndex, AreNumbersOf, Holds}
use Rattle.index_v2.specs.Opening.{refused_in, opened_at}
use Rattle.index_parts.specs.Parts.{file}
use Rattle.index_v2.specs.Held.{whole_file}
use Rattle.index_v2.specs.PostingsLists.{is_row_of, row_of, list_of, postings_of}
use Rattle.index_v2.proofs.OpeningLaws.{opened_again}
use Rattle.index_v2.proofs.WholeLaws.{ok_same, first_is_empty}

option_cases : {P A : Type 0} (o : Option A) → (o ≡ None → P) → ((x : A) → o ≡ Some x → P) → P
option_cases None f g = f refl
option_cases (Some x) f g = g x refl

-- what the search finds is a member, and nothing passes where it finds nothing
module _ {A : Type 0} (p : A → Bool) where
  find_has : (xs : List A) (x : A) → find p xs ≡ Some x → Contains xs x × (p x ≡ true)
  find_has [] x e = absurd cc
  find_has (y ∷ ys) x e = by_bool (p y)
      (λ here. let e' : ◌≡◌ {A = Option A} (Some y) (Some x) = rw here at e in let same = same_Some y x e' in (contains_place (y ∷ ys) 0 x e', ap p (sym same) ∙ here))
      (λ other. let e' : find p ys ≡ Some x = rw other at e in let m = find_has ys x e' in (contains_later y x _ m.0, m.1))

  find_none : (xs : List A) (place : ℕ) (x : A) → find p xs ≡ None → slice_get xs place ≡ Some x → p x ≡ false
  find_none [] _ x e at = absurd cc
  find_none (y ∷ ys) zero x e at = by_bool {P = p x ≡ false} (p y)
      (λ here. let e' : Some y ≡ None = rw here at e in absurd cc)
      (λ other. ap p (sym (same_Some y x at)) ∙ other)
  find_none (y ∷ ys) (suc place) x e at = by_bool {P = p x ≡ false} (p y)
      (λ here. let e' : Some y ≡ None = rw here at e in absurd cc)
      (λ other. let e' : find p ys ≡ None = rw other at e in find_none ys _ x e' at)

pub row_found : (rows : List PostingsRow) (name value : List ℕ) (row : PostingsRow) → row_of rows name value ≡ Some row → Contains rows row × (row.name ≡ name) × (row.value ≡ value)
unfolding row_of
row_found rows name value row e =
    let m = find_has (is_row_of name value) rows _ e in
    let b = and_parts (bytes_eq row.name name) (bytes_eq row.value value) m.1 in
    (m.0, (bytes_decides row.name name).0 b.0, (bytes_decides row.value value).0 b.1)

no_row : (rows : List PostingsRow) (label : Label) → row_of rows label.name label.value ≡ None → HasRow rows label → ⊥
unfolding row_of
no_row _ label e has =
    let at = place_of_member _ _ has.1 in
    let other = find_none (is_row_of label.name label.value) _ _ _ e at.1 in
    let here : is_row_of label.name label.value has.0 ≡ true = rw (has.2, has.3, bytes_eq-itself, bytes_eq-itself) refl in
    cc

no_pairs : {A B : Type 0} (ps : List (A × B)) (p : A × B) → map (λ (q : A × B). q.0) ps ≡ [] → Contains ps p → ⊥
no_pairs [] p e has = omega arith
no_pairs (q ∷ ps) p e has = cc

-- an index whose table has no row of the empty pair lists no series
nothing_listed : (index : List ℕ) (reference : ℕ) (rows : List PostingsRow) (listed : List (ℕ × IndexSeries)) → Holds IsPostingsTable index reference rows → AreListed index rows (map (λ (one : ℕ × IndexSeries). one.0) listed) → row_of rows [] [] ≡ None → (one : ℕ × IndexSeries) → Contains listed one → ⊥
nothing_listed _ _ [] _ holds are none _ has = no_pairs _ _ are has
nothing_listed _ _ (row ∷ rows) _ holds are none _ has =
    let empty = first_is_empty _ _ _ _ holds in
    no_row _ _ none (row, contains_first _ _, empty.0, empty.1)

abbrev key : List ℕ → List ℕ → PostingsRow
key name value = record { name = name; value = value; offset = 0 }

same_row : (one other : PostingsRow) (series : IndexSeries) → one.name ≡ other.name → one.value ≡ other.value → BelongsTo one series → BelongsTo other series
same_row _ _ _ n v (inl empty) = inl (sym n ∙ empty.0, sym v ∙ empty.1)
same_row _ _ series n v (inr has) = inr (subst (λ l. Contains series.labels l) (λ i. record { name = n i; value = v i }) has)

module _ (index : List ℕ) (list : List IndexSeries) (is : IsIndex index list) (name value : List ℕ) where
  missing_row : row_of is.opened.rows name value ≡ None → (number : ℕ) (series : IndexSeries) → Contains is.listed (number, series) → BelongsTo (key name value) series → ⊥
  missing_row none _ _ has (inl empty) =
      let none' = ap (λ n. row_of is.opened.rows n []) (sym empty.0) ∙ ap (λ v. row_of is.opened.rows name v) (sym empty.1) ∙ none in
      nothing_listed _ _ _ _ is.is_opened.rows_are is.series_are.numbers_are none' _ has
  missing_row none number series has (inr labelled) = no_row _ _ none (is.complete number series has (record { name = name; value = value }) labelled)

  -- some list is read for each name and value, and its numbers are exactly those of the listed series
  pub list_read : (numbers : List ℕ) × (postings_of (whole_file is.opened) name value ≡ Ok numbers) × AreNumbersOf is.listed name value numbers
  list_read = option_cases _
      (λ none. ([], ap (list_of (file is.opened.bytes)) none, record { only = λ number has. absurd (omega arith); all = λ number series has belongs. absurd (missing_row none _ _ has belongs) }))
      (λ row some.
      let found = row_found _ _ _ _ some in
      let exact = is.rows_are row found.0 in
      let read = list_again IsNextPosting posting_at posting_turn _ _ _ exact.stands in (
        exact.numbers,
        ap (list_of (file is.opened.bytes)) some ∙ ap (refused_as (refused_in 5)) read,
        record {
          only = λ number h. let o = exact.only number h in (o.0, o.1, same_row row (key name value) o.0 found.1 found.2 o.2);
          all = λ number series h b. exact.all number series h (same_row (key name value) row series (sym found.1) (sym found.2) b);
        },
      ))

-- an opened index is that of its list
pub opened_is : (opened : Opened) → opened_at opened.bytes ≡ Ok opened → (list : List IndexSeries) (is : IsIndex opened.bytes list) → is.opened ≡ opened
opened_is opened read list is = ok_same _ _ _ (opened_again _ _ is.bytes_are is.is_opened) read

-- a call that reads what stands there answers so, or memory ran out
pub read_or_none : {Y E : Type 0} (Is : Y → Type 0) (no_memory : E) (r read : Result Y E) (y : Y) → read ≡ Ok y → Is y → Gives no_memory (λ x. x) r read → MatchResult r Is (λ e. e ≡ no_memory)
read_or_none {Y} {E} Is _ (Ok x) _ y one is h = subst Is (ok_is {E = E} y x (sym one ∙ h)) is
read_or_none Is _ (Err d) _ y one is (inl out) = out
read_or_none Is _ (Err d) _ y one is (inr refused) = let no = sym refused ∙ one in absurd cc
