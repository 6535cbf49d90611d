-- The numbers in the lists of rows.
use Rattle.std.proofs.Common.{◌≡◌, ℕ, List, [], ◌∷◌, ◌++◌, Some, Result, Ok, Err, refl, sym, ap, subst, ◌∙◌, append_assoc, inl, inr}
use Rattle.std.specs.List.{Contains, flat_map}
use Rattle.std.proofs.lemmas.List.{append-nil}
use Rattle.std.proofs.lemmas.List.Elements.{Contains-append_left, Contains-append_right, Contains-append_cases}
use Rattle.base.proofs.Membership.{contains_first, contains_later, member_cases, no_member}
use Rattle.base.specs.Reading.{◌>>=◌}
use Rattle.base.proofs.Binds.{bind_ok, ok_is}
use Rattle.index_parts.specs.declared.postings_row.PostingsRow.{PostingsRow}
use Rattle.index_parts.specs.Parts.{Part}
use Rattle.index_v2.specs.declared.refusal.IndexRefusal.{IndexRefusal}
use Rattle.index_v2.specs.PostingsLists.{list_of}
use Rattle.index_v2.specs.WholeReading.{lists_at}
use Rattle.series_selection.specs.SelectionSteps.{numbers_at}

joined : (r : Result (List ℕ) IndexRefusal) (s : Result (List (List ℕ)) IndexRefusal)
    → ((r >>= λ list. s >>= λ others. Ok (list ∷ others)) >>= λ lists. Ok (flat_map (λ list. list) lists)) ≡ (r >>= λ list. (s >>= λ lists. Ok (flat_map (λ list. list) lists)) >>= λ others. Ok (list ++ others))
joined (Ok list) (Ok others) = refl
joined (Ok list) (Err e) = refl
joined (Err e) s = refl

pub numbers_none : (part : Part) → numbers_at part [] ≡ Ok []
unfolding numbers_at lists_at
numbers_none part = refl

pub numbers_first : (part : Part) (row : PostingsRow) (rows : List PostingsRow) → numbers_at part (row ∷ rows) ≡ (list_of part (Some row) >>= λ list. numbers_at part rows >>= λ others. Ok (list ++ others))
unfolding numbers_at lists_at
numbers_first part row rows = joined (list_of part (Some row)) (lists_at part rows)

-- what was read of a row and of the rows behind it
pub record FirstRead (part : Part) (row : PostingsRow) (rows : List PostingsRow) (numbers : List ℕ) : Type 0 where
  pub list : List ℕ
  pub others : List ℕ
  pub list_is : list_of part (Some row) ≡ Ok list
  pub others_are : numbers_at part rows ≡ Ok others
  pub numbers_are : numbers ≡ list ++ others

pub first_read : (part : Part) (row : PostingsRow) (rows : List PostingsRow) (numbers : List ℕ) → numbers_at part (row ∷ rows) ≡ Ok numbers → FirstRead part row rows numbers
first_read part row rows numbers e =
    let list = bind_ok _ _ _ (sym (numbers_first part row rows) ∙ e) in
    let others = bind_ok _ _ _ list.2 in
    record { list = list.0; others = others.0; list_is = list.1; others_are = others.1; numbers_are = sym (ok_is {E = IndexRefusal} _ _ others.2) }

pub numbers_with : (part : Part) (row : PostingsRow) (rows : List PostingsRow) (list others : List ℕ) → list_of part (Some row) ≡ Ok list → numbers_at part rows ≡ Ok others → numbers_at part (row ∷ rows) ≡ Ok (list ++ others)
numbers_with part row rows list others a b = numbers_first part row rows ∙ rw (a, b) refl

-- one row more, at the end
pub numbers_push : (part : Part) (rows : List PostingsRow) (row : PostingsRow) (numbers list : List ℕ) → numbers_at part rows ≡ Ok numbers → list_of part (Some row) ≡ Ok list → numbers_at part (rows ++ row ∷ []) ≡ Ok (numbers ++ list)
numbers_push part [] row numbers list a b =
    let none : [] ≡ numbers = ok_is {E = IndexRefusal} _ _ (sym (numbers_none part) ∙ a) in
    numbers_with part row [] list [] b (numbers_none part) ∙ ap Ok (append-nil list ∙ ap (λ (xs : List ℕ). xs ++ list) none)
numbers_push part (first ∷ rows) row numbers list a b =
    let f = first_read part first rows numbers a in
    numbers_with part first (rows ++ row ∷ []) f.list (f.others ++ list) f.list_is (numbers_push part rows row f.others list f.others_are b)
    ∙ ap Ok (sym (append_assoc f.list f.others list) ∙ ap (λ (xs : List ℕ). xs ++ list) (sym f.numbers_are))

-- a row that is refused, behind others that are read
pub numbers_refused : (part : Part) (rows : List PostingsRow) (row : PostingsRow) (more : List PostingsRow) (numbers : List ℕ) (e : IndexRefusal) → numbers_at part rows ≡ Ok numbers → list_of part (Some row) ≡ Err e → numbers_at part (rows ++ row ∷ more) ≡ Err e
numbers_refused part [] row more numbers e a b = numbers_first part row more ∙ rw b refl
numbers_refused part (first ∷ rows) row more numbers e a b =
    let f = first_read part first rows numbers a in
    numbers_first part first (rows ++ row ∷ more) ∙ rw (f.list_is, numbers_refused part rows row more f.others e f.others_are b) refl

-- ---- which numbers they are

-- a number that was read stands in the list of one of the rows
pub of_numbers : (part : Part) (rows : List PostingsRow) (numbers : List ℕ) (number : ℕ) → numbers_at part rows ≡ Ok numbers → Contains numbers number → (row : PostingsRow) × Contains rows row × ((list : List ℕ) × (list_of part (Some row) ≡ Ok list) × Contains list number)
of_numbers part [] numbers number e has = absurd (no_member number (subst (λ (xs : List ℕ). Contains xs number) (sym (ok_is {E = IndexRefusal} _ _ (sym (numbers_none part) ∙ e))) has))
of_numbers part (row ∷ rows) numbers number e has =
    let f = first_read part row rows numbers e in
    elim (Contains-append_cases f.list f.others number (subst (λ (xs : List ℕ). Contains xs number) f.numbers_are has)) [
      | inl here ↦ (row, contains_first row rows, (f.list, f.list_is, here))
      | inr later ↦ let o = of_numbers part rows f.others number f.others_are later in (o.0, contains_later row o.0 rows o.1, o.2)
    ]

-- the list of each row was read, and all of its numbers
pub each_read : (part : Part) (rows : List PostingsRow) (numbers : List ℕ) (row : PostingsRow) → numbers_at part rows ≡ Ok numbers → Contains rows row → (list : List ℕ) × (list_of part (Some row) ≡ Ok list) × ((number : ℕ) → Contains list number → Contains numbers number)
each_read part [] numbers row e among = absurd (no_member row among)
each_read part (first ∷ rows) numbers row e among =
    let f = first_read part first rows numbers e in
    let whole : (number : ℕ) → Contains (f.list ++ f.others) number → Contains numbers number = λ number h. subst (λ (xs : List ℕ). Contains xs number) (sym f.numbers_are) h in
    elim (member_cases first row rows among) [
      | inl same ↦ (f.list, subst (λ (r : PostingsRow). list_of part (Some r) ≡ Ok f.list) same f.list_is, λ number h. whole number (Contains-append_left f.list f.others number h))
      | inr later ↦ let o = each_read part rows f.others row f.others_are later in (o.0, o.1, λ number h. whole number (Contains-append_right f.list f.others number (o.2 number h)))
    ]
