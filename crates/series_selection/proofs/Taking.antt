-- What matchers leave of numbers, by what it says which numbers the lists of rows have.
use Rattle.std.proofs.Common.{◌≡◌, ℕ, Bool, true, false, not, List, [], ◌∷◌, Option, Some, None, Ok, refl, sym, subst, ◌∙◌}
use Rattle.std.specs.Prelude.{slice_get, MatchBool, IsTrue, IsFalse, is_some, if◌then◌else◌, ◌==◌, ◌↔◌, take}
use Rattle.std.specs.List.{All, Contains, filter, flat_map}
use Rattle.std.specs.List.Sorted.{IsStrictlyIncreasing}
use Rattle.std.specs.Str.{bytes_eq}
use Rattle.std.specs.Cmp.Lexicographic.{bytes_decides}
use Rattle.std.proofs.lemmas.Bool.{and_parts, not-true, not_from_false, eqb-true}
use Rattle.std.proofs.lemmas.List.Elements.{All-nil, All-cons, All-head, All-tail, Contains-append_left, Contains-append_right}
use Rattle.base.proofs.Membership.{contains_first, no_member, member_of_any, any_of_member, member_passes, of_filter, into_filter}
use Rattle.base.specs.Lists.{is_one_of}
use Rattle.base.proofs.Numbers.{equals_itself}
use Rattle.base.proofs.Bools.{not_both}
use Rattle.base.proofs.Binds.{bind_ok, ok_is}
use Rattle.label_sets.specs.declared.label.Label.{Label}
use Rattle.label_sets.specs.Labels.{value_of}
use Rattle.label_sets.proofs.LabelValues.{by_bool}
use Rattle.matchers.specs.declared.matcher.Matcher.{Matcher}
use Rattle.matchers.specs.Selectors.{is_accepted}
use Rattle.index_parts.specs.declared.postings_row.PostingsRow.{PostingsRow}
use Rattle.index_parts.specs.Parts.{Part}
use Rattle.index_v2.specs.declared.refusal.IndexRefusal.{IndexRefusal}
use Rattle.index_v2.specs.Held.{Held}
use Rattle.index_v2.specs.PostingsLists.{list_of}
use Rattle.series_selection.specs.Selections.{HasNumber, IsListed, StandsUnder, TakesByRows, TakesBy, IsSelection, decides, deciding, rows_read}
use Rattle.series_selection.specs.SelectionSteps.{kept_numbers, numbers_at, left_by_rows, left_by, left_at, selected_at}
use Rattle.series_selection.proofs.NumbersRead.{of_numbers, each_read}
use Rattle.series_selection.proofs.Walk.{own_name}

-- ---- numbers among others

one_of : (numbers : List ℕ) (number : ℕ) → is_one_of numbers number ≡ true → Contains numbers number
one_of numbers number e = let m = member_of_any (λ n. n == number) numbers e in subst (Contains numbers) (eqb-true m.0 number m.2) m.1

is_one : (numbers : List ℕ) (number : ℕ) → Contains numbers number → is_one_of numbers number ≡ true
is_one numbers number has = any_of_member (λ n. n == number) numbers number has (equals_itself number)

tests : Bool → List ℕ → ℕ → Bool
tests wanted others n = if wanted then is_one_of others n else not (is_one_of others n)

kept_among : (wanted : Bool) (others numbers : List ℕ) (number : ℕ) → wanted ≡ true → Contains (kept_numbers wanted others numbers) number → Contains numbers number × Contains others number
kept_among true others numbers number w has = (of_filter (λ n. is_one_of others n) numbers number has, one_of others number (member_passes (λ n. is_one_of others n) numbers number has))
kept_among false others numbers number w has = absurd cc

keep_among : (wanted : Bool) (others numbers : List ℕ) (number : ℕ) → wanted ≡ true → Contains numbers number → Contains others number → Contains (kept_numbers wanted others numbers) number
keep_among true others numbers number w has among = into_filter (λ n. is_one_of others n) numbers number has (is_one others number among)
keep_among false others numbers number w has among = absurd cc

kept_apart : (wanted : Bool) (others numbers : List ℕ) (number : ℕ) → wanted ≡ false → Contains (kept_numbers wanted others numbers) number → Contains numbers number × (Contains others number → ⊥)
kept_apart true others numbers number w has = absurd cc
kept_apart false others numbers number w has = (
  of_filter (λ n. not (is_one_of others n)) numbers number has,
  λ among. not_both (is_one_of others number) (is_one others number among) (not-true (is_one_of others number) (member_passes (λ n. not (is_one_of others n)) numbers number has)),
)

keep_apart : (wanted : Bool) (others numbers : List ℕ) (number : ℕ) → wanted ≡ false → Contains numbers number → (Contains others number → ⊥) → Contains (kept_numbers wanted others numbers) number
keep_apart true others numbers number w has out = absurd cc
keep_apart false others numbers number w has out = into_filter (λ n. not (is_one_of others n)) numbers number has
    (not_from_false (is_one_of others number) (by_bool (is_one_of others number) (λ yes. absurd (out (one_of others number yes))) (λ other. other)))

-- ---- rows that decide

-- a row that decides has the matcher's name
pub decides_name : (m : Matcher) (row : PostingsRow) → decides m row ≡ true → row.name ≡ m.name
decides_name m row e = (bytes_decides row.name m.name).0 (and_parts (bytes_eq row.name m.name) (if is_accepted m.condition [] then not (is_accepted m.condition row.value) else is_accepted m.condition row.value) e).0

chosen_true : (b x y : Bool) → b ≡ true → (if b then x else y) ≡ x
chosen_true b x y e = rw e refl

chosen_false : (b x y : Bool) → b ≡ false → (if b then x else y) ≡ y
chosen_false b x y e = rw e refl

-- where the empty value is accepted it decides by a value that is refused, and else by one that is accepted
decides_refused : (m : Matcher) (row : PostingsRow) → is_accepted m.condition [] ≡ true → decides m row ≡ true → is_accepted m.condition row.value ≡ false
decides_refused m row empty e = not-true (is_accepted m.condition row.value) (sym (chosen_true (is_accepted m.condition []) (not (is_accepted m.condition row.value)) (is_accepted m.condition row.value) empty) ∙ sym (own_name m row (decides_name m row e)) ∙ e)

decides_accepted : (m : Matcher) (row : PostingsRow) → is_accepted m.condition [] ≡ false → decides m row ≡ true → is_accepted m.condition row.value ≡ true
decides_accepted m row empty e = sym (chosen_false (is_accepted m.condition []) (not (is_accepted m.condition row.value)) (is_accepted m.condition row.value) empty) ∙ sym (own_name m row (decides_name m row e)) ∙ e

refused_decides : (m : Matcher) (row : PostingsRow) → is_accepted m.condition [] ≡ true → row.name ≡ m.name → is_accepted m.condition row.value ≡ false → decides m row ≡ true
refused_decides m row empty name e = own_name m row name ∙ chosen_true (is_accepted m.condition []) (not (is_accepted m.condition row.value)) (is_accepted m.condition row.value) empty ∙ not_from_false (is_accepted m.condition row.value) e

accepted_decides : (m : Matcher) (row : PostingsRow) → is_accepted m.condition [] ≡ false → row.name ≡ m.name → is_accepted m.condition row.value ≡ true → decides m row ≡ true
accepted_decides m row empty name e = own_name m row name ∙ chosen_false (is_accepted m.condition []) (not (is_accepted m.condition row.value)) (is_accepted m.condition row.value) empty ∙ e

-- ---- what a matcher takes by the rows, by cases

both_ways : (b : Bool) (P Q : Type 0) → (MatchBool b P Q → (b ≡ true → P) × (b ≡ false → Q)) × (b ≡ true → P → MatchBool b P Q) × (b ≡ false → Q → MatchBool b P Q)
both_ways true P Q = (λ h. (λ e. h, λ e. absurd cc), λ e p. p, λ e q. absurd cc)
both_ways false P Q = (λ h. (λ e. absurd cc, λ e. h), λ e p. absurd cc, λ e q. q)

module _ (Lists : PostingsRow → List ℕ → Type 0) (rows : List PostingsRow) (m : Matcher) (number : ℕ) where
  abbrev pub UnderRefused : Type 0
  UnderRefused = StandsUnder Lists rows m.name (λ value. IsFalse (is_accepted m.condition value)) number

  abbrev pub UnderAccepted : Type 0
  UnderAccepted = StandsUnder Lists rows m.name (λ value. IsTrue (is_accepted m.condition value)) number

  pub taken_apart : is_accepted m.condition [] ≡ true → ¬ UnderRefused → TakesByRows Lists rows m number
  taken_apart empty h = (both_ways (is_accepted m.condition []) (¬ UnderRefused) UnderAccepted).1 empty h

  pub apart_taken : is_accepted m.condition [] ≡ true → TakesByRows Lists rows m number → ¬ UnderRefused
  apart_taken empty h = ((both_ways (is_accepted m.condition []) (¬ UnderRefused) UnderAccepted).0 h).0 empty

  pub taken_among : is_accepted m.condition [] ≡ false → UnderAccepted → TakesByRows Lists rows m number
  taken_among empty h = (both_ways (is_accepted m.condition []) (¬ UnderRefused) UnderAccepted).2 empty h

  pub among_taken : is_accepted m.condition [] ≡ false → TakesByRows Lists rows m number → UnderAccepted
  among_taken empty h = ((both_ways (is_accepted m.condition []) (¬ UnderRefused) UnderAccepted).0 h).1 empty

-- ---- what is taken

-- the lists that are read of these rows are the lists of which Lists speaks
abbrev pub ReadsAs : (PostingsRow → List ℕ → Type 0) → Part → List PostingsRow → Type 0
ReadsAs Lists part rows = (row : PostingsRow) → Contains rows row → (list : List ℕ) → list_of part (Some row) ≡ Ok list → Lists row list

module _ (Lists : PostingsRow → List ℕ → Type 0) (unique : (row : PostingsRow) (one other : List ℕ) → Lists row one → Lists row other → one ≡ other) (part : Part) where
  -- the numbers that were read of rows are those that the rows' lists have
  of_lists : (rows : List PostingsRow) (numbers : List ℕ) (number : ℕ) → ReadsAs Lists part rows → numbers_at part rows ≡ Ok numbers → Contains numbers number → (row : PostingsRow) × Contains rows row × HasNumber Lists row number
  of_lists rows numbers number reads e has =
      let o = of_numbers part rows numbers number e has in
      (o.0, o.1, record { numbers = o.2.0; list_is = reads o.0 o.1 o.2.0 o.2.1; has = o.2.2 })

  into_lists : (rows : List PostingsRow) (numbers : List ℕ) (number : ℕ) (row : PostingsRow) → ReadsAs Lists part rows → numbers_at part rows ≡ Ok numbers → Contains rows row → HasNumber Lists row number → Contains numbers number
  into_lists rows numbers number row reads e among has =
      let o = each_read part rows numbers row e among in
      let same = unique row has.numbers o.0 has.list_is (reads row among o.0 o.1) in
      o.2 number (subst (λ (xs : List ℕ). Contains xs number) same has.has)

  module _ (rows : List PostingsRow) (m : Matcher) where
    -- a number stands in a row that decides exactly where it stands under a value that the matcher refuses, or accepts
    under_refused : (listed : List ℕ) (number : ℕ) → ReadsAs Lists part (filter (decides m) rows) → numbers_at part (filter (decides m) rows) ≡ Ok listed → is_accepted m.condition [] ≡ true → Contains listed number → StandsUnder Lists rows m.name (λ value. IsFalse (is_accepted m.condition value)) number
    under_refused listed number reads e empty has =
        let o = of_lists (filter (decides m) rows) listed number reads e has in
        let passes = member_passes (decides m) rows o.0 o.1 in
        record { row = o.0; among = of_filter (decides m) rows o.0 o.1; name_is = decides_name m o.0 passes; holds = decides_refused m o.0 empty passes; listed = o.2 }

    under_accepted : (listed : List ℕ) (number : ℕ) → ReadsAs Lists part (filter (decides m) rows) → numbers_at part (filter (decides m) rows) ≡ Ok listed → is_accepted m.condition [] ≡ false → Contains listed number → StandsUnder Lists rows m.name (λ value. IsTrue (is_accepted m.condition value)) number
    under_accepted listed number reads e empty has =
        let o = of_lists (filter (decides m) rows) listed number reads e has in
        let passes = member_passes (decides m) rows o.0 o.1 in
        record { row = o.0; among = of_filter (decides m) rows o.0 o.1; name_is = decides_name m o.0 passes; holds = decides_accepted m o.0 empty passes; listed = o.2 }

    listed_refused : (listed : List ℕ) (number : ℕ) → ReadsAs Lists part (filter (decides m) rows) → numbers_at part (filter (decides m) rows) ≡ Ok listed → is_accepted m.condition [] ≡ true → StandsUnder Lists rows m.name (λ value. IsFalse (is_accepted m.condition value)) number → Contains listed number
    listed_refused listed number reads e empty under =
        into_lists (filter (decides m) rows) listed number under.row reads e (into_filter (decides m) rows under.row under.among (refused_decides m under.row empty under.name_is under.holds)) under.listed

    listed_accepted : (listed : List ℕ) (number : ℕ) → ReadsAs Lists part (filter (decides m) rows) → numbers_at part (filter (decides m) rows) ≡ Ok listed → is_accepted m.condition [] ≡ false → StandsUnder Lists rows m.name (λ value. IsTrue (is_accepted m.condition value)) number → Contains listed number
    listed_accepted listed number reads e empty under =
        into_lists (filter (decides m) rows) listed number under.row reads e (into_filter (decides m) rows under.row under.among (accepted_decides m under.row empty under.name_is under.holds)) under.listed

    by_rows : (numbers left : List ℕ) (number : ℕ) → ReadsAs Lists part (filter (decides m) rows) → left_by_rows part rows m numbers ≡ Ok left → Contains left number ↔ (Contains numbers number × TakesByRows Lists rows m number)
    unfolding left_by_rows
    by_rows numbers left number reads e =
        let read = bind_ok _ _ _ e in
        let listed = read.0 in
        let wanted = not (is_accepted m.condition []) in
        let is : kept_numbers wanted listed numbers ≡ left = ok_is {E = IndexRefusal} _ _ read.2 in
        by_bool (is_accepted m.condition [])
        (λ empty.
        let out : wanted ≡ false = rw empty refl in (
          λ has. let k = kept_apart wanted listed numbers number out (subst (λ (xs : List ℕ). Contains xs number) (sym is) has) in
              (k.0, taken_apart Lists rows m number empty (λ under. k.1 (listed_refused listed number reads read.1 empty under))),
          λ h. subst (λ (xs : List ℕ). Contains xs number) is (keep_apart wanted listed numbers number out h.0 (λ among. apart_taken Lists rows m number empty h.1 (under_refused listed number reads read.1 empty among))),
        ))
        (λ empty.
        let in_it : wanted ≡ true = rw empty refl in (
          λ has. let k = kept_among wanted listed numbers number in_it (subst (λ (xs : List ℕ). Contains xs number) (sym is) has) in
              (k.0, taken_among Lists rows m number empty (under_accepted listed number reads read.1 empty k.1)),
          λ h. subst (λ (xs : List ℕ). Contains xs number) is (keep_among wanted listed numbers number in_it h.0 (listed_accepted listed number reads read.1 empty (among_taken Lists rows m number empty h.1))),
        ))

  by_value : (b : Bool) (numbers left : List ℕ) (number : ℕ) → (if b then numbers else []) ≡ left → Contains left number ↔ (Contains numbers number × (b ≡ true))
  by_value true numbers left number e = (λ has. (subst (λ (xs : List ℕ). Contains xs number) (sym e) has, refl), λ h. subst (λ (xs : List ℕ). Contains xs number) e h.0)
  by_value false numbers left number e = (λ has. absurd (no_member number (subst (λ (xs : List ℕ). Contains xs number) (sym e) has)), λ h. absurd (let no = h.1 in cc))

  -- one matcher
  by_one : (found : Option (List ℕ)) (rows : List PostingsRow) (m : Matcher) (numbers left : List ℕ) (number : ℕ) → ReadsAs Lists part (if is_some found then [] else filter (decides m) rows) → left_by found part rows m numbers ≡ Ok left → Contains left number ↔ (Contains numbers number × TakesBy found Lists rows m number)
  by_one (Some value) rows m numbers left number reads e = by_value (is_accepted m.condition value) numbers left number (ok_is {E = IndexRefusal} _ _ e)
  by_one None rows m numbers left number reads e = by_rows rows m numbers left number reads e

-- all matchers
module _ (Lists : PostingsRow → List ℕ → Type 0) (unique : (row : PostingsRow) (one other : List ℕ) → Lists row one → Lists row other → one ≡ other) (held : Held) (external : List Label) where
  by_all : (selector : List Matcher) (numbers left : List ℕ) (number : ℕ) → ReadsAs Lists held.lists (flat_map (deciding external held.rows) selector) → left_at held external selector numbers ≡ Ok left → Contains left number ↔ (Contains numbers number × All (λ m. TakesBy (value_of external m.name) Lists held.rows m number) selector)
  unfolding left_at
  by_all [] numbers left number reads e =
      let same : numbers ≡ left = ok_is {E = IndexRefusal} _ _ e in
      (λ has. (subst (λ (xs : List ℕ). Contains xs number) (sym same) has, All-nil (λ m. TakesBy (value_of external m.name) Lists held.rows m number)), λ h. subst (λ (xs : List ℕ). Contains xs number) same h.0)
  by_all (m ∷ selector) numbers left number reads e =
      let P : Matcher → Type 0 = λ m. TakesBy (value_of external m.name) Lists held.rows m number in
      let b = bind_ok _ _ _ e in
      let one = by_one Lists unique held.lists (value_of external m.name) held.rows m numbers b.0 number (λ row among list read. reads row (Contains-append_left (deciding external held.rows m) (flat_map (deciding external held.rows) selector) row among) list read) b.1 in
      let others = by_all selector b.0 left number (λ row among list read. reads row (Contains-append_right (deciding external held.rows m) (flat_map (deciding external held.rows) selector) row among) list read) b.2 in (
        λ has. let o = others.0 has in let h = one.0 o.0 in (h.0, All-cons P m selector h.1 o.1),
        λ h. others.1 (one.1 (h.0, All-head P m selector h.1), All-tail P m selector h.1),
      )

  listed_first : (rows : List PostingsRow) (part : Part) (listed : List ℕ) (number : ℕ) → ReadsAs Lists part (take 1 rows) → list_of part (slice_get rows 0) ≡ Ok listed → Contains listed number ↔ IsListed Lists rows number
  listed_first [] part listed number reads e = (
    λ has. absurd (no_member number (subst (λ (xs : List ℕ). Contains xs number) (sym (ok_is {E = IndexRefusal} _ _ e)) has)),
    λ is. let no = is.begins in absurd cc,
  )
  listed_first (row ∷ rows) part listed number reads e = (
    λ has. record { first = row; others = rows; begins = refl; listed = record { numbers = listed; list_is = reads row (contains_first row []) listed e; has = has } },
    λ is.
        let begins = is.begins in
        let first : is.first ≡ row = cc in
        let has = is.listed in
        let same : has.numbers ≡ listed = unique row has.numbers listed (subst (λ (r : PostingsRow). Lists r has.numbers) first has.list_is) (reads row (contains_first row []) listed e) in
        subst (λ (xs : List ℕ). Contains xs number) same has.has,
  )

  pub is_selection : (selector : List Matcher) (numbers : List ℕ) → IsStrictlyIncreasing numbers → ReadsAs Lists held.lists (rows_read external held.rows selector) → selected_at held external selector ≡ Ok numbers → IsSelection Lists held.rows external selector numbers
  unfolding selected_at rows_read
  is_selection selector numbers ascend reads e =
      let b = bind_ok _ _ _ e in
      record {
        ascend = ascend;
        taken = λ number.
            let first = listed_first held.rows held.lists b.0 number (λ row among list read. reads row (Contains-append_left (take 1 held.rows) (flat_map (deciding external held.rows) selector) row among) list read) b.1 in
            let all = by_all selector b.0 numbers number (λ row among list read. reads row (Contains-append_right (take 1 held.rows) (flat_map (deciding external held.rows) selector) row among) list read) b.2 in (
              λ has. let a = all.0 has in record { listed = first.0 a.0; by_all = a.1 },
              λ t. all.1 (first.1 t.listed, t.by_all),
            );
      }
