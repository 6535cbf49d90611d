-- The walk over the rows of a matcher's name: what was read of the rows before a place.
use Rattle.std.proofs.Common.{◌≡◌, ◌≢◌, ℕ, zero, suc, ◌+◌, ◌<◌, ◌≤◌, Bool, true, false, cond, List, [], ◌∷◌, ◌++◌, length, take, drop, Option, Some, Result, Ok, Err, refl, sym, ap, subst, ◌∙◌, arith, inl, inr}
use mathlib.Core.Bool.{beq}
use Rattle.std.specs.Prelude.{slice_get, not, if◌then◌else◌, OnOk, IfOk}
use Rattle.base.specs.Reading.{Gives}
use Rattle.std.specs.List.{filter}
use Rattle.std.specs.List.Sorted.{IsStrictlyIncreasing, IsStrictlySortedBy}
use Rattle.std.proofs.lemmas.List.{append-nil, take-append-drop}
use Rattle.std.proofs.lemmas.List.Elements.{filter-append, Contains-append_cases}
use Rattle.std.proofs.lemmas.Option.{slice_get_within}
use Rattle.base.proofs.Membership.{no_member, only_member}
use Rattle.label_sets.proofs.LabelValues.{bytes_eq_differs}
use Rattle.matchers.specs.declared.condition.Condition.{Condition}
use Rattle.matchers.specs.declared.matcher.Matcher.{Matcher}
use Rattle.matchers.specs.Selectors.{is_accepted}
use Rattle.index_parts.specs.declared.postings_row.PostingsRow.{PostingsRow}
use Rattle.index_parts.specs.Postings.{IsPostings}
use Rattle.index_parts.specs.Rows.{compare_rows}
use Rattle.index_parts.specs.Opened.{Opened}
use Rattle.base.proofs.Bools.{bytes_eq-itself}
use Rattle.index_v2.specs.declared.refusal.IndexRefusal.{IndexRefusal}
use Rattle.index_v2.specs.declared.refusal.IndexRefusal.TheVariants.{NoMemory}
use Rattle.index_v2.specs.Held.{Held, IsHeldOf}
use Rattle.index_v2.specs.PostingsLists.{list_of}
use Rattle.index_parts.specs.RowOrder.{BeginsAt}
use Rattle.index_v2.proofs.WholeLoops.{drop_at, front_more}
use Rattle.index_v2.proofs.ValuesListed.{differs, behind}
use Rattle.series_selection.specs.Selections.{decides}
use Rattle.series_selection.specs.SelectionSteps.{numbers_at, ListsStand, IsReadOn}
use Rattle.series_selection.proofs.NumbersRead.{numbers_none, numbers_push, numbers_refused}

-- ---- which rows decide

pub other_name : (m : Matcher) (row : PostingsRow) → row.name ≢ m.name → decides m row ≡ false
other_name m row differs = rw (bytes_eq_differs row.name m.name differs) refl

pub own_name : (m : Matcher) (row : PostingsRow) → row.name ≡ m.name → decides m row ≡ (if is_accepted m.condition [] then not (is_accepted m.condition row.value) else is_accepted m.condition row.value)
own_name m row same = rw (same, bytes_eq-itself m.name) refl

chosen_is : (empty a r : Bool) → beq a (not empty) ≡ r → (if empty then not a else a) ≡ r
chosen_is true true r e = e
chosen_is true false r e = e
chosen_is false true r e = e
chosen_is false false r e = e

-- a row of the matcher's name decides exactly where what is said of its value is what is wanted
pub decides_when : (m : Matcher) (row : PostingsRow) (accepted wanted r : Bool) (asked : Condition) → asked ≡ m.condition → row.name ≡ m.name → accepted ≡ is_accepted asked row.value → wanted ≡ not (is_accepted m.condition []) → beq accepted wanted ≡ r → decides m row ≡ r
decides_when m row accepted wanted r asked same name a w e =
    let a' : accepted ≡ is_accepted m.condition row.value = a ∙ ap (λ (c : Condition). is_accepted c row.value) same in
    own_name m row name ∙ chosen_is (is_accepted m.condition []) (is_accepted m.condition row.value) r ((λ i. beq (sym a' i) (sym w i)) ∙ e)

-- ---- filters of the front of a list

module _ {A : Type 0} (p : A → Bool) where
  none_pass : (xs : List A) → ((k : ℕ) (x : A) → slice_get xs k ≡ Some x → p x ≡ false) → filter p xs ≡ []
  none_pass [] none = refl
  none_pass (x ∷ xs) none = rw (none 0 x refl) (none_pass xs (λ k y at. none (suc k) y at))

  front_fails : (n : ℕ) (xs : List A) → ((k : ℕ) (x : A) → k < n → slice_get xs k ≡ Some x → p x ≡ false) → filter p (take n xs) ≡ []
  front_fails zero xs none = refl
  front_fails (suc n) [] none = refl
  front_fails (suc n) (x ∷ xs) none = rw (none 0 x (omega arith) refl) (front_fails n xs (λ k y lt at. none (suc k) y (omega arith) at))

  rest_fails : (n : ℕ) (xs : List A) → ((k : ℕ) (x : A) → n ≤ k → slice_get xs k ≡ Some x → p x ≡ false) → filter p xs ≡ filter p (take n xs)
  rest_fails zero xs none = none_pass xs (λ k x at. none k x (omega arith) at)
  rest_fails (suc n) [] none = refl
  rest_fails (suc n) (x ∷ xs) none = ap (λ (ys : List A). cond (p x) (x ∷ ys) ys) (rest_fails n xs (λ k y le at. none (suc k) y (omega arith) at))

  filter_hit : (x : A) (xs : List A) → p x ≡ true → filter p (x ∷ xs) ≡ x ∷ filter p xs
  filter_hit x xs e = rw e refl

  filter_miss : (x : A) (xs : List A) → p x ≡ false → filter p (x ∷ xs) ≡ filter p xs
  filter_miss x xs e = rw e refl

-- ---- the walk

-- what was read of the rows before the place
pub record ReadSoFar (held : Held) (m : Matcher) (first place : ℕ) (listed : List ℕ) : Type 0 where
  pub from : first ≤ place
  pub read : numbers_at held.lists (filter (decides m) (take place held.rows)) ≡ Ok listed
  pub stand : ListsStand held (filter (decides m) (take place held.rows))

pub stand_none : (held : Held) → ListsStand held []
stand_none held = λ opened is row among list e. absurd (no_member row among)

pub stand_same : (held : Held) (rows other : List PostingsRow) → rows ≡ other → ListsStand held rows → ListsStand held other
stand_same held rows other e stand = subst (ListsStand held) e stand

pub stand_append : (held : Held) (rows more : List PostingsRow) → ListsStand held rows → ListsStand held more → ListsStand held (rows ++ more)
stand_append held rows more a b = λ opened is row among list e. elim (Contains-append_cases rows more row among) [
  | inl here ↦ a opened is row here list e
  | inr later ↦ b opened is row later list e
]

pub ok_same : (one other : List ℕ) (r : Result (List ℕ) IndexRefusal) → r ≡ Ok one → r ≡ Ok other → one ≡ other
ok_same one other r a b = cc

pub stand_one : (held : Held) (row : PostingsRow) (list : List ℕ) → list_of held.lists (Some row) ≡ Ok list → ((opened : Opened) → IsHeldOf held opened → IsPostings opened.bytes row.offset list) → ListsStand held (row ∷ [])
stand_one held row list e is = λ opened h other among l read.
    let same : row ≡ other = only_member row other among in
    let lists : list ≡ l = ok_same list l (list_of held.lists (Some row)) e (ap (λ (r : PostingsRow). list_of held.lists (Some r)) same ∙ read) in
    subst (λ (r : PostingsRow). IsPostings opened.bytes r.offset l) same (subst (λ (xs : List ℕ). IsPostings opened.bytes row.offset xs) lists (is opened h))

pub walk_start : (held : Held) (m : Matcher) (first : ℕ) (listed : List ℕ) → listed ≡ [] → BeginsAt held.rows m.name first → ReadSoFar held m first first listed
walk_start held m first listed none begins =
    let nothing : filter (decides m) (take first held.rows) ≡ [] = front_fails (decides m) first held.rows (λ k row lt at. other_name m row (differs row.name m.name (begins.below k row lt at))) in
    record {
      from = omega arith;
      read = ap (numbers_at held.lists) nothing ∙ numbers_none held.lists ∙ ap Ok (sym none);
      stand = stand_same held [] (filter (decides m) (take first held.rows)) (sym nothing) (stand_none held);
    }

-- a row that does not decide
pub walk_past : (held : Held) (m : Matcher) (first place : ℕ) (listed : List ℕ) (row : PostingsRow) → ReadSoFar held m first place listed → slice_get held.rows place ≡ Some row → decides m row ≡ false → ReadSoFar held m first (place + 1) listed
walk_past held m first place listed row far at not_it =
    let same : filter (decides m) (take (place + 1) held.rows) ≡ filter (decides m) (take place held.rows) = ap (filter (decides m)) (front_more held.rows place row at) ∙ filter-append (decides m) (take place held.rows) (row ∷ []) ∙ ap (λ (xs : List PostingsRow). filter (decides m) (take place held.rows) ++ xs) (filter_miss (decides m) row [] not_it) ∙ append-nil (filter (decides m) (take place held.rows)) in
    let from = far.from in
    record {
      from = omega arith;
      read = ap (numbers_at held.lists) same ∙ far.read;
      stand = stand_same held _ _ (sym same) far.stand;
    }

-- a row whose list was read
pub walk_on : (held : Held) (m : Matcher) (first place : ℕ) (listed new list : List ℕ) (row : PostingsRow) → ReadSoFar held m first place listed → slice_get held.rows place ≡ Some row → decides m row ≡ true → list_of held.lists (Some row) ≡ Ok list → ((opened : Opened) → IsHeldOf held opened → IsPostings opened.bytes row.offset list) → new ≡ listed ++ list → ReadSoFar held m first (place + 1) new
walk_on held m first place listed new list row far at it read is e =
    let same : filter (decides m) (take (place + 1) held.rows) ≡ filter (decides m) (take place held.rows) ++ row ∷ [] = ap (filter (decides m)) (front_more held.rows place row at) ∙ filter-append (decides m) (take place held.rows) (row ∷ []) ∙ ap (λ (xs : List PostingsRow). filter (decides m) (take place held.rows) ++ xs) (filter_hit (decides m) row [] it) in
    let from = far.from in
    record {
      from = omega arith;
      read = ap (numbers_at held.lists) same ∙ numbers_push held.lists (filter (decides m) (take place held.rows)) row listed list far.read read ∙ ap Ok (sym e);
      stand = stand_same held _ _ (sym same) (stand_append held (filter (decides m) (take place held.rows)) (row ∷ []) far.stand (stand_one held row list read is));
    }

-- a row whose list is refused
pub walk_refused : (held : Held) (m : Matcher) (first place : ℕ) (listed : List ℕ) (row : PostingsRow) (e : IndexRefusal) → ReadSoFar held m first place listed → slice_get held.rows place ≡ Some row → decides m row ≡ true → list_of held.lists (Some row) ≡ Err e → numbers_at held.lists (filter (decides m) held.rows) ≡ Err e
walk_refused held m first place listed row e far at it refused =
    let whole : held.rows ≡ take place held.rows ++ row ∷ drop (place + 1) held.rows = sym (take-append-drop place held.rows) ∙ ap (λ (xs : List PostingsRow). take place held.rows ++ xs) (drop_at held.rows place row at) in
    let split : filter (decides m) held.rows ≡ filter (decides m) (take place held.rows) ++ row ∷ filter (decides m) (drop (place + 1) held.rows) = ap (filter (decides m)) whole ∙ filter-append (decides m) (take place held.rows) (row ∷ drop (place + 1) held.rows) ∙ ap (λ (xs : List PostingsRow). filter (decides m) (take place held.rows) ++ xs) (filter_hit (decides m) row (drop (place + 1) held.rows) it) in
    ap (numbers_at held.lists) split ∙ numbers_refused held.lists (filter (decides m) (take place held.rows)) row (filter (decides m) (drop (place + 1) held.rows)) listed e far.read refused

-- what was read once no further row decides
pub record AllRead (held : Held) (m : Matcher) (listed : List ℕ) : Type 0 where
  pub read : numbers_at held.lists (filter (decides m) held.rows) ≡ Ok listed
  pub stand : ListsStand held (filter (decides m) held.rows)

all_read : (held : Held) (m : Matcher) (first place : ℕ) (listed : List ℕ) → ReadSoFar held m first place listed → filter (decides m) held.rows ≡ filter (decides m) (take place held.rows) → AllRead held m listed
all_read held m first place listed far same =
    let read : numbers_at held.lists (filter (decides m) held.rows) ≡ Ok listed = ap (numbers_at held.lists) same ∙ far.read in
    record {
      read = read;
      stand = stand_same held _ _ (sym same) far.stand;
    }

-- a row of another name
pub walk_stop : (held : Held) (m : Matcher) (first place : ℕ) (listed : List ℕ) (row : PostingsRow) → IsStrictlySortedBy compare_rows held.rows → BeginsAt held.rows m.name first → ReadSoFar held m first place listed → slice_get held.rows place ≡ Some row → row.name ≢ m.name → AllRead held m listed
walk_stop held m first place listed row ascend begins far at other =
    all_read held m first place listed far (rest_fails (decides m) place held.rows (λ k r le there. other_name m r (behind held.rows m.name place k row r ascend at (begins.above place row far.from at) other le there)))

-- the last row
pub walk_end : (held : Held) (m : Matcher) (first place : ℕ) (listed : List ℕ) → ReadSoFar held m first place listed → length held.rows ≤ place → AllRead held m listed
walk_end held m first place listed far le =
    all_read held m first place listed far (rest_fails (decides m) place held.rows (λ k r past there. let within = slice_get_within held.rows k r there in absurd (omega arith)))

-- ---- what the calls say

module _ (held : Held) (m : Matcher) (first place : ℕ) (listed : List ℕ) (row : PostingsRow) (far : ReadSoFar held m first place listed) (at : ◌≡◌ {A = Option PostingsRow} (Some row) (slice_get held.rows place)) where
  pub passed : (new : List ℕ) → decides m row ≡ false → new ≡ listed → ReadSoFar held m first (place + 1) new
  passed new not_it e = subst (λ (xs : List ℕ). ReadSoFar held m first (place + 1) xs) (sym e) (walk_past held m first place listed row far (sym at) not_it)

  pub went_on : (new : List ℕ) → decides m row ≡ true → IsReadOn held place listed new → ReadSoFar held m first (place + 1) new
  went_on new it r =
      walk_on held m first place listed new r.list row far (sym at) it (ap (list_of held.lists) at ∙ r.list_is) (λ opened is. r.stands opened is row (ap (λ (rows : List PostingsRow). slice_get rows place) (sym is.rows_are) ∙ sym at)) r.numbers_are

  pub stopped : (e : IndexRefusal) → decides m row ≡ true → list_of held.lists (slice_get held.rows place) ≡ Err e → numbers_at held.lists (filter (decides m) held.rows) ≡ Err e
  stopped e it refused = walk_refused held m first place listed row e far (sym at) it (ap (list_of held.lists) at ∙ refused)

-- one list alone ascends
pub alone_rises : (held : Held) (place : ℕ) (before numbers : List ℕ) → IsReadOn held place before numbers → before ≡ [] → IsStrictlyIncreasing numbers
alone_rises held place before numbers r none = subst IsStrictlyIncreasing (sym (r.numbers_are ∙ ap (λ (xs : List ℕ). xs ++ r.list) none)) r.rises

-- the list of a row
pub row_is_read : (held : Held) (place : ℕ) (r : Result (List ℕ) IndexRefusal) → Gives NoMemory (λ x. x) r (list_of held.lists (slice_get held.rows place)) → IfOk r IsStrictlyIncreasing
    → ((opened : Opened) → IsHeldOf held opened → (row : PostingsRow) → slice_get opened.rows place ≡ Some row → IfOk r (λ numbers. IsPostings opened.bytes row.offset numbers)) → IfOk r (λ list. IsReadOn held place [] list)
row_is_read held place (Ok list) read rise found = record { list = list; list_is = read; numbers_are = refl; rises = rise; stands = found }
row_is_read held place (Err e) read rise found = tt

-- the list of the first row
first_stands : (held : Held) (rows : List PostingsRow) (numbers : List ℕ) → held.rows ≡ rows → list_of held.lists (slice_get rows 0) ≡ Ok numbers
    → ((opened : Opened) → IsHeldOf held opened → (r : PostingsRow) → slice_get opened.rows 0 ≡ Some r → IsPostings opened.bytes r.offset numbers) → ListsStand held (take 1 rows)
first_stands held [] numbers same read found = stand_none held
first_stands held (row ∷ rows) numbers same read found = stand_one held row numbers read (λ opened is. found opened is row (ap (λ (xs : List PostingsRow). slice_get xs 0) (sym is.rows_are ∙ same)))

pub first_stand : (held : Held) (r : Result (List ℕ) IndexRefusal) → Gives NoMemory (λ x. x) r (list_of held.lists (slice_get held.rows 0))
    → ((opened : Opened) → IsHeldOf held opened → (row : PostingsRow) → slice_get opened.rows 0 ≡ Some row → IfOk r (λ numbers. IsPostings opened.bytes row.offset numbers)) → OnOk r (ListsStand held (take 1 held.rows))
first_stand held (Ok numbers) read found = first_stands held held.rows numbers refl read found
first_stand held (Err e) read found = tt
