-- Where selecting is refused: where reading the lists of the rows that decide is.
use Rattle.std.proofs.Common.{◌≡◌, ℕ, not, List, [], ◌∷◌, ◌++◌, Option, Some, None, Result, Ok, Err, refl, sym, ap, ◌∙◌, inl, inr, ◌⊎◌}
use Rattle.std.specs.Prelude.{slice_get, is_some, if◌then◌else◌, take, IsOk, OnOk, IfErr}
use Rattle.std.specs.List.{Contains, filter, flat_map}
use Rattle.base.proofs.Membership.{contains_first, contains_later}
use Rattle.base.specs.Reading.{◌>>=◌, ◌>>◌, refused_as, Gives}
use Rattle.label_sets.specs.declared.label.Label.{Label}
use Rattle.label_sets.specs.Labels.{value_of}
use Rattle.matchers.specs.declared.matcher.Matcher.{Matcher}
use Rattle.matchers.specs.Selectors.{is_accepted}
use Rattle.index_parts.specs.declared.postings_row.PostingsRow.{PostingsRow}
use Rattle.index_parts.specs.Parts.{Part, file, IsPartOf, HoldsSection}
use Rattle.index_parts.proofs.Slices.{list_of_index}
use Rattle.index_v2.specs.declared.refusal.IndexRefusal.{IndexRefusal}
use Rattle.index_v2.specs.declared.refusal.IndexRefusal.TheVariants.{NoMemory}
use Rattle.index_v2.specs.Opening.{refused_in}
use Rattle.index_v2.specs.Held.{Held}
use Rattle.index_v2.specs.PostingsLists.{list_of}
use Rattle.index_v2.specs.WholeReading.{lists_at}
use Rattle.series_selection.specs.Selections.{decides, deciding, rows_read}
use Rattle.series_selection.specs.SelectionSteps.{kept_numbers, numbers_at, left_by_rows, left_by, left_at, selected_at}

-- whether there is a value, or which refusal
pub ending : {A : Type 0} → Result A IndexRefusal → Result (Unit {0}) IndexRefusal
ending (Ok x) = Ok tt
ending (Err e) = Err e

cons_ending : (r : Result (List ℕ) IndexRefusal) (s : Result (List (List ℕ)) IndexRefusal) → ending (r >>= λ list. s >>= λ others. Ok (list ∷ others)) ≡ (ending r >> ending s)
unfolding ending
cons_ending (Ok list) (Ok others) = refl
cons_ending (Ok list) (Err e) = refl
cons_ending (Err e) s = refl

mapped_ending : {A B : Type 0} (r : Result A IndexRefusal) (f : A → B) → ending (r >>= λ x. Ok (f x)) ≡ ending r
unfolding ending
mapped_ending (Ok x) f = refl
mapped_ending (Err e) f = refl

bound_ending : {A B : Type 0} (r : Result A IndexRefusal) (f : A → Result B IndexRefusal) (t : Result (Unit {0}) IndexRefusal) → ((x : A) → ending (f x) ≡ t) → ending (r >>= f) ≡ (ending r >> t)
unfolding ending
bound_ending (Ok x) f t h = h x
bound_ending (Err e) f t h = refl

then_assoc : (r s t : Result (Unit {0}) IndexRefusal) → (r >> (s >> t)) ≡ ((r >> s) >> t)
then_assoc (Ok x) s t = refl
then_assoc (Err e) s t = refl

then_ok : {A : Type 0} (r : Result A IndexRefusal) → (ending r >> Ok tt) ≡ ending r
unfolding ending
then_ok (Ok x) = refl
then_ok (Err e) = refl

-- ---- lists

lists_none : (part : Part) → ending (lists_at part []) ≡ Ok tt
unfolding ending lists_at
lists_none part = refl

lists_first : (part : Part) (row : PostingsRow) (rows : List PostingsRow) → ending (lists_at part (row ∷ rows)) ≡ (ending (list_of part (Some row)) >> ending (lists_at part rows))
unfolding lists_at
lists_first part row rows = cons_ending (list_of part (Some row)) (lists_at part rows)

lists_append : (part : Part) (rows more : List PostingsRow) → ending (lists_at part (rows ++ more)) ≡ (ending (lists_at part rows) >> ending (lists_at part more))
lists_append part [] more = sym (ap (λ (r : Result (Unit {0}) IndexRefusal). r >> ending (lists_at part more)) (lists_none part))
lists_append part (row ∷ rows) more =
    lists_first part row (rows ++ more)
    ∙ ap (λ (r : Result (Unit {0}) IndexRefusal). ending (list_of part (Some row)) >> r) (lists_append part rows more)
    ∙ then_assoc (ending (list_of part (Some row))) (ending (lists_at part rows)) (ending (lists_at part more))
    ∙ ap (λ (r : Result (Unit {0}) IndexRefusal). r >> ending (lists_at part more)) (sym (lists_first part row rows))

numbers_ending : (part : Part) (rows : List PostingsRow) → ending (numbers_at part rows) ≡ ending (lists_at part rows)
unfolding numbers_at
numbers_ending part rows = mapped_ending (lists_at part rows) (flat_map (λ list. list))

-- ---- matchers

rows_ending : (part : Part) (rows : List PostingsRow) (m : Matcher) (numbers : List ℕ) → ending (left_by_rows part rows m numbers) ≡ ending (lists_at part (filter (decides m) rows))
unfolding left_by_rows
rows_ending part rows m numbers = mapped_ending (numbers_at part (filter (decides m) rows)) (λ (listed : List ℕ). kept_numbers (not (is_accepted m.condition [])) listed numbers) ∙ numbers_ending part (filter (decides m) rows)

value_ending : (part : Part) (numbers : List ℕ) → ending (Ok numbers) ≡ ending (lists_at part [])
unfolding ending lists_at
value_ending part numbers = refl

one_ending : (found : Option (List ℕ)) (part : Part) (rows : List PostingsRow) (m : Matcher) (numbers : List ℕ) → ending (left_by found part rows m numbers) ≡ ending (lists_at part (if is_some found then [] else filter (decides m) rows))
one_ending (Some value) part rows m numbers = value_ending part (if is_accepted m.condition value then numbers else [])
one_ending None part rows m numbers = rows_ending part rows m numbers

all_ending : (held : Held) (external : List Label) (selector : List Matcher) (numbers : List ℕ) → ending (left_at held external selector numbers) ≡ ending (lists_at held.lists (flat_map (deciding external held.rows) selector))
unfolding left_at
all_ending held external [] numbers = value_ending held.lists numbers
all_ending held external (m ∷ selector) numbers =
    bound_ending (left_by (value_of external m.name) held.lists held.rows m numbers) (left_at held external selector) (ending (lists_at held.lists (flat_map (deciding external held.rows) selector))) (all_ending held external selector)
    ∙ ap (λ (r : Result (Unit {0}) IndexRefusal). r >> ending (lists_at held.lists (flat_map (deciding external held.rows) selector))) (one_ending (value_of external m.name) held.lists held.rows m numbers)
    ∙ sym (lists_append held.lists (deciding external held.rows m) (flat_map (deciding external held.rows) selector))

first_ending : (part : Part) (rows : List PostingsRow) → ending (list_of part (slice_get rows 0)) ≡ ending (lists_at part (take 1 rows))
first_ending part [] = value_ending part []
first_ending part (row ∷ rows) = sym (then_ok (list_of part (Some row))) ∙ ap (λ (r : Result (Unit {0}) IndexRefusal). ending (list_of part (Some row)) >> r) (sym (lists_none part)) ∙ sym (lists_first part row [])

pub selected_ending : (held : Held) (external : List Label) (selector : List Matcher) → ending (selected_at held external selector) ≡ ending (lists_at held.lists (rows_read external held.rows selector))
unfolding selected_at rows_read
selected_ending held external selector =
    bound_ending (list_of held.lists (slice_get held.rows 0)) (left_at held external selector) (ending (lists_at held.lists (flat_map (deciding external held.rows) selector))) (all_ending held external selector)
    ∙ ap (λ (r : Result (Unit {0}) IndexRefusal). r >> ending (lists_at held.lists (flat_map (deciding external held.rows) selector))) (first_ending held.lists held.rows)
    ∙ sym (lists_append held.lists (take 1 held.rows) (flat_map (deciding external held.rows) selector))

-- ---- from what is read to the call

ok_by : {A B : Type 0} (r : Result A IndexRefusal) (s : Result B IndexRefusal) (x : A) → ending r ≡ ending s → r ≡ Ok x → IsOk s
unfolding ending
ok_by (Ok y) (Ok z) x same e = refl
ok_by (Ok y) (Err d) x same e = absurd cc
ok_by (Err c) s x same e = absurd cc

err_by : {A B : Type 0} (r : Result A IndexRefusal) (s : Result B IndexRefusal) (e : IndexRefusal) → ending r ≡ ending s → r ≡ Err e → s ≡ Err e
unfolding ending
err_by (Ok y) s e same h = absurd cc
err_by (Err c) (Ok z) e same h = absurd cc
err_by (Err c) (Err d) e same h = cc

pub read_all : {X Y Z : Type 0} (view : X → Y) (result : Result X IndexRefusal) (r : Result Y IndexRefusal) (s : Result Z IndexRefusal) → ending r ≡ ending s → Gives NoMemory view result r → OnOk result (IsOk s)
read_all view (Ok x) r s same is = ok_by r s (view x) same is
read_all view (Err e) r s same why = tt

pub refused_first : {X Y Z : Type 0} (view : X → Y) (result : Result X IndexRefusal) (r : Result Y IndexRefusal) (s : Result Z IndexRefusal) → ending r ≡ ending s → Gives NoMemory view result r → IfErr result (λ e. (e ≡ NoMemory) ⊎ (s ≡ Err e))
refused_first view (Ok x) r s same is = tt
refused_first view (Err e) r s same (inl out) = inl out
refused_first view (Err e) r s same (inr refused) = inr (err_by r s e same refused)

-- ---- lists that lie within a part

pub lists_same : (part : Part) (index : List ℕ) (rows : List PostingsRow) → IsPartOf part index → ((row : PostingsRow) → Contains rows row → HoldsSection part row.offset) → lists_at part rows ≡ lists_at (file index) rows
unfolding lists_at
lists_same part index [] is lies = refl
lists_same part index (row ∷ rows) is lies =
    let here : list_of part (Some row) ≡ list_of (file index) (Some row) = ap (refused_as (refused_in 5)) (list_of_index part index row.offset is (lies row (contains_first row rows))) in
    rw (here, lists_same part index rows is (λ other among. lies other (contains_later row other rows among))) refl
