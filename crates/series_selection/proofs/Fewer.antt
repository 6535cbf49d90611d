-- What matchers leave of numbers is no more than these, and is among them.
use Rattle.std.proofs.Common.{◌≡◌, ℕ, ◌*◌, ◌≤◌, Bool, true, false, List, [], ◌∷◌, length, get_or, Option, Some, None, Result, Ok, Err, subst, arith}
use Rattle.std.specs.Prelude.{IfOk, not, if◌then◌else◌}
use Rattle.std.specs.List.{All, Contains, filter}
use Rattle.std.proofs.lemmas.List.Elements.{All-contains, All-contains_itself}
use Rattle.base.proofs.Membership.{no_member, of_filter}
use Rattle.base.specs.Lists.{is_one_of}
use Rattle.base.proofs.Binds.{bind_ok, ok_is}
use Rattle.label_sets.specs.declared.label.Label.{Label}
use Rattle.label_sets.specs.Labels.{value_of}
use Rattle.label_sets.proofs.LabelValues.{by_bool}
use Rattle.matchers.specs.declared.matcher.Matcher.{Matcher}
use Rattle.matchers.specs.Selectors.{is_accepted}
use Rattle.index_parts.specs.declared.postings_row.PostingsRow.{PostingsRow}
use Rattle.index_parts.specs.Parts.{Part}
use Rattle.index_v2.specs.declared.refusal.IndexRefusal.{IndexRefusal}
use Rattle.index_v2.specs.Held.{Held}
use Rattle.base.specs.Reading.{Gives}
use Rattle.index_v2.specs.declared.refusal.IndexRefusal.TheVariants.{NoMemory}
use Rattle.series_selection.specs.Selections.{decides}
use Rattle.series_selection.specs.SelectionSteps.{kept_numbers, numbers_at, left_by, left_by_rows, left_at}

pub record AreOf (left numbers : List ℕ) : Type 0 where
  pub few : length left ≤ length numbers
  pub among : (n : ℕ) → Contains left n → Contains numbers n

all_of : (numbers : List ℕ) → AreOf numbers numbers
all_of numbers = record { few = omega arith; among = λ n has. has }

none_of : (numbers : List ℕ) → AreOf [] numbers
none_of numbers = record { few = omega arith; among = λ n has. absurd (no_member n has) }

filter_few : (p : ℕ → Bool) (xs : List ℕ) → length (filter p xs) ≤ length xs
filter_few p [] = omega arith
filter_few p (x ∷ xs) =
    let less = filter_few p xs in
    by_bool {P = length (filter p (x ∷ xs)) ≤ length (x ∷ xs)} (p x) (λ yes. rw yes (omega (arith, less))) (λ no. rw no (omega (arith, less)))

kept_of : (wanted : Bool) (others numbers : List ℕ) → AreOf (kept_numbers wanted others numbers) numbers
kept_of wanted others numbers = record {
  few = filter_few (λ n. if wanted then is_one_of others n else not (is_one_of others n)) numbers;
  among = λ n has. of_filter (λ n. if wanted then is_one_of others n else not (is_one_of others n)) numbers n has;
}

by_choice : (b : Bool) (numbers : List ℕ) → AreOf (if b then numbers else []) numbers
by_choice true numbers = all_of numbers
by_choice false numbers = none_of numbers

rows_of : (part : Part) (rows : List PostingsRow) (m : Matcher) (numbers left : List ℕ) → left_by_rows part rows m numbers ≡ Ok left → AreOf left numbers
unfolding left_by_rows
rows_of part rows m numbers left e =
    let b = bind_ok (numbers_at part (filter (decides m) rows)) (λ xs. Ok (kept_numbers (not (is_accepted m.condition [])) xs numbers)) left e in
    subst (λ (xs : List ℕ). AreOf xs numbers) (ok_is {E = IndexRefusal} _ _ b.2) (kept_of (not (is_accepted m.condition [])) b.0 numbers)

by_of : (found : Option (List ℕ)) (part : Part) (rows : List PostingsRow) (m : Matcher) (numbers left : List ℕ) → left_by found part rows m numbers ≡ Ok left → AreOf left numbers
by_of (Some value) part rows m numbers left e = subst (λ (xs : List ℕ). AreOf xs numbers) (ok_is {E = IndexRefusal} _ _ e) (by_choice (is_accepted m.condition value) numbers)
by_of None part rows m numbers left e = rows_of part rows m numbers left e

left_of : (held : Held) (external : List Label) (selector : List Matcher) (numbers left : List ℕ) → left_at held external selector numbers ≡ Ok left → AreOf left numbers
unfolding left_at
left_of held external [] numbers left e = subst (λ (xs : List ℕ). AreOf xs numbers) (ok_is {E = IndexRefusal} _ _ e) (all_of numbers)
left_of held external (m ∷ selector) numbers left e =
    let b = bind_ok (left_by (value_of external m.name) held.lists held.rows m numbers) (left_at held external selector) left e in
    let one = by_of (value_of external m.name) held.lists held.rows m numbers b.0 b.1 in
    let others = left_of held external selector b.0 left b.2 in
    let fewer = one.few in let few = others.few in
    record { few = omega arith; among = λ n has. one.among n (others.among n has) }

module _ (held : Held) (external : List Label) (selector : List Matcher) (numbers : List ℕ) where
  pub left_small : (P : ℕ → Type 0) (r : Result (List ℕ) IndexRefusal) → Gives NoMemory (λ x. x) r (left_at held external selector numbers) → All P numbers → IfOk r (All P)
  left_small P (Ok left) given all = let of = left_of held external selector numbers left given in λ k d lt. All-contains P numbers (get_or left k d) all (of.among (get_or left k d) (All-contains_itself left k d lt))
  left_small P (Err e) given all = tt

  pub left_few : (most : ℕ) (r : Result (List ℕ) IndexRefusal) → Gives NoMemory (λ x. x) r (left_at held external selector numbers) → 4 * length numbers ≤ most → IfOk r (λ left. 4 * length left ≤ most)
  left_few most (Ok left) given few = let of = left_of held external selector numbers left given in let fewer = of.few in omega (arith, fewer, few)
  left_few most (Err e) given few = tt
