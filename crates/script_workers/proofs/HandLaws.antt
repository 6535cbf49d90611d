-- Who is among the hands of a phase: whoever does one of its tasks, each once, and nobody else.
use Rattle.std.proofs.Common.{◌≡◌, ℕ, zero, suc, ◌+◌, ◌≤◌, true, false, ◌||◌, nat_lt, List, [], ◌∷◌, ◌++◌, length, fold, refl, sym, ap, ◌∙◌, subst, arith, ◌⊎◌, inl, inr, Option, Some}
use Rattle.std.specs.Cmp.{IsEquivalence}
use Rattle.std.specs.List.{Contains, list_any, range_with_len, IsDistinct}
use Rattle.std.specs.Prelude.{slice_get}
use Rattle.std.proofs.lemmas.Bool.{cond_both, or_cases}
use Rattle.std.proofs.lemmas.Bool.Decides.{nat_tests}
use Rattle.std.proofs.lemmas.List.Elements.{Contains-append_left, Contains-push, Contains-push_cases}
use Rattle.std.proofs.lemmas.Map.Keys.{IsDistinct-push}
use Rattle.std.proofs.lemmas.Map.Made.{length-le_from_is_member}
use Rattle.std.proofs.lemmas.Map.Views.{Contains-from_any, list_any-from_Contains}
use Rattle.std.proofs.lemmas.Option.{same_Some}
use Rattle.base.proofs.Membership.{contains_first, contains_later, member_cases, no_member}
use Rattle.script_workers.specs.declared.hand.Hand.{Hand}
use Rattle.script_workers.specs.declared.hand.Hand.TheVariants.{Alone, Gateway}
use Rattle.script_workers.specs.declared.task.Task.{Task}
use Rattle.script_workers.specs.declared.work.Work.{Work}
use Rattle.script_workers.specs.declared.work.Work.TheVariants as works
use Rattle.script_workers.specs.Hands.{same_hand, hands_of_task, with_hand, with_hands, hands_from, hands_of, does}
use Rattle.script_workers.specs.Whose.{IsFor, does_alone, syncs, asks, IsTaskOf, AreEnough, FewWorkers}
use Rattle.script_workers.proofs.HandLists.{none_alone_among, gateway_among}
use Rattle.script_workers.specs.Limits.{most_workers}

-- ---- equal hands

pub hands_equal : (one other : Hand) → same_hand one other ≡ true → one ≡ other
hands_equal (Alone one) (Alone other) e = let same : one ≡ other = grind (arith, nat_tests) in ap Alone same
hands_equal (Alone one) (Gateway other) e = absurd cc
hands_equal (Gateway one) (Alone other) e = absurd cc
hands_equal (Gateway one) (Gateway other) e = let same : one ≡ other = grind (arith, nat_tests) in ap Gateway same

pub itself : (hand : Hand) → same_hand hand hand ≡ true
itself (Alone place) = grind (arith, nat_tests)
itself (Gateway gateway) = grind (arith, nat_tests)

pub swapped : (one other : Hand) → same_hand one other ≡ same_hand other one
swapped (Alone one) (Alone other) = grind (arith, nat_tests)
swapped (Alone one) (Gateway other) = refl
swapped (Gateway one) (Alone other) = refl
swapped (Gateway one) (Gateway other) = grind (arith, nat_tests)

pub hands_laws : IsEquivalence same_hand
hands_laws =
    record { refl = itself; symm = swapped; congr = λ x y z same. ap (λ (h : Hand). same_hand h z) (hands_equal x y same) }

-- the test of a member, and that it is one
pub tested : (hands : List Hand) (hand : Hand) → Contains hands hand → list_any (same_hand hand) hands ≡ true
tested hands hand = list_any-from_Contains hands_laws hand hands

pub contained : (hands : List Hand) (hand : Hand) → list_any (same_hand hand) hands ≡ true → Contains hands hand
contained hands hand = Contains-from_any hands_equal hand hands

-- ---- whose a task is

one_hand : (one hand : Hand) → (same_hand hand one || false) ≡ true → hand ≡ one
one_hand one hand h =
    elim (or_cases (same_hand hand one) false h) [
      | inl same ↦ hands_equal hand one same
      | inr none ↦ absurd cc
    ]

pub does_for : (gateways : ℕ) (hand : Hand) (place : ℕ) (work : Work) → does gateways hand place work ≡ true → IsFor gateways hand place work
unfolding hands_of_task
does_for gateways hand place (works.Upload ulid stop) h = does_alone refl (λ g is. cc (is)) (one_hand (Alone place) hand h)
does_for gateways hand place (works.Sync gateway) h = syncs gateway refl (one_hand (Gateway gateway) hand h)
does_for gateways hand place (works.Compact stop) h = does_alone refl (λ g is. cc (is)) (one_hand (Alone place) hand h)
does_for gateways hand place (works.Clean stop) h = does_alone refl (λ g is. cc (is)) (one_hand (Alone place) hand h)
does_for gateways (Alone own) place (works.Query low high selector) h =
    let clash : false ≡ true = sym (none_alone_among own (range_with_len 0 gateways)) ∙ h in absurd cc
does_for gateways (Gateway gateway) place (works.Query low high selector) h =
    let below : nat_lt gateway gateways ≡ true = sym (gateway_among gateway gateways) ∙ h in
    asks gateway refl refl (grind (arith, nat_tests))

pub for_does : (gateways : ℕ) (hand : Hand) (place : ℕ) (work : Work) → IsFor gateways hand place work → does gateways hand place work ≡ true
unfolding hands_of_task
for_does gateways hand place (works.Upload ulid stop) (does_alone none apart who) = rw (who, itself) refl
for_does gateways hand place (works.Compact stop) (does_alone none apart who) = rw (who, itself) refl
for_does gateways hand place (works.Clean stop) (does_alone none apart who) = rw (who, itself) refl
for_does gateways hand place (works.Sync gateway) (does_alone none apart who) = absurd (apart gateway refl)
for_does gateways hand place (works.Query low high selector) (does_alone none apart who) = absurd (cc (none))
for_does gateways hand place work (syncs gateway is who) = rw (is, who, itself) refl
for_does gateways hand place work (asks gateway is who below) =
    let inside : nat_lt gateway gateways ≡ true = grind (arith, nat_tests) in
    rw (is, who) (gateway_among gateway gateways ∙ inside)

-- ---- a hand that joins others

pub with_by : (P : List Hand → Type 0) (others : List Hand) (new : Hand) → (list_any (same_hand new) others ≡ true → P others) → (list_any (same_hand new) others ≡ false → P (others ++ new ∷ [])) → P (with_hand others new)
with_by P others new = cond_both (list_any (same_hand new) others) others (others ++ new ∷ []) P

with_keeps : (others : List Hand) (new hand : Hand) → Contains others hand → Contains (with_hand others new) hand
with_keeps others new hand h =
    with_by (λ hands. Contains hands hand) others new (λ _. h) (λ _. Contains-append_left others (new ∷ []) hand h)

with_has : (others : List Hand) (new : Hand) → Contains (with_hand others new) new
with_has others new =
    with_by (λ hands. Contains hands new) others new (contained others new) (λ _. Contains-push others new)

with_only : (others : List Hand) (new hand : Hand) → Contains (with_hand others new) hand → Contains others hand ⊎ (new ≡ hand)
with_only others new hand =
    with_by (λ hands. Contains hands hand → Contains others hand ⊎ (new ≡ hand)) others new (λ _ h. inl h) (λ _. Contains-push_cases others new hand)

with_once : (others : List Hand) (new : Hand) → IsDistinct same_hand others → IsDistinct same_hand (with_hand others new)
with_once others new once =
    with_by (IsDistinct same_hand) others new (λ _. once) (IsDistinct-push hands_laws others new once)

-- ---- the hands of a task join others

pub fold_keeps : (others more : List Hand) (hand : Hand) → Contains others hand → Contains (fold with_hand others more) hand
fold_keeps others [] hand h = h
fold_keeps others (new ∷ more) hand h =
    fold_keeps (with_hand others new) more hand (with_keeps others new hand h)

pub fold_has : (others more : List Hand) (hand : Hand) → Contains more hand → Contains (fold with_hand others more) hand
fold_has others [] hand h = absurd (no_member hand h)
fold_has others (new ∷ more) hand h =
    elim (member_cases new hand more h) [
      | inl same ↦ fold_keeps (with_hand others new) more hand (subst (Contains (with_hand others new)) same (with_has others new))
      | inr later ↦ fold_has (with_hand others new) more hand later
    ]

pub fold_only : (others more : List Hand) (hand : Hand) → Contains (fold with_hand others more) hand → Contains others hand ⊎ Contains more hand
fold_only others [] hand h = inl h
fold_only others (new ∷ more) hand h =
    elim (fold_only (with_hand others new) more hand h) [
      | inl before ↦
          elim (with_only others new hand before) [
            | inl old ↦ inl old
            | inr same ↦ inr (subst (Contains (new ∷ more)) same (contains_first new more))
          ]
      | inr later ↦ inr (contains_later new hand more later)
    ]

fold_once : (others more : List Hand) → IsDistinct same_hand others → IsDistinct same_hand (fold with_hand others more)
fold_once others [] once = once
fold_once others (new ∷ more) once = fold_once (with_hand others new) more (with_once others new once)

-- ---- the hands of a phase

from_keeps : (gateways : ℕ) (others : List Hand) (base : ℕ) (tasks : List Task) (hand : Hand) → Contains others hand → Contains (hands_from gateways others base tasks) hand
unfolding hands_from with_hands
from_keeps gateways others base [] hand h = h
from_keeps gateways others base (task ∷ tasks) hand h =
    from_keeps gateways (with_hands gateways others base task.work) (base + 1) tasks hand (fold_keeps others (hands_of_task gateways base task.work) hand h)

pub does_here : (gateways : ℕ) (hand : Hand) (base place : ℕ) (first task : Task) → base ≡ place → ◌≡◌ {A = Option Task} (Some first) (Some task) → does gateways hand place task.work ≡ true → does gateways hand base first.work ≡ true
does_here gateways hand base place first task here is does_it =
    ap (λ n. does gateways hand n first.work) here ∙ ap (λ (t : Task). does gateways hand place t.work) (same_Some first task is) ∙ does_it

from_has : (gateways : ℕ) (others : List Hand) (base : ℕ) (tasks : List Task) (hand : Hand) (k place : ℕ) (task : Task) → slice_get tasks k ≡ Some task → base + k ≡ place → does gateways hand place task.work ≡ true → Contains (hands_from gateways others base tasks) hand
unfolding hands_from with_hands
from_has gateways others base [] hand k place task is at does_it = absurd cc
from_has gateways others base (first ∷ tasks) hand zero place task is at does_it =
    from_keeps gateways (with_hands gateways others base first.work) (base + 1) tasks hand
    (fold_has others (hands_of_task gateways base first.work) hand (contained (hands_of_task gateways base first.work) hand (does_here gateways hand base place first task (omega (arith, at)) is does_it)))
from_has gateways others base (first ∷ tasks) hand (suc k) place task is at does_it =
    from_has gateways (with_hands gateways others base first.work) (base + 1) tasks hand k place task is (omega (arith, at)) does_it

-- a task that the hand does
abbrev HasTask : ℕ → Hand → ℕ → List Task → Type 0
HasTask gateways hand base tasks =
    (k : ℕ) × (place : ℕ) × (task : Task) × (slice_get tasks k ≡ Some task) × (base + k ≡ place) × (does gateways hand place task.work ≡ true)

from_only : (gateways : ℕ) (others : List Hand) (base : ℕ) (tasks : List Task) (hand : Hand) → Contains (hands_from gateways others base tasks) hand → Contains others hand ⊎ HasTask gateways hand base tasks
unfolding hands_from with_hands
from_only gateways others base [] hand h = inl h
from_only gateways others base (task ∷ tasks) hand h =
    elim (from_only gateways (with_hands gateways others base task.work) (base + 1) tasks hand h) [
      | inl before ↦
          elim (fold_only others (hands_of_task gateways base task.work) hand before) [
            | inl old ↦ inl old
            | inr new ↦ inr (0, base, task, refl, omega arith, tested (hands_of_task gateways base task.work) hand new)
          ]
      | inr later ↦ let at = later.4 in inr (suc later.0, later.1, later.2, later.3, omega (arith, at), later.5)
    ]

from_once : (gateways : ℕ) (others : List Hand) (base : ℕ) (tasks : List Task) → IsDistinct same_hand others → IsDistinct same_hand (hands_from gateways others base tasks)
unfolding hands_from with_hands
from_once gateways others base [] once = once
from_once gateways others base (task ∷ tasks) once =
    from_once gateways (with_hands gateways others base task.work) (base + 1) tasks (fold_once others (hands_of_task gateways base task.work) once)

none_twice : IsDistinct same_hand []
unfolding IsDistinct
none_twice = tt

module _ (gateways : ℕ) (tasks : List Task) where
  pub are_enough : AreEnough gateways (hands_of gateways tasks) tasks
  are_enough hand place is =
      from_has gateways [] 0 tasks hand place place is.task is.is (omega arith) (for_does gateways hand place is.task.work is.whose)

  pub is_needed : (hand : Hand) → Contains (hands_of gateways tasks) hand → (place : ℕ) × IsTaskOf gateways tasks hand place
  is_needed hand h =
      elim (from_only gateways [] 0 tasks hand h) [
        | inl none ↦ absurd (no_member hand none)
        | inr some ↦
            let at : some.0 ≡ some.1 = let e = some.4 in omega (arith, e) in
            (some.1, record { task = some.2; is = ap (slice_get tasks) (sym at) ∙ some.3; whose = does_for gateways hand some.1 some.2.work some.5 })
      ]

  pub are_once : IsDistinct same_hand (hands_of gateways tasks)
  are_once = from_once gateways [] 0 tasks none_twice

-- ---- how many are enough

pub few_spelled : (gateways : ℕ) (tasks : List Task) → length (hands_of gateways tasks) ≤ most_workers → FewWorkers gateways tasks
few_spelled gateways tasks few =
    record { hands = hands_of gateways tasks; enough = are_enough gateways tasks; few = few }

pub few_counted : (gateways : ℕ) (tasks : List Task) → FewWorkers gateways tasks → length (hands_of gateways tasks) ≤ most_workers
few_counted gateways tasks is =
    let within = λ (hand : Hand) (h : list_any (same_hand hand) (hands_of gateways tasks) ≡ true). let some = is_needed gateways tasks hand (contained (hands_of gateways tasks) hand h) in tested is.hands hand (is.enough hand some.0 some.1) in
    let below : length (hands_of gateways tasks) ≤ length is.hands = length-le_from_is_member hands_laws (hands_of gateways tasks) is.hands (are_once gateways tasks) within in
    let few = is.few in
    omega (arith, below, few)
