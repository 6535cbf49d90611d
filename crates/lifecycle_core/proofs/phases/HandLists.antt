-- The hands of a phase: each duty's hand is among them, each once, and there are no more than duties. A task has each of its hands once.
use Rattle.base.proofs.Lists.{AllByRecursion-push}
use Rattle.std.proofs.lemmas.Bool.{or_from, or_left, or_parts, or_right}
use Rattle.std.proofs.Common.{◌≡◌, ℕ, zero, suc, ◌+◌, ◌<◌, ◌≤◌, ◌==◌, Bool, true, false, ◌||◌, cond, List, [], ◌∷◌, ◌++◌, length, map, refl, sym, ◌∙◌, ap, subst, arith}
use Rattle.std.specs.Prelude.{fold}
use Rattle.std.specs.List.{AllByRecursion, list_any, range_with_len}
use Rattle.std.proofs.lemmas.Bool.Decides.{nat_tests}
use Rattle.std.proofs.lemmas.List.{length-append}
use Rattle.std.proofs.lemmas.List.Folds.{list_any-append}
use Rattle.script_workers.specs.Hands.{same_hand, with_hand, with_hands, hands_from, hands_of_task}
use Rattle.script_workers.specs.declared.hand.Hand.{Hand}
use Rattle.script_workers.specs.declared.hand.Hand.TheVariants as hands
use Rattle.script_workers.specs.declared.work.Work.{Work}
use Rattle.script_workers.specs.declared.work.Work.TheVariants as works
use Rattle.script_workers.specs.declared.task.Task.{Task}
use Rattle.script_workers.proofs.HandLaws.{hands_equal, swapped}
use Rattle.lifecycle_core.specs.InLine.{Duty, duties_from}

-- each hand once
abbrev pub Apart : List Hand → Type 0
Apart [] = Unit {0}
Apart (hand ∷ others) = (list_any (same_hand hand) others ≡ false) × Apart others

apart_more : (others : List Hand) (hand : Hand) → Apart others → list_any (same_hand hand) others ≡ false → Apart (others ++ hand ∷ [])
apart_more [] hand apart none = (refl, tt)
apart_more (x ∷ xs) hand apart none =
    let parts = or_parts (same_hand hand x) (list_any (same_hand hand) xs) none in (
      list_any-append (same_hand x) xs (hand ∷ []) ∙ or_from (list_any (same_hand x) xs) (same_hand x hand || false) apart.0 (or_from (same_hand x hand) false (swapped x hand ∙ parts.0) refl),
      apart_more xs hand apart.1 parts.1,
    )

-- what one hand adds to others
record Joins (P : Hand → Type 0) (others : List Hand) (hand : Hand) (all : List Hand) : Type 0 where
  pub kept : (x : Hand) → list_any (same_hand x) others ≡ true → list_any (same_hand x) all ≡ true
  pub added : (x : Hand) → same_hand x hand ≡ true → list_any (same_hand x) all ≡ true
  pub apart : Apart others → Apart all
  pub few : length all ≤ length others + 1
  pub each : P hand → AllByRecursion P others → AllByRecursion P all

found_same : (x hand : Hand) (others : List Hand) → x ≡ hand → list_any (same_hand hand) others ≡ true → list_any (same_hand x) others ≡ true
found_same x hand others is found = subst (λ (h : Hand). list_any (same_hand h) others ≡ true) (sym is) found

joins_known : (P : Hand → Type 0) (others : List Hand) (hand : Hand) → ((x : Hand) → same_hand x hand ≡ true → x ≡ hand) → list_any (same_hand hand) others ≡ true → Joins P others hand others
joins_known P others hand is found = record {
  kept = λ x k. k;
  added = λ x s. found_same x hand others (is x s) found;
  apart = λ a. a;
  few = omega arith;
  each = λ p all. all;
}

joins_new : (P : Hand → Type 0) (others : List Hand) (hand : Hand) → list_any (same_hand hand) others ≡ false → Joins P others hand (others ++ hand ∷ [])
joins_new P others hand none = record {
  kept = λ x k. list_any-append (same_hand x) others (hand ∷ []) ∙ or_left (list_any (same_hand x) others) (same_hand x hand || false) k;
  added = λ x s. list_any-append (same_hand x) others (hand ∷ []) ∙ or_right (list_any (same_hand x) others) (same_hand x hand || false) (or_left (same_hand x hand) false s);
  apart = λ a. apart_more others hand a none;
  few = omega (arith, length-append others (hand ∷ []));
  each = λ p all. AllByRecursion-push P others hand all p;
}

joins_by : (P : Hand → Type 0) (others : List Hand) (hand : Hand) → ((x : Hand) → same_hand x hand ≡ true → x ≡ hand) → (b : Bool) → list_any (same_hand hand) others ≡ b → Joins P others hand (cond b others (others ++ hand ∷ []))
joins_by P others hand is true known = joins_known P others hand is known
joins_by P others hand is false known = joins_new P others hand known

-- what several hands add to others
pub record JoinsAll (P : Hand → Type 0) (others more all : List Hand) : Type 0 where
  pub kept : (x : Hand) → list_any (same_hand x) others ≡ true → list_any (same_hand x) all ≡ true
  pub added : (x : Hand) → list_any (same_hand x) more ≡ true → list_any (same_hand x) all ≡ true
  pub apart : Apart others → Apart all
  pub few : length all ≤ length others + length more
  pub each : AllByRecursion P more → AllByRecursion P others → AllByRecursion P all

joins_none : (P : Hand → Type 0) (others : List Hand) → JoinsAll P others [] others
joins_none P others = record { kept = λ x k. k; added = λ x k. absurd (cc (k)); apart = λ a. a; few = omega arith; each = λ m all. all }

added_first : (P : Hand → Type 0) (others mid all more : List Hand) (hand : Hand) → Joins P others hand mid → JoinsAll P mid more all
    → (x : Hand) (b : Bool) → same_hand x hand ≡ b → (same_hand x hand || list_any (same_hand x) more) ≡ true → list_any (same_hand x) all ≡ true
added_first P others mid all more hand one rest x true is k = rest.kept x (one.added x is)
added_first P others mid all more hand one rest x false is k = rest.added x (rw is at k)

joins_first : (P : Hand → Type 0) (others mid all more : List Hand) (hand : Hand) → Joins P others hand mid → JoinsAll P mid more all → JoinsAll P others (hand ∷ more) all
joins_first P others mid all more hand one rest = record {
  kept = λ x k. rest.kept x (one.kept x k);
  added = λ x k. added_first P others mid all more hand one rest x (same_hand x hand) refl k;
  apart = λ a. rest.apart (one.apart a);
  few = omega (arith, one.few, rest.few);
  each = λ m all. rest.each m.1 (one.each m.0 all);
}

joins_fold : (P : Hand → Type 0) (others more : List Hand) → JoinsAll P others more (fold with_hand others more)
joins_fold P others [] = joins_none P others
joins_fold P others (hand ∷ more) =
    joins_first P others (with_hand others hand) (fold with_hand (with_hand others hand) more) more hand
    (joins_by P others hand (λ x s. hands_equal x hand s) (list_any (same_hand hand) others) refl) (joins_fold P (with_hand others hand) more)

all_parts : (P : Hand → Type 0) (one other : List Hand) → AllByRecursion P (one ++ other) → AllByRecursion P one × AllByRecursion P other
all_parts P [] other all = (tt, all)
all_parts P (x ∷ xs) other all = let rest = all_parts P xs other all.1 in ((all.0, rest.0), rest.1)

added_either : (x : Hand) (one other : List Hand) (A : Type 0) → (list_any (same_hand x) one ≡ true → A) → (list_any (same_hand x) other ≡ true → A) → (b : Bool) → list_any (same_hand x) one ≡ b
    → (list_any (same_hand x) one || list_any (same_hand x) other) ≡ true → A
added_either x one other A f g true is k = f is
added_either x one other A f g false is k = g (rw is at k)

joins_both : (P : Hand → Type 0) (others mid all one other : List Hand) → JoinsAll P others one mid → JoinsAll P mid other all → JoinsAll P others (one ++ other) all
joins_both P others mid all one other first rest = record {
  kept = λ x k. rest.kept x (first.kept x k);
  added = λ x k. added_either x one other (list_any (same_hand x) all ≡ true) (λ l. rest.kept x (first.added x l)) (λ l. rest.added x l) (list_any (same_hand x) one) refl (sym (list_any-append (same_hand x) one other) ∙ k);
  apart = λ a. rest.apart (first.apart a);
  few = omega (arith, first.few, rest.few, length-append one other);
  each = λ m all. let parts = all_parts P one other m in rest.each parts.1 (first.each parts.0 all);
}

abbrev pub hands_in : List Duty → List Hand
hands_in duties = map (λ duty. duty.hand) duties

duties_hands : (hs : List Hand) (place : ℕ) (task : Task) (duties : List Duty) → hands_in (map (λ hand. record { place = place; hand = hand; task = task }) hs ++ duties) ≡ hs ++ hands_in duties
duties_hands [] place task duties = refl
duties_hands (h ∷ hs) place task duties = ap (λ l. h ∷ l) (duties_hands hs place task duties)

pub joins_from : (P : Hand → Type 0) (gateways : ℕ) (others : List Hand) (place : ℕ) (tasks : List Task) → JoinsAll P others (hands_in (duties_from gateways place tasks)) (hands_from gateways others place tasks)
unfolding duties_from hands_from with_hands
joins_from P gateways others place [] = joins_none P others
joins_from P gateways others place (task ∷ tasks) =
    let hs = hands_of_task gateways place task.work in
    let mid = with_hands gateways others place task.work in
    subst (λ (l : List Hand). JoinsAll P others l (hands_from gateways mid (place + 1) tasks)) (sym (duties_hands hs place task (duties_from gateways (place + 1) tasks)))
    (joins_both P others mid (hands_from gateways mid (place + 1) tasks) hs (hands_in (duties_from gateways (place + 1) tasks)) (joins_fold P others hs) (joins_from P gateways mid (place + 1) tasks))

-- a gateway is none of those behind it
none_behind : (gateway first count : ℕ) → gateway < first → list_any (same_hand (hands.Gateway gateway)) (map hands.Gateway (range_with_len first count)) ≡ false
none_behind gateway first zero below = refl
none_behind gateway first (suc count) below =
    or_from (gateway == first) (list_any (same_hand (hands.Gateway gateway)) (map hands.Gateway (range_with_len (first + 1) count))) (grind (arith, nat_tests, below)) (none_behind gateway (first + 1) count (omega (arith, below)))

gateways_apart : (first count : ℕ) → Apart (map hands.Gateway (range_with_len first count))
gateways_apart first zero = tt
gateways_apart first (suc count) = (none_behind first (first + 1) count (omega arith), gateways_apart (first + 1) count)

-- each hand of a task is there once, however many gateways there are
pub task_apart : (gateways place : ℕ) (w : Work) → Apart (hands_of_task gateways place w)
unfolding hands_of_task
task_apart gateways place (works.Upload ulid stop) = (refl, tt)
task_apart gateways place (works.Sync gateway) = (refl, tt)
task_apart gateways place (works.Compact stop) = (refl, tt)
task_apart gateways place (works.Clean stop) = (refl, tt)
task_apart gateways place (works.Query low high selector) = gateways_apart 0 gateways
