-- Workers in the order of their turns give the parts of a task in the order of its hands.
use Rattle.std.proofs.Common.{◌≡◌, ◌≢◌, ◌⊎◌, inl, inr, ℕ, zero, suc, ◌+◌, ◌<◌, ◌≤◌, Bool, true, false, ◌&&◌, List, [], ◌∷◌, ◌++◌, length, map, get_or, Contains, Option, None, Some, refl, sym, ◌∙◌, ap, subst, arith}
use Rattle.std.specs.Prelude.{◌==◌, if◌then◌else◌, slice_get}
use Rattle.std.specs.List.{All, AllByRecursion, AllZip, IsDistinct, flat_map, list_any, range_with_len, zip}
use Rattle.std.specs.List.Sorted.{IsNonDecreasingBy, IsPermutation, IsStrictlySortedBy}
use Rattle.std.specs.Ordering.{nat_cmp}
use Rattle.std.specs.declared.cmp.Ordering.TheVariants.{Less}
use Rattle.std.proofs.lemmas.Bool.{and_from, and_parts}
use Rattle.std.proofs.lemmas.Bool.Decides.{nat_tests}
use Rattle.std.proofs.lemmas.List.Elements.{All-contains, Contains-get_or}
use Rattle.std.proofs.lemmas.List.{get_or-map, length-map}
use Rattle.std.proofs.lemmas.List.Sorted.{Contains-permutation, IsPermutation-sym}
use Rattle.std.proofs.lemmas.Map.Keys.{IsDistinct-head, IsDistinct-tail, apart_from_distinct, sorted_head, sorted_tail}
use Rattle.std.proofs.lemmas.Option.{same_Some, slice_get-get_or, slice_get_within}
use Rattle.base.proofs.Bools.{by_bool, equal_tests, lt-from_Less, not_both}
use Rattle.base.proofs.Membership.{any_of_member, contains_first, contains_later, each_member, into_map, member_cases, member_of_any, no_member}
use Rattle.base.proofs.Pairs.{first_in_zip}
use Rattle.script_workers.specs.Hands.{gateway_of, hands_of_task, own_hand, same_hand}
use Rattle.script_workers.specs.Whose.{IsFor, does_alone, asks, syncs}
use Rattle.script_workers.specs.Works.{asks_all}
use Rattle.script_workers.specs.declared.hand.Hand.{Hand}
use Rattle.script_workers.specs.declared.hand.Hand.TheVariants as hands
use Rattle.script_workers.specs.declared.work.Work.{Work}
use Rattle.script_workers.specs.declared.worker.Worker.{Worker}
use Rattle.script_workers.proofs.HandLaws.{itself}
use Rattle.script_running.specs.Gathering.{back_of, own_parts, paired_with, turn_by, turn_of}
use Rattle.script_running.specs.Outcomes.{Part}
use Rattle.script_running.specs.declared.gathering.CameBack.{CameBack}
use Rattle.script_running.specs.declared.worker.WorkerEnd.{WorkerEnd}

-- ---- a worker's part of one task

-- whether a worker has the task at a place
abbrev pub has_place : ℕ → Worker × WorkerEnd → Bool
has_place place back = list_any (λ q. q == place) back.0.tasks

pub has_it : (place : ℕ) (back : Worker × WorkerEnd) → has_place place back ≡ true → Contains back.0.tasks place
has_it place back has =
    let m = member_of_any (λ q. q == place) back.0.tasks has in
    let same : m.0 ≡ place = let test = m.2 in grind (arith, nat_tests, test) in
    subst (λ (n : ℕ). Contains back.0.tasks n) same m.1

pub has_yes : (place : ℕ) (back : Worker × WorkerEnd) → Contains back.0.tasks place → has_place place back ≡ true
has_yes place back inside = any_of_member (λ q. q == place) back.0.tasks place inside (grind (arith, nat_tests))

none_here : (place : ℕ) (places : List ℕ) (parts : List Part) → list_any (λ q. q == place) places ≡ false → paired_with place (zip places parts) ≡ []
none_here place [] parts none = refl
none_here place (p ∷ places) [] none = refl
none_here place (p ∷ places) (x ∷ parts) none = by_bool (p == place)
    (λ yes. absurd (not_both (list_any (λ q. q == place) (p ∷ places)) (any_of_member (λ q. q == place) (p ∷ places) p (contains_first p places) yes) none))
    (λ no. ap (λ (b : Bool). if b then x ∷ paired_with place (zip places parts) else paired_with place (zip places parts)) no
    ∙ none_here place places parts (by_bool (list_any (λ q. q == place) places)
    (λ later. let m = member_of_any (λ q. q == place) places later in absurd (not_both (list_any (λ q. q == place) (p ∷ places)) (any_of_member (λ q. q == place) (p ∷ places) m.0 (contains_later p m.0 places m.1) m.2) none))
    (λ is. is)))

-- a worker without the task has no part of it
pub has_none : (place : ℕ) (back : Worker × WorkerEnd) → has_place place back ≡ false → own_parts place back ≡ []
has_none place back none = none_here place back.0.tasks back.1.parts.items none

-- what ascends has no place twice
none_later : (p : ℕ) (places : List ℕ) → IsStrictlySortedBy nat_cmp (p ∷ places) → list_any (λ q. q == p) places ≡ false
none_later p places up = by_bool (list_any (λ q. q == p) places)
    (λ yes.
    let m = member_of_any (λ q. q == p) places yes in
    let more : p < m.0 = lt-from_Less p m.0 (each_member (λ q. nat_cmp p q ≡ Less) places m.0 (sorted_head nat_cmp p places up) m.1) in
    let same : m.0 ≡ p = let test = m.2 in grind (arith, nat_tests, test) in absurd (omega (arith, more, same)))
    (λ no. no)

-- one with the task has one part of it
pub paired_once : (place : ℕ) (places : List ℕ) (parts : List Part) → length places ≡ length parts → IsStrictlySortedBy nat_cmp places → Contains places place
    → (one : Part) × (paired_with place (zip places parts) ≡ one ∷ []) × Contains (zip places parts) (place, one)
paired_once place [] parts long up inside = absurd (no_member place inside)
paired_once place (p ∷ places) [] long up inside = absurd (omega (arith, long))
paired_once place (p ∷ places) (x ∷ parts) long up inside = by_bool (p == place)
    (λ yes.
    let same : p ≡ place = grind (arith, nat_tests, yes) in
    let none = subst (λ (n : ℕ). list_any (λ q. q == n) places ≡ false) same (none_later p places up) in (
      x,
      ap (λ (b : Bool). if b then x ∷ paired_with place (zip places parts) else paired_with place (zip places parts)) yes ∙ ap (λ (l : List Part). x ∷ l) (none_here place places parts none),
      subst (λ (n : ℕ). Contains ((p, x) ∷ zip places parts) (n, x)) same (contains_first (p, x) (zip places parts)),
    ))
    (λ no. elim (member_cases p place places inside) [
      | inl same ↦ let yes : (p == place) ≡ true = grind (arith, nat_tests, same) in absurd (not_both (p == place) yes no)
      | inr later ↦
          let one = paired_once place places parts (omega (arith, long)) (sorted_tail nat_cmp p places up) later in
          (one.0, ap (λ (b : Bool). if b then x ∷ paired_with place (zip places parts) else paired_with place (zip places parts)) no ∙ one.1, contains_later (p, x) (place, one.0) (zip places parts) one.2)
    ])

-- ---- two workers with one task

-- both have the task, and one turn
abbrev pub clash : ℕ → Worker × WorkerEnd → Worker × WorkerEnd → Bool
clash place one other = has_place place one && (has_place place other && (turn_of one == turn_of other))

pub clash_says : (place : ℕ) (one other : Worker × WorkerEnd) → clash place one other ≡ true → Contains one.0.tasks place × Contains other.0.tasks place × (turn_of one ≡ turn_of other)
clash_says place one other both =
    let first = and_parts (has_place place one) (has_place place other && (turn_of one == turn_of other)) both in
    let second = and_parts (has_place place other) (turn_of one == turn_of other) first.1 in
    let same : turn_of one ≡ turn_of other = let test = second.1 in grind (arith, nat_tests, test) in
    (has_it place one first.0, has_it place other second.0, same)

pub clash_yes : (place : ℕ) (one other : Worker × WorkerEnd) → Contains one.0.tasks place → Contains other.0.tasks place → turn_of one ≡ turn_of other → clash place one other ≡ true
clash_yes place one other here there same =
    let test : (turn_of one == turn_of other) ≡ true = grind (arith, nat_tests, same) in
    and_from (has_place place one) (has_place place other && (turn_of one == turn_of other)) (has_yes place one here) (and_from (has_place place other) (turn_of one == turn_of other) (has_yes place other there) test)

clash_turned : (place : ℕ) (one other : Worker × WorkerEnd) → clash place one other ≡ true → clash place other one ≡ true
clash_turned place one other both = let c = clash_says place one other both in clash_yes place other one c.1 c.0 (sym c.2)

pub clash_flips : (place : ℕ) (one other : Worker × WorkerEnd) → clash place one other ≡ clash place other one
clash_flips place one other = equal_tests (clash place one other) (clash place other one) (clash_turned place one other) (clash_turned place other one)

alone_is : (gateways p place : ℕ) (w : Work) → IsFor gateways (hands.Alone p) place w → hands.Alone p ≡ hands.Alone place
alone_is gateways p place w (does_alone none apart who) = who
alone_is gateways p place w (syncs gateway is who) = absurd (cc (who))
alone_is gateways p place w (asks gateway is who below) = absurd (cc (who))

-- hands of one task that are of one gateway, or of none, are one
pub one_for : (gateways place : ℕ) (w : Work) (one other : Hand) → IsFor gateways one place w → IsFor gateways other place w → gateway_of one ≡ gateway_of other → one ≡ other
one_for gateways place w (hands.Alone p) (hands.Alone q) here there same = alone_is gateways p place w here ∙ sym (alone_is gateways q place w there)
one_for gateways place w (hands.Alone p) (hands.Gateway g) here there same = absurd (cc (same))
one_for gateways place w (hands.Gateway g) (hands.Alone p) here there same = absurd (cc (same))
one_for gateways place w (hands.Gateway g) (hands.Gateway h) here there same = ap hands.Gateway (same_Some g h same)

pub turns_alike : (one other : Option ℕ) → turn_by one ≡ turn_by other → one ≡ other
turns_alike None None same = refl
turns_alike None (Some other) same = absurd (omega (arith, same))
turns_alike (Some one) None same = absurd (omega (arith, same))
turns_alike (Some one) (Some other) same = let is : one ≡ other = omega (arith, same) in ap (λ (n : ℕ). Some n) is

pub no_twice : (all : List Hand) (i j : ℕ) (one other : Hand) → i < j → slice_get all i ≡ Some one → slice_get all j ≡ Some other → one ≡ other → IsDistinct same_hand all → ⊥
no_twice all i j one other less at there same once =
    let below = slice_get_within all j other there in
    let first = same_Some (get_or all i one) one (sym (slice_get-get_or all i one (omega (arith, less, below))) ∙ at) in
    let second = same_Some (get_or all j one) other (sym (slice_get-get_or all j one below) ∙ there) in
    let apart : same_hand one other ≡ false = subst (λ (h : Hand). same_hand h other ≡ false) first (subst (λ (h : Hand). same_hand (get_or all i one) h ≡ false) second (apart_from_distinct same_hand all i j one once less below)) in
    not_both (same_hand one other) (subst (λ (h : Hand). same_hand one h ≡ true) same (itself one)) apart

-- ---- in the order of turns

pub zip_first_at : (workers : List Worker) (others : List WorkerEnd) (i : ℕ) (d : Worker × WorkerEnd) → i < length (zip workers others) → slice_get workers i ≡ Some (get_or (zip workers others) i d).0
zip_first_at [] others i d below = absurd (omega (arith, below))
zip_first_at (w ∷ workers) [] i d below = absurd (omega (arith, below))
zip_first_at (w ∷ workers) (e ∷ others) zero d below = refl
zip_first_at (w ∷ workers) (e ∷ others) (suc i) d below = zip_first_at workers others i d (omega (arith, below))

-- what holds of workers holds of them as they come back
pub all_back : (P : Worker → Type 0) (workers : List Worker) (others : List WorkerEnd) (backs : List CameBack) → IsPermutation (zip workers others) (map back_of backs) → All P workers → All (λ (back : CameBack). P (back_of back).0) backs
all_back P workers others backs same all = λ k d below.
    let one = get_or backs k d in
    let there = Contains-permutation (map back_of backs) (zip workers others) (back_of one) (IsPermutation-sym (zip workers others) (map back_of backs) same) (into_map back_of backs one (Contains-get_or backs k d below)) in
    All-contains P workers (back_of one).0 all (first_in_zip workers others (back_of one).0 (back_of one).1 there)

-- each is before none of those behind it, and strictly so
abbrev pub AreBehind : {B : Type 0} → (B → ℕ) → List B → Type 0
AreBehind turn [] = Unit {0}
AreBehind turn (b ∷ bs) = All (λ y. turn b ≤ turn y) bs × AreBehind turn bs

abbrev pub AreRising : {H : Type 0} → (H → ℕ) → List H → Type 0
AreRising rank [] = Unit {0}
AreRising rank (h ∷ hs) = AllByRecursion (λ x. rank h < rank x) hs × AreRising rank hs

pub turns_rise : {B : Type 0} (turn : B → ℕ) (bs : List B) → IsNonDecreasingBy turn bs → AreBehind turn bs
turns_rise turn [] up = tt
turns_rise turn (b ∷ bs) up = ((λ k d below. up 0 (suc k) d (omega arith) (omega (arith, below))), turns_rise turn bs (λ i j d within below. up (suc i) (suc j) d (omega (arith, within)) (omega (arith, below))))

-- the order of what lists are made of is theirs
pub up_by : {A B : Type 0} (f : A → B) (turn : B → ℕ) (xs : List A) → IsNonDecreasingBy (λ x. turn (f x)) xs → IsNonDecreasingBy turn (map f xs)
up_by f turn [] up = λ i j d within below. absurd (omega (arith, below))
up_by f turn (x ∷ xs) up = λ i j d within below.
    let less : j < length (x ∷ xs) = omega (arith, below, length-map (x ∷ xs) f) in
    let one = ap turn (get_or-map f (x ∷ xs) i x d (omega (arith, within, less))) in
    let other = ap turn (get_or-map f (x ∷ xs) j x d less) in
    let order = up i j x within less in omega (arith, one, other, order)

abbrev rank : Hand → ℕ
rank h = turn_by (gateway_of h)

above : (low number count : ℕ) → low < number → AllByRecursion (λ x. low + 1 < rank x) (map hands.Gateway (range_with_len number count))
above low number zero less = tt
above low number (suc count) less = (omega (arith, less), above low (number + 1) count (omega (arith, less)))

range_rises : (number count : ℕ) → AreRising rank (map hands.Gateway (range_with_len number count))
range_rises number zero = tt
range_rises number (suc count) = (above number (number + 1) count (omega arith), range_rises (number + 1) count)

-- a task's hands are in the order of their turns
pub hands_rise : (gateways place : ℕ) (w : Work) → AreRising rank (hands_of_task gateways place w)
unfolding hands_of_task
hands_rise gateways place w = by (asks_all w)
  where
    by : (b : Bool) → AreRising rank (if b then map hands.Gateway (range_with_len 0 gateways) else own_hand place w ∷ [])
    by true = range_rises 0 gateways
    by false = (tt, tt)

-- lists, one after another, each what its hand gave
abbrev pub AreOf : {H P : Type 0} → (H → List P → Type 0) → List H → List P → Type 0
AreOf Gave [] parts = parts ≡ []
AreOf {H} {P} Gave (h ∷ hs) parts = (first : List P) × (rest : List P) × (parts ≡ first ++ rest) × Gave h first × AreOf Gave hs rest

module _ {B H P : Type 0} (turn : B → ℕ) (of : H → ℕ) (parts : B → List P) (Gave : H → List P → Type 0) (does : B → Bool) where
  abbrev meets : B → B → Bool
  meets one other = does one && (does other && (turn one == turn other))

  meets_yes : (one other : B) → does one ≡ true → does other ≡ true → turn one ≡ turn other → meets one other ≡ true
  meets_yes one other here there same =
      let test : (turn one == turn other) ≡ true = grind (arith, nat_tests, same) in
      and_from (does one) (does other && (turn one == turn other)) here (and_from (does other) (turn one == turn other) there test)

  -- who does something is a hand, and each hand is one who does something
  abbrev Gives : List B → List H → Type 0
  Gives bs hs = (b : B) → Contains bs b → does b ≡ true → (h : H) × Contains hs h × (of h ≡ turn b) × Gave h (parts b)

  abbrev Has : List B → List H → Type 0
  Has bs hs = (h : H) → Contains hs h → (b : B) × Contains bs b × (turn b ≡ of h) × (does b ≡ true)

  -- one who does nothing is passed over
  passed : (b : B) (bs : List B) (hs : List H) → parts b ≡ [] → AreOf Gave hs (flat_map parts bs) → AreOf Gave hs (flat_map parts (b ∷ bs))
  passed b bs hs none rest = subst (λ (l : List P). AreOf Gave hs (l ++ flat_map parts bs)) (sym none) rest

  has_later : (b : B) (bs : List B) (hs : List H) → does b ≡ false → Has (b ∷ bs) hs → Has bs hs
  has_later b bs hs isnt has h inside =
      let x = has h inside in
      elim (member_cases b x.0 bs x.1) [
        | inl same ↦ absurd (not_both (does x.0) x.3 (subst (λ (y : B). does y ≡ false) same isnt))
        | inr later ↦ (x.0, later, x.2, x.3)
      ]

  -- behind the first one and its hand
  gives_next : (b : B) (bs : List B) (h : H) (hs : List H) → IsDistinct meets (b ∷ bs) → does b ≡ true → of h ≡ turn b → Gives (b ∷ bs) (h ∷ hs) → Gives bs hs
  gives_next b bs h hs once is own gave x inside does_it =
      let k = gave x (contains_later b x bs inside) does_it in
      elim (member_cases h k.0 hs k.1) [
        | inl again ↦
            let twice = meets_yes b x is does_it (sym own ∙ ap of again ∙ k.2) in
            absurd (not_both (meets b x) twice (each_member (λ y. meets b y ≡ false) bs x (IsDistinct-head meets b bs once) inside))
        | inr later ↦ (k.0, later, k.2, k.3)
      ]

  has_next : (b : B) (bs : List B) (h : H) (hs : List H) → AreRising of (h ∷ hs) → of h ≡ turn b → Has (b ∷ bs) (h ∷ hs) → Has bs hs
  has_next b bs h hs rise own has k inside =
      let x = has k (contains_later h k hs inside) in
      elim (member_cases b x.0 bs x.1) [
        | inl first ↦
            let less = each_member (λ y. of h < of y) hs k rise.0 inside in
            let here : of h ≡ of k = own ∙ ap turn first ∙ x.2 in absurd (omega (arith, less, here))
        | inr later ↦ (x.0, later, x.2, x.3)
      ]

  -- the first hand is no later one's
  no_other : (b : B) (bs : List B) (h : H) (hs : List H) (k : H) → AreBehind turn (b ∷ bs) → AreRising of (h ∷ hs) → of k ≡ turn b → Contains hs k → Has (b ∷ bs) (h ∷ hs) → ⊥
  no_other b bs h hs k behind rise own inside has =
      let less = each_member (λ y. of h < of y) hs k rise.0 inside in
      let x = has h (contains_first h hs) in
      elim (member_cases b x.0 bs x.1) [
        | inl first ↦ let here : of h ≡ of k = sym x.2 ∙ ap turn (sym first) ∙ sym own in absurd (omega (arith, less, here))
        | inr later ↦
            let more = All-contains (λ y. turn b ≤ turn y) bs x.0 behind.0 later in
            let other = x.2 in absurd (omega (arith, less, more, own, other))
      ]

  -- Those who do something are hands, one each, and so what they did is in the order of the hands.
  pub aligned : (bs : List B) (hs : List H) → AreBehind turn bs → AreRising of hs → IsDistinct meets bs → Gives bs hs → ((b : B) → does b ≡ false → parts b ≡ []) → Has bs hs → AreOf Gave hs (flat_map parts bs)
  aligned [] [] behind rise once gave none has = refl
  aligned [] (h ∷ hs) behind rise once gave none has = let b = has h (contains_first h hs) in absurd (no_member b.0 b.1)
  aligned (b ∷ bs) [] behind rise once gave none has = by_bool (does b)
      (λ is. let h = gave b (contains_first b bs) is in absurd (no_member h.0 h.1))
      (λ isnt. passed b bs [] (none b isnt) (aligned bs [] behind.1 rise (IsDistinct-tail meets b bs once) (λ x inside. gave x (contains_later b x bs inside)) none (has_later b bs [] isnt has)))
  aligned (b ∷ bs) (h ∷ hs) behind rise once gave none has = by_bool (does b)
      (λ is.
      let own = gave b (contains_first b bs) is in
      elim (member_cases h own.0 hs own.1) [
        | inl same ↦
            let of_it : of h ≡ turn b = ap of same ∙ own.2 in
            (parts b, flat_map parts bs, refl, subst (λ (k : H). Gave k (parts b)) (sym same) own.3, aligned bs hs behind.1 rise.1 (IsDistinct-tail meets b bs once) (gives_next b bs h hs once is of_it gave) none (has_next b bs h hs rise of_it has))
        | inr later ↦ absurd (no_other b bs h hs own.0 behind rise own.2 later has)
      ])
      (λ isnt. passed b bs (h ∷ hs) (none b isnt) (aligned bs (h ∷ hs) behind.1 rise (IsDistinct-tail meets b bs once) (λ x inside. gave x (contains_later b x bs inside)) none (has_later b bs (h ∷ hs) isnt has)))
