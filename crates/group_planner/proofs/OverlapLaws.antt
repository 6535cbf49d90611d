-- There is one plan of overlaps, and what two counted runs show.
use Rattle.std.proofs.Common.{◌≡◌, ◌≢◌, ℕ, zero, suc, ◌+◌, ◌-◌, ◌<◌, ◌≤◌, Bool, true, false, not, cond, ◌||◌, eqb, List, [], ◌∷◌, ◌++◌, length, get_or, take, drop, add-one, append_assoc, append-nil, refl, sym, ap, ◌∙◌, subst, arith}
use Rattle.std.specs.Prelude.{ℤ, int_lt}
use Rattle.std.specs.Int.{int_max}
use Rattle.std.proofs.lemmas.Bool.{true≢false, ne_eqb}
use Rattle.std.proofs.lemmas.Int.{ints}
use Rattle.std.proofs.lemmas.List.{take_more, drop_more, take-append-drop}
use Rattle.std.proofs.lemmas.List.Folds.{list_any-append}
use Rattle.block_meta.specs.declared.meta.Meta.{Meta}
use Rattle.base.proofs.Lists.{cons_parts, cons_same, nil_not_middle, nil_not_cons, take_none, drop_none, take_whole}
use Rattle.base.proofs.Bools.{or_false}
use Rattle.group_planner.specs.Runs.{EachPasses, Stops, IsLongestRun}
use Rattle.group_planner.specs.Overlaps.{is_before_end, overlaps, is_apart, overlaps_as, TakesOverlaps, IsOverlapPlan, IsEndOf}
use Rattle.group_planner.proofs.LongestRuns.{one_run, all_or_cut, each_more}

-- ---- there is one

last_parts : {A : Type 0} (xs ys : List A) (x y : A) → xs ++ x ∷ [] ≡ ys ++ y ∷ [] → x ≡ y
last_parts [] [] x y e = (cons_parts x y [] [] e).0
last_parts [] (z ∷ ys) x y e = absurd (nil_not_middle y ys [] ((cons_parts x z [] (ys ++ y ∷ []) e).1))
last_parts (w ∷ xs) [] x y e = absurd (nil_not_middle x xs [] (sym ((cons_parts w y (xs ++ x ∷ []) [] e).1)))
last_parts (w ∷ xs) (z ∷ ys) x y e = last_parts xs ys x y ((cons_parts w z (xs ++ x ∷ []) (ys ++ y ∷ []) e).1)

apart_all : (members : List Meta) (first : Meta) (run : List Meta) → EachPasses is_apart [] members → TakesOverlaps members first run → ⊥
apart_all members first [] each takes = takes.some refl
apart_all members first (r ∷ run) each takes = all_or_cut is_apart [] members (takes.front ++ first ∷ []) (run ++ takes.behind) r each takes.apart takes.are

pub one_overlap : (members one other : List Meta) → IsOverlapPlan members one → IsOverlapPlan members other → one ≡ other
one_overlap members [] [] a b = refl
one_overlap members [] (y ∷ run) a b = absurd (apart_all members y run a b)
one_overlap members (x ∷ run) [] a b = absurd (apart_all members x run b a)
one_overlap members (x ∷ run) (y ∷ other) a b =
    let cut : (a.front ++ x ∷ [] ≡ b.front ++ y ∷ []) × (run ++ a.behind ≡ other ++ b.behind) =
    one_run is_apart [] (a.front ++ x ∷ []) (run ++ a.behind) (b.front ++ y ∷ []) (other ++ b.behind) a.apart b.apart (sym a.are ∙ b.are) in
    let same : (run ≡ other) × (a.behind ≡ b.behind) =
    one_run overlaps (b.front ++ y ∷ []) run a.behind other b.behind (subst (λ l. IsLongestRun overlaps l run a.behind) cut.0 a.longest) b.longest cut.1 in
    cons_same x y run other (last_parts a.front b.front x y cut.0) same.0

-- ---- where the latest of some blocks ends

before_later : (time a b : ℤ) → int_lt time (int_max a b) ≡ (int_lt time a || int_lt time b)
before_later time a b = grind (arith, ints)

pub end_alone : (meta : Meta) → IsEndOf (meta ∷ []) meta.max_time
end_alone meta time = sym (or_false (int_lt time meta.max_time))

pub end_more : (before : List Meta) (one : Meta) (end new : ℤ) → new ≡ int_max end one.max_time → IsEndOf before end → IsEndOf (before ++ one ∷ []) new
end_more before one end new e is time =
    ap (int_lt time) e ∙ before_later time end one.max_time ∙ ap (λ b. b || int_lt time one.max_time) (is time)
    ∙ ap (λ b. is_before_end before time || b) (end_alone one time)
    ∙ sym (list_any-append (λ earlier. int_lt time earlier.max_time) before (one ∷ []))

-- ---- what a loop has counted

pub record Counted (wanted : Bool) (metas : List Meta) (place : ℕ) (begin end : ℤ) : Type 0 where
  pub each : (before : List Meta) → IsEndOf before begin → EachPasses (overlaps_as wanted) before (take place metas)
  pub end_is : (before : List Meta) → IsEndOf before begin → IsEndOf (before ++ take place metas) end

as_wanted : (wanted test : Bool) (before : List Meta) (one : Meta) → overlaps before one ≡ test → test ≡ wanted → overlaps_as wanted before one ≡ true
as_wanted true test before one is e = is ∙ e
as_wanted false test before one is e = ap not (is ∙ e)

not_wanted : (wanted test : Bool) (before : List Meta) (one : Meta) → overlaps before one ≡ test → (test ≡ wanted → ⊥) → overlaps_as wanted before one ≡ false
not_wanted true true before one is e = absurd (e refl)
not_wanted true false before one is e = is
not_wanted false true before one is e = ap not is
not_wanted false false before one is e = absurd (e refl)

one_further : (metas : List Meta) (place : ℕ) (one : Meta) (before : List Meta) → place < length metas → one ≡ get_or metas place one
    → (before ++ take place metas) ++ one ∷ [] ≡ before ++ take (place + 1) metas
one_further metas place one before within at =
    append_assoc before (take place metas) (one ∷ []) ∙ ap (λ l. before ++ l) (ap (λ x. take place metas ++ x ∷ []) at ∙ sym (take_more metas place one within))

pub counted_more : (wanted : Bool) (metas : List Meta) (place : ℕ) (one : Meta) (begin end new : ℤ) → place < length metas → one ≡ get_or metas place one
    → int_lt one.min_time end ≡ wanted → new ≡ int_max end one.max_time → Counted wanted metas place begin end → Counted wanted metas (place + 1) begin new
counted_more wanted metas place one begin end new within at test e so_far = record {
  each = λ before is. each_more (overlaps_as wanted) before metas place one within at (so_far.each before is)
      (as_wanted wanted (int_lt one.min_time end) (before ++ take place metas) one (sym (so_far.end_is before is one.min_time)) test);
  end_is = λ before is. subst (λ l. IsEndOf l new) (one_further metas place one before within at)
      (end_more (before ++ take place metas) one end new e (so_far.end_is before is));
}

pub record Run (wanted : Bool) (metas : List Meta) (count : ℕ) (begin end : ℤ) : Type 0 where
  pub within : count ≤ length metas
  pub longest : (before : List Meta) → IsEndOf before begin → IsLongestRun (overlaps_as wanted) before (take count metas) (drop count metas)
  pub end_is : (before : List Meta) → IsEndOf before begin → IsEndOf (before ++ take count metas) end

pub nothing_behind : {A : Type 0} (test : List A → A → Bool) (before members : List A) → Stops test before (drop (length members) members)
nothing_behind test before [] = tt
nothing_behind test before (x ∷ members) = nothing_behind test before members

-- ---- the plan from two runs

apart_from_first : (first : Meta) (others : List Meta) (apart : ℕ)
    → ((before : List Meta) → IsEndOf before first.max_time → IsLongestRun (overlaps_as false) before (take apart others) (drop apart others))
    → IsLongestRun is_apart [] (first ∷ take apart others) (drop apart others)
apart_from_first first others apart longest =
    let run : IsLongestRun (overlaps_as false) (first ∷ []) (take apart others) (drop apart others) = longest (first ∷ []) (end_alone first) in
    record { each = (refl, run.each); ends = run.ends }

not_both : (b : Bool) → not b ≡ false → b ≡ false → ⊥
not_both true a c = true≢false c
not_both false a c = true≢false a

-- where the apart run is not followed by an overlapping one, nothing follows
none_follows : (front left : List Meta) → Stops is_apart front left → Stops overlaps front left → left ≡ []
none_follows front [] a b = refl
none_follows front (one ∷ left) a b = absurd (not_both (overlaps front one) a b)

all_apart : (members front left : List Meta) → members ≡ front ++ left → left ≡ [] → EachPasses is_apart [] front → EachPasses is_apart [] members
all_apart members front left are none each = subst (EachPasses is_apart []) (sym (are ∙ ap (λ l. front ++ l) none ∙ append-nil front)) each

some_taken : {A : Type 0} (count : ℕ) (xs : List A) → suc count ≤ length xs → take (suc count) xs ≢ []
some_taken count [] le e = omega arith
some_taken count (x ∷ xs) le e = nil_not_cons x (take count xs) (sym e)

taken : (first : Meta) (others : List Meta) (apart count : ℕ) → apart ≤ length others → suc count ≤ length (drop apart others)
    → IsLongestRun is_apart [] (first ∷ take apart others) (drop apart others)
    → IsLongestRun overlaps (first ∷ take apart others) (take (suc count) (drop apart others)) (drop (suc count) (drop apart others))
    → TakesOverlaps (first ∷ others) (get_or (first ∷ others) apart first) (take (suc count) (drop apart others))
taken first others apart count within some run longest =
    let front : first ∷ take apart others ≡ take apart (first ∷ others) ++ get_or (first ∷ others) apart first ∷ [] =
    sym (ap (λ n. take n (first ∷ others)) (add-one apart)) ∙ take_more (first ∷ others) apart first (omega arith) in
    let parts : first ∷ others ≡ (first ∷ take apart others) ++ (take (suc count) (drop apart others) ++ drop (suc count) (drop apart others)) =
    ap (λ l. first ∷ l) (sym (take-append-drop apart others)) ∙ ap (λ l. (first ∷ take apart others) ++ l) (sym (take-append-drop (suc count) (drop apart others))) in
    record {
      front = take apart (first ∷ others);
      behind = drop (suc count) (drop apart others);
      are = subst (λ l. first ∷ others ≡ l ++ (take (suc count) (drop apart others) ++ drop (suc count) (drop apart others))) front parts;
      apart = subst (λ l. IsLongestRun is_apart [] l (take (suc count) (drop apart others) ++ drop (suc count) (drop apart others))) front
          (subst (IsLongestRun is_apart [] (first ∷ take apart others)) (sym (take-append-drop (suc count) (drop apart others))) run);
      longest = subst (λ l. IsLongestRun overlaps l (take (suc count) (drop apart others)) (drop (suc count) (drop apart others))) front longest;
      some = some_taken count (drop apart others) some;
    }

-- the member at the place, and the run behind it
member_and_run : (first : Meta) (others : List Meta) (apart count : ℕ) → apart ≤ length others
    → take (suc count + 1) (drop apart (first ∷ others)) ≡ get_or (first ∷ others) apart first ∷ take (suc count) (drop apart others)
member_and_run first others apart count within =
    ap (λ n. take n (drop apart (first ∷ others))) (add-one (suc count))
    ∙ ap (take (suc (suc count))) (drop_more (first ∷ others) apart first (omega arith) ∙ ap (λ n. get_or (first ∷ others) apart first ∷ drop n (first ∷ others)) (add-one apart))

pub overlap_found : (first : Meta) (others : List Meta) (apart count : ℕ) (plan : List Meta) → apart ≤ length others → count ≤ length (drop apart others)
    → ((before : List Meta) → IsEndOf before first.max_time → IsLongestRun (overlaps_as false) before (take apart others) (drop apart others))
    → IsLongestRun overlaps (first ∷ take apart others) (take count (drop apart others)) (drop count (drop apart others))
    → plan ≡ cond (eqb count 0) [] (take (count + 1) (drop apart (first ∷ others)))
    → IsOverlapPlan (first ∷ others) plan
overlap_found first others apart zero plan within some run longest e =
    let cut : IsLongestRun is_apart [] (first ∷ take apart others) (drop apart others) = apart_from_first first others apart run in
    let ends : Stops overlaps (first ∷ take apart others) (drop apart others) =
    subst (λ l. Stops overlaps l (drop apart others)) (ap (λ l. first ∷ (take apart others ++ l)) (take_none (drop apart others)) ∙ append-nil (first ∷ take apart others))
    (subst (Stops overlaps ((first ∷ take apart others) ++ take 0 (drop apart others))) (drop_none (drop apart others)) longest.ends) in
    subst (IsOverlapPlan (first ∷ others)) (sym e)
    (all_apart (first ∷ others) (first ∷ take apart others) (drop apart others) (ap (λ l. first ∷ l) (sym (take-append-drop apart others)))
    (none_follows (first ∷ take apart others) (drop apart others) cut.ends ends) cut.each)
overlap_found first others apart (suc count) plan within some run longest e =
    let more : eqb (suc count) 0 ≡ false = ne_eqb (suc count) 0 (λ none. omega arith) in
    subst (IsOverlapPlan (first ∷ others))
    (sym (e ∙ ap (λ b. cond b [] (take (suc count + 1) (drop apart (first ∷ others)))) more ∙ member_and_run first others apart count within))
    (taken first others apart count within some (apart_from_first first others apart run) longest)

pub first_and_others : (metas : List Meta) (first : Meta) → 0 < length metas → first ≡ get_or metas 0 first → metas ≡ first ∷ take (length metas - 1) (drop 1 metas)
first_and_others [] first some at = absurd (omega arith)
first_and_others (x ∷ metas) first some at =
    let size : length (x ∷ metas) - 1 ≡ length metas = omega arith in
    ap (λ y. y ∷ metas) (sym at) ∙ ap (λ l. first ∷ l) (sym (ap (λ n. take n metas) size ∙ take_whole metas))

-- the plan, where numbers and lists were passed on
pub overlap_at_of : (metas : List Meta) (first : Meta) (others left plan : List Meta) (apart count : ℕ) (begin end passed : ℤ) → metas ≡ first ∷ others
    → begin ≡ first.max_time → passed ≡ end → apart ≤ length others → count ≤ length left → left ≡ drop apart others
    → ((before : List Meta) → IsEndOf before begin → IsLongestRun (overlaps_as false) before (take apart others) (drop apart others))
    → ((before : List Meta) → IsEndOf before begin → IsEndOf (before ++ take apart others) end)
    → ((before : List Meta) → IsEndOf before passed → IsLongestRun (overlaps_as true) before (take count left) (drop count left))
    → plan ≡ cond (eqb count 0) [] (take (count + 1) (drop apart metas)) → IsOverlapPlan metas plan
overlap_at_of metas first others left plan apart count begin end passed whole is_begin is_end within enough is_left run ends longest e =
    let known : IsEndOf (first ∷ []) begin = subst (IsEndOf (first ∷ [])) (sym is_begin) (end_alone first) in
    let known_end : IsEndOf (first ∷ take apart others) passed = subst (IsEndOf (first ∷ take apart others)) (sym is_end) (ends (first ∷ []) known) in
    subst (λ l. IsOverlapPlan l plan) (sym whole)
    (overlap_found first others apart count plan within (subst (λ l. count ≤ length l) is_left enough)
    (λ before is. run before (subst (IsEndOf before) (sym is_begin) is))
    (subst (λ l. IsLongestRun overlaps (first ∷ take apart others) (take count l) (drop count l)) is_left (longest (first ∷ take apart others) known_end))
    (e ∙ ap (λ l. cond (eqb count 0) [] (take (count + 1) (drop apart l))) whole))
