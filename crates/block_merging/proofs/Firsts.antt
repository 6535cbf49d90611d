-- The first patterns of spans of time, one span after another, are the first patterns of all.
use Rattle.std.proofs.Common.{◌≡◌, Bool, true, false, ◌&&◌, ◌||◌, List, [], ◌∷◌, ◌++◌, refl, sym, ap, ◌∙◌, arith, inl, inr, ℤ, Less}
use Rattle.std.specs.Prelude.{Any, All, Contains, Some, int_le, ◌≤ℤ◌, ◌<ℤ◌}
use Rattle.std.specs.List.{AllByRecursion, AllPairs, filter, find, list_any}
use Rattle.std.specs.List.Sorted.{IsStrictlySortedBy}
use Rattle.std.specs.Ordering.{int_cmp, ordering_then}
use Rattle.std.proofs.lemmas.Int.{ints}
use Rattle.std.proofs.lemmas.Bool.{true≢false, and_parts}
use Rattle.std.proofs.lemmas.List.Elements.{All-from_recursion, All-contains, All-contains_itself, Contains-append_cases}
use Rattle.base.proofs.Bools.{by_bool}
use Rattle.base.proofs.Order.{sorted_nil, sorted_append}
use Rattle.base.proofs.Lists.{filter_hit, filter_miss, find_holds, AllByRecursion-append}
use Rattle.base.proofs.Membership.{no_member, contains_first, contains_later, all_members, of_filter, into_filter, member_passes, member_cases}
use Rattle.base.specs.Lists.{joined}
use Rattle.label_sets.specs.declared.label.Label.{Label}
use Rattle.label_sets.specs.Labels.{compare_sets}
use Rattle.label_sets.specs.Triples.{Triple, compare_keys, has_same_key}
use Rattle.vertical_merge.specs.Merged.{AreFirst}
use Rattle.vertical_merge.proofs.Orders.{same_key, set_itself}
use Rattle.vertical_merge.proofs.Laws.{find_here, find_skip}
use Rattle.block_merging.specs.Runs.{Span}
use Rattle.block_merging.proofs.Chains.{any_of, member_of}
use Rattle.block_merging.proofs.OneCut.{le_from, first_apart, others_apart}
use Rattle.block_merging.proofs.Rising.{less_time}

-- whether the triple's time lies in a span
abbrev pub in_span : Span → Triple → Bool
in_span span t = int_le span.begin t.time && int_le t.time span.end

-- what passes one test passes the other, so it is found among those that pass the other
pub find_filter : (q p : Triple → Bool) → ((x : Triple) → q x ≡ true → p x ≡ true) → (xs : List Triple) → find q (filter p xs) ≡ find q xs
find_filter q p only [] = refl
find_filter q p only (x ∷ xs) = by_bool (q x)
    (λ t. ap (find q) (filter_hit p x xs (only x t)) ∙ find_here q x (filter p xs) t ∙ sym (find_here q x xs t))
    (λ f. by_bool (p x)
    (λ u. ap (find q) (filter_hit p x xs u) ∙ find_skip q x (filter p xs) f ∙ find_filter q p only xs ∙ sym (find_skip q x xs f))
    (λ u. ap (find q) (filter_miss p x xs u) ∙ find_filter q p only xs ∙ sym (find_skip q x xs f)))

same_in : (span : Span) (t x : Triple) → in_span span t ≡ true → has_same_key t x ≡ true → in_span span x ≡ true
same_in span t x h same = ap (λ time. int_le span.begin time && int_le time span.end) (sym (same_key t x same).1) ∙ h

abbrev pub IsFirstIn : List Triple → Triple → Type 0
IsFirstIn list t = find (has_same_key t) list ≡ Some t

-- it is in the list, and in the span
taken : (list : List Triple) (span : Span) (kept : List Triple) (t : Triple) → AreFirst (filter (in_span span) list) kept → Contains kept t → Contains (filter (in_span span) list) t
taken list span kept t is among =
    find_holds (Contains (filter (in_span span) list)) (has_same_key t) (filter (in_span span) list) t (All-contains_itself (filter (in_span span) list))
    (All-contains (IsFirstIn (filter (in_span span) list)) kept t is.first among)

first_of_all : (list : List Triple) (span : Span) (kept : List Triple) (t : Triple) → AreFirst (filter (in_span span) list) kept → Contains kept t → IsFirstIn list t
first_of_all list span kept t is among =
    let passes : in_span span t ≡ true = member_passes (in_span span) list t (taken list span kept t is among) in
    sym (find_filter (has_same_key t) (in_span span) (λ x same. same_in span t x passes same) list)
    ∙ All-contains (IsFirstIn (filter (in_span span) list)) kept t is.first among

-- ---- one span after another

-- what is kept of each span
abbrev pub AreFirstOfEach : List Triple → List Span → List (List Triple) → Type 0
AreFirstOfEach list [] [] = Unit {0}
AreFirstOfEach list [] (k ∷ kepts) = ⊥
AreFirstOfEach list (s ∷ spans) [] = ⊥
AreFirstOfEach list (s ∷ spans) (k ∷ kepts) = AreFirst (filter (in_span s) list) k × AreFirstOfEach list spans kepts

between : (a b c d : ℤ) → a ≤ℤ b → b <ℤ c → c ≤ℤ d → a <ℤ d
between a b c d h k e = omega (arith, ints)

no_span : (P : Span → Type 0) → Any P [] → ⊥
no_span P any = absurd (omega (arith, any.2))

module _ (list : List Triple) (labels : List Label) (under : (t : Triple) → Contains list t → t.labels ≡ labels) where
  record Joins (spans : List Span) (kepts : List (List Triple)) : Type 0 where
    ascending : IsStrictlySortedBy compare_keys (joined kepts)
    first : AllByRecursion (IsFirstIn list) (joined kepts)
    inside : (t : Triple) → Contains (joined kepts) t → Contains list t × Any (λ s. in_span s t ≡ true) spans

  less_key : (one other : Triple) → Contains list one → Contains list other → one.time <ℤ other.time → compare_keys one other ≡ Less
  less_key one other here there before =
      ap (λ o. ordering_then o (int_cmp one.time other.time)) (ap (λ l. compare_sets l other.labels) (under one here) ∙ ap (compare_sets labels) (under other there) ∙ set_itself labels)
      ∙ less_time one.time other.time before

  before_span : (span : Span) (t u : Triple) (spans : List Span) → in_span span t ≡ true → All (λ (other : Span). span.end <ℤ other.begin) spans → Any (λ s. in_span s u ≡ true) spans → t.time <ℤ u.time
  before_span span t u spans here apart there =
      let w = member_of (λ s. in_span s u ≡ true) spans there in
      let p = and_parts (int_le span.begin t.time) (int_le t.time span.end) here in
      let q = and_parts (int_le (w.0).begin u.time) (int_le u.time (w.0).end) w.2 in
      between t.time span.end (w.0).begin u.time (le_from t.time span.end p.1) (All-contains (λ (other : Span). span.end <ℤ other.begin) spans w.0 apart w.1) (le_from (w.0).begin u.time q.0)

  joins : (spans : List Span) (kepts : List (List Triple)) → AllPairs (λ (one other : Span). one.end <ℤ other.begin) spans → AreFirstOfEach list spans kepts → Joins spans kepts
  joins [] [] apart each = record { ascending = sorted_nil compare_keys; first = tt; inside = λ t m. absurd (no_member t m) }
  joins [] (k ∷ kepts) apart each = absurd each
  joins (s ∷ spans) [] apart each = absurd each
  joins (s ∷ spans) (k ∷ kepts) apart each =
      let others = joins spans kepts (others_apart s spans apart) each.1 in
      record {
        ascending = sorted_append compare_keys k (joined kepts) each.0.ascending others.ascending (λ t u here there.
            let t_in = taken list s k t each.0 here in
            let u_in = others.inside u there in
            less_key t u (of_filter (in_span s) list t t_in) u_in.0 (before_span s t u spans (member_passes (in_span s) list t t_in) (first_apart s spans apart) u_in.1));
        first = AllByRecursion-append (IsFirstIn list) k (joined kepts) (all_members (IsFirstIn list) k (λ t here. first_of_all list s k t each.0 here)) others.first;
        inside = λ t m. elim (Contains-append_cases k (joined kepts) t m) [
          | inl own ↦ let t_in = taken list s k t each.0 own in
              (of_filter (in_span s) list t t_in, any_of (λ o. in_span o t ≡ true) (s ∷ spans) s (contains_first s spans) (member_passes (in_span s) list t t_in))
          | inr later ↦ let w = others.inside t later in let v = member_of (λ o. in_span o t ≡ true) spans w.1 in
              (w.0, any_of (λ o. in_span o t ≡ true) (s ∷ spans) v.0 (contains_later s v.0 spans v.1) v.2)
        ];
      }

  or_first : (a b : Bool) → a ≡ true → (a || b) ≡ true
  or_first true b e = refl
  or_first false b e = absurd (true≢false (sym e))

  or_second : (a b : Bool) → b ≡ true → (a || b) ≡ true
  or_second true b e = refl
  or_second false b e = e

  any-append : (q : Triple → Bool) (xs ys : List Triple) → list_any q (xs ++ ys) ≡ (list_any q xs || list_any q ys)
  any-append q [] ys = refl
  any-append q (x ∷ xs) ys = elim (q x) as (λ b. (b || list_any q (xs ++ ys)) ≡ ((b || list_any q xs) || list_any q ys)) [
    | true ↦ refl
    | false ↦ any-append q xs ys
  ]

  -- a key of the list that lies in one of the spans is kept there
  kept_in : (spans : List Span) (kepts : List (List Triple)) (t : Triple) → AreFirstOfEach list spans kepts → Contains list t → Any (λ s. in_span s t ≡ true) spans → list_any (has_same_key t) (joined kepts) ≡ true
  kept_in [] [] t each among covered = absurd (no_span (λ s. in_span s t ≡ true) covered)
  kept_in [] (k ∷ kepts) t each among covered = absurd each
  kept_in (s ∷ spans) [] t each among covered = absurd each
  kept_in (s ∷ spans) (k ∷ kepts) t each among covered =
      let w = member_of (λ o. in_span o t ≡ true) (s ∷ spans) covered in
      any-append (has_same_key t) k (joined kepts) ∙ elim (member_cases s w.0 spans w.1) [
        | inl is ↦ or_first (list_any (has_same_key t) k) (list_any (has_same_key t) (joined kepts))
            (All-contains (λ u. list_any (has_same_key u) k ≡ true) (filter (in_span s) list) t each.0.complete (into_filter (in_span s) list t among (ap (λ o. in_span o t) is ∙ w.2)))
        | inr later ↦ or_second (list_any (has_same_key t) k) (list_any (has_same_key t) (joined kepts))
            (kept_in spans kepts t each.1 among (any_of (λ o. in_span o t ≡ true) spans w.0 later w.2))
      ]

  pub first_joined : (spans : List Span) (kepts : List (List Triple)) → AllPairs (λ (one other : Span). one.end <ℤ other.begin) spans → AreFirstOfEach list spans kepts
      → ((t : Triple) → Contains list t → Any (λ s. in_span s t ≡ true) spans) → AreFirst list (joined kepts)
  first_joined spans kepts apart each covered =
      let j = joins spans kepts apart each in
      record {
        ascending = j.ascending;
        first = All-from_recursion (IsFirstIn list) (joined kepts) j.first;
        complete = All-from_recursion (λ t. list_any (has_same_key t) (joined kepts) ≡ true) list
            (all_members (λ t. list_any (has_same_key t) (joined kepts) ≡ true) list (λ t among. kept_in spans kepts t each among (covered t among)));
      }
