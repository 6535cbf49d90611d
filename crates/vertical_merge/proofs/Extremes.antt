-- The least and the greatest of blocks, one block after another.
use Rattle.std.proofs.Common.{◌≡◌, ℕ, ℤ, pos, neg_ℤ, ◌+◌, ◌-◌, ◌<◌, ◌≤◌, ◌^◌, max, min, List, [], ◌∷◌, ◌++◌, length, get_or, take, drop, refl, sym, ap, ◌∙◌, subst, arith, inl, inr}
use Rattle.std.specs.Prelude.{Any, ◌<ℤ◌, ◌≤ℤ◌}
use Rattle.std.specs.Int.{int_min, int_max}
use Rattle.std.proofs.lemmas.Int.{ints, by_lt_z}
use Rattle.std.proofs.lemmas.Bool.{cases_lt}
use Rattle.std.proofs.lemmas.List.{take_more}
use Rattle.std.proofs.lemmas.List.Elements.{Contains-append_left, Contains-append_right, All-push, All-weaker}
use Rattle.block_meta.specs.declared.meta.Meta.{Meta}
use Rattle.vertical_merge.specs.Compacted.{IsLeast, IsGreatest, IsGreatestLevel, IsNextLevel}
use Rattle.base.proofs.Lists.{take_whole}

any_left : {A : Type 0} (P : A → Type 0) (xs ys : List A) → Any P xs → Any P (xs ++ ys)
any_left P _ _ any =
    let c = Contains-append_left _ _ _ (any.0, any.2, any.3) in
    (c.0, any.1, c.1, c.2, any.4)

any_last : {A : Type 0} (P : A → Type 0) (xs : List A) (x : A) → P x → Any P (xs ++ x ∷ [])
any_last P _ x holds =
    let c = Contains-append_right _ (x ∷ []) x (0, omega arith, refl) in
    (c.0, x, c.1, c.2, holds)

any_one : {A : Type 0} (P : A → Type 0) (x : A) → P x → Any P (x ∷ [])
any_one P x holds = (0, x, omega arith, refl, holds)

min_first : (a b new : ℤ) → new ≡ int_min a b → a ≤ℤ b → new ≡ a
min_first a b _ e le = grind (arith, ints)

min_second : (a b new : ℤ) → new ≡ int_min a b → b <ℤ a → new ≡ b
min_second a b _ e lt = grind (arith, ints)

max_first : (a b new : ℤ) → new ≡ int_max a b → b <ℤ a → new ≡ a
max_first a b _ e lt = grind (arith, ints)

max_second : (a b new : ℤ) → new ≡ int_max a b → a ≤ℤ b → new ≡ b
max_second a b _ e le = grind (arith, ints)

low_itself : (a b : ℤ) → b ≡ a → a ≤ℤ b
low_itself a b e = omega (arith, ints)

pub least_alone : (time_of : Meta → ℤ) (one : Meta) (least : ℤ) → least ≡ time_of one → IsLeast time_of (one ∷ []) least
least_alone time_of one least e = record {
  one = any_one _ _ (sym e);
  none_below = All-push (λ m. least ≤ℤ time_of m) [] one (λ k d lt. absurd (omega arith)) (low_itself _ _ (sym e));
}

pub greatest_alone : (time_of : Meta → ℤ) (one : Meta) (greatest : ℤ) → greatest ≡ time_of one → IsGreatest time_of (one ∷ []) greatest
greatest_alone time_of one greatest e = record {
  one = any_one _ _ (sym e);
  none_above = All-push (λ m. time_of m ≤ℤ greatest) [] one (λ k d lt. absurd (omega arith)) (low_itself _ _ e);
}

least_push : (time_of : Meta → ℤ) (metas : List Meta) (one : Meta) (least new : ℤ) → new ≡ int_min least (time_of one) → IsLeast time_of metas least
    → IsLeast time_of (metas ++ one ∷ []) new
least_push time_of metas one least new e h = by_lt_z _ _
    (λ lt. let same = min_second _ _ _ e lt in record {
      one = any_last _ _ _ (sym same);
      none_below = All-push (λ m. new ≤ℤ time_of m) _ one (All-weaker (λ m. least ≤ℤ time_of m) (λ m. new ≤ℤ time_of m) (λ m under. omega (arith, ints)) metas h.none_below) (omega (arith, ints));
    })
    (λ le. let same : new ≡ least = min_first _ _ _ e le in record {
      one = any_left _ _ _ (subst (λ n. Any (λ m. time_of m ≡ n) metas) (sym same) h.one);
      none_below = All-push (λ m. new ≤ℤ time_of m) _ _ (All-weaker (λ m. least ≤ℤ time_of m) (λ m. new ≤ℤ time_of m) (λ m under. omega (arith, ints)) metas h.none_below) (omega (arith, ints));
    })

greatest_push : (time_of : Meta → ℤ) (metas : List Meta) (one : Meta) (greatest new : ℤ) → new ≡ int_max greatest (time_of one) → IsGreatest time_of metas greatest
    → IsGreatest time_of (metas ++ one ∷ []) new
greatest_push time_of metas one greatest new e h = by_lt_z _ _
    (λ lt. let same = max_first _ _ _ e lt in record {
      one = any_left _ _ _ (subst (λ n. Any (λ m. time_of m ≡ n) metas) (sym same) h.one);
      none_above = All-push (λ m. time_of m ≤ℤ new) _ _ (All-weaker (λ m. time_of m ≤ℤ greatest) (λ m. time_of m ≤ℤ new) (λ m under. omega (arith, ints)) metas h.none_above) (omega (arith, ints));
    })
    (λ le. let same : new ≡ time_of one = max_second greatest _ _ e le in record {
      one = any_last _ _ _ (sym same);
      none_above = All-push (λ m. time_of m ≤ℤ new) _ _ (All-weaker (λ m. time_of m ≤ℤ greatest) (λ m. time_of m ≤ℤ new) (λ m under. omega (arith, ints)) metas h.none_above) (omega (arith, ints));
    })

one_further : (metas : List Meta) (place : ℕ) (one : Meta) → place < length metas → one ≡ get_or metas place one → take (place + 1) metas ≡ take place metas ++ one ∷ []
one_further metas place _ within at = take_more _ _ _ within ∙ ap (λ x. take place metas ++ x ∷ []) (sym at)

pub least_more : (time_of : Meta → ℤ) (first : Meta) (metas : List Meta) (place : ℕ) (one : Meta) (least new : ℤ) → place < length metas → one ≡ get_or metas place one
    → new ≡ int_min least (time_of one) → IsLeast time_of (first ∷ take place metas) least → IsLeast time_of (first ∷ take (place + 1) metas) new
least_more time_of first _ _ _ _ new within at e h =
    subst (λ l. IsLeast time_of (first ∷ l) new) (sym (one_further _ _ _ within at)) (least_push _ _ _ _ _ e h)

pub greatest_more : (time_of : Meta → ℤ) (first : Meta) (metas : List Meta) (place : ℕ) (one : Meta) (greatest new : ℤ) → place < length metas → one ≡ get_or metas place one
    → new ≡ int_max greatest (time_of one) → IsGreatest time_of (first ∷ take place metas) greatest → IsGreatest time_of (first ∷ take (place + 1) metas) new
greatest_more time_of first _ _ _ _ new within at e h =
    subst (λ l. IsGreatest time_of (first ∷ l) new) (sym (one_further _ _ _ within at)) (greatest_push _ _ _ _ _ e h)

-- ---- levels

pub level_alone : (one : Meta) (greatest : ℕ) → greatest ≡ one.level → IsGreatestLevel (one ∷ []) greatest
level_alone one greatest e = record {
  one = any_one _ _ (sym e);
  none_above = All-push (λ m. m.level ≤ greatest) [] one (λ k d lt. absurd (omega arith)) (omega arith);
}

level_push : (metas : List Meta) (one : Meta) (greatest new : ℕ) → new ≡ max one.level greatest → IsGreatestLevel metas greatest → IsGreatestLevel (metas ++ one ∷ []) new
level_push metas one greatest new e h = elim (cases_lt one.level greatest) [
  | inl le ↦ record {
    one = any_left _ _ _ (subst (λ n. Any (λ m. m.level ≡ n) metas) (let same : greatest ≡ new = omega arith in same) h.one);
    none_above = All-push (λ m. m.level ≤ new) _ _ (All-weaker (λ m. m.level ≤ greatest) (λ m. m.level ≤ new) (λ m under. omega arith) metas h.none_above) (omega arith);
  }
  | inr lt ↦ record {
    one = any_last _ _ _ (omega arith);
    none_above = All-push (λ m. m.level ≤ new) _ _ (All-weaker (λ m. m.level ≤ greatest) (λ m. m.level ≤ new) (λ m under. omega arith) metas h.none_above) (omega arith);
  }
]

pub level_more : (first : Meta) (metas : List Meta) (place : ℕ) (one : Meta) (greatest new : ℕ) → place < length metas → one ≡ get_or metas place one
    → new ≡ max one.level greatest → IsGreatestLevel (first ∷ take place metas) greatest → IsGreatestLevel (first ∷ take (place + 1) metas) new
level_more first _ _ _ _ new within at e h =
    subst (λ l. IsGreatestLevel (first ∷ l) new) (sym (one_further _ _ _ within at)) (level_push _ _ _ _ e h)

-- ---- lawful times

early : (metas : List Meta) (least : ℤ) → IsLeast (λ m. m.min_time) metas least → neg_ℤ (pos (2 ^ 62)) ≤ℤ least
early _ _ h = subst (λ t. neg_ℤ (pos (2 ^ 62)) ≤ℤ t) h.one.4 h.one.1.times.early

late : (metas : List Meta) (greatest : ℤ) → IsGreatest (λ m. m.max_time) metas greatest → greatest ≤ℤ pos (2 ^ 62)
late _ _ h = subst (λ t. t ≤ℤ pos (2 ^ 62)) h.one.4 h.one.1.times.late

between : (least greatest begin end : ℤ) → least ≤ℤ begin → begin <ℤ end → end ≤ℤ greatest → least <ℤ greatest
between _ _ _ _ a b c = omega (arith, ints)

-- ---- the inputs and their first

pub first_and_others : (inputs members : List Meta) (first : Meta) → members ≡ inputs → 0 < length members → first ≡ get_or members 0 first
    → inputs ≡ first ∷ take (length members - 1) (drop 1 members)
first_and_others _ [] _ same some at = absurd (omega arith)
first_and_others _ (x ∷ members) first same some at =
    let size : length (x ∷ members) - 1 ≡ length members = omega arith in
    sym same ∙ ap (λ y. y ∷ members) (sym at) ∙ ap (λ l. first ∷ l) (sym (ap (λ n. take n members) size ∙ take_whole _))

pub least_of : (inputs : List Meta) (first : Meta) (others : List Meta) (least out : ℤ) → inputs ≡ first ∷ others → out ≡ least
    → IsLeast (λ m. m.min_time) (first ∷ others) least → IsLeast (λ m. m.min_time) inputs out
least_of _ first others _ out same e h =
    subst (λ l. IsLeast (λ m. m.min_time) l out) (sym same) (subst (IsLeast (λ m. m.min_time) (first ∷ others)) (sym e) h)

pub greatest_of : (inputs : List Meta) (first : Meta) (others : List Meta) (greatest out : ℤ) → inputs ≡ first ∷ others → out ≡ greatest
    → IsGreatest (λ m. m.max_time) (first ∷ others) greatest → IsGreatest (λ m. m.max_time) inputs out
greatest_of _ first others _ out same e h =
    subst (λ l. IsGreatest (λ m. m.max_time) l out) (sym same) (subst (IsGreatest (λ m. m.max_time) (first ∷ others)) (sym e) h)

pub next_level_of : (inputs : List Meta) (first : Meta) (others : List Meta) (greatest level : ℕ) → inputs ≡ first ∷ others → level ≡ min (greatest + 1) 4294967295
    → IsGreatestLevel (first ∷ others) greatest → IsNextLevel inputs level
next_level_of _ _ _ greatest _ same e h = record { greatest = greatest; is_greatest = subst (λ l. IsGreatestLevel l greatest) (sym same) h; next = e }
