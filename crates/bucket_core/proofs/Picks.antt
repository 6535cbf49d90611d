-- What is picked from a rising list of names.
use Rattle.std.proofs.Common.{◌≡◌, ◌⊎◌, ℕ, ◌≤◌, ◌-◌, zero, suc, true, false, cond, List, [], ◌∷◌, length, Some, refl, sym, ◌∙◌, ap, subst, inl, inr, arith}
use Rattle.std.specs.Prelude.{◌==◌, Contains}
use Rattle.std.specs.List.{AllByRecursion}
use Rattle.std.specs.Ordering.{is_lt, ordering_reverse}
use Rattle.std.specs.declared.cmp.Ordering.{Ordering}
use Rattle.std.specs.declared.cmp.Ordering.TheVariants.{Less, Equal, Greater}
use Rattle.std.proofs.lemmas.Bool.{cases_Bool, ne_eqb}
use Rattle.std.proofs.lemmas.Cmp.{nat_list_cmp_total}
use Rattle.base.proofs.Bools.{Less-from_is_lt}
use Rattle.base.specs.Order.{InOrderAfter, ComesAfter}
use Rattle.base.specs.Ordered.{Rises}
use Rattle.base.proofs.Membership.{contains_first, contains_later, each_member, member_cases, no_member}
use Rattle.label_sets.specs.Labels.{ComesBefore, compare_texts, is_lesser_text}
use Rattle.bucket_core.specs.Stored.{picked}
use Rattle.bucket_core.proofs.Places.{texts_equal}

-- the three outcomes of picking from a list with a first name
picked_pass : (last : List ℕ) (limit : ℕ) (n : List ℕ) (ns : List (List ℕ)) → is_lesser_text last n ≡ false → picked last limit (n ∷ ns) ≡ picked last limit ns
picked_pass last limit n ns e = ap (λ b. cond b (cond (limit == 0) [] (n ∷ picked n (limit - 1) ns)) (picked last limit ns)) e

picked_full : (last : List ℕ) (n : List ℕ) (ns : List (List ℕ)) → is_lesser_text last n ≡ true → picked last 0 (n ∷ ns) ≡ []
picked_full last n ns e = ap (λ b. cond b [] (picked last 0 ns)) e

picked_take : (last : List ℕ) (k : ℕ) (n : List ℕ) (ns : List (List ℕ)) → is_lesser_text last n ≡ true → picked last (suc k) (n ∷ ns) ≡ n ∷ picked n k ns
picked_take last k n ns e =
    ap (λ b. cond b (cond (suc k == 0) [] (n ∷ picked n (suc k - 1) ns)) (picked last (suc k) ns)) e
    ∙ ap (λ b. cond b [] (n ∷ picked n (suc k - 1) ns)) (ne_eqb (suc k) 0 (λ same. omega arith))
    ∙ (let one : suc k - 1 ≡ k = omega arith in ap (λ j. n ∷ picked n j ns) one)

-- a property of what is picked, by these outcomes
by_picked : (P : List (List ℕ) → Type 0) (last : List ℕ) (limit : ℕ) (n : List ℕ) (ns : List (List ℕ))
    → (is_lesser_text last n ≡ false → P (picked last limit ns))
    → (is_lesser_text last n ≡ true → limit ≡ 0 → P [])
    → ((k : ℕ) → is_lesser_text last n ≡ true → limit ≡ suc k → P (n ∷ picked n k ns))
    → P (picked last limit (n ∷ ns))
by_picked P _ zero n _ pass full take =
    elim (cases_Bool _) [
      | inl below ↦ subst P (sym (picked_full _ n _ below)) (full below refl)
      | inr not_below ↦ subst P (sym (picked_pass _ _ n _ not_below)) (pass not_below)
    ]
by_picked P _ (suc k) n _ pass full take =
    elim (cases_Bool _) [
      | inl below ↦ subst P (sym (picked_take _ k n _ below)) (take k below refl)
      | inr not_below ↦ subst P (sym (picked_pass _ _ n _ not_below)) (pass not_below)
    ]

pub picked_ascends : (last : List ℕ) (limit : ℕ) (ns : List (List ℕ)) → InOrderAfter (ComesAfter compare_texts) (Some last) (picked last limit ns)
picked_ascends _ _ [] = tt
picked_ascends last limit (n ∷ ns) =
    by_picked (InOrderAfter (ComesAfter compare_texts) (Some last)) last limit n ns (λ pass. picked_ascends last limit ns) (λ below e. tt)
    (λ k below e. (Less-from_is_lt _ below, picked_ascends n k ns))

pub picked_few : (last : List ℕ) (limit : ℕ) (ns : List (List ℕ)) → length (picked last limit ns) ≤ limit
picked_few _ _ [] = omega arith
picked_few last limit (n ∷ ns) =
    by_picked (λ l. length l ≤ limit) last limit n ns (λ pass. picked_few last limit ns) (λ below e. omega arith)
    (λ k below e. omega (arith, picked_few n k ns))

pub picked_within : (P : List ℕ → Type 0) (last : List ℕ) (limit : ℕ) (ns : List (List ℕ)) → AllByRecursion P ns → AllByRecursion P (picked last limit ns)
picked_within P _ _ [] all = tt
picked_within P last limit (n ∷ ns) all =
    by_picked (AllByRecursion P) last limit n ns (λ pass. picked_within P last limit ns all.1) (λ below e. tt)
    (λ k below e. (all.0, picked_within P n k ns all.1))

-- where a name of the list stands to what is picked: in it, or behind all of it where it is full
abbrev pub IsCovered : ℕ → List ℕ → List (List ℕ) → Type 0
IsCovered limit name picks = Contains picks name ⊎ ((length picks ≡ limit) × AllByRecursion (λ n. ComesBefore n name) picks)

equal_or_less : (o p : Ordering) → p ≡ ordering_reverse o → is_lt o ≡ false → (o ≡ Equal) ⊎ (p ≡ Less)
equal_or_less Less p e lt = cc
equal_or_less Equal p e lt = inl refl
equal_or_less Greater p e lt = inr e

pub below_cases : (n m : List ℕ) → is_lesser_text m n ≡ false → (n ≡ m) ⊎ ComesBefore n m
below_cases n m e =
    elim (equal_or_less _ _ (nat_list_cmp_total.antisymm n m) e) [
      | inl equal ↦ inl (sym (texts_equal m n equal))
      | inr less ↦ inr less
    ]

pub picked_whole : (last : List ℕ) (limit : ℕ) (ns : List (List ℕ)) (m : List ℕ) → Rises is_lesser_text ns → Contains ns m → is_lesser_text last m ≡ true
    → IsCovered limit m (picked last limit ns)
picked_whole _ _ [] m rises among below = absurd (no_member m among)
picked_whole last limit (n ∷ ns) m rises among below = elim (member_cases n m ns among) [
  | inl same ↦
      by_picked (IsCovered limit m) last limit n ns
      (λ pass. absurd (let e : is_lesser_text last n ≡ true = ap (is_lesser_text last) same ∙ below in cc))
      (λ b e. inr (sym e, tt))
      (λ k b e. inl (subst (Contains (n ∷ picked n k ns)) same (contains_first n (picked n k ns))))
  | inr later ↦
      by_picked (IsCovered limit m) last limit n ns
      (λ pass. picked_whole last limit ns m rises.1 later below)
      (λ b e. inr (sym e, tt))
      (λ k b e. elim (below_cases n m (each_member (λ (x : List ℕ). is_lesser_text x n ≡ false) ns m rises.0 later)) [
        | inl same ↦ inl (subst (Contains (n ∷ picked n k ns)) same (contains_first n (picked n k ns)))
        | inr before ↦ elim (picked_whole n k ns m rises.1 later (ap is_lt before)) [
          | inl found ↦ inl (contains_later n m (picked n k ns) found)
          | inr full ↦ inr (omega arith, (before, full.1))
        ]
      ])
]
