-- The order of keys and that of their names.
use Rattle.std.proofs.Common.{◌≡◌, ◌⊎◌, ℕ, ◌<◌, ◌+◌, suc, Bool, true, false, not, cond, List, [], ◌∷◌, ◌++◌, take, refl, sym, ◌∙◌, ap, inl, inr, arith, Some, append_assoc}
use Rattle.std.specs.Prelude.{◌==◌}
use Rattle.std.specs.List.{before_first}
use Rattle.std.specs.Ordering.{nat_cmp, is_lt, ordering_reverse, ordering_then, MatchOrdering}
use Rattle.std.specs.Cmp.Lexicographic.{slice_cmp}
use Rattle.std.specs.declared.cmp.Ordering.{Ordering}
use Rattle.std.specs.declared.cmp.Ordering.TheVariants.{Less, Equal, Greater}
use Rattle.std.proofs.lemmas.Bool.{cases_Bool}
use Rattle.std.proofs.lemmas.Cmp.{nat_cmp_total, nat_list_cmp_total, tied_itself, ranked}
use Rattle.label_sets.specs.Labels.{ComesBefore, is_lesser_text}
use Rattle.bucket_core.specs.Stored.{first_part, key_cmp, name_of, text_after}
use Rattle.bucket_core.proofs.Names.{append-text_after, text_after-append}
use Rattle.bucket_core.proofs.Picks.{below_cases}

-- a common front decides nothing
pub front_same : (p a b : List ℕ) → slice_cmp nat_cmp (p ++ a) (p ++ b) ≡ slice_cmp nat_cmp a b
front_same [] a b = refl
front_same (x ∷ p) a b =
    ap (λ o. ordering_then o (slice_cmp nat_cmp (p ++ a) (p ++ b))) (tied_itself nat_cmp_total x) ∙ front_same p a b

take_cons : {X : Type 0} (b : Bool) (n : ℕ) (x : X) (xs : List X) → take (cond (not b) (1 + n) 0) (x ∷ xs) ≡ cond b [] (x ∷ take n xs)
take_cons true n x _ = refl
take_cons false n x xs = let one : 1 + n ≡ suc n = omega arith in ap (λ k. take k (x ∷ xs)) one

before_first-cons : {X : Type 0} (q : X → Bool) (x : X) (xs : List X) → before_first q (x ∷ xs) ≡ cond (q x) [] (x ∷ before_first q xs)
before_first-cons q x _ = take_cons _ _ x _

-- what follows a folder's slash does not count for the first part
pub first_part-folder : (w a b : List ℕ) → first_part (w ++ 47 ∷ a) ≡ first_part (w ++ 47 ∷ b)
first_part-folder [] a b = refl
first_part-folder (x ∷ w) a b =
    before_first-cons (λ y. y == 47) x (w ++ 47 ∷ a)
    ∙ ap (λ r. cond (x == 47) [] (x ∷ r)) (first_part-folder w a b)
    ∙ sym (before_first-cons (λ y. y == 47) x (w ++ 47 ∷ b))

below_head : (x : ℕ) (a b : List ℕ) → is_lesser_text (x ∷ a) (x ∷ b) ≡ is_lesser_text a b
below_head x a b = ap (λ o. is_lt (ordering_then o (slice_cmp nat_cmp a b))) (tied_itself nat_cmp_total x)

-- a first part is not greater than the text
first_part_small : (text : List ℕ) → is_lesser_text text (first_part text) ≡ false
first_part_small [] = refl
first_part_small (x ∷ text) =
    ap (is_lesser_text (x ∷ text)) (before_first-cons (λ y. y == 47) x text)
    ∙ (elim (cases_Bool (x == 47)) [
      | inl slash ↦ ap (λ b. is_lesser_text (x ∷ text) (cond b [] (x ∷ first_part text))) slash
      | inr other ↦ ap (λ b. is_lesser_text (x ∷ text) (cond b [] (x ∷ first_part text))) other ∙ below_head x text (first_part text) ∙ first_part_small text
    ])

-- a text that is not greater is not below
pub not_below : (n m : List ℕ) → (n ≡ m) ⊎ ComesBefore n m → is_lesser_text m n ≡ false
not_below n m (inl same) = ap (λ k. is_lesser_text k n) (sym same) ∙ ap is_lt (tied_itself nat_list_cmp_total n)
not_below n m (inr before) = ap is_lt (nat_list_cmp_total.antisymm m n ∙ ap ordering_reverse before)

pub upto : (a b c : List ℕ) → is_lesser_text b a ≡ false → is_lesser_text c b ≡ false → is_lesser_text c a ≡ false
upto a b c ab bc =
    elim (below_cases a b ab) [
      | inl same ↦ ap (is_lesser_text c) same ∙ bc
      | inr before ↦ elim (below_cases b c bc) [
        | inl same ↦ ap (λ k. is_lesser_text k a) (sym same) ∙ ab
        | inr after ↦ not_below a c (inr (nat_list_cmp_total.trans a b c before after))
      ]
    ]

first_lt : (o p : Ordering) → ordering_then o p ≡ Less → is_lt (ordering_reverse o) ≡ false
first_lt Less p e = refl
first_lt Equal p e = refl
first_lt Greater p e = cc

-- the first parts of keys in order do not fall
pub first_rises : (a b : List ℕ) → key_cmp a b ≡ Less → is_lesser_text (first_part b) (first_part a) ≡ false
first_rises a b e = ap is_lt (nat_list_cmp_total.antisymm (first_part b) (first_part a)) ∙ first_lt _ _ e

-- a key before the cursor has no greater first part
pub root_skipped : (key after : List ℕ) → key_cmp key after ≡ Less → is_lesser_text after (first_part key) ≡ false
root_skipped key after e = upto (first_part key) (first_part after) after (first_rises key after e) (first_part_small after)

-- the keys of one folder are in the order of their names
pub folder_cmp : (w a b : List ℕ) → key_cmp (w ++ 47 ∷ a) (w ++ 47 ∷ b) ≡ slice_cmp nat_cmp a b
folder_cmp w a b =
    ap (λ f. ordering_then (slice_cmp nat_cmp f (first_part (w ++ 47 ∷ b))) (slice_cmp nat_cmp (w ++ 47 ∷ a) (w ++ 47 ∷ b))) (first_part-folder w a b)
    ∙ ap (λ o. ordering_then o (slice_cmp nat_cmp (w ++ 47 ∷ a) (w ++ 47 ∷ b))) (tied_itself nat_list_cmp_total (first_part (w ++ 47 ∷ b)))
    ∙ front_same w (47 ∷ a) _

-- the key of a name in a folder
pub folder_key : (w key name : List ℕ) → text_after (w ++ 47 ∷ []) key ≡ Some name → key ≡ w ++ 47 ∷ name
folder_key w _ name e = append-text_after _ _ _ e ∙ append_assoc w (47 ∷ []) name

pub folder_name : (w name : List ℕ) → text_after (w ++ 47 ∷ []) (w ++ 47 ∷ name) ≡ Some name
folder_name w name = ap (text_after (w ++ 47 ∷ [])) (sym (append_assoc w (47 ∷ []) name)) ∙ text_after-append (w ++ 47 ∷ []) _

-- the names of keys in order do not fall
pub names_rise : (within a b n m : List ℕ) → key_cmp a b ≡ Less → name_of within a ≡ Some n → name_of within b ≡ Some m → is_lesser_text m n ≡ false
names_rise [] a b n m e an bm =
    let na : first_part a ≡ n = cc in
    let mb : first_part b ≡ m = cc in
    ap (λ k. is_lesser_text k n) (sym mb) ∙ ap (is_lesser_text (first_part b)) (sym na) ∙ first_rises a b e
names_rise (x ∷ w) a b n m e an bm =
    let ka = folder_key (x ∷ w) a n an in
    let kb = folder_key (x ∷ w) b m bm in
    not_below n m (inr (sym (folder_cmp (x ∷ w) n m) ∙ ap (λ k. key_cmp k ((x ∷ w) ++ 47 ∷ m)) (sym ka) ∙ ap (key_cmp a) (sym kb) ∙ e))

equal_numbers : (o : Ordering) (x y : ℕ) → MatchOrdering o (x < y) (x ≡ y) (y < x) → o ≡ Equal → x ≡ y
equal_numbers Less x y m e = cc
equal_numbers Equal x y m e = m
equal_numbers Greater x y m e = cc

-- the head of a comparison that is not Less one way and Less another
decided : (o p q : Ordering) → is_lt (ordering_then o p) ≡ false → ordering_then o q ≡ Less → (o ≡ Equal) × (is_lt p ≡ false) × (q ≡ Less)
decided Less p q np lq = cc
decided Equal p q np lq = (refl, np, lq)
decided Greater p q np lq = cc

-- what lies between two texts of one front has this front
text_between : (p a b c : List ℕ) → is_lt (slice_cmp nat_cmp b (p ++ a)) ≡ false → slice_cmp nat_cmp b (p ++ c) ≡ Less → (y : List ℕ) × (b ≡ p ++ y)
text_between [] a b c low high = (b, refl)
text_between (x ∷ p) a [] c low high = cc
text_between (x ∷ p) a (k ∷ b) c low high =
    let parts = decided _ _ _ low high in
    let same = equal_numbers _ k x (ranked k x (nat_cmp k x) refl) parts.0 in
    let rest = text_between p a b c parts.1 parts.2 in
    (rest.0, ap (λ h. h ∷ b) same ∙ ap (λ t. x ∷ t) rest.1)

-- a key between two of one folder is of this folder
pub key_between : (w a key z : List ℕ) → is_lt (key_cmp key (w ++ 47 ∷ a)) ≡ false → key_cmp key (w ++ 47 ∷ z) ≡ Less
    → (name : List ℕ) × (text_after (w ++ 47 ∷ []) key ≡ Some name)
key_between w a key z low high =
    let high' =
    ap (λ f. ordering_then (slice_cmp nat_cmp (first_part key) f) (slice_cmp nat_cmp key (w ++ 47 ∷ z))) (first_part-folder w a z) ∙ high in
    let parts = decided _ _ _ low high' in
    let found =
    text_between _ a _ z
    (ap (λ t. is_lt (slice_cmp nat_cmp key t)) (append_assoc w (47 ∷ []) a) ∙ parts.1)
    (ap (slice_cmp nat_cmp key) (append_assoc w (47 ∷ []) z) ∙ parts.2) in
    (found.0, ap (text_after (w ++ 47 ∷ [])) found.1 ∙ text_after-append (w ++ 47 ∷ []) _)
