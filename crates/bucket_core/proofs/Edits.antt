-- What an edit of a list of objects in order leaves.
use Rattle.std.proofs.Common.{◌≡◌, ℕ, Bool, true, false, ◌&&◌, cond, List, [], ◌∷◌, ◌++◌, refl, sym, ◌∙◌, ap, subst, inl, inr, Option, Some, None}
use Rattle.std.specs.List.{AllByRecursion}
use Rattle.std.specs.List.Sorted.{IsStrictlySortedBy}
use Rattle.std.specs.Ordering.{is_lt, ordering_reverse}
use Rattle.std.specs.Str.{bytes_eq}
use Rattle.std.specs.declared.cmp.Ordering.{Ordering}
use Rattle.std.specs.declared.cmp.Ordering.TheVariants.{Less, Equal, Greater}
use Rattle.std.proofs.lemmas.Bool.{and_parts, and_from, false_from_ne_true, cases_Bool}
use Rattle.std.proofs.lemmas.Cmp.{tied_itself}
use Rattle.std.proofs.lemmas.List.Folds.{list_all-append}
use Rattle.std.proofs.lemmas.Map.Keys.{sorted_head, sorted_tail}
use Rattle.std.proofs.lemmas.Slice.Eq.{bytes_eq-Decides}
use Rattle.base.proofs.Bools.{Less-from_is_lt, same_texts, swap_tests}
use Rattle.base.proofs.Lists.{AllByRecursion-weaker}
use Rattle.base.proofs.Membership.{each_member, member_cases}
use Rattle.base.proofs.Order.{sorted_append, sorted_cons, sorted_left}
use Rattle.bucket_core.specs.Contents.{is_key}
use Rattle.bucket_core.specs.declared.objects.Stored.{Stored}
use Rattle.bucket_core.specs.Stored.{key_cmp, is_before, by_key, have_keys, object_in, updated, IsUpdated}
use Rattle.bucket_core.proofs.Places.{key_total, keys_equal}

not_before_itself : (key : List ℕ) → is_lt (key_cmp key key) ≡ false
not_before_itself key = ap is_lt (tied_itself key_total key)

-- what comes before a key is not under it
pub before_differs : (o : Stored) (key : List ℕ) → is_before key o ≡ true → bytes_eq o.key key ≡ false
before_differs o key before =
    false_from_ne_true _ (λ same.
    let e = ap (λ k. is_lt (key_cmp o.key k)) (sym (same_texts _ key same)) ∙ not_before_itself o.key in
    cc)

greater_from : (o : Ordering) → is_lt o ≡ false → (o ≡ Equal → ⊥) → is_lt (ordering_reverse o) ≡ true
greater_from Less lt ne = cc
greater_from Equal lt ne = absurd (ne refl)
greater_from Greater lt ne = refl

-- a key that is not before another and not the same comes after it
pub comes_after : (o : Stored) (key : List ℕ) → is_before key o ≡ false → bytes_eq o.key key ≡ false → key_cmp key o.key ≡ Less
comes_after o key before differs =
    Less-from_is_lt _ (ap is_lt (key_total.antisymm key o.key)
    ∙ greater_from _ before (λ equal. let e : bytes_eq o.key key ≡ true = (bytes_eq-Decides o.key key).1 (keys_equal _ _ equal) in cc))

-- behind a front of other keys, an update of the back is an update of the whole
pub updated_behind : (key : List ℕ) (w : Option (List ℕ)) (front back back' : List Stored) (q : List ℕ)
    → AllByRecursion (λ o. is_before key o ≡ true) front → object_in back' q ≡ updated key w (object_in back) q
    → object_in (front ++ back') q ≡ updated key w (object_in (front ++ back)) q
updated_behind key w [] back back' q all same = same
updated_behind key w (o ∷ front) back back' q all same =
    ap (λ r. cond (bytes_eq o.key q) (Some o.bytes) r) (updated_behind key w front back _ q all.1 same)
    ∙ swap_tests _ _ _ w _
    (λ oq kq.
    let e : bytes_eq o.key key ≡ true = (bytes_eq-Decides _ _).1 (same_texts o.key q oq ∙ sym (same_texts _ q kq)) in
    let d : bytes_eq o.key key ≡ false = before_differs o _ all.0 in
    cc)

-- a front of other keys is passed over
pub found_behind : (key : List ℕ) (front back : List Stored) → AllByRecursion (λ o. is_before key o ≡ true) front
    → object_in (front ++ back) key ≡ object_in back key
found_behind _ [] _ all = refl
found_behind key (o ∷ front) back all =
    let differs = before_differs o _ all.0 in
    ap (λ b. cond b (Some o.bytes) (object_in (front ++ back) key)) differs ∙ found_behind key front _ all.1

-- nothing stands under a key that comes before all
none_before : (key : List ℕ) (os : List Stored) → AllByRecursion (λ o. key_cmp key o.key ≡ Less) os → object_in os key ≡ None
none_before _ [] all = refl
none_before key (o ∷ os) all =
    let differs = false_from_ne_true _ (λ same.
    let e = ap (λ k. is_lt (key_cmp key k)) (same_texts o.key key same) ∙ not_before_itself key in
    let t : is_lt (key_cmp key o.key) ≡ true = ap is_lt all.0 in
    cc) in
    ap (λ b. cond b (Some o.bytes) (object_in os key)) differs ∙ none_before key os all.1

-- those behind an object that comes after the key do so too
pub after_all : (key : List ℕ) (o : Stored) (os : List Stored) → IsStrictlySortedBy by_key (o ∷ os) → key_cmp key o.key ≡ Less
    → AllByRecursion (λ l. key_cmp key l.key ≡ Less) os
after_all key o os ordered less =
    AllByRecursion-weaker (λ l. by_key o l ≡ Less) (λ (l : Stored). key_cmp key l.key ≡ Less) (λ l behind. key_total.trans key o.key l.key less behind) os
    (sorted_head by_key o os ordered)

-- those behind an object under the key come after the key
after_own : (key : List ℕ) (o : Stored) (os : List Stored) → IsStrictlySortedBy by_key (o ∷ os) → o.key ≡ key
    → AllByRecursion (λ l. key_cmp key l.key ≡ Less) os
after_own key o os ordered same = subst (λ k. AllByRecursion (λ l. key_cmp k l.key ≡ Less) os) same (sorted_head by_key o os ordered)

-- nothing is under a key that is not before the first object nor its own
pub nothing_here : (key : List ℕ) (o : Stored) (os : List Stored) → IsStrictlySortedBy by_key (o ∷ os) → is_before key o ≡ false
    → bytes_eq o.key key ≡ false → object_in (o ∷ os) key ≡ None
nothing_here key o os ordered before differs =
    ap (λ b. cond b (Some o.bytes) (object_in os key)) differs
    ∙ none_before key _ (after_all key o _ ordered (comes_after o _ before differs))

-- what comes after the key is in order behind what comes before it
order_behind : (key : List ℕ) (front back os : List Stored) → IsStrictlySortedBy by_key (front ++ back) → IsStrictlySortedBy by_key os
    → AllByRecursion (λ f. is_before key f ≡ true) front → AllByRecursion (λ l. key_cmp key l.key ≡ Less) os
    → IsStrictlySortedBy by_key (front ++ os)
order_behind key front back os ordered there all after =
    sorted_append by_key front os (sorted_left by_key front back ordered) there (λ f l here behind.
    key_total.trans f.key key l.key (Less-from_is_lt _ (each_member (λ f. is_before key f ≡ true) front f all here))
    (each_member (λ (l : Stored). key_cmp key l.key ≡ Less) os l after behind))

-- and so it is behind an object under the key
order_with : (key : List ℕ) (front back : List Stored) (v : Stored) (os : List Stored) → IsStrictlySortedBy by_key (front ++ back)
    → IsStrictlySortedBy by_key os → AllByRecursion (λ f. is_before key f ≡ true) front → AllByRecursion (λ l. key_cmp key l.key ≡ Less) os
    → v.key ≡ key → IsStrictlySortedBy by_key (front ++ v ∷ os)
order_with key front back v os ordered there all after same =
    let behind_v = subst (λ k. AllByRecursion (λ l. key_cmp k l.key ≡ Less) os) (sym same) after in
    sorted_append by_key front (v ∷ os) (sorted_left by_key front back ordered) (sorted_cons by_key v os behind_v there) (λ f l here behind.
    let before : key_cmp f.key key ≡ Less = Less-from_is_lt _ (each_member (λ f. is_before key f ≡ true) front f all here) in
    elim (member_cases v l os behind) [
      | inl own ↦ ap (key_cmp f.key) (ap (λ (o : Stored). o.key) (sym own) ∙ same) ∙ before
      | inr later ↦ key_total.trans f.key key l.key before (each_member (λ (l : Stored). key_cmp key l.key ≡ Less) os l after later)
    ])

-- a back with keys behind a front with keys
pub keys_behind : (front back back' : List Stored) → have_keys (front ++ back) ≡ true → (have_keys back ≡ true → have_keys back' ≡ true)
    → have_keys (front ++ back') ≡ true
keys_behind front back _ keys there =
    let split = and_parts (have_keys front) (have_keys back) (sym (list_all-append (λ o. is_key o.key) front _) ∙ keys) in
    list_all-append (λ o. is_key o.key) front _ ∙ and_from _ _ split.0 (there split.1)

cond_within : {A : Type 0} (b : Bool) (x y z : A) → cond b x z ≡ cond b x (cond b y z)
cond_within true x y z = refl
cond_within false x y z = refl

-- an object in the place of another one under its key
pub replaced_behind : (key : List ℕ) (front : List Stored) (o v : Stored) (os : List Stored)
    → IsStrictlySortedBy by_key (front ++ o ∷ os) → have_keys (front ++ o ∷ os) ≡ true → IsStrictlySortedBy by_key (o ∷ os)
    → AllByRecursion (λ f. is_before key f ≡ true) front → o.key ≡ key → v.key ≡ key
    → IsUpdated key (Some v.bytes) (front ++ o ∷ os) (front ++ v ∷ os)
replaced_behind key front o v os ordered keys there all ok vk =
    record {
      ordered = order_with key front (o ∷ os) v os ordered (sorted_tail by_key o os there) all (after_own key o os there ok) vk;
      keys = keys_behind front (o ∷ os) (v ∷ os) keys (λ k. subst (λ k'. (is_key k' && have_keys os) ≡ true) (ok ∙ sym vk) k);
      stands = λ i q. updated_behind key (Some v.bytes) front (o ∷ os) (v ∷ os) q all
          (ap (λ k. cond (bytes_eq k q) (Some v.bytes) (object_in os q)) vk
          ∙ cond_within (bytes_eq key q) (Some v.bytes) (Some o.bytes) (object_in os q)
          ∙ ap (λ k. cond (bytes_eq key q) (Some v.bytes) (cond (bytes_eq k q) (Some o.bytes) (object_in os q))) (sym ok)) i;
    }

-- an object between those before its key and those after it
pub inserted_behind : (v : Stored) (front back : List Stored)
    → IsStrictlySortedBy by_key (front ++ back) → have_keys (front ++ back) ≡ true → IsStrictlySortedBy by_key back → is_key v.key ≡ true
    → AllByRecursion (λ f. is_before v.key f ≡ true) front → AllByRecursion (λ l. by_key v l ≡ Less) back
    → IsUpdated v.key (Some v.bytes) (front ++ back) (front ++ v ∷ back)
inserted_behind v front back ordered keys there key all after = record {
  ordered = order_with v.key front back v back ordered there all after refl;
  keys = keys_behind front back (v ∷ back) keys (λ k. and_from (is_key v.key) (have_keys back) key k);
  stands = λ i q. updated_behind v.key (Some v.bytes) front back (v ∷ back) q all refl i;
}

removed_head : (key : List ℕ) (o : Stored) (os : List Stored) (q : List ℕ) → IsStrictlySortedBy by_key (o ∷ os) → o.key ≡ key
    → object_in os q ≡ updated key None (object_in (o ∷ os)) q
removed_head key o os q there ok =
    elim (cases_Bool (bytes_eq key q)) [
      | inl same ↦ (let none = none_before q os (after_own q o os there (ok ∙ same_texts _ q same)) in
          none ∙ ap (λ b. cond b None (object_in (o ∷ os) q)) (sym same))
      | inr differs ↦ (let d = ap (λ k. bytes_eq k q) ok ∙ differs in
          ap (λ b. cond b (Some o.bytes) (object_in os q)) (sym d) ∙ ap (λ b. cond b None (object_in (o ∷ os) q)) (sym differs))
    ]

-- what is left without an object
pub removed_behind : (key : List ℕ) (front : List Stored) (o : Stored) (os : List Stored)
    → IsStrictlySortedBy by_key (front ++ o ∷ os) → have_keys (front ++ o ∷ os) ≡ true → IsStrictlySortedBy by_key (o ∷ os)
    → AllByRecursion (λ f. is_before key f ≡ true) front → o.key ≡ key
    → IsUpdated key None (front ++ o ∷ os) (front ++ os)
removed_behind key front o os ordered keys there all ok =
    record {
      ordered = order_behind key front (o ∷ os) os ordered (sorted_tail by_key o os there) all (after_own key o os there ok);
      keys = keys_behind front (o ∷ os) os keys (λ k. (and_parts (is_key o.key) (have_keys os) k).1);
      stands = λ i q. updated_behind key None front (o ∷ os) os q all (removed_head key o os q there ok) i;
    }
