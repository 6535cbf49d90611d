-- The edits at a place of a list.
use Rattle.std.proofs.Common.{◌≡◌, ℕ, ◌<◌, zero, suc, Bool, true, false, cond, List, [], ◌∷◌, ◌++◌, length, take, drop, set, get_or, sym, ◌∙◌, ap, subst, inl, inr, arith, Some, None}
use Rattle.std.proofs.lemmas.List.{drop_all, set_split}
use Rattle.std.specs.List.{insert, remove, AllByRecursion}
use Rattle.std.specs.List.Sorted.{IsStrictlySortedBy}
use Rattle.std.specs.Str.{bytes_eq}
use Rattle.std.proofs.lemmas.Bool.{cases_lt, cases_Bool, false_from_ne_true}
use Rattle.std.proofs.lemmas.List.{take-append-drop, get_or_default}
use Rattle.std.proofs.Math.Seq.{drop-cons}
use Rattle.std.specs.declared.cmp.Ordering.TheVariants.{Less}
use Rattle.base.proofs.Bools.{bytes_eq-itself, same_texts}
use Rattle.base.proofs.Order.{sorted_drop}
use Rattle.bucket_core.specs.Contents.{is_key}
use Rattle.bucket_core.specs.declared.objects.Stored.{Stored}
use Rattle.bucket_core.specs.Stored.{by_key, have_keys, object_in, updated, IsPlace, IsUpdated, StandsAt}
use Rattle.bucket_core.proofs.Edits.{replaced_behind, inserted_behind, removed_behind, found_behind, nothing_here, after_all, comes_after}

-- a list around the element at a place
around : {X : Type 0} (xs : List X) (i : ℕ) (d : X) → i < length xs → take i xs ++ get_or xs i d ∷ drop (suc i) xs ≡ xs
around xs i d lt = ap (λ b. take i xs ++ b) (sym (drop-cons _ i d lt)) ∙ take-append-drop i _

pub replaced_at : (key : List ℕ) (objects : List Stored) (place : ℕ) (v : Stored) → IsStrictlySortedBy by_key objects → have_keys objects ≡ true
    → IsPlace key objects place → StandsAt key objects place → v.key ≡ key → IsUpdated key (Some v.bytes) objects (set objects place v)
replaced_at key objects place v ordered keys at stands vk =
    let o = get_or objects place v in
    let whole = around _ _ v stands.0 in
    let P : List Stored → Type 0 = λ old. IsUpdated key (Some v.bytes) old (set objects place v) in
    let Q : List Stored → Type 0 = λ new. IsUpdated key (Some v.bytes) (take place objects ++ o ∷ drop (suc place) objects) new in
    subst P whole
    (subst Q (sym (set_split _ _ v stands.0))
    (replaced_behind _ _ o v _
    (subst (IsStrictlySortedBy by_key) (sym whole) ordered) (ap have_keys whole ∙ keys)
    (subst (IsStrictlySortedBy by_key) (drop-cons objects place v stands.0) (sorted_drop by_key place objects ordered))
    at.front (stands.1 v) vk))

pub removed_at : (key : List ℕ) (objects : List Stored) (place : ℕ) (d : Stored) → IsStrictlySortedBy by_key objects → have_keys objects ≡ true
    → IsPlace key objects place → StandsAt key objects place → IsUpdated key None objects (remove objects place)
removed_at key objects place d ordered keys at stands =
    let o : Stored = get_or objects place d in
    let whole : take place objects ++ o ∷ drop (suc place) objects ≡ objects = around objects _ d stands.0 in
    let P : List Stored → Type 0 = λ old. IsUpdated key None old (remove objects place) in
    subst P whole
    (removed_behind _ _ o _
    (subst (IsStrictlySortedBy by_key) (sym whole) ordered) (ap have_keys whole ∙ keys)
    (subst (IsStrictlySortedBy by_key) (drop-cons objects place d stands.0) (sorted_drop by_key place objects ordered))
    at.front (stands.1 d))

-- what is first behind a place is not under the key, where none stands at the place
first_differs : (key : List ℕ) (objects : List Stored) (place : ℕ) (d : Stored) → place < length objects → (StandsAt key objects place → ⊥)
    → bytes_eq (get_or objects place d).key key ≡ false
first_differs key objects place d lt free =
    false_from_ne_true _ (λ same. free (lt, λ e. ap (λ o. o.key) (get_or_default objects place e d lt) ∙ same_texts _ _ same))

head_fails : {X : Type 0} (p : X → Bool) (xs : List X) (n : ℕ) (d : X) → n < length xs → AllByRecursion (λ x. p x ≡ false) (drop n xs) → p (get_or xs n d) ≡ false
head_fails p [] n d lt all = absurd (omega arith)
head_fails p (x ∷ xs) zero d lt all = all.0
head_fails p (x ∷ xs) (suc n) d lt all = head_fails p _ n d (omega arith) all

-- where no object under the key stands at its place, what is behind the place comes after the key
behind_free : (v : Stored) (objects : List Stored) (place : ℕ) → IsStrictlySortedBy by_key objects → IsPlace v.key objects place
    → (StandsAt v.key objects place → ⊥) → AllByRecursion (λ l. by_key v l ≡ Less) (drop place objects)
behind_free v objects place ordered at free =
    elim (cases_lt place (length objects)) [
      | inl lt ↦ (let o : Stored = get_or objects place v in
          let here : drop place objects ≡ o ∷ drop (suc place) objects = drop-cons objects _ v lt in
          let there : IsStrictlySortedBy by_key (o ∷ drop (suc place) objects) = subst (IsStrictlySortedBy by_key) here (sorted_drop by_key place objects ordered) in
          let after = comes_after o _ (head_fails _ _ _ v lt at.back) (first_differs _ _ _ v lt free) in
          subst (AllByRecursion (λ l. by_key v l ≡ Less)) (sym here) (after, after_all v.key o _ there after))
      | inr past ↦ subst (AllByRecursion (λ l. by_key v l ≡ Less)) (sym (drop_all place objects past)) tt
    ]

pub inserted_at : (v : Stored) (objects : List Stored) (place : ℕ) → IsStrictlySortedBy by_key objects → have_keys objects ≡ true
    → is_key v.key ≡ true → IsPlace v.key objects place → (StandsAt v.key objects place → ⊥)
    → IsUpdated v.key (Some v.bytes) objects (insert objects place v)
inserted_at v objects place ordered keys key at free =
    let whole : take place objects ++ drop place objects ≡ objects = take-append-drop place objects in
    let P : List Stored → Type 0 = λ old. IsUpdated v.key (Some v.bytes) old (insert objects place v) in
    subst P whole
    (inserted_behind v (take place objects) (drop place objects) (subst (IsStrictlySortedBy by_key) (sym whole) ordered) (ap have_keys whole ∙ keys)
    (sorted_drop by_key place objects ordered) key at.front (behind_free v _ _ ordered at free))

none_behind : (key : List ℕ) (objects : List Stored) (place : ℕ) → IsStrictlySortedBy by_key objects → IsPlace key objects place
    → (StandsAt key objects place → ⊥) → object_in (drop place objects) key ≡ None
none_behind key objects place ordered at free =
    elim (cases_lt place (length objects)) [
      | inl lt ↦ (let d : Stored = record { key = key; bytes = [] } in
          let o : Stored = get_or objects place d in
          let here : drop place objects ≡ o ∷ drop (suc place) objects = drop-cons objects place d lt in
          let there : IsStrictlySortedBy by_key (o ∷ drop (suc place) objects) = subst (IsStrictlySortedBy by_key) here (sorted_drop by_key place objects ordered) in
          ap (λ l. object_in l key) here
          ∙ nothing_here _ o _ there (head_fails _ _ _ d lt at.back) (first_differs _ _ _ d lt free))
      | inr past ↦ ap (λ l. object_in l key) (drop_all _ _ past)
    ]

unmoved : (key : List ℕ) (objects : List Stored) → object_in objects key ≡ None → (q : List ℕ)
    → object_in objects q ≡ updated key None (object_in objects) q
unmoved _ objects none q =
    elim (cases_Bool _) [
      | inl same ↦ ap (object_in objects) (sym (same_texts _ q same)) ∙ none ∙ ap (λ b. cond b None (object_in objects q)) (sym same)
      | inr differs ↦ ap (λ b. cond b None (object_in objects q)) (sym differs)
    ]

pub found_at : (key : List ℕ) (objects : List Stored) (place : ℕ) (d : Stored) → IsPlace key objects place → StandsAt key objects place
    → object_in objects key ≡ Some (get_or objects place d).bytes
found_at key objects place d at stands =
    let o = get_or objects place d in
    ap (λ l. object_in l key) (sym (around _ _ d stands.0))
    ∙ found_behind _ _ _ at.front
    ∙ ap (λ b. cond b (Some o.bytes) (object_in (drop (suc place) objects) key)) (ap (λ k. bytes_eq k key) (stands.1 d) ∙ bytes_eq-itself key)

pub absent_at : (key : List ℕ) (objects : List Stored) (place : ℕ) → IsStrictlySortedBy by_key objects → IsPlace key objects place
    → (StandsAt key objects place → ⊥) → object_in objects key ≡ None
absent_at key _ _ ordered at free =
    ap (λ l. object_in l key) (sym (take-append-drop _ _))
    ∙ found_behind _ _ _ at.front
    ∙ none_behind _ _ _ ordered at free

-- an update that changes nothing
pub untouched : (key : List ℕ) (objects : List Stored) → IsStrictlySortedBy by_key objects → have_keys objects ≡ true → object_in objects key ≡ None
    → IsUpdated key None objects objects
untouched key objects ordered keys none = record {
  ordered = ordered;
  keys = keys;
  stands = λ i q. unmoved key objects none q i;
}
