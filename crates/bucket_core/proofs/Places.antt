-- Where a key stands in a list of objects in order.
use Rattle.std.proofs.Common.{◌≡◌, ℕ, ◌≤◌, zero, suc, true, false, List, [], ◌∷◌, length, take, drop, get_or, sym, ◌∙◌, ap, subst, inl, inr, arith}
use Rattle.std.specs.List.{AllByRecursion, AllWithin}
use Rattle.std.specs.List.Sorted.{IsStrictlySortedBy, IsPartitionedBy, IsPartitionPoint}
use Rattle.std.specs.Ordering.{nat_cmp, is_lt, is_eq, ordering_then}
use Rattle.std.specs.Cmp.{IsTotalOrder}
use Rattle.std.specs.Cmp.Lexicographic.{slice_cmp}
use Rattle.std.specs.declared.cmp.Ordering.{Ordering}
use Rattle.std.specs.declared.cmp.Ordering.TheVariants.{Less, Equal, Greater}
use Rattle.std.proofs.lemmas.Bool.{cases_lt}
use Rattle.std.proofs.lemmas.Cmp.{nat_list_cmp_total, then_total, on_total}
use Rattle.std.proofs.lemmas.Map.Keys.{Less-from_sorted}
use Rattle.std.proofs.lemmas.Map.Text.{is_eq-slice_cmp}
use Rattle.std.proofs.lemmas.Slice.Eq.{bytes_eq-Decides}
use Rattle.base.proofs.Bools.{Less-from_is_lt}
use Rattle.bucket_core.specs.declared.objects.Stored.{Stored}
use Rattle.bucket_core.specs.Stored.{first_part, key_cmp, is_before, by_key, IsPlace}

-- the order of keys is total
pub key_total : IsTotalOrder key_cmp
key_total = then_total (on_total first_part nat_list_cmp_total) nat_list_cmp_total

-- texts that compare equal are the same
pub texts_equal : (a b : List ℕ) → slice_cmp nat_cmp a b ≡ Equal → a ≡ b
texts_equal a b e = (bytes_eq-Decides a b).0 (sym (is_eq-slice_cmp a b) ∙ ap is_eq e)

second_equal : (o p : Ordering) → ordering_then o p ≡ Equal → p ≡ Equal
second_equal Less p e = cc
second_equal Equal p e = e
second_equal Greater p e = cc

pub keys_equal : (a b : List ℕ) → key_cmp a b ≡ Equal → a ≡ b
keys_equal a b e = texts_equal a b (second_equal _ _ e)

-- what is before an object is before what that object is before
pub before_trans : (a : Stored) (b c : List ℕ) → is_before b a ≡ true → is_lt (key_cmp b c) ≡ true → is_before c a ≡ true
before_trans a b c ab bc = ap is_lt (key_total.trans a.key b c (Less-from_is_lt _ ab) (Less-from_is_lt _ bc))

-- objects in order have those before a key in front
pub partitioned : (key : List ℕ) (objects : List Stored) → IsStrictlySortedBy by_key objects → IsPartitionedBy (is_before key) objects
partitioned key objects ordered i j d le lt at =
    elim (cases_lt i j) [
      | inl below ↦ before_trans (get_or objects i d) (get_or objects j d).key key (ap is_lt (Less-from_sorted by_key objects i j d ordered below lt)) at
      | inr past ↦ (let same : j ≡ i = omega arith in subst (λ k. is_before key (get_or objects k d) ≡ true) same at)
    ]

-- what holds of each element below a place holds of the front
front_of : {X : Type 0} (P : X → Type 0) (xs : List X) (n : ℕ) → AllWithin P xs 0 n → n ≤ length xs → AllByRecursion P (take n xs)
front_of P [] zero all le = tt
front_of P [] (suc n) all le = absurd (omega arith)
front_of P (x ∷ xs) zero all le = tt
front_of P (x ∷ xs) (suc n) all le = (all 0 x (omega arith) (omega arith), front_of P _ n (λ k d low lt. all (suc k) d (omega arith) (omega arith)) (omega arith))

-- what holds of each element from a place on holds of the back
back_of : {X : Type 0} (P : X → Type 0) (xs : List X) (n : ℕ) → AllWithin P xs n (length xs) → AllByRecursion P (drop n xs)
back_of P [] zero all = tt
back_of P [] (suc n) all = tt
back_of P (x ∷ xs) zero all = (all 0 x (omega arith) (omega arith), back_of P xs zero (λ k d low lt. all (suc k) d (omega arith) (omega arith)))
back_of P (x ∷ xs) (suc n) all = back_of P _ n (λ k d low lt. all (suc k) d (omega arith) (omega arith))

-- a partition point is the place
pub place_is : (key : List ℕ) (objects : List Stored) (n : ℕ) → n ≤ length objects
    → IsPartitionPoint (λ o. is_before key o ≡ true) (λ o. is_before key o ≡ false) objects n → IsPlace key objects n
place_is _ _ n le point = record {
  within = le;
  front = front_of _ _ n point.0 le;
  back = back_of _ _ n point.1;
}
