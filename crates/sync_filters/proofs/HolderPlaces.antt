-- Where the holders of a number stand among those in order.
use Rattle.std.proofs.Common.{◌≡◌, ℕ, ◌+◌, ◌-◌, ◌<◌, ◌≤◌, Bool, true, false, List, length, get_or, take, drop, sym, ap, ◌∙◌, subst, arith, inl, inr}
use Rattle.std.specs.Prelude.{Contains, nat_lt, nat_le}
use Rattle.std.specs.Cmp.{IsTotalOrder, IsStrictWeakOrder}
use Rattle.std.specs.List.Sorted.{IsSortedBy, IsPartitionedBy, IsPartitionPoint}
use Rattle.std.proofs.lemmas.Bool.{cases_lt, true≢false}
use Rattle.std.proofs.lemmas.Bool.Decides.{nat_tests}
use Rattle.std.proofs.lemmas.Cmp.{nat_cmp_total, on_total, then_total, back_total}
use Rattle.std.proofs.lemmas.List.{get_or-take, get_or-drop, length-take, length-drop}
use Rattle.std.proofs.lemmas.List.Sorted.{ranks_by, sorted_far}
use Rattle.sync_filters.specs.Holders.{holder, comes_before, compare_holders, is_larger, HasHoldersOf, HasLargerOf}
use Rattle.sync_filters.specs.declared.holders.Holder.{Holder}

total : IsTotalOrder compare_holders
total = then_total (on_total (λ (h : Holder). h.key) nat_cmp_total) (back_total (on_total (λ (h : Holder). h.count) nat_cmp_total))

pub ranked : IsStrictWeakOrder comes_before
ranked = ranks_by total (λ (h : Holder). h)

-- ---- tests that hold of a front

module _ (test : Holder → Bool) (front : (one other : Holder) → comes_before other one ≡ false → test other ≡ true → test one ≡ true) where
  partitioned : (holders : List Holder) → IsSortedBy comes_before holders → IsPartitionedBy test holders
  partitioned holders up i j d le below passes = front (get_or holders i d) (get_or holders j d) (sorted_far comes_before ranked holders up i j d le below) passes

less_front : (key : ℕ) (one other : Holder) → comes_before other one ≡ false → nat_lt other.key key ≡ true → nat_lt one.key key ≡ true
less_front key one other after passes = grind (arith, nat_tests)

upto_front : (key : ℕ) (one other : Holder) → comes_before other one ≡ false → nat_le other.key key ≡ true → nat_le one.key key ≡ true
upto_front key one other after passes = grind (arith, nat_tests)

larger_front : (key least : ℕ) (one other : Holder) → comes_before other one ≡ false → is_larger key least other ≡ true → is_larger key least one ≡ true
larger_front key least one other after passes = grind (arith, nat_tests)

pub partitioned_less : (holders : List Holder) (key : ℕ) → IsSortedBy comes_before holders → IsPartitionedBy (λ h. nat_lt h.key key) holders
partitioned_less holders key up = partitioned (λ h. nat_lt h.key key) (less_front key) holders up

pub partitioned_upto : (holders : List Holder) (key : ℕ) → IsSortedBy comes_before holders → IsPartitionedBy (λ h. nat_le h.key key) holders
partitioned_upto holders key up = partitioned (λ h. nat_le h.key key) (upto_front key) holders up

pub partitioned_larger : (holders : List Holder) (key least : ℕ) → IsSortedBy comes_before holders → IsPartitionedBy (is_larger key least) holders
partitioned_larger holders key least up = partitioned (is_larger key least) (larger_front key least) holders up

-- ---- the holders between two places

inside : (holders : List Holder) (k low high : ℕ) → low ≤ k → k < high → k < length holders → k - low < length (take (high - low) (drop low holders))
inside holders k low high a b c = simp (length-take, length-drop) (omega (arith, a, b, c))

module _ (begins ends : Holder → Bool) (holders : List Holder) (low high : ℕ)
    (begin : IsPartitionPoint (λ h. begins h ≡ true) (λ h. begins h ≡ false) holders low) (end : IsPartitionPoint (λ h. ends h ≡ true) (λ h. ends h ≡ false) holders high) where
  -- one that is not before the first place and not behind the second
  member_between : (one : Holder) → begins one ≡ false → ends one ≡ true → Contains holders one → Contains (take (high - low) (drop low holders)) one
  member_between one not_begins does_end (k, within, at) =
      let not_before : low ≤ k = elim (cases_lt k low) [
        | inl before ↦ absurd (true≢false (sym (begin.0 k one (omega arith) before) ∙ ap begins at ∙ not_begins))
        | inr behind ↦ behind
      ] in
      let not_behind : k < high = elim (cases_lt k high) [
        | inl before ↦ before
        | inr behind ↦ absurd (true≢false (sym does_end ∙ sym (ap ends at) ∙ end.1 k one behind within))
      ] in
      let back : low + (k - low) ≡ k = omega (arith, not_before) in (
        k - low,
        inside holders k low high not_before not_behind within,
        get_or-take (high - low) (drop low holders) (k - low) one (omega (arith, not_before, not_behind))
            ∙ get_or-drop low holders (k - low) one
            ∙ ap (λ n. get_or holders n one) back ∙ at,
      )

not_less : (n : ℕ) → nat_lt n n ≡ false
not_less n = grind (arith, nat_tests)

upto_itself : (n : ℕ) → nat_le n n ≡ true
upto_itself n = grind (arith, nat_tests)

is_larger_of : (key least count place : ℕ) → least < count → is_larger key least (holder key count place) ≡ true
is_larger_of key least count place more = grind (arith, nat_tests)

pub holders_between : (holders few : List Holder) (key low high : ℕ) → IsPartitionPoint (λ h. nat_lt h.key key ≡ true) (λ h. nat_lt h.key key ≡ false) holders low
    → IsPartitionPoint (λ h. nat_le h.key key ≡ true) (λ h. nat_le h.key key ≡ false) holders high → few ≡ take (high - low) (drop low holders) → HasHoldersOf holders key few
holders_between holders few key low high begin end e place count among = subst (λ (l : List Holder). Contains l (holder key count place)) (sym e)
    (member_between (λ h. nat_lt h.key key) (λ h. nat_le h.key key) holders low high begin end (holder key count place) (not_less key) (upto_itself key) among)

pub larger_between : (holders few : List Holder) (key least low high : ℕ) → IsPartitionPoint (λ h. nat_lt h.key key ≡ true) (λ h. nat_lt h.key key ≡ false) holders low
    → IsPartitionPoint (λ h. is_larger key least h ≡ true) (λ h. is_larger key least h ≡ false) holders high → few ≡ take (high - low) (drop low holders) → HasLargerOf holders least key few
larger_between holders few key least low high begin end e place count more among = subst (λ (l : List Holder). Contains l (holder key count place)) (sym e)
    (member_between (λ h. nat_lt h.key key) (is_larger key least) holders low high begin end (holder key count place) (not_less key) (is_larger_of key least count place more) among)
