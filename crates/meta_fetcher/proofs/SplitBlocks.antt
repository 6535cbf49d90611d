-- Blocks of ascending ULIDs are listed as they are, and so split in place by their sources.
use Rattle.std.proofs.Common.{◌≡◌, suc, ◌<◌, ◌≤◌, not, List, [], ◌∷◌, length, get_or, Less, nat_cmp, refl, sym, ap, subst, arith, inl, inr}
use Rattle.std.specs.Prelude.{Contains}
use Rattle.std.specs.List.{filter}
use Rattle.std.specs.List.Sorted.{IsStrictlyIncreasing, IsStrictlySortedBy, IsNonDecreasingBy}
use Rattle.std.proofs.lemmas.Map.Keys.{sorted_from_strictly_increasing, sorted_head, sorted_tail}
use Rattle.std.proofs.lemmas.List.Kept.{IsNonDecreasingBy-filter}
use Rattle.std.proofs.lemmas.List.Sorted.{Contains-permutation, length_permutation}
use Rattle.base.proofs.Bools.{lt-from_Less}
use Rattle.base.proofs.Lists.{cons_same}
use Rattle.base.proofs.Membership.{each_member, member_cases, contains_first, contains_later, into_map}
use Rattle.sync_filters.specs.Filters.{is_covered, Splits}
use Rattle.sync_filters.specs.declared.found.Found.{Found}
use Rattle.meta_fetcher.proofs.Ascending.{blocks_of}

above : (block : Found) (blocks : List Found) (other : Found) → IsStrictlySortedBy nat_cmp (blocks_of (block ∷ blocks)) → Contains blocks other → block.ulid < other.ulid
above block blocks other up among =
    lt-from_Less block.ulid other.ulid (each_member (λ x. nat_cmp block.ulid x ≡ Less) (blocks_of blocks) other.ulid (sorted_head nat_cmp block.ulid (blocks_of blocks) up)
    (into_map (λ (b : Found). b.ulid) blocks other among))

not_less : (block : Found) (blocks : List Found) (other : Found) → IsNonDecreasingBy (λ (block : Found). block.ulid) (block ∷ blocks) → Contains blocks other → block.ulid ≤ other.ulid
not_less block blocks other up (k, below, is) =
    let le : block.ulid ≤ (get_or blocks k other).ulid = up 0 (suc k) other (omega arith) (omega (arith, below)) in
    omega (arith, le, ap (λ (b : Found). b.ulid) is)

tail_rises : (block : Found) (blocks : List Found) → IsNonDecreasingBy (λ (block : Found). block.ulid) (block ∷ blocks) → IsNonDecreasingBy (λ (block : Found). block.ulid) blocks
tail_rises block blocks up i j d le lt = up (suc i) (suc j) d (omega (arith, le)) (omega (arith, lt))

behind_first : (block : Found) (blocks : List Found) (least other : Found) → IsNonDecreasingBy (λ (block : Found). block.ulid) (block ∷ blocks) → Contains (block ∷ blocks) least → least.ulid < other.ulid → Contains (block ∷ blocks) other → Contains blocks other
behind_first block blocks least other up first higher among = elim (member_cases block other blocks among) [
  | inl same ↦ elim (member_cases block least blocks first) [
    | inl as_well ↦ absurd (omega (arith, ap (λ (b : Found). b.ulid) same, ap (λ (b : Found). b.ulid) as_well, higher))
    | inr later ↦ absurd (omega (arith, not_less block blocks least up later, ap (λ (b : Found). b.ulid) same, higher))
  ]
  | inr later ↦ later
]

-- in order of their ULIDs, with the same blocks, whose ULIDs differ
same_blocks : (listed found : List Found) → IsNonDecreasingBy (λ (block : Found). block.ulid) listed → IsStrictlySortedBy nat_cmp (blocks_of found) → length listed ≡ length found → ((x : Found) → Contains found x → Contains listed x) → listed ≡ found
same_blocks [] [] up rise same among = refl
same_blocks [] (f ∷ fs) up rise same among = absurd (omega (arith, same))
same_blocks (block ∷ blocks) [] up rise same among = absurd (omega (arith, same))
same_blocks (block ∷ blocks) (f ∷ fs) up rise same among =
    let first : Contains (block ∷ blocks) f = among f (contains_first f fs) in
    let tails : blocks ≡ fs = same_blocks blocks fs (tail_rises block blocks up) (sorted_tail nat_cmp f.ulid (blocks_of fs) rise) (omega (arith, same))
    (λ x later. behind_first block blocks f x up first (above f fs x rise later) (among x (contains_later f x fs later))) in
    elim (member_cases block f blocks first) [
      | inl heads ↦ cons_same block f blocks fs heads tails
      | inr later ↦ absurd (let more : f.ulid < f.ulid = above f fs f rise (subst (λ (l : List Found). Contains l f) tails later) in omega (arith, more))
    ]

-- what is kept, and what is covered, ascends as the listed blocks do, whatever the found ones were
pub stay_rises : (found stay leave : List Found) → Splits found stay leave → IsNonDecreasingBy (λ (block : Found). block.ulid) stay
stay_rises found stay leave split =
    subst (IsNonDecreasingBy (λ (block : Found). block.ulid)) (sym split.kept) (IsNonDecreasingBy-filter (λ (b : Found). b.ulid) (λ block. not (is_covered split.listed block)) split.listed split.ascend)

pub leave_rises : (found stay leave : List Found) → Splits found stay leave → IsNonDecreasingBy (λ (block : Found). block.ulid) leave
leave_rises found stay leave split =
    subst (IsNonDecreasingBy (λ (block : Found). block.ulid)) (sym split.covered) (IsNonDecreasingBy-filter (λ (b : Found). b.ulid) (is_covered split.listed) split.listed split.ascend)

module _ (found kept covered : List Found) (split : Splits found kept covered) (rise : IsStrictlyIncreasing (blocks_of found)) where
  listed_same : split.listed ≡ found
  listed_same =
      same_blocks split.listed found split.ascend (sorted_from_strictly_increasing (blocks_of found) rise) (length_permutation found split.listed split.same)
      (λ x among. Contains-permutation found split.listed x split.same among)

  -- what is kept, and what is covered
  pub split_kept : kept ≡ filter (λ block. not (is_covered found block)) found
  split_kept = subst (λ (l : List Found). kept ≡ filter (λ block. not (is_covered l block)) l) listed_same split.kept

  pub split_covered : covered ≡ filter (is_covered found) found
  split_covered = subst (λ (l : List Found). covered ≡ filter (is_covered l) l) listed_same split.covered
