-- The names of blocks are the texts of their ULIDs.
use Rattle.std.proofs.Common.{◌≡◌, ◌⊎◌, inl, inr, ℕ, ◌<◌, ◌≤◌, false, List, [], ◌∷◌, ◌++◌, map, Option, Some, None, refl, sym, ◌∙◌, ap, subst, arith, append_assoc, codes}
use Rattle.std.specs.Prelude.{IsSome, take}
use Rattle.std.specs.BTreeMap.{get}
use Rattle.std.specs.List.{before_first}
use Rattle.std.specs.Ordering.{nat_cmp, is_gt, ordering_then}
use Rattle.std.specs.declared.cmp.Ordering.{Ordering}
use Rattle.std.proofs.lemmas.Bool.{cases_lt}
use Rattle.base.proofs.Bools.{lt-from_Less, nat_cmp-Greater, nat_cmp-Less, Less-from_then}
use Rattle.std.specs.Cmp.Lexicographic.{slice_cmp}
use Rattle.std.specs.declared.cmp.Ordering.TheVariants.{Less, Equal, Greater}
use Rattle.std.proofs.Math.Seq.{take-append_seam}
use Rattle.std.proofs.lemmas.List.{length-map}
use Rattle.ulid_core.specs.UlidText.{IsUlidText, character, text_of}
use Rattle.ulid_core.proofs.UlidLaws.{slice_cmp-ulid_texts, IsUlidText-unique}
use Rattle.label_sets.specs.Labels.{ComesBefore}
use Rattle.block_keys.specs.Keys.{key_cmp, key_kind, key_number, key_ulid}
use Rattle.block_keys.specs.KeyText.{is_slash, key_text}
use Rattle.block_keys.specs.declared.key.Key.{Key}
use Rattle.block_keys.specs.declared.key.Key.TheVariants.{Meta, Index, Segment, Mark}
use Rattle.block_keys.proofs.KeyLaws.{before_slash}
use Rattle.bucket_core.specs.Contents.{Contents}
use Rattle.bucket_core.specs.Pages.{IsName}
use Rattle.world_core.specs.declared.entry.Entry.{Entry}
use Rattle.breach_finding.specs.Held.{HaveTexts, Holds, IsWritten, Places, bytes_at, put_under}
use Rattle.breach_finding.specs.Next.{IsFirstKey, IsLeast, IsNextBlock, Stands}
use Rattle.breach_finding.proofs.Changes.{block_text}

-- the part of a key's text before its slash
pub root_name : (key : Key) → IsWritten key → before_first is_slash (key_text key) ≡ text_of (key_ulid key)
root_name key is =
    let block = is.is_block in
    let text : key_text key ≡ map character block.digits ++ 47 ∷ is.name = is.text_is ∙ append_assoc is.block (codes "/") is.name ∙ ap (λ (b : List ℕ). b ++ 47 ∷ is.name) block.characters in
    ap (before_first is_slash) text
    ∙ ap (λ n. take n (map character block.digits ++ 47 ∷ is.name)) (before_slash block.digits is.name block.below_base ∙ sym (length-map block.digits character))
    ∙ take-append_seam (map character block.digits) (47 ∷ is.name)
    ∙ sym block.characters ∙ IsUlidText-unique is.block (key_ulid key) block

module _ (u v : ℕ) (one : IsUlidText (text_of u) u) (other : IsUlidText (text_of v) v) where
  cmp_is : slice_cmp nat_cmp (text_of u) (text_of v) ≡ nat_cmp u v
  cmp_is = slice_cmp-ulid_texts (text_of u) (text_of v) u v one other

  pub before_of : u < v → ComesBefore (text_of u) (text_of v)
  before_of less = cmp_is ∙ nat_cmp-Less u v less

  pub less_of : ComesBefore (text_of u) (text_of v) → u < v
  less_of before = lt-from_Less u v (sym cmp_is ∙ before)

-- something that stands under a key
pub place_of : (entries : List Entry) (at : Option ℕ) → IsSome (put_under entries at) → IsSome at
place_of entries None some = some
place_of entries (Some place) some = refl

module _ (entries : List Entry) (places : Places) (contents : Contents) (holds : Holds entries places contents) where
  -- a name of the root is that of a key's block
  block_named : (name : List ℕ) → IsName contents [] name → (key : Key) × Stands places key × IsWritten key × (name ≡ text_of (key_ulid key))
  block_named name (text, some, lists) =
      let found = holds.only text some in
      let key = found.0 in
      let stands : IsSome (bytes_at entries places key) = subst (λ (o : Option (List ℕ)). IsSome o) (ap contents found.2 ∙ holds.under key found.1) some in
      (key, place_of entries (get key_cmp places key) stands, found.1, lists ∙ ap (before_first is_slash) found.2 ∙ root_name key found.1)

  named_of : (key : Key) → Stands places key → IsName contents [] (text_of (key_ulid key))
  named_of key stands =
      let there = holds.there key stands in
      (key_text key, subst (λ (o : Option (List ℕ)). IsSome o) (sym (holds.under key there.0)) there.1, sym (root_name key there.0))

  pub none_due : (after : List ℕ) → IsNextBlock places after None → (name : List ℕ) → IsName contents [] name → ¬ ComesBefore after name
  none_due after none name named before =
      let found = block_named name named in
      none found.0 found.1 (subst (ComesBefore after) found.3 before)

  up_to : (u v : ℕ) → u ≤ v → (u ≡ v) ⊎ (u < v)
  up_to u v least = elim (cases_lt u v) [ inl less ↦ inr less | inr most ↦ inl (omega (arith, least, most)) ]

  pub least_due : (after : List ℕ) (ulid : ℕ) → IsNextBlock places after (Some ulid) → IsLeast contents [] after (text_of ulid)
  least_due after ulid (first, stands, is, due, least) = record {
    named = subst (λ u. IsName contents [] (text_of u)) is (named_of first stands);
    due = due;
    least = λ name named later.
        let found = block_named name named in
        let most : ulid ≤ key_ulid found.0 = least found.0 found.1 (subst (ComesBefore after) found.3 later) in
        let own : IsUlidText (text_of ulid) ulid = subst (λ u. IsUlidText (text_of u) u) is (block_text first (holds.there first stands).0) in
        elim (up_to ulid (key_ulid found.0) most) [
          | inl same ↦ inl (ap text_of same ∙ sym found.3)
          | inr less ↦ inr (subst (ComesBefore (text_of ulid)) (sym found.3) (before_of ulid (key_ulid found.0) own (block_text found.0 found.2) less))
        ];
  }

-- ---- the keys behind the greatest one of a block

behind_at : (u v : ℕ) (o : Ordering) → (o ≡ Less → ⊥) → ordering_then (nat_cmp u v) o ≡ Less → u < v
behind_at u v o none is = elim (Less-from_then (nat_cmp u v) o is) [ inl less ↦ lt-from_Less u v less | inr (same, less) ↦ absurd (none less) ]

behind_of : (u : ℕ) (key : Key) → key_cmp (Meta u) key ≡ Less → u < key_ulid key
behind_of u (Meta v) is = behind_at u v Equal (λ less. cc (less)) is
behind_of u (Index v) is = behind_at u v Greater (λ less. cc (less)) is
behind_of u (Segment v n) is = behind_at u v Greater (λ less. cc (less)) is
behind_of u (Mark v) is = behind_at u v Greater (λ less. cc (less)) is

of_behind : (u : ℕ) (key : Key) → u < key_ulid key → key_cmp (Meta u) key ≡ Less
of_behind u key less = ap (λ o. ordering_then o (ordering_then (nat_cmp 3 (key_kind key)) (nat_cmp 0 (key_number key)))) (nat_cmp-Less u (key_ulid key) less)

pub not_greater : (one other : Key) → is_gt (key_cmp one other) ≡ false → key_ulid one ≤ key_ulid other
not_greater one other is = elim (cases_lt (key_ulid other) (key_ulid one)) [
  | inl greater ↦ cc (is, ap (λ o. is_gt (ordering_then o (ordering_then (nat_cmp (key_kind one) (key_kind other)) (nat_cmp (key_number one) (key_number other))))) (nat_cmp-Greater (key_ulid one) (key_ulid other) greater))
  | inr most ↦ most
]

module _ (places : Places) (written : HaveTexts places) (u : ℕ) (text : IsUlidText (text_of u) u) where
  pub next_of_first : (first : Key) → IsFirstKey (λ other. key_cmp (Meta u) other ≡ Less) places (Some first) → IsNextBlock places (text_of u) (Some (key_ulid first))
  next_of_first first (stands, due, least) = (
    first,
    stands,
    refl,
    before_of u (key_ulid first) text (block_text first (written first stands)) (behind_of u first due),
    λ key has before. not_greater first key (least key has (of_behind u key (less_of u (key_ulid key) text (block_text key (written key has)) before))),
  )

  pub next_of_none : IsFirstKey (λ other. key_cmp (Meta u) other ≡ Less) places None → IsNextBlock places (text_of u) None
  next_of_none none = λ key stands before. none key stands (of_behind u key (less_of u (key_ulid key) text (block_text key (written key stands)) before))
