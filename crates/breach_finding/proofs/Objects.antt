-- The names of a block's objects are what follows the slash in their keys' texts.
use Rattle.std.proofs.Common.{◌≡◌, ◌⊎◌, inl, inr, ℕ, ◌+◌, ◌≤◌, ◌==◌, ◌&&◌, true, false, List, [], ◌∷◌, ◌++◌, map, length, drop, Option, Some, None, refl, sym, ◌∙◌, ap, subst, arith, append_assoc, length-append}
use Rattle.std.specs.Prelude.{IsSome}
use Rattle.std.specs.BTreeMap.{get}
use Rattle.std.specs.List.{after_first, position_or_len}
use Rattle.std.specs.Ordering.{nat_cmp, is_eq, is_gt, is_lt}
use Rattle.std.specs.Cmp.Lexicographic.{slice_cmp}
use Rattle.std.specs.declared.cmp.Ordering.{Ordering}
use Rattle.std.specs.declared.cmp.Ordering.TheVariants.{Less, Equal, Greater}
use Rattle.std.proofs.Math.Seq.{drop-append_seam}
use Rattle.std.proofs.lemmas.Bool.{and_parts, eqb-true, eq-eqb}
use Rattle.std.proofs.lemmas.List.{length-map}
use Rattle.base.proofs.Bools.{Less-from_is_lt}
use Rattle.ulid_core.specs.UlidText.{IsUlidText, character, text_of, ulid_of}
use Rattle.ulid_core.proofs.UlidLaws.{IsUlidText-unique, length-text_of, ulid_of-only}
use Rattle.label_sets.specs.Labels.{ComesBefore}
use Rattle.block_keys.specs.Keys.{key_cmp, key_ulid}
use Rattle.block_keys.specs.KeyText.{is_slash, key_text, name_of}
use Rattle.block_keys.specs.declared.key.Key.{Key}
use Rattle.block_keys.proofs.KeyLaws.{before_slash}
use Rattle.bucket_core.specs.Contents.{Contents}
use Rattle.bucket_core.specs.Pages.{IsName, Lists}
use Rattle.bucket_core.proofs.Order.{front_same}
use Rattle.world_core.specs.declared.entry.Entry.{Entry}
use Rattle.breach_finding.specs.Held.{Holds, IsWritten, Places, bytes_at}
use Rattle.breach_finding.specs.Next.{IsDueAt, IsFirstKey, IsLeast, Stands, is_due_object}
use Rattle.breach_finding.proofs.Blocks.{place_of}
use Rattle.breach_finding.proofs.Changes.{block_text, in_order, same_key}

-- a key's text in two parts
pub text_parts : (key : Key) → key_text key ≡ text_of (key_ulid key) ++ 47 ∷ name_of key
unfolding key_text
text_parts key = append_assoc (text_of (key_ulid key)) (47 ∷ []) (name_of key)

-- what follows the slash
pub object_name : (key : Key) → IsWritten key → after_first is_slash (key_text key) ≡ name_of key
object_name key is =
    let digits = is.is_block.digits in
    let front = map character digits in
    let name = name_of key in
    let text : key_text key ≡ front ++ 47 ∷ name = text_parts key ∙ ap (λ (b : List ℕ). b ++ 47 ∷ name) (sym (IsUlidText-unique is.block (key_ulid key) is.is_block) ∙ is.is_block.characters) in
    let place : position_or_len is_slash (key_text key) ≡ length front = ap (position_or_len is_slash) text ∙ before_slash digits name is.is_block.below_base ∙ sym (length-map digits character) in
    let longer : length front + 1 ≡ length (front ++ 47 ∷ []) = sym (length-append front (47 ∷ [])) in
    ap (λ n. drop (n + 1) (key_text key)) place
    ∙ ap (drop (length front + 1)) (text ∙ sym (append_assoc front (47 ∷ []) name))
    ∙ ap (λ n. drop n ((front ++ 47 ∷ []) ++ name)) longer
    ∙ drop-append_seam (front ++ 47 ∷ []) name

-- texts of one block are in the order of what follows the slash
pub cmp_behind : (key : Key) (after : List ℕ) → slice_cmp nat_cmp (text_of (key_ulid key) ++ 47 ∷ after) (key_text key) ≡ slice_cmp nat_cmp after (name_of key)
cmp_behind key after = ap (slice_cmp nat_cmp (text_of (key_ulid key) ++ 47 ∷ after)) (text_parts key) ∙ front_same (text_of (key_ulid key)) (47 ∷ after) (47 ∷ name_of key)

-- ---- lists in two parts

parts_same : (a b x y : List ℕ) → length a ≡ length b → a ++ x ≡ b ++ y → (a ≡ b) × (x ≡ y)
parts_same [] [] x y same is = (refl, is)
parts_same [] (c ∷ b) x y same is = absurd (omega (arith, same))
parts_same (d ∷ a) [] x y same is = absurd (omega (arith, same))
parts_same (d ∷ a) (c ∷ b) x y same is =
    let others = parts_same a b x y (omega (arith, same)) (cc (is)) in
    let first : d ≡ c = cc (is) in (cc (first, others.0), others.1)

to_lists : (within key name : List ℕ) → 1 ≤ length within → key ≡ within ++ 47 ∷ name → Lists within key name
to_lists [] key name some is = absurd (omega (arith, some))
to_lists (b ∷ within) key name some is = is

of_lists : (within key name : List ℕ) → 1 ≤ length within → Lists within key name → key ≡ within ++ 47 ∷ name
of_lists [] key name some is = absurd (omega (arith, some))
of_lists (b ∷ within) key name some is = is

long : (ulid : ℕ) → 1 ≤ length (text_of ulid)
long ulid = omega (arith, length-text_of ulid)

module _ (entries : List Entry) (places : Places) (contents : Contents) (holds : Holds entries places contents) (ulid : ℕ) (own : IsUlidText (text_of ulid) ulid) where
  -- a name in the block is that of one of its keys
  object_named : (name : List ℕ) → IsName contents (text_of ulid) name → (key : Key) × Stands places key × IsWritten key × (key_ulid key ≡ ulid) × (name ≡ name_of key)
  object_named name (text, some, lists) =
      let found = holds.only text some in
      let key = found.0 in
      let stands : IsSome (bytes_at entries places key) = subst (λ (o : Option (List ℕ)). IsSome o) (ap contents found.2 ∙ holds.under key found.1) some in
      let parts = parts_same (text_of (key_ulid key)) (text_of ulid) (47 ∷ name_of key) (47 ∷ name) (length-text_of (key_ulid key) ∙ sym (length-text_of ulid)) (sym (text_parts key) ∙ sym found.2 ∙ of_lists (text_of ulid) text name (long ulid) lists) in
      (key, place_of entries (get key_cmp places key) stands, found.1, one_block (key_ulid key) (block_text key found.1) parts.0, cc (parts.1))
    where
      one_block : (u : ℕ) → IsUlidText (text_of u) u → text_of u ≡ text_of ulid → u ≡ ulid
      one_block u is same = cc (ulid_of-only (text_of u) u is, ap ulid_of same, ulid_of-only (text_of ulid) ulid own)

  named_of_object : (key : Key) → Stands places key → key_ulid key ≡ ulid → IsName contents (text_of ulid) (name_of key)
  named_of_object key stands is =
      let there = holds.there key stands in (
        key_text key,
        subst (λ (o : Option (List ℕ)). IsSome o) (sym (holds.under key there.0)) there.1,
        to_lists (text_of ulid) (key_text key) (name_of key) (long ulid) (text_parts key ∙ ap (λ (u : ℕ). text_of u ++ 47 ∷ name_of key) is),
      )

  module _ (after cursor : List ℕ) (starts : cursor ≡ text_of ulid ++ 47 ∷ after) where
    cursor_cmp : (key : Key) → key_ulid key ≡ ulid → slice_cmp nat_cmp cursor (key_text key) ≡ slice_cmp nat_cmp after (name_of key)
    cursor_cmp key is = ap (λ (t : List ℕ). slice_cmp nat_cmp t (key_text key)) (starts ∙ ap (λ (u : ℕ). text_of u ++ 47 ∷ after) (sym is)) ∙ cmp_behind key after

    is_due : (key : Key) → key_ulid key ≡ ulid → ComesBefore after (name_of key) → is_due_object ulid cursor key ≡ true
    is_due key is before =
        ap (λ b. b && is_lt (slice_cmp nat_cmp cursor (key_text key))) (eq-eqb (key_ulid key) ulid is) ∙ ap is_lt (cursor_cmp key is ∙ before)

    of_due : (key : Key) → is_due_object ulid cursor key ≡ true → (key_ulid key ≡ ulid) × ComesBefore after (name_of key)
    of_due key due =
        let parts = and_parts (key_ulid key == ulid) (is_lt (slice_cmp nat_cmp cursor (key_text key))) due in
        let is : key_ulid key ≡ ulid = eqb-true (key_ulid key) ulid parts.0 in
        (is, sym (cursor_cmp key is) ∙ Less-from_is_lt _ parts.1)

    name_order : (o : Ordering) (one other : Key) → key_cmp one other ≡ o → slice_cmp nat_cmp (name_of one) (name_of other) ≡ o → is_gt o ≡ false → (name_of one ≡ name_of other) ⊎ ComesBefore (name_of one) (name_of other)
    name_order Less one other is names low = inr names
    name_order Equal one other is names low = inl (ap name_of (same_key one other (ap is_eq is)))
    name_order Greater one other is names low = cc (low)

    names_cmp : (one other : Key) → IsWritten one → IsWritten other → key_ulid one ≡ ulid → key_ulid other ≡ ulid → slice_cmp nat_cmp (name_of one) (name_of other) ≡ key_cmp one other
    names_cmp one other is also block same =
        sym (cmp_behind other (name_of one))
        ∙ ap (λ (t : List ℕ). slice_cmp nat_cmp t (key_text other)) (ap (λ (u : ℕ). text_of u ++ 47 ∷ name_of one) (same ∙ sym block) ∙ sym (text_parts one))
        ∙ in_order one other is also

    pub no_object_due : (r : Option Key) → IsFirstKey (IsDueAt ulid cursor) places r → r ≡ None → (name : List ℕ) → IsName contents (text_of ulid) name → ¬ ComesBefore after name
    no_object_due r first none name named before =
        let found = object_named name named in
        (subst (IsFirstKey (IsDueAt ulid cursor) places) none first) found.0 found.1 (is_due found.0 found.3 (subst (ComesBefore after) found.4 before))

    pub object_stands : (r : Option Key) (key : Key) → IsFirstKey (IsDueAt ulid cursor) places r → r ≡ Some key → Stands places key
    object_stands r key first some = (subst (IsFirstKey (IsDueAt ulid cursor) places) some first).0

    pub least_object : (r : Option Key) (key : Key) → IsFirstKey (IsDueAt ulid cursor) places r → r ≡ Some key → IsLeast contents (text_of ulid) after (name_of key)
    least_object r key is some =
        let first = subst (IsFirstKey (IsDueAt ulid cursor) places) some is in
        let due = of_due key first.1 in record {
          named = named_of_object key first.0 due.0;
          due = due.1;
          least = λ name named later.
              let found = object_named name named in
              let names = names_cmp key found.0 (holds.there key first.0).0 found.2 due.0 found.3 in
              let low = first.2 found.0 found.1 (is_due found.0 found.3 (subst (ComesBefore after) found.4 later)) in
              subst (λ (n : List ℕ). (name_of key ≡ n) ⊎ ComesBefore (name_of key) n) (sym found.4) (name_order (key_cmp key found.0) key found.0 refl names low);
        }
