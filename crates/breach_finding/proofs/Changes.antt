-- What stands after a put and after a delete.
use Rattle.std.proofs.Common.{◌≡◌, ℕ, Bool, true, false, cond, List, Option, Ok, refl, sym, ◌∙◌, ap, subst, ⊎_elim, arith}
use Rattle.std.specs.Prelude.{IsSome}
use Rattle.std.specs.BTreeMap.{get, is_at}
use Rattle.std.specs.Ordering.{nat_cmp, is_eq, ordering_then}
use Rattle.std.specs.declared.cmp.Ordering.{Ordering}
use Rattle.std.specs.declared.cmp.Ordering.TheVariants.{Less, Equal, Greater}
use Rattle.base.proofs.Bools.{nat_cmp-Equal, same-from_is_eq}
use Rattle.std.specs.Str.{bytes_eq}
use Rattle.std.specs.Cmp.Lexicographic.{slice_cmp}
use Rattle.std.proofs.lemmas.Bool.{cases_Bool}
use Rattle.std.proofs.lemmas.Map.Text.{is_eq-slice_cmp}
use Rattle.std.proofs.lemmas.Slice.Eq.{bytes_eq-Decides}
use Rattle.ulid_core.specs.UlidText.{IsUlidText, text_of, ulid_of}
use Rattle.ulid_core.proofs.UlidLaws.{slice_cmp-ulid_texts, IsUlidText-unique, ulid_of-found}
use Rattle.block_keys.specs.Keys.{IsLawfulKey, key_cmp, key_kind, key_number, key_ulid}
use Rattle.block_keys.specs.KeyText.{key_text}
use Rattle.block_keys.specs.declared.key.Key.{Key}
use Rattle.block_keys.specs.declared.key.Key.TheVariants.{Meta, Index, Segment, Mark}
use Rattle.block_keys.proofs.KeyLaws.{IsKeyText-key_text, IsLawfulKey-text, slice_cmp-key_text}
use Rattle.bucket_core.specs.Contents.{Contents}
use Rattle.world_core.specs.declared.entry.Entry.{Entry}
use Rattle.breach_finding.specs.Held.{Holds, IsWritten, Places, put_under}

-- the block of a key that has a text is written so
pub block_text : (key : Key) → IsWritten key → IsUlidText (text_of (key_ulid key)) (key_ulid key)
block_text key is = subst (λ t. IsUlidText t (key_ulid key)) (IsUlidText-unique is.block (key_ulid key) is.is_block) is.is_block

pub is_written : (key : Key) → IsLawfulKey key → ulid_of (text_of (key_ulid key)) ≡ Ok (key_ulid key) → IsWritten key
is_written key lawful read = IsKeyText-key_text key lawful (ulid_of-found (text_of (key_ulid key)) (key_ulid key) read)

-- texts are in the order of their keys
pub in_order : (one other : Key) → IsWritten one → IsWritten other → slice_cmp nat_cmp (key_text one) (key_text other) ≡ key_cmp one other
in_order one other is also =
    slice_cmp-key_text one other (IsLawfulKey-text (key_text one) one is) (IsLawfulKey-text (key_text other) other also)
    (slice_cmp-ulid_texts (text_of (key_ulid one)) (text_of (key_ulid other)) (key_ulid one) (key_ulid other) (block_text one is) (block_text other also))

-- texts are the same where their keys are
same_test : (one other : Key) → IsWritten one → IsWritten other → bytes_eq (key_text one) (key_text other) ≡ is_at (key_cmp one) other
same_test one other is also = sym (is_eq-slice_cmp (key_text one) (key_text other)) ∙ ap is_eq (in_order one other is also)

-- what stands under a key after a change at another
changed : (b : Bool) (entries : List Entry) (w : Option ℕ) (bytes was : Option (List ℕ)) (at : Option ℕ)
    → bytes ≡ put_under entries w → was ≡ put_under entries at → cond b bytes was ≡ put_under entries (cond b w at)
changed true entries w bytes was at is own = is
changed false entries w bytes was at is own = own

-- a text under which something stands after a change at a key
still : (b : Bool) (bytes was : Option (List ℕ)) → IsSome (cond b bytes was) → b ≡ false → IsSome was
still true bytes was some is = cc (is)
still false bytes was some is = some

there_changed : (b : Bool) (entries : List Entry) (w at : Option ℕ) → IsSome (cond b w at)
    → (IsSome w → IsSome (put_under entries w)) → (b ≡ false → IsSome at → IsSome (put_under entries at)) → IsSome (put_under entries (cond b w at))
there_changed true entries w at some own others = own some
there_changed false entries w at some own others = others refl some

-- ---- keys that are the same in their order

then_parts : (a b : Ordering) → is_eq (ordering_then a b) ≡ true → (is_eq a ≡ true) × (is_eq b ≡ true)
then_parts Less b is = cc (is)
then_parts Equal b is = (refl, is)
then_parts Greater b is = cc (is)

of_parts : (one other : Key) → key_ulid one ≡ key_ulid other → key_kind one ≡ key_kind other → key_number one ≡ key_number other → one ≡ other
of_parts (Meta u) (Meta v) block kind number = ap Meta block
of_parts (Index u) (Index v) block kind number = ap Index block
of_parts (Mark u) (Mark v) block kind number = ap Mark block
of_parts (Segment u m) (Segment v n) block kind number = cc (block, number)
of_parts one other block kind number = absurd (omega (arith, kind))

-- a key that is another's in the order of keys is that key
pub same_key : (one other : Key) → is_at (key_cmp one) other ≡ true → one ≡ other
same_key one other same =
    let blocks = then_parts (nat_cmp (key_ulid one) (key_ulid other)) (ordering_then (nat_cmp (key_kind one) (key_kind other)) (nat_cmp (key_number one) (key_number other))) same in
    let names = then_parts (nat_cmp (key_kind one) (key_kind other)) (nat_cmp (key_number one) (key_number other)) blocks.1 in
    of_parts one other (same-from_is_eq (key_ulid one) (key_ulid other) blocks.0) (same-from_is_eq (key_kind one) (key_kind other) names.0) (same-from_is_eq (key_number one) (key_number other) names.1)

-- a key is itself
pub key_itself : (key : Key) → key_cmp key key ≡ Equal
key_itself key =
    ap (λ o. ordering_then o (ordering_then (nat_cmp (key_kind key) (key_kind key)) (nat_cmp (key_number key) (key_number key)))) (nat_cmp-Equal (key_ulid key))
    ∙ ap (λ o. ordering_then o (nat_cmp (key_number key) (key_number key))) (nat_cmp-Equal (key_kind key))
    ∙ nat_cmp-Equal (key_number key)

module _ (entries : List Entry) (old new : Places) (contents : Contents) (key : Key) (w : Option ℕ) (bytes : Option (List ℕ)) where
  written_of : IsWritten key → Holds entries old contents → (b : Bool) (q : Key) → is_at (key_cmp key) q ≡ b → IsSome (cond b w (get key_cmp old q)) → IsWritten q
  written_of is holds true q same some = subst IsWritten (same_key key q same) is
  written_of is holds false q other some = (holds.there q some).0

  -- what stands after a change at one key
  pub one_changed : IsWritten key → ((q : Key) → get key_cmp new q ≡ cond (is_at (key_cmp key) q) w (get key_cmp old q)) → bytes ≡ put_under entries w
      → (IsSome w → IsSome (put_under entries w)) → Holds entries old contents
      → Holds entries new (λ other. cond (bytes_eq (key_text key) other) bytes (contents other))
  one_changed is updates puts some holds = record {
    under = λ q also.
        ap (λ b. cond b bytes (contents (key_text q))) (same_test key q is also)
        ∙ changed (is_at (key_cmp key) q) entries w bytes (contents (key_text q)) (get key_cmp old q) puts (holds.under q also)
        ∙ ap (put_under entries) (sym (updates q));
    only = λ text stands. ⊎_elim
        (λ same. (key, is, sym ((bytes_eq-Decides (key_text key) text).0 same)))
        (λ other. holds.only text (still (bytes_eq (key_text key) text) bytes (contents text) stands other))
        (cases_Bool (bytes_eq (key_text key) text));
    there = λ q stands.
        let now : IsSome (cond (is_at (key_cmp key) q) w (get key_cmp old q)) = subst (λ (o : Option ℕ). IsSome o) (updates q) stands in (
          written_of is holds (is_at (key_cmp key) q) q refl now,
          subst (λ (o : Option ℕ). IsSome (put_under entries o)) (sym (updates q)) (there_changed (is_at (key_cmp key) q) entries w (get key_cmp old q) now some (λ other was. (holds.there q was).1)),
        );
  }
