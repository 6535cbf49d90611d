-- The next object of a block is the first key behind one of the block's own.
use Rattle.std.proofs.Common.{◌≡◌, ℕ, suc, ◌==◌, ◌&&◌, Bool, true, List, [], ◌∷◌, ◌++◌, length, Option, Some, None, refl, sym, ◌∙◌, ap, subst, arith}
use Rattle.std.specs.Prelude.{find}
use Rattle.std.specs.BTreeMap.{keys, IsOrdered}
use Rattle.std.specs.Ordering.{nat_cmp, is_lt, ordering_then}
use Rattle.std.specs.Cmp.Lexicographic.{slice_cmp}
use Rattle.std.specs.declared.cmp.Ordering.TheVariants.{Less}
use Rattle.std.proofs.lemmas.Bool.{and_parts, eqb-true, eq-eqb}
use Rattle.std.proofs.lemmas.Bool.Decides.{Decides-eqb}
use Rattle.base.proofs.Bools.{Less-from_is_lt, nat_cmp-Equal, nat_cmp-Less}
use Rattle.ulid_core.specs.UlidText.{text_of}
use Rattle.block_keys.specs.Keys.{IsLawfulKey, key_cmp, key_ulid}
use Rattle.block_keys.specs.KeyText.{key_text, name_of}
use Rattle.block_keys.specs.declared.key.Key.{Key}
use Rattle.block_keys.specs.declared.key.Key.TheVariants.{Meta, Index, Segment, Mark}
use Rattle.block_keys.proofs.KeyLaws.{IsLawfulKey-text}
use Rattle.breach_finding.specs.Held.{HaveTexts, IsWritten, Places}
use Rattle.breach_finding.specs.Next.{IsBehindIn, IsDueAt, IsDueIn, IsFirstKey, Stands, is_due_object}
use Rattle.breach_finding.proofs.Changes.{in_order}
use Rattle.breach_finding.proofs.Objects.{cmp_behind}
use Rattle.breach_finding.proofs.Scans.{FirstDue, scanned}

-- ---- behind a key of the block

module _ (places : Places) (ulid : ℕ) (key : Key) (own : key_ulid key ≡ ulid) where
  abbrev Behind : Key → Type 0
  Behind other = key_cmp key other ≡ Less

  pub behind_none : IsFirstKey Behind places None → IsFirstKey (IsBehindIn ulid key) places None
  behind_none none = λ other stands due. none other stands due.1

-- ---- the first that is due

first_as : (P Q : Key → Type 0) (places : Places) (r : Option Key) → ((k : Key) → Stands places k → P k → Q k) → ((k : Key) → Stands places k → Q k → P k) → IsFirstKey P places r → IsFirstKey Q places r
first_as P Q places None on back none = λ k stands due. none k stands (back k stands due)
first_as P Q places (Some first) on back (stands, is, least) = (stands, on first stands is, λ k has due. least k has (back k has due))

due_by : (ulid : ℕ) (cursor : List ℕ) (k : Key) → key_ulid k ≡ ulid → slice_cmp nat_cmp cursor (key_text k) ≡ Less → IsDueAt ulid cursor k
due_by ulid cursor k is less = ap (λ b. b && is_lt (slice_cmp nat_cmp cursor (key_text k))) (eq-eqb (key_ulid k) ulid is) ∙ ap is_lt less

by_due : (ulid : ℕ) (cursor : List ℕ) (k : Key) → IsDueAt ulid cursor k → (key_ulid k ≡ ulid) × (slice_cmp nat_cmp cursor (key_text k) ≡ Less)
by_due ulid cursor k due =
    let parts = and_parts (key_ulid k == ulid) (is_lt (slice_cmp nat_cmp cursor (key_text k))) due in
    (eqb-true (key_ulid k) ulid parts.0, Less-from_is_lt _ parts.1)

module _ (places : Places) (texts : HaveTexts places) (ulid : ℕ) where
  -- behind the text of a key of the block
  pub due_behind : (cursor : List ℕ) (key : Key) (r : Option Key) → IsWritten key → cursor ≡ key_text key → IsFirstKey (IsBehindIn ulid key) places r → IsFirstKey (IsDueAt ulid cursor) places r
  due_behind cursor key r written is =
      let order : (k : Key) → Stands places k → slice_cmp nat_cmp cursor (key_text k) ≡ key_cmp key k =
      λ k stands. ap (λ (t : List ℕ). slice_cmp nat_cmp t (key_text k)) is ∙ in_order key k written (texts k stands) in
      first_as (IsBehindIn ulid key) (IsDueAt ulid cursor) places r
      (λ k stands due. due_by ulid cursor k due.0 (order k stands ∙ due.1))
      (λ k stands due. let by = by_due ulid cursor k due in (by.0, sym (order k stands) ∙ by.1))

  -- an empty name is before all names of objects
  name_first : (k : Key) → slice_cmp nat_cmp [] (name_of k) ≡ Less
  unfolding name_of
  name_first (Meta u) = refl
  name_first (Index u) = refl
  name_first (Segment u n) = refl
  name_first (Mark u) = refl

  -- and segment 0 is before all lawful keys of the block
  key_first : (k : Key) → IsLawfulKey k → key_cmp (Segment (key_ulid k) 0) k ≡ Less
  key_first (Meta u) lawful = ap (λ o. ordering_then o Less) (nat_cmp-Equal u)
  key_first (Index u) lawful = ap (λ o. ordering_then o Less) (nat_cmp-Equal u)
  key_first (Segment u n) lawful = ap (λ o. ordering_then o (nat_cmp 0 n)) (nat_cmp-Equal u) ∙ nat_cmp-Less 0 n (let low = lawful.0 in omega (arith, low))
  key_first (Mark u) lawful = ap (λ o. ordering_then o Less) (nat_cmp-Equal u)

  pub due_first : (r : Option Key) → IsFirstKey (IsBehindIn ulid (Segment ulid 0)) places r → IsFirstKey (IsDueIn ulid []) places r
  due_first r =
      first_as (IsBehindIn ulid (Segment ulid 0)) (IsDueIn ulid []) places r
      (λ k stands due. due_by ulid (text_of ulid ++ 47 ∷ []) k due.0 (ap (λ (u : ℕ). slice_cmp nat_cmp (text_of u ++ 47 ∷ []) (key_text k)) (sym due.0) ∙ cmp_behind k [] ∙ name_first k))
      (λ k stands due. let is = (by_due ulid (text_of ulid ++ 47 ∷ []) k due).0 in
      (is, ap (λ (u : ℕ). key_cmp (Segment u 0) k) (sym is) ∙ key_first k (IsLawfulKey-text (key_text k) k (texts k stands))))

-- ---- a scan of all keys

scan_as : (due : Key → Bool) (places : Places) (r : Option Key) → FirstDue due places.entries r → IsFirstKey (λ key. due key ≡ true) places r
scan_as due places None none = λ k stands is. cc (is, none k stands)
scan_as due places (Some first) is = is

pub due_by_scan : (places : Places) (ulid : ℕ) (cursor : List ℕ) (r : Option Key) → IsOrdered key_cmp places → r ≡ find (is_due_object ulid cursor) (keys places) → IsFirstKey (IsDueAt ulid cursor) places r
due_by_scan places ulid cursor r ordered is = scan_as (is_due_object ulid cursor) places r (subst (FirstDue (is_due_object ulid cursor) places.entries) (sym is) (scanned (is_due_object ulid cursor) places.entries ordered))

-- a text without a byte
pub no_names : (text : List ℕ) (empty : Bool) → empty ≡ (length text == 0) → empty ≡ true → text ≡ []
no_names [] empty is so = refl
no_names (b ∷ text) empty is so = let none : suc (length text) ≡ 0 = (Decides-eqb (suc (length text)) 0).0 (sym is ∙ so) in absurd (omega (arith, none))
