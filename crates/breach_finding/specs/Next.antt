-- The next name of a page.
use Rattle.std.specs.Prelude.{◌≡◌, ◌⊎◌, ◌==◌, ◌&&◌, ℕ, ◌≤◌, Bool, true, false, List, ◌∷◌, ◌++◌, Option, Some, None, IsSome}
use Rattle.std.specs.BTreeMap.{get}
use Rattle.std.specs.Ordering.{is_gt}
use Rattle.std.specs.declared.cmp.Ordering.TheVariants.{Less}
use Rattle.base.specs.Order.{comes_after}
use Rattle.ulid_core.specs.UlidText.{text_of}
use Rattle.label_sets.specs.Labels.{ComesBefore, compare_texts}
use Rattle.block_keys.specs.Keys.{key_cmp, key_ulid}
use Rattle.block_keys.specs.KeyText.{key_text}
use Rattle.block_keys.specs.declared.key.Key.{Key}
use Rattle.bucket_core.specs.Contents.{Contents}
use Rattle.bucket_core.specs.Pages.{IsName}
use Rattle.bucket_core.specs.Files.{slash}
use Rattle.breach_finding.specs.Held.{Places}

-- something stands under the key
abbrev pub Stands : Places → Key → Type 0
Stands places key = IsSome (get key_cmp places key)

-- the first key that is due, if something stands under one
abbrev pub IsFirstKey : (Key → Type 0) → Places → Option Key → Type 0
IsFirstKey IsDue places None = (key : Key) → Stands places key → ¬ IsDue key
IsFirstKey IsDue places (Some first) =
    Stands places first × IsDue first
    × ((key : Key) → Stands places key → IsDue key → is_gt (key_cmp first key) ≡ false)

-- whether the name of a key's block comes after the cursor
abbrev pub is_due_block : List ℕ → Key → Bool
is_due_block after key = comes_after compare_texts (Some after) (text_of (key_ulid key))

-- the block is the first one with an object whose name comes after the cursor
abbrev pub IsNextBlock : Places → List ℕ → Option ℕ → Type 0
IsNextBlock places after None = (key : Key) → Stands places key → ¬ ComesBefore after (text_of (key_ulid key))
IsNextBlock places after (Some ulid) =
    (first : Key) × Stands places first × (key_ulid first ≡ ulid) × ComesBefore after (text_of ulid)
    × ((key : Key) → Stands places key → ComesBefore after (text_of (key_ulid key)) → ulid ≤ key_ulid key)

-- whether the key is the block's, and its text comes after the cursor's
abbrev pub is_due_object : ℕ → List ℕ → Key → Bool
is_due_object ulid cursor key = (key_ulid key == ulid) && comes_after compare_texts (Some cursor) (key_text key)

-- the key is due after a cursor
abbrev pub IsDueAt : ℕ → List ℕ → Key → Type 0
IsDueAt ulid cursor key = is_due_object ulid cursor key ≡ true

-- the key is the block's, and its name comes after this one
abbrev pub IsDueIn : ℕ → List ℕ → Key → Type 0
IsDueIn ulid after key = IsDueAt ulid (text_of ulid ++ slash ∷ after) key

-- the key is the block's, and stands behind the other one
abbrev pub IsBehindIn : ℕ → Key → Key → Type 0
IsBehindIn ulid key other = (key_ulid other ≡ ulid) × (key_cmp key other ≡ Less)

-- the name is the least that is due after the cursor
pub record IsLeast (contents : Contents) (within after name : List ℕ) : Type 0 where
  pub named : IsName contents within name
  pub due : ComesBefore after name
  pub least : (other : List ℕ) → IsName contents within other → ComesBefore after other → (name ≡ other) ⊎ ComesBefore name other
