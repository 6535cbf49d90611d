-- What stands, kept by keys, each with the place of the entry that put it.
use Rattle.std.specs.Prelude.{◌≡◌, ℕ, List, Option, Some, None, IsSome, slice_get}
use Rattle.std.specs.BTreeMap.{BTreeMap, get}
use Rattle.block_keys.specs.Keys.{key_cmp}
use Rattle.block_keys.specs.KeyText.{IsKeyText, key_text}
use Rattle.block_keys.specs.declared.key.Key.{Key}
use Rattle.bucket_core.specs.Contents.{Contents}
use Rattle.world_core.specs.declared.entry.Entry.{Entry}
use Rattle.world_core.specs.declared.op.Op.{Op}
use Rattle.world_core.specs.declared.op.Op.TheVariants.{Clock, Put, Get, GetRange, Delete, RootPage, BlockPage}

-- the bytes that an operation puts
abbrev pub put_by : Op → Option (List ℕ)
put_by (Put key bytes) = Some bytes
put_by (Clock moment) = None
put_by (Get key) = None
put_by (GetRange key from len) = None
put_by (Delete key) = None
put_by (RootPage after limit) = None
put_by (BlockPage ulid after limit) = None

abbrev pub put_in : Option Entry → Option (List ℕ)
put_in None = None
put_in (Some e) = put_by e.op

-- the bytes that are put at a place
abbrev pub put_at : List Entry → ℕ → Option (List ℕ)
put_at entries place = put_in (slice_get entries place)

abbrev pub put_under : List Entry → Option ℕ → Option (List ℕ)
put_under entries None = None
put_under entries (Some place) = put_at entries place

-- the places of what stands, by keys
abbrev pub Places : Type 0
Places = BTreeMap Key ℕ

-- the bytes under a key
abbrev pub bytes_at : List Entry → Places → Key → Option (List ℕ)
bytes_at entries places key = put_under entries (get key_cmp places key)

-- the key has a text
abbrev pub IsWritten : Key → Type 0
IsWritten key = IsKeyText (key_text key) key

-- This stands: under the text of each key the bytes that are put at its place, and under no other text anything.
pub record Holds (entries : List Entry) (places : Places) (contents : Contents) : Type 0 where
  pub under : (key : Key) → IsWritten key → contents (key_text key) ≡ bytes_at entries places key
  pub only : (text : List ℕ) → IsSome (contents text) → (key : Key) × IsWritten key × (text ≡ key_text key)
  pub there : (key : Key) → IsSome (get key_cmp places key) → IsWritten key × IsSome (bytes_at entries places key)

-- each object stands under a key that has a text
abbrev pub HaveTexts : Places → Type 0
HaveTexts places = (key : Key) → IsSome (get key_cmp places key) → IsWritten key
