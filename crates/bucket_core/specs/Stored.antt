-- Objects in a list, in the order of their keys.
use Rattle.std.specs.Prelude.{◌≡◌, ◌==◌, ℕ, ◌≤◌, ◌<◌, ◌-◌, ◌++◌, Option, Bool, true, false, if◌then◌else◌, List, [], ◌∷◌, length, take, drop, Some, None}
use Rattle.std.specs.List.{slice_index_or, before_first, list_all, AllByRecursion}
use Rattle.std.specs.List.Sorted.{IsStrictlySortedBy}
use Rattle.std.specs.Option.{option_map_or}
use Rattle.std.specs.Ordering.{ordering_then, is_lt}
use Rattle.std.specs.Str.{bytes_eq}
use Rattle.std.specs.declared.cmp.Ordering.{Ordering}
use Rattle.wire_bytes.specs.Files.{slash}
use Rattle.label_sets.specs.Labels.{compare_texts, is_lesser_text}
use Rattle.bucket_core.specs.Contents.{Contents, is_key}
use Rattle.bucket_core.specs.Pages.{IsPage}
use Rattle.bucket_core.specs.declared.objects.Stored.{Stored}

-- a key's part before its first slash
abbrev pub first_part : List ℕ → List ℕ
first_part key = before_first (λ byte. byte == slash) key

-- keys are ordered by their first parts, and where these agree by their texts: so the first parts ascend too
abbrev pub key_cmp : List ℕ → List ℕ → Ordering
key_cmp one other = ordering_then (compare_texts (first_part one) (first_part other)) (compare_texts one other)

-- whether the object's key comes before this one
abbrev pub is_before : List ℕ → Stored → Bool
is_before key object = is_lt (key_cmp object.key key)

-- what stands
abbrev pub object_in : List Stored → Contents
object_in [] key = None
object_in (object ∷ objects) key = if bytes_eq object.key key then Some object.bytes else object_in objects key

-- the order of objects is that of their keys
abbrev pub by_key : Stored → Stored → Ordering
by_key one other = key_cmp one.key other.key

-- each object stands under a key
abbrev pub have_keys : List Stored → Bool
have_keys objects = list_all (λ object. is_key object.key) objects

-- the place where a key stands or would stand
pub record IsPlace (key : List ℕ) (objects : List Stored) (place : ℕ) : Type 0 where
  pub within : place ≤ length objects
  pub front : AllByRecursion (λ object. is_before key object ≡ true) (take place objects)
  pub back : AllByRecursion (λ object. is_before key object ≡ false) (drop place objects)

-- the contents with this under the key, or with nothing, and all else as before
abbrev pub updated : List ℕ → Option (List ℕ) → Contents → Contents
updated key object contents = λ other. if bytes_eq key other then object else contents other

-- the new list is in order and stands for the old one's contents but at this key
pub record IsUpdated (key : List ℕ) (object : Option (List ℕ)) (old new : List Stored) : Type 0 where
  pub ordered : IsStrictlySortedBy by_key new
  pub keys : have_keys new ≡ true
  pub stands : object_in new ≡ updated key object (object_in old)

-- an object under this key stands at the place
abbrev pub StandsAt : List ℕ → List Stored → ℕ → Type 0
StandsAt key objects place = (place < length objects) × ((d : Stored) → (slice_index_or objects place d).key ≡ key)

-- what follows a text in another that begins with it
abbrev pub text_after : List ℕ → List ℕ → Option (List ℕ)
text_after [] text = Some text
text_after (byte ∷ bytes) [] = None
text_after (byte ∷ bytes) (first ∷ rest) = if byte == first then text_after bytes rest else None

-- the name under which a folder, or the whole bucket, lists a key
abbrev pub name_of : List ℕ → List ℕ → Option (List ℕ)
name_of [] key = Some (first_part key)
name_of (byte ∷ bytes) key = text_after ((byte ∷ bytes) ++ slash ∷ []) key

-- the names of objects in their order, up to the first that has none
abbrev pub names_of : List ℕ → List Stored → List (List ℕ)
names_of within [] = []
names_of within (object ∷ objects) = option_map_or (λ name. name ∷ names_of within objects) (name_of within object.key) []

-- the first names in a rising list that are greater than the last one taken
abbrev pub picked : List ℕ → ℕ → List (List ℕ) → List (List ℕ)
picked last limit [] = []
picked last limit (name ∷ names) =
    if is_lesser_text last name then (if limit == 0 then [] else name ∷ picked name (limit - 1) names) else picked last limit names

-- a place behind which each page of a folder is picked
pub record IsStart (within after : List ℕ) (objects : List Stored) (place : ℕ) : Type 0 where
  pub start_within : place ≤ length objects
  pub page : (limit : ℕ) → IsPage (object_in objects) within after limit (picked after limit (names_of within (drop place objects)))
