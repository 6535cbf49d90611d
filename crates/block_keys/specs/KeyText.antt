-- The text of a key: the block's ULID, a slash, and the name of the object within the block. A segment's name is its number
-- in six decimal digits.
use Rattle.std.specs.Prelude.{◌≡◌, ℕ, ◌+◌, ◌≤◌, Bool, ◌&&◌, List, ◌++◌, map, length, codes, Option, None, Some, Result, Ok, Err, option_map, ◌==◌, nat_lt, if◌then◌else◌}
use Rattle.std.specs.List.{before_first, after_first, list_all}
use Rattle.std.specs.Char.{is_ascii_digit}
use Rattle.std.specs.Str.{bytes_eq, byte}
use Rattle.std.specs.Str.Parse.{AllDigits, digits_value}
use Rattle.base.specs.Decimal.{digit_zero}
use Rattle.base.specs.FixedDigits.{fixed_digits}
use Rattle.ulid_core.specs.UlidText.{IsUlidText, text_of, ulid_of}
use Rattle.ulid_core.specs.declared.ulid.UlidRefusal.{UlidRefusal}
use Rattle.block_keys.specs.Keys.{key_ulid}
use Rattle.block_keys.specs.declared.key.Key.{Key}
use Rattle.block_keys.specs.declared.key.Key.TheVariants.{Meta, Index, Segment, Mark}

-- The name of a segment: six decimal digits that write its number, which is not 0.
pub record IsSegmentName (name : List ℕ) (number : ℕ) : Type 0 where
  pub digits : List ℕ
  pub name_is : name ≡ codes "chunks/" ++ digits
  pub count : length digits ≡ 6
  pub decimal : AllDigits 10 digits
  pub number_is : number ≡ digits_value 10 digits
  pub first : 1 ≤ number

-- The name of an object within its block.
abbrev pub IsName : List ℕ → Key → Type 0
IsName name (Meta ulid) = name ≡ codes "meta.json"
IsName name (Index ulid) = name ≡ codes "index"
IsName name (Segment ulid number) = IsSegmentName name number
IsName name (Mark ulid) = name ≡ codes "deletion-mark.json"

-- The text of a key.
pub record IsKeyText (text : List ℕ) (key : Key) : Type 0 where
  pub block : List ℕ
  pub name : List ℕ
  pub text_is : text ≡ block ++ codes "/" ++ name
  pub is_block : IsUlidText block (key_ulid key)
  pub is_name : IsName name key

-- six decimal digits of a number
unfoldable pub six_digits : ℕ → List ℕ
six_digits number = map (λ digit. digit_zero + digit) (fixed_digits 10 6 number)

-- the one name of an object within its block
unfoldable pub name_of : Key → List ℕ
name_of (Meta ulid) = codes "meta.json"
name_of (Index ulid) = codes "index"
name_of (Segment ulid number) = codes "chunks/" ++ six_digits number
name_of (Mark ulid) = codes "deletion-mark.json"

-- the one text of a key
unfoldable pub key_text : Key → List ℕ
key_text key = text_of (key_ulid key) ++ codes "/" ++ name_of key

abbrev pub is_slash : ℕ → Bool
is_slash c = c == byte "/"

-- the number that six digits write, if it is not 0
unfoldable pub number_of : List ℕ → Option ℕ
number_of digits =
    if (length digits == 6) && list_all is_ascii_digit digits && nat_lt 0 (digits_value 10 digits)
    then Some (digits_value 10 digits) else None

-- the number of a segment by its name
unfoldable pub segment_of : List ℕ → Option ℕ
segment_of name =
    if bytes_eq (before_first is_slash name) (codes "chunks") then number_of (after_first is_slash name) else None

-- the key of the object with a name in a block, if it has one
unfoldable pub key_named : ℕ → List ℕ → Option Key
key_named ulid name =
    if bytes_eq name (codes "meta.json") then Some (Meta ulid)
    else (if bytes_eq name (codes "index") then Some (Index ulid)
    else (if bytes_eq name (codes "deletion-mark.json") then Some (Mark ulid)
    else option_map (λ number. Segment ulid number) (segment_of name)))

-- the same in a block whose text was read
abbrev pub key_within : Result ℕ UlidRefusal → List ℕ → Option Key
key_within (Ok ulid) name = key_named ulid name
key_within (Err refusal) name = None

-- the key that a text is read as, if it is one's
unfoldable pub key_of : List ℕ → Option Key
key_of text = key_within (ulid_of (before_first is_slash text)) (after_first is_slash text)
