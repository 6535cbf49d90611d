-- The text of a ULID, as the ULID specification has it: its number in Crockford's base 32, with 26 characters, the most
-- significant first. Letters are in upper case alone.
use Rattle.std.specs.Prelude.{◌≡◌, ℕ, ◌^◌, ◌<◌, List, map, length, slice_index, codes, position, Option, None, Some, is_none, unwrap_or, Result, Ok, Err, ◌==◌, nat_le, if◌then◌else◌}
use Rattle.std.specs.Int.Digits.{number_from_digits, AllBelowBase}
use Rattle.std.specs.Str.{byte}
use Rattle.base.specs.FixedDigits.{fixed_digits}
use Rattle.ulid_core.specs.declared.ulid.UlidRefusal.{UlidRefusal}
use Rattle.ulid_core.specs.declared.ulid.UlidRefusal.TheVariants.{BadLength, BadCharacter, TooLarge}

-- Crockford's digits: the decimal digits and the letters without I, L, O and U
unfoldable pub alphabet : List ℕ
alphabet = codes "0123456789ABCDEFGHJKMNPQRSTVWXYZ"

-- the character of a digit below 32
unfoldable pub character : ℕ → ℕ
character digit = slice_index alphabet digit

-- the digit that a character stands for, if it stands for one
unfoldable pub digit_of : ℕ → Option ℕ
digit_of byte = position (λ c. c == byte) alphabet

-- how many characters a text has
abbrev pub text_length : ℕ
text_length = 26

-- The text is that of the ULID: so many digits in base 32 that write its number, each by its character.
pub record IsUlidText (text : List ℕ) (ulid : ℕ) : Type 0 where
  pub digits : List ℕ
  pub count : length digits ≡ text_length
  pub below_base : AllBelowBase 32 digits
  pub characters : text ≡ map character digits
  pub number : ulid ≡ number_from_digits 32 digits
  pub fits : ulid < 2 ^ 128

-- the one text of a ULID
unfoldable pub text_of : ℕ → List ℕ
text_of ulid = map character (fixed_digits 32 text_length ulid)

-- the number that a text of characters writes
unfoldable pub number_of : List ℕ → ℕ
number_of text = number_from_digits 32 (map (λ c. unwrap_or (digit_of c) 0) text)

-- the first place of a byte that is no character
unfoldable pub bad_place : List ℕ → Option ℕ
bad_place text = position (λ c. is_none (digit_of c)) text

-- what a text of the right length is read as, given its first bad place
abbrev pub read_characters : Option ℕ → List ℕ → Result ℕ UlidRefusal
read_characters (Some place) text = Err (BadCharacter place)
read_characters None text = if nat_le (slice_index text 0) (byte "7") then Ok (number_of text) else Err TooLarge

-- what a text is read as: its length is tested first, then its characters, then its first character alone
unfoldable pub ulid_of : List ℕ → Result ℕ UlidRefusal
ulid_of text = if length text == text_length then read_characters (bad_place text) text else Err BadLength
