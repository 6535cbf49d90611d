-- The text of a ULID is ASCII, so it is UTF-8.
use Rattle.std.proofs.Common.{ℕ, List, [], ◌∷◌, map, arith}
use Rattle.std.specs.Int.Digits.{AllBelowBase}
use Rattle.std.specs.Str.{IsUtf8, IsAscii}
use Rattle.std.proofs.lemmas.Str.{IsUtf8-from_ascii}
use Rattle.std.proofs.lemmas.Str.Ascii.{IsAscii-nil, IsAscii-cons}
use Rattle.base.specs.FixedDigits.{fixed_digits}
use Rattle.base.proofs.Positional.{below-fixed_digits}
use Rattle.ulid_core.specs.UlidText.{IsUlidText, character, text_of}
use Rattle.ulid_core.proofs.Tables.{character-range}

pub IsAscii-characters : (digits : List ℕ) → AllBelowBase 32 digits → IsAscii (map character digits)
IsAscii-characters [] all = IsAscii-nil
IsAscii-characters (d ∷ digits) all =
    let range = character-range d all.0 in
    IsAscii-cons (character d) (map character digits) (omega arith) (IsAscii-characters digits all.1)

pub IsAscii-text_of : (ulid : ℕ) → IsAscii (text_of ulid)
unfolding text_of
IsAscii-text_of ulid = IsAscii-characters (fixed_digits 32 26 ulid) (below-fixed_digits 32 26 ulid (omega arith))

pub IsUtf8-text_of : (ulid : ℕ) → IsUtf8 (text_of ulid)
IsUtf8-text_of ulid = IsUtf8-from_ascii (text_of ulid) (IsAscii-text_of ulid)

pub IsAscii-ulid_text : (text : List ℕ) (ulid : ℕ) → IsUlidText text ulid → IsAscii text
IsAscii-ulid_text text ulid is = rw is.characters (IsAscii-characters is.digits is.below_base)
