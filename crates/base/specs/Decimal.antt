-- Numbers as decimal text: the digits in base ten, the highest first, no needless zero in front and no sign but the `-` of
-- a number below zero.
use Rattle.std.specs.Prelude.{ℕ, zero, suc, ◌+◌, ◌^◌, List, [], ◌∷◌, map, Result, Ok, Err, Bool, ◌&&◌, ◌||◌, ◌==◌, not, nat_lt, length, slice_index, drop, if◌then◌else◌, ℤ, pos, negsuc}
use Rattle.std.specs.List.{list_all}
use Rattle.std.specs.Char.{is_ascii_digit}
use Rattle.std.specs.Int.Digits.{digits_of}
use Rattle.std.specs.Str.Parse.{digits_value, signed_digits_value}
use Rattle.base.specs.declared.number.NumberRefusal.{NumberRefusal}
use Rattle.base.specs.declared.number.NumberRefusal.TheVariants.{NotANumber, TooLarge}

-- the digit 0, which the others follow
abbrev pub digit_zero : ℕ
digit_zero = 48

abbrev pub minus_sign : ℕ
minus_sign = 45

-- the one text of a number from zero on
unfoldable pub decimal_text : ℕ → List ℕ
decimal_text zero = digit_zero ∷ []
decimal_text (suc n) = map (λ digit. digit_zero + digit) (digits_of 10 (suc n))

-- the one text of a number on either side of zero
unfoldable pub signed_text : ℤ → List ℕ
signed_text (pos n) = decimal_text n
signed_text (negsuc n) = minus_sign ∷ decimal_text (suc n)

-- What follows is how a reader tells such a text: `proofs/Decimals.antt` shows that it takes these texts and no others.

-- digits, at least one, and `0` in front of no other
unfoldable pub is_decimal : List ℕ → Bool
is_decimal text = nat_lt 0 (length text) && (not (slice_index text 0 == digit_zero) || (length text == 1)) && list_all is_ascii_digit text

-- the same, or `-` before what does not begin with `0`
unfoldable pub is_signed_decimal : List ℕ → Bool
is_signed_decimal text =
    if slice_index text 0 == minus_sign then not (slice_index text 1 == digit_zero) && is_decimal (drop 1 text) else is_decimal text

-- what reading a number of 64 bits gives
unfoldable pub unsigned_of : List ℕ → Result ℕ NumberRefusal
unsigned_of text =
    if is_decimal text
    then (if nat_lt (digits_value 10 text) (2 ^ 64) then Ok (digits_value 10 text) else Err TooLarge)
    else Err NotANumber

-- the signed numbers of 64 bits
abbrev pub fits_signed : ℤ → Bool
fits_signed (pos n) = nat_lt n (2 ^ 63)
fits_signed (negsuc n) = nat_lt n (2 ^ 63)

-- what reading a signed number of 64 bits gives
unfoldable pub signed_of : List ℕ → Result ℤ NumberRefusal
signed_of text =
    if is_signed_decimal text
    then (if fits_signed (signed_digits_value 10 text) then Ok (signed_digits_value 10 text) else Err TooLarge)
    else Err NotANumber
