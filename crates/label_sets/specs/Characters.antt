-- The bytes that have a meaning of their own in the texts of label sets, samples and selectors.
use Rattle.std.specs.Prelude.{ℕ}

abbrev pub space : ℕ
space = 32

-- `"`
abbrev pub double_quote : ℕ
double_quote = 34

-- `,`
abbrev pub comma : ℕ
comma = 44

-- `:`
abbrev pub colon : ℕ
colon = 58

-- `=`
abbrev pub equals_sign : ℕ
equals_sign = 61

-- `\`
abbrev pub backslash : ℕ
backslash = 92

-- `_`
abbrev pub underscore : ℕ
underscore = 95

abbrev pub letter_a : ℕ
letter_a = 97

abbrev pub letter_f : ℕ
letter_f = 102

-- `n`, which stands for a newline behind a backslash
abbrev pub letter_n : ℕ
letter_n = 110

-- `{`
abbrev pub open_brace : ℕ
open_brace = 123

-- `}`
abbrev pub close_brace : ℕ
close_brace = 125
