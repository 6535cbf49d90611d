-- The texts of each field's values, apart from reading and writing.
use Rattle.std.specs.Prelude.{◌≡◌, ℕ, ◌+◌, ◌*◌, ◌^◌, ◌<◌, ◌≤◌, List, [], ◌∷◌, ◌++◌, length, take, slice_index, Result, Ok, IfOk, ℤ}
use Rattle.std.specs.List.{AllByRecursion}
use Rattle.std.specs.Int.{Width, byte_len, to_be_bytes}
use Rattle.base.specs.Grammar.{HasFront}
use Rattle.wire_bytes.specs.declared.varint.WireRefusal.{WireRefusal}
use Rattle.wire_bytes.specs.Position.{Position, left}
use Rattle.wire_bytes.specs.Fields.{zigzag, group_base, group_count, low_group_count}

-- A number of fixed width has one text: its bytes, the highest first.
pub record IsFixed (w : Width) (text : List ℕ) (n : ℕ) : Type 0 where
  pub digits : text ≡ to_be_bytes w n
  pub fits : n < 2 ^ (8 * byte_len w)

-- A number in base 128 (LEB128, as in protocol buffers): groups of seven bits, the lowest first, each in a byte of its own
-- that has 128 more where another follows. The highest groups may be zero, so that a number has several texts.
abbrev pub IsGroups : List ℕ → ℕ → Type 0
IsGroups [] n = ⊥
IsGroups (last ∷ []) n = (last < group_base) × (n ≡ last)
IsGroups (low ∷ next ∷ others) n = (group_base ≤ low) × (low < 256) × (high : ℕ) × (n + group_base ≡ low + group_base * high) × IsGroups (next ∷ others) high

-- one of 64 bits, of no more groups than such a number can have
pub record IsUvarint (text : List ℕ) (n : ℕ) : Type 0 where
  pub groups : IsGroups text n
  pub few : length text ≤ group_count
  pub fits : n < 2 ^ 64

-- a signed one, by its place in the order 0, -1, 1, -2, 2
abbrev pub IsVarint : List ℕ → ℤ → Type 0
IsVarint text n = IsUvarint text (zigzag n)

-- The bytes end inside a number: each says that another follows.
pub record EndsInside (bytes : List ℕ) : Type 0 where
  pub follows : AllByRecursion (λ byte. group_base ≤ byte) bytes
  pub few : length bytes < group_count

-- Each byte before the highest group that a number can have says that another follows, and that group is above 1.
pub record PassesLimit (bytes : List ℕ) : Type 0 where
  pub follows : AllByRecursion (λ byte. group_base ≤ byte) (take low_group_count bytes)
  pub many : low_group_count < length bytes
  pub tenth : 1 < slice_index bytes low_group_count

-- What was read from one position to another is a text of the value.
abbrev pub Found : {V : Type 0} → (List ℕ → V → Type 0) → Position → Position → Result V WireRefusal → Type 0
Found IsText before after result = IfOk result (λ value. HasFront IsText (left before) value (left after))

-- Where some front is a text of a value, that value is read, whatever follows.
abbrev pub Only : {V : Type 0} → (List ℕ → V → Type 0) → Position → Position → Result V WireRefusal → Type 0
Only {V} IsText before after result = (text : List ℕ) (value : V) (others : List ℕ) → IsText text value → left before ≡ text ++ others → (result ≡ Ok value) × (left after ≡ others)
