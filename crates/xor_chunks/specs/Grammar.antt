-- XOR data and the samples that it stands for, apart from reading and writing.
use Rattle.std.specs.Prelude.{◌≡◌, ℕ, ◌-◌, ◌^◌, ◌<◌, ◌≤◌, ◌⊎◌, Bool, true, false, List, [], ◌∷◌, ◌++◌, length, replicate, ℤ, pos, ◌+ℤ◌, ◌-ℤ◌, FitsSigned}
use Rattle.std.specs.Int.{w16, w64, cast_signed}
use Rattle.base.specs.Grammar.{HasFront}
use Rattle.wire_bytes.specs.FieldTexts.{IsFixed, IsUvarint, IsVarint}
use Rattle.label_sets.specs.declared.sample.Sample.{Sample}
use Rattle.xor_chunks.specs.State.{State}
use Rattle.wire_bytes.specs.Bits.{bits_of, bits_in}
use Rattle.xor_chunks.specs.Samples.{sample_of}
use Rattle.xor_chunks.specs.Widths.{narrow_field, middle_field, wide_field, lead_field, width_field}
use Rattle.xor_chunks.specs.Window.{Window, whole, IsInside, changed_pattern}

-- A field of so many bits stands for itself; above the middle, for itself less 2 to its width.
abbrev pub StandsFor : ℕ → ℕ → ℤ → Type 0
StandsFor width field z = ((field ≤ 2 ^ (width - 1)) × (z ≡ pos field)) ⊎ ((2 ^ (width - 1) < field) × (z ≡ pos field -ℤ pos (2 ^ width)))

-- these bits, and a field of so many bits that stands for the number
pub record IsRow (front : List Bool) (width : ℕ) (bits : List Bool) (z : ℤ) : Type 0 where
  pub field : ℕ
  pub fits : field < 2 ^ width
  pub text : bits ≡ front ++ bits_of width field
  pub value : StandsFor width field z

-- these bits, and a field of 64 bits, which stands for a number in two's complement
pub record IsLongRow (front : List Bool) (bits : List Bool) (z : ℤ) : Type 0 where
  pub field : ℕ
  pub fits : field < 2 ^ 64
  pub text : bits ≡ front ++ bits_of 64 field
  pub value : z ≡ cast_signed w64 field

-- by how much a step is longer than the step before it
pub data IsChange (bits : List Bool) (z : ℤ) : Type 0 where
  unchanged : bits ≡ false ∷ [] → z ≡ pos 0 → IsChange bits z
  row_14 : IsRow (true ∷ false ∷ []) narrow_field bits z → IsChange bits z
  row_17 : IsRow (true ∷ true ∷ false ∷ []) middle_field bits z → IsChange bits z
  row_20 : IsRow (true ∷ true ∷ true ∷ false ∷ []) wide_field bits z → IsChange bits z
  row_64 : IsLongRow (true ∷ true ∷ true ∷ true ∷ []) bits z → IsChange bits z

-- a pattern that differs from the one before it in the bits of a window alone, by this text of them
pub record IsInWindow (window : Window) (before : ℕ) (bits : List Bool) (pattern : ℕ) : Type 0 where
  pub field : ℕ
  pub fits : field < 2 ^ window.width
  pub text : bits ≡ bits_of window.width field
  pub value : pattern ≡ changed_pattern before window field
  pub inside : IsInside window

-- a window that is told first: five bits of lead, and six of width, in which 64 stands as 0
pub record IsOpened (before : ℕ) (bits : List Bool) (pattern : ℕ) (window : Window) : Type 0 where
  pub lead : window.lead < 32
  pub some : 0 < window.width
  pub few : window.width ≤ 64
  pub within : List Bool
  pub text : bits ≡ bits_of lead_field window.lead ++ bits_of width_field window.width ++ within
  pub field : IsInWindow window before within pattern

-- A pattern after another, where this window was set, and the window that is set then.
pub data IsValue (window : Window) (before : ℕ) (bits : List Bool) (pattern : ℕ) (after : Window) : Type 0 where
  same_pattern : bits ≡ false ∷ [] → pattern ≡ before → after ≡ window → IsValue window before bits pattern after
  in_window : (within : List Bool) → bits ≡ true ∷ false ∷ within → after ≡ window → IsInWindow window before within pattern → IsValue window before bits pattern after
  opens : (opened : List Bool) → bits ≡ true ∷ true ∷ opened → IsOpened before opened pattern after → IsValue window before bits pattern after

-- The time comes so long after another, and is one of 64 bits.
pub record Follows (before time : ℤ) (delta : ℕ) : Type 0 where
  pub later : time ≡ before +ℤ pos delta
  pub rises : 0 < delta
  pub fits : FitsSigned w64 time

-- a sample after the second: by how much its step is longer, and its value
pub record IsNext (before : State) (bits : List Bool) (next : State) : Type 0 where
  pub change : ℤ
  pub step : List Bool
  pub value : List Bool
  pub text : bits ≡ step ++ value
  pub changes : IsChange step change
  pub longer : pos next.delta ≡ pos before.delta +ℤ change
  pub follows : Follows before.time next.time next.delta
  pub shows : IsValue before.window before.pattern value next.pattern next.window

-- samples after the second
abbrev pub AreOthers : State → List Bool → List Sample → Type 0
AreOthers last bits [] = bits ≡ []
AreOthers last bits (s ∷ ss) = (next : State) × (first : List Bool) × (others : List Bool) × (bits ≡ first ++ others) × IsNext last first next × (s ≡ sample_of next) × AreOthers next others ss

-- the second sample: how long it comes after the first as bytes, and its value and the samples after it as bits, up to those that are left
pub record AreFromSecond (first : Sample) (bytes : List ℕ) (second : Sample) (others : List Sample) (left : List Bool) : Type 0 where
  pub gap : ℕ
  pub after : List ℕ
  pub gap_is : HasFront IsUvarint bytes gap after
  pub value : List Bool
  pub window : Window
  pub rest : List Bool
  pub bits_are : bits_in after ≡ value ++ (rest ++ left)
  pub follows : Follows first.time second.time gap
  pub shows : IsValue whole first.pattern value second.pattern window
  pub others_are : AreOthers (record { time = second.time; delta = gap; pattern = second.pattern; window = window }) rest others

-- the samples after the first
abbrev pub AreRest : Sample → List ℕ → List Sample → List Bool → Type 0
AreRest first bytes [] left = bits_in bytes ≡ left
AreRest first bytes (second ∷ others) left = AreFromSecond first bytes second others left

-- the first sample in bytes, and those after it
pub record AreFromFirst (bytes : List ℕ) (first : Sample) (others : List Sample) (left : List Bool) : Type 0 where
  pub after_time : List ℕ
  pub after : List ℕ
  pub time_is : HasFront IsVarint bytes first.time after_time
  pub pattern_is : HasFront (IsFixed w64) after_time first.pattern after
  pub rest_are : AreRest first after others left

abbrev pub AreSamples : List ℕ → List Sample → List Bool → Type 0
AreSamples bytes [] left = bits_in bytes ≡ left
AreSamples bytes (first ∷ others) left = AreFromFirst bytes first others left

-- The bytes stand for these samples: two bytes of how many there are, and the samples, after which at most so many bits are
-- left, all zero.
pub record IsText (most : ℕ) (bytes : List ℕ) (samples : List Sample) : Type 0 where
  pub after : List ℕ
  pub left : ℕ
  pub counted : HasFront (IsFixed w16) bytes (length samples) after
  pub samples_are : AreSamples after samples (replicate left false)
  pub filling : left ≤ most
