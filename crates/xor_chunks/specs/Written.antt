-- The one text of samples that the writer puts.
use Rattle.std.specs.Prelude.{ℕ, suc, ◌+◌, ◌-◌, ◌/◌, ◌^◌, ◌<◌, ◌==◌, ◌&&◌, min, Bool, true, false, List, [], ◌∷◌, ◌++◌, length, All, if◌then◌else◌, nat_le, nat_lt, ℤ, pos, negsuc, ◌-ℤ◌, ◌≤ℤ◌, ◌<ℤ◌, unsigned_abs, bit_xor}
use Rattle.std.specs.Int.{cast_unsigned, w64, leading_zeros, trailing_zeros}
use Rattle.std.specs.Ordering.{int_eq, int_cmp}
use Rattle.std.specs.List.Sorted.{IsStrictlySortedBy}
use Rattle.wire_bytes.specs.Written.{uvarint_text, varint_text}
use Rattle.label_sets.specs.declared.sample.Sample.{Sample}
use Rattle.label_sets.specs.Limits.{time_limit}
use Rattle.label_sets.specs.Times.{times_of}
use Rattle.wire_bytes.specs.Bits.{bits_of, bits_in}
use Rattle.xor_chunks.specs.Widths.{narrow_field, middle_field, wide_field, lead_field, width_field}
use Rattle.xor_chunks.specs.Window.{Window}
use Rattle.xor_chunks.specs.declared.encoding.LastWritten.{LastWritten}
use Rattle.xor_chunks.specs.declared.encoding.WindowSetting.{WindowSetting}
use Rattle.xor_chunks.specs.declared.encoding.WindowSetting.TheVariants.{Unset, Set}

-- how many samples a chunk has as a rule: a series is cut into chunks of as many
abbrev pub usual_count : ℕ
usual_count = 120

-- the least number of samples that no chunk has: two bytes tell how many there are
abbrev pub count_limit : ℕ
count_limit = 2 ^ 16

-- a time from -2^62 to 2^62 - 1
abbrev pub IsChunkTime : ℤ → Type 0
IsChunkTime time = (negsuc (time_limit - 1) ≤ℤ time) × (time <ℤ pos time_limit)

-- samples of one chunk: some, but no more than can be told, whose times ascend
pub record AreOfChunk (samples : List Sample) : Type 0 where
  pub some : 0 < length samples
  pub few : length samples < count_limit
  pub ascend : IsStrictlySortedBy int_cmp (times_of samples)
  pub times : All (λ s. IsChunkTime s.time) samples

-- Each pattern is one of 64 bits.
abbrev pub ArePatterns : List Sample → Type 0
ArePatterns samples = All (λ s. s.pattern < 2 ^ 64) samples

-- A field of so many bits can stand for the number.
abbrev pub fits_field : ℕ → ℤ → Bool
fits_field width (pos n) = nat_le n (2 ^ (width - 1))
fits_field width (negsuc n) = nat_lt (suc n) (2 ^ (width - 1))

abbrev pub field_of : ℕ → ℤ → List Bool
field_of width z = bits_of width (cast_unsigned w64 z)

-- the first row that fits the change
unfoldable pub change_bits : ℤ → List Bool
change_bits change =
    if int_eq change (pos 0) then false ∷ []
    else (if fits_field narrow_field change then true ∷ false ∷ field_of narrow_field change
    else (if fits_field middle_field change then true ∷ true ∷ false ∷ field_of middle_field change
    else (if fits_field wide_field change then true ∷ true ∷ true ∷ false ∷ field_of wide_field change
    else true ∷ true ∷ true ∷ true ∷ field_of 64 change)))

-- how many bits a window leaves behind it
abbrev pub trail : Window → ℕ
trail window = 64 - (window.lead + window.width)

-- the smallest window around the bits of a change, with at most 31 bits before it
abbrev pub window_around : ℕ → Window
window_around change = record { lead = min 31 (leading_zeros w64 change); width = 64 - (min 31 (leading_zeros w64 change) + trailing_zeros w64 change) }

-- The change has no bit outside the window.
abbrev pub is_around : Window → ℕ → Bool
is_around window change = nat_le window.lead (leading_zeros w64 change) && nat_le (trail window) (trailing_zeros w64 change)

-- the change's bits in the window
abbrev pub in_window : Window → ℕ → List Bool
in_window window change = bits_of window.width (change / 2 ^ trail window)

-- the window that was set, where it is around the change
abbrev pub reused : WindowSetting → ℕ → WindowSetting
reused Unset change = Unset
reused (Set window) change = if is_around window change then Set window else Unset

-- a change in the window that was set, or in a new one
abbrev pub coded : WindowSetting → ℕ → List Bool
coded (Set window) change = true ∷ false ∷ in_window window change
coded Unset change = true ∷ true ∷ (bits_of lead_field (window_around change).lead ++ bits_of width_field (window_around change).width ++ in_window (window_around change) change)

-- the bits of a change of the pattern, where this window was set or none was
unfoldable pub value_bits : WindowSetting → ℕ → List Bool
value_bits window change = if change == 0 then false ∷ [] else coded (reused window change) change

abbrev pub kept : WindowSetting → ℕ → WindowSetting
kept (Set window) change = Set window
kept Unset change = Set (window_around change)

-- the window that is set then
unfoldable pub window_after : WindowSetting → ℕ → WindowSetting
window_after window change = if change == 0 then window else kept (reused window change) change

-- what is known of the samples put, once the next is put too
abbrev pub put_after : LastWritten → Sample → LastWritten
put_after put s = record { time = s.time; delta = s.time -ℤ put.time; pattern = s.pattern; window = window_after put.window (bit_xor put.pattern s.pattern) }

-- after the first sample
abbrev pub put_first : Sample → LastWritten
put_first s = record { time = s.time; delta = pos 0; pattern = s.pattern; window = Unset }

-- the next sample, after the second
abbrev pub next_bits : LastWritten → Sample → List Bool
next_bits put s = change_bits ((s.time -ℤ put.time) -ℤ put.delta) ++ value_bits put.window (bit_xor put.pattern s.pattern)

-- the samples after the second
abbrev pub others_bits : LastWritten → List Sample → List Bool
others_bits put [] = []
others_bits put (s ∷ ss) = next_bits put s ++ others_bits (put_after put s) ss

-- the samples after the first
abbrev pub rest_bits : LastWritten → List Sample → List Bool
rest_bits put [] = []
rest_bits put (s ∷ ss) = bits_in (uvarint_text (unsigned_abs (s.time -ℤ put.time))) ++ value_bits put.window (bit_xor put.pattern s.pattern) ++ others_bits (put_after put s) ss

-- the text, before zero bits fill its last byte
abbrev pub written : List Sample → List Bool
written [] = bits_of 16 0
written (s ∷ ss) = bits_of 16 (suc (length ss)) ++ bits_in (varint_text s.time) ++ bits_of 64 s.pattern ++ rest_bits (put_first s) ss

-- The sample can come next.
pub record CanFollow (put : LastWritten) (s : Sample) : Type 0 where
  pub rises : put.time <ℤ s.time
  pub low : negsuc (time_limit - 1) ≤ℤ put.time
  pub high : s.time <ℤ pos time_limit
  pub delta_low : pos 0 ≤ℤ put.delta
  pub delta_high : put.delta <ℤ pos (2 ^ 63)

-- The samples can come one after another.
abbrev pub AreToCome : LastWritten → List Sample → Type 0
AreToCome put [] = Unit {0}
AreToCome put (s ∷ ss) = CanFollow put s × AreToCome (put_after put s) ss
