-- What reading XOR data gives: its samples, or the refusal of the first sample that cannot be read.
--
-- Each sample is read where the one before it ends, and what is left after the last one is tested at the end (Trailing). A
-- sample is refused by the first of these cases:
-- 1. its bits end before it does (Short), or one of its varints is longer than its number may be (OutOfRange);
-- 2. a window that it is told in lies outside the 64 bits of a pattern (OutOfRange);
-- 3. its time is none of 64 bits (OutOfRange);
-- 4. its time does not come after the one before it (Falling).
use Rattle.std.specs.Prelude.{ℕ, zero, suc, Bool, List, [], ◌∷◌, ◌++◌, length, Result, Ok, nat_le, ◌==◌, ◌&&◌, pos}
use Rattle.std.specs.Int.{w16, w64}
use Rattle.base.specs.Reading.{◌>>=◌, ◌>>◌, unless, refused_as}
use Rattle.base.specs.Members.{members_at}
use Rattle.wire_bytes.specs.Position.{left, start}
use Rattle.wire_bytes.specs.Fields.{number_at, uvarint_at, varint_at}
use Rattle.label_sets.specs.declared.sample.Sample.{Sample}
use Rattle.xor_chunks.specs.State.{State}
use Rattle.xor_chunks.specs.declared.refusal.XorRefusal.{XorRefusal}
use Rattle.xor_chunks.specs.declared.refusal.XorRefusal.TheVariants.{Trailing}
use Rattle.xor_chunks.specs.Refusals.{xor_refusal}
use Rattle.wire_bytes.specs.Bits.{bits_in, number_of}
use Rattle.xor_chunks.specs.Samples.{of_first, sample_of}
use Rattle.xor_chunks.specs.Steps.{follow_at, next_at}

-- how many samples there are, and the bytes after that
unfoldable pub count_at : List ℕ → Result (ℕ × List ℕ) XorRefusal
count_at bytes = do
  count ← refused_as xor_refusal (number_at w16 (start bytes))
  Ok (count.0, left count.1)

unfoldable pub first_at : List ℕ → Result (Sample × List ℕ) XorRefusal
first_at bytes = do
  time ← refused_as xor_refusal (varint_at (start bytes))
  pattern ← refused_as xor_refusal (number_at w64 time.1)
  Ok (record { time = time.0; pattern = pattern.0 }, left pattern.1)

-- how long the second sample comes after the first
unfoldable pub gap_at : List ℕ → Result (ℕ × List ℕ) XorRefusal
gap_at bytes = do
  gap ← refused_as xor_refusal (uvarint_at (start bytes))
  Ok (gap.0, left gap.1)

-- one sample, and what the next is told from with the bits that it stands in
unfoldable pub sample_at : State × List Bool → Result (Sample × (State × List Bool)) XorRefusal
sample_at s = do
  next ← next_at s.0 s.1
  Ok (sample_of next.0, next)

-- so many samples after the second, and the bits after them
unfoldable pub others_at : ℕ → State → List Bool → Result (List Sample × List Bool) XorRefusal
others_at count second bits = do
  others ← members_at sample_at count (second, bits)
  Ok (others.0, others.1.1)

-- so many samples after the first
unfoldable pub rest_at : ℕ → State → List ℕ → Result (List Sample × List Bool) XorRefusal
rest_at zero first bytes = Ok ([], bits_in bytes)
rest_at (suc count) first bytes = do
  gap ← gap_at bytes
  second ← follow_at first (pos gap.0) (bits_in gap.1)
  others ← others_at count second.0 second.1
  Ok (sample_of second.0 ∷ others.0, others.1)

unfoldable pub samples_at : ℕ → List ℕ → Result (List Sample × List Bool) XorRefusal
samples_at zero bytes = Ok ([], bits_in bytes)
samples_at (suc count) bytes = do
  first ← first_at bytes
  rest ← rest_at count (of_first first.0) first.1
  Ok (first.0 ∷ rest.0, rest.1)

-- at most so many bits, all zero
abbrev pub is_filling : ℕ → List Bool → Bool
is_filling most bits = nat_le (length bits) most && (number_of bits == 0)

-- the samples of all the bytes, after which at most so many bits are left
unfoldable pub data_at : ℕ → List ℕ → Result (List Sample) XorRefusal
data_at most bytes = do
  count ← count_at bytes
  samples ← samples_at count.0 count.1
  unless (is_filling most samples.1) Trailing
  Ok samples.0

-- what was read before, and what is read now
abbrev pub with_front : List Sample → Result (List Sample × List Bool) XorRefusal → Result (List Sample × List Bool) XorRefusal
with_front front read = read >>= λ x. Ok (front ++ x.0, x.1)

-- samples, and behind them those that are read
abbrev pub with_samples : {E : Type 0} → List Sample → Result (List Sample) E → Result (List Sample) E
with_samples {E} front read = read >>= λ samples. Ok (front ++ samples)
