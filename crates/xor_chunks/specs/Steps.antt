-- What reading the bits of one sample gives: it and the bits after it, or the first of the cases that refuse it.
use Rattle.std.specs.Prelude.{◌≡◌, ℕ, zero, suc, Bool, true, false, List, ◌∷◌, length, take, drop, Result, Ok, Err, MatchResult, nat_lt, if◌then◌else◌, ℤ, pos, negsuc, ◌+ℤ◌}
use Rattle.std.specs.Int.{cast_signed, w64}
use Rattle.base.specs.Reading.{◌>>=◌, ◌>>◌, unless}
use Rattle.base.specs.Decimal.{fits_signed}
use Rattle.wire_bytes.specs.Fields.{field_value}
use Rattle.xor_chunks.specs.State.{State}
use Rattle.xor_chunks.specs.declared.refusal.XorRefusal.{XorRefusal}
use Rattle.xor_chunks.specs.declared.refusal.XorRefusal.TheVariants.{Short, Falling, OutOfRange}
use Rattle.wire_bytes.specs.Bits.{number_of}
use Rattle.xor_chunks.specs.Widths.{narrow_field, middle_field, wide_field, lead_field, width_field}
use Rattle.xor_chunks.specs.Window.{Window, width_of, is_inside, changed_pattern}

-- A function that reads from a reader of bits gave what the reading function gives, and left the reader at the bits after it.
abbrev pub Reads : {X Y : Type 0} → (X → Y) → List Bool → Result X XorRefusal → Result (Y × List Bool) XorRefusal → Type 0
Reads view after result read = MatchResult result (λ x. read ≡ Ok (view x, after)) (λ e. read ≡ Err e)

-- the next bits as a number
unfoldable pub take_at : ℕ → List Bool → Result (ℕ × List Bool) XorRefusal
take_at count bits = if nat_lt (length bits) count then Err Short else Ok (number_of (take count bits), drop count bits)

-- what is read behind so many bits
abbrev pub behind : {Y : Type 0} → ℕ → (List Bool → Result Y XorRefusal) → List Bool → Result Y XorRefusal
behind count read bits = take_at count bits >>= λ passed. read passed.1

unfoldable pub field_at : ℕ → List Bool → Result (ℤ × List Bool) XorRefusal
field_at width bits = do
  field ← take_at width bits
  Ok (field_value width field.0, field.1)

-- a field behind bits that are known
unfoldable pub field_behind : ℕ → ℕ → List Bool → Result (ℤ × List Bool) XorRefusal
field_behind known width bits = do
  front ← take_at known bits
  field_at width front.1

unfoldable pub whole_field_at : List Bool → Result (ℤ × List Bool) XorRefusal
whole_field_at bits = do
  field ← take_at 64 bits
  Ok (cast_signed w64 field.0, field.1)

-- by how much a sample comes later after the last one than that one came after the one before it
unfoldable pub change_at : List Bool → Result (ℤ × List Bool) XorRefusal
change_at (false ∷ bits) = Ok (pos 0, bits)
change_at (true ∷ false ∷ bits) = field_at narrow_field bits
change_at (true ∷ true ∷ false ∷ bits) = field_at middle_field bits
change_at (true ∷ true ∷ true ∷ false ∷ bits) = field_at wide_field bits
change_at (true ∷ true ∷ true ∷ true ∷ bits) = whole_field_at bits
change_at _ = Err Short

-- a field in a window that is told first
unfoldable pub opened_at : ℕ → List Bool → Result ((ℕ × Window) × List Bool) XorRefusal
opened_at pattern bits = do
  lead ← take_at lead_field bits
  width ← take_at width_field lead.1
  field ← take_at (width_of width.0) width.1
  Ok ((changed_pattern pattern (record { lead = lead.0; width = width_of width.0 }) field.0, record { lead = lead.0; width = width_of width.0 }), field.1)

unfoldable pub within_at : ℕ → Window → List Bool → Result ((ℕ × Window) × List Bool) XorRefusal
within_at pattern window bits = do
  field ← take_at window.width bits
  Ok ((changed_pattern pattern window field.0, window), field.1)

-- the next pattern, and the window after it
unfoldable pub value_at : ℕ → Window → List Bool → Result ((ℕ × Window) × List Bool) XorRefusal
value_at pattern window (false ∷ bits) = Ok ((pattern, window), bits)
value_at pattern window (true ∷ false ∷ bits) = within_at pattern window bits
value_at pattern window (true ∷ true ∷ bits) = opened_at pattern bits
value_at pattern window _ = Err Short

-- a time and how long it comes after the one before it
abbrev pub risen : ℤ → ℤ → Result (ℤ × ℕ) XorRefusal
risen time (pos zero) = Err Falling
risen time (pos (suc n)) = Ok (time, suc n)
risen time (negsuc n) = Err Falling

-- the time that comes so long after another
unfoldable pub time_after : ℤ → ℤ → Result (ℤ × ℕ) XorRefusal
time_after time delta = if fits_signed (time +ℤ delta) then risen (time +ℤ delta) delta else Err OutOfRange

-- The sample that comes later by a step which has changed by so much. All its bits are read first. Then its window is tested,
-- then whether its time is one of 64 bits, and last whether it comes later.
unfoldable pub follow_at : State → ℤ → List Bool → Result (State × List Bool) XorRefusal
follow_at last change bits = do
  value ← value_at last.pattern last.window bits
  unless (is_inside value.0.1) OutOfRange
  after ← time_after last.time (pos last.delta +ℤ change)
  Ok (record { time = after.0; delta = after.1; pattern = value.0.0; window = value.0.1 }, value.1)

-- the next sample, after the second
unfoldable pub next_at : State → List Bool → Result (State × List Bool) XorRefusal
next_at last bits = do
  change ← change_at bits
  follow_at last change.0 change.1
