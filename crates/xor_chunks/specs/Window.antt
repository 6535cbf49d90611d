-- The part of a pattern that a change may touch.
use Rattle.std.specs.Prelude.{ℕ, zero, suc, ◌+◌, ◌-◌, ◌*◌, ◌/◌, ◌%◌, ◌^◌, ◌≤◌, Bool, nat_le, bit_xor}

-- so many bits stay before the part, and so many bits has the part
pub record Window : Type 0 where
  pub lead : ℕ
  pub width : ℕ

-- all bits, as before any window was set
abbrev pub whole : Window
whole = record { lead = 0; width = 64 }

-- The window lies within the 64 bits of a pattern.
abbrev pub IsInside : Window → Type 0
IsInside window = window.lead + window.width ≤ 64

abbrev pub is_inside : Window → Bool
is_inside window = nat_le (window.lead + window.width) 64

-- the pattern with the field put over the window's bits
abbrev pub changed_pattern : ℕ → Window → ℕ → ℕ
changed_pattern pattern window field = bit_xor pattern (field * 2 ^ (64 - (window.lead + window.width)))

-- six bits hold a width up to 64, which stands as 0
abbrev pub width_of : ℕ → ℕ
width_of zero = 64
width_of (suc n) = suc n

-- the window that five bits of lead and six of width tell, the last of the bits of a number
abbrev pub told_by : ℕ → Window
told_by head = record { lead = head / 64 % 32; width = width_of (head % 64) }
