-- Where XOR data stands after a sample: all that the next sample is told from.
use Rattle.std.specs.Prelude.{ℕ, ℤ}
use Rattle.xor_chunks.specs.Window.{Window}

-- the sample's time and pattern, how long it came after the one before it, and the window that was told last
pub record State : Type 0 where
  pub time : ℤ
  pub delta : ℕ
  pub pattern : ℕ
  pub window : Window

-- the same with another pattern
abbrev pub with_pattern : ℕ → State → State
with_pattern pattern state = record { time = state.time; delta = state.delta; pattern = pattern; window = state.window }
