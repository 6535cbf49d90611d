-- The date of an instant is that of its moment.
use Rattle.std.proofs.Common.{◌≡◌, inl, ℕ, ℤ, List}
use Rattle.std.proofs.Math.Path.{subst}
use Rattle.jiff.specs.Words.{IsTimestampNanos}
use Rattle.run_messages.specs.Dates.{IsDate, IsDateOf, nanoseconds}

pub dated : (ms : ℕ) (instant : ℤ) → instant ≡ nanoseconds ms → IsTimestampNanos instant → (text : List ℕ) → IsDate text instant → IsDateOf text ms
dated ms instant same range text date = inl (subst IsTimestampNanos same range, subst (IsDate text) same date)
