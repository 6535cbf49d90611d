-- What the rules of time on syncs and views ask of an entry.
use Rattle.std.specs.Prelude.{◌≡◌, ◌+◌, ℕ, Bool, true, false, Option, Some, None}
use Rattle.lifecycle_core.specs.Breaches.{IsOver}
use Rattle.moment_core.specs.Limits.{one_second}
use Rattle.breach_finding.specs.Told.{IsTold}
use Rattle.breach_finding.specs.declared.watching.Came.{Came}
use Rattle.breach_finding.specs.declared.watching.Came.TheVariants.{GoesOn, Nothing, View}
use Rattle.breach_finding.specs.declared.watching.Told.{Told}

-- whether a sync that has come so far is whole: it ended, or its seat has no more entries
abbrev pub is_whole : Came → Bool → Bool
is_whole GoesOn last = last
is_whole View last = true
is_whole Nothing last = true

-- A whole sync is asked whether its last entry comes too late.
abbrev pub IsSyncAnswer : Option Told → Bool → ℕ → ℕ → Option (ℕ × ℕ) → Type 0
IsSyncAnswer None last moment span answer = answer ≡ None
IsSyncAnswer (Some told) last moment span answer =
    (is_whole told.came last ≡ true → IsTold (IsOver (moment + one_second) (told.begin + span)) answer)
    × (is_whole told.came last ≡ false → answer ≡ None)
