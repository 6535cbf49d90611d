-- The moments along a journal.
use Rattle.std.specs.Prelude.{◌≡◌, ℕ, ◌+◌, max, List, fold}
use Rattle.world_core.specs.Journals.{Each}
use Rattle.world_core.specs.declared.op.Op.{Op}
use Rattle.world_core.specs.declared.op.Op.TheVariants.{Clock}
use Rattle.world_core.specs.declared.entry.Entry.{Entry}

-- the clock never goes back, and every operation but its setting takes a tick
abbrev pub moment_after : ℕ → ℕ → Op → ℕ
moment_after tick last (Clock moment) = max last moment.ms
moment_after tick last op = last + tick

-- the moment of the last entry, and 0 before the first
abbrev pub last_moment : List Entry → ℕ
last_moment entries = fold (λ last e. e.moment.ms) 0 entries

-- each entry has the moment that follows on the one before it
abbrev pub HasMoments : ℕ → List Entry → Type 0
HasMoments tick entries = Each (λ before e. e.moment.ms ≡ moment_after tick (last_moment before) e.op) entries
