-- Where entries stand.
use Rattle.std.specs.Prelude.{◌≡◌, ℕ, ◌<◌, List, Some}
use Rattle.std.specs.List.{AllByRecursion}
use Rattle.world_core.specs.Journals.{entry_at}
use Rattle.world_core.specs.declared.entry.Entry.{Entry}

-- the entries stand in the journal at their numbers, which are above this one
abbrev pub Stand : ℕ → List Entry → List Entry → Type 0
Stand above entries journal = AllByRecursion (λ e. (above < e.seq) × (entry_at journal e.seq ≡ Some e)) entries
