-- Journals as lists of entries.
use Rattle.std.specs.Prelude.{◌≡◌, ◌==◌, ℕ, ◌+◌, ◌-◌, if◌then◌else◌, List, ◌∷◌, ◌++◌, length, filter, slice_get, Option, None}
use Rattle.world_core.specs.declared.entry.Entry.{Entry}

-- of each entry, with the entries before it
abbrev pub Each : (List Entry → Entry → Type 0) → List Entry → Type 0
Each P entries = (before after : List Entry) (e : Entry) → entries ≡ before ++ e ∷ after → P before e

-- entries are numbered in their order, from 1 on
abbrev pub IsNumbered : List Entry → Type 0
IsNumbered entries = Each (λ before e. e.seq ≡ length before + 1) entries

-- the entry of a number, if there is one
abbrev pub entry_at : List Entry → ℕ → Option Entry
entry_at entries seq = if seq == 0 then None else slice_get entries (seq - 1)

-- the entries of a seat, in order
abbrev pub of_seat : ℕ → List Entry → List Entry
of_seat seat entries = filter (λ e. e.seat == seat) entries
