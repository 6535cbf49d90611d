-- What a hand tells of itself.
use Rattle.std.specs.Prelude.{ℕ, Bool, List, Option}
use Rattle.world_core.specs.declared.entry.Entry.{Entry}

pub record HandTold : Type 0 where
  -- a list of entries, to which each operation that is done adds its own
  pub entries : List Entry
  -- the seat of the entries that it adds
  pub seat : ℕ
  -- a journal that it has seen, where it tells one
  pub front : Option (List Entry)
  -- the number of the last entry that it has seen, of whatever seat
  pub known : ℕ
  -- whether an operation was answered that the journal is full
  pub refused : Bool
  -- whether memory was wanted for an operation; a hand that can't tell may say that it was not
  pub wanted : Bool
