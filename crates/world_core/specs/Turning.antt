-- What operations leave of a hand, whatever they are.
use Rattle.std.specs.Prelude.{◌≡◌, ◌||◌, ◌⊎◌, ◌<◌, ◌≤◌, Bool, IsTrue, List, ◌++◌, All, IfSome}
use Rattle.world_core.specs.Keeping.{IsFull}
use Rattle.world_core.specs.Told.{HandTold}
use Rattle.world_core.specs.declared.entry.Entry.{Entry}

-- Entries were added. Each has a greater number than the last that the hand had seen before, and none has a greater one than the last
-- that it has seen now.
pub record AddsOn (old new : HandTold) : Type 0 where
  pub made : List Entry
  pub added : new.entries ≡ old.entries ++ made
  pub above : All (λ e. old.known < e.seq) made
  pub within : All (λ e. e.seq ≤ new.known) made
  pub later : old.known ≤ new.known

-- From `old` to `new` a hand did operations, or none. It was refused one just where `full` says so, and then the journal is full,
-- if the hand has seen one; and it wanted memory only where `short` says so.
pub record Turned {H : Type 0} (told : H → HandTold) (keeps : H → H → Type 0) (old new : H) (full short : Bool) : Type 0 where
  pub same_seat : (told new).seat ≡ (told old).seat
  pub adds : AddsOn (told old) (told new)
  pub was_refused : (told new).refused ≡ ((told old).refused || full)
  pub is_full : IsTrue full → IfSome (told new).front IsFull
  pub was_wanted : IsTrue (told new).wanted → IsTrue (told old).wanted ⊎ IsTrue short
  pub kept : keeps old new
