-- What a machine promises of its calls, what a hand does, and what a drive leaves.
use Rattle.std.specs.Prelude.{◌≡◌, ◌↔◌, ℕ, ◌<◌, ◌≤◌, Bool, true, false, List, [], ◌∷◌, ◌++◌, length, All, Option, Some, None, Result, Ok, Err}
use Rattle.base.specs.declared.memory.NoMemory.{NoMemory}
use Rattle.world_core.specs.Operations.{IsLawful, IsAnswer, entry_of, has_failed}
use Rattle.world_core.specs.Stops.{IsStopped}
use Rattle.world_core.specs.declared.op.Op.{Op}
use Rattle.world_core.specs.declared.seen.Seen.{Seen}
use Rattle.world_core.specs.declared.entry.Entry.{Entry}
use Rattle.world_core.specs.declared.act.Act.{Act}
use Rattle.world_core.specs.declared.act.Act.TheVariants.{Do, Done}
use Rattle.world_core.specs.declared.act.Acted.{Acted}
use Rattle.world_core.specs.declared.act.Acted.TheVariants as answer
use Rattle.world_core.specs.declared.driving.Driven.{Driven}
use Rattle.world_core.specs.declared.driving.Driven.TheVariants as outcome

-- A machine that was in the state `old` asks for an operation and waits in the state `new`. These entries were made
-- in between. It may be stopped before the operation is done, and as soon as it is answered.
pub record Asks {M E : Type 0} (may : M → List Entry → Option E → M → Type 0) (asked : M → Option Op) (old : M) (made : List Entry) (op : Op) (new : M) : Type 0 where
  pub lawful : IsLawful op
  pub waits : asked new ≡ Some op
  -- what it may do from now on, it may do after the entries made
  pub onward : (entries : List Entry) (end : Option E) (last : M) → may new entries end last → may old (made ++ entries) end last
  pub stopped : may new [] None new
  pub answered : (seat : ℕ) (seen : Seen) → IsAnswer op seen → may new (entry_of seat op seen ∷ []) None new

-- What a machine's call means, after these entries: it asks for an operation, or it has come to its end, or it stops
-- for want of memory.
abbrev pub GoesOn : {M E : Type 0} → (M → List Entry → Option E → M → Type 0) → (M → Option Op) → M → List Entry → Result (Act E) NoMemory → M → Type 0
GoesOn may asked old made (Ok (Do op)) new = Asks may asked old made op new
GoesOn may asked old made (Ok (Done end)) new = may old made (Some end) new
GoesOn may asked old made (Err none) new = may old made None new

-- an operation brings the state's measure down
abbrev pub Falls : {E : Type 0} → ℕ → Result (Act E) NoMemory → ℕ → Type 0
Falls old (Ok (Do op)) new = new < old
Falls old other new = Unit {0}

-- what a hand's list gains: the operation's entry where it was done, and else nothing
abbrev pub gained : ℕ → Op → Acted → List Entry
gained seat op (answer.Done seen) = entry_of seat op seen ∷ []
gained seat op answer.Full = []
gained seat op answer.NoMemory = []

abbrev pub is_full : Acted → Bool
is_full answer.Full = true
is_full other = false

-- memory was wanted for the operation
abbrev pub is_wanting : Acted → Bool
is_wanting answer.NoMemory = true
is_wanting other = false

-- the operation was done, and the call failed
abbrev pub is_failed : Acted → Bool
is_failed (answer.Done seen) = has_failed seen.reply
is_failed other = false

-- what is answered to an operation that was done
abbrev pub IfDone : Acted → (Seen → Type 0) → Type 0
IfDone (answer.Done seen) P = P seen
IfDone other P = Unit {0}

abbrev pub IfNotDone : Acted → Type 0 → Type 0
IfNotDone (answer.Done seen) P = Unit {0}
IfNotDone other P = P

-- the end to which a machine was driven: none where it was stopped before
abbrev pub end_of : {E : Type 0} → Driven E → Option E
end_of (outcome.Ended end) = Some end
end_of (outcome.Stopped n) = None
end_of outcome.Full = None
end_of outcome.NoMemory = None

abbrev pub is_driven_full : {E : Type 0} → Driven E → Bool
is_driven_full outcome.Full = true
is_driven_full other = false

abbrev pub is_driven_wanting : {E : Type 0} → Driven E → Bool
is_driven_wanting outcome.NoMemory = true
is_driven_wanting other = false

-- A run of a seat waits for an operation: with an entry of it, however it is answered, the run goes on.
pub record Awaits {E : Type 0} (is_run : List Entry → Option E → Type 0) (seat : ℕ) (made : List Entry) : Type 0 where
  pub op : Op
  pub lawful : IsLawful op
  pub more : (seen : Seen) → IsAnswer op seen → is_run (made ++ entry_of seat op seen ∷ []) None

-- A drive took a hand's entries from `old` to `new`: what was made is, with the drive's end, a run.
pub record Drives {E : Type 0} (is_run : List Entry → Option E → Type 0) (seat : ℕ) (stop : Option ℕ) (driven : Driven E) (old new : List Entry) : Type 0 where
  pub made : List Entry
  pub entries : new ≡ old ++ made
  pub run : is_run made (end_of driven)
  pub seats : All (λ e. e.seat ≡ seat) made
  -- it stops as soon as the operation of that number is answered, and never else
  pub stopped : (n : ℕ) → (driven ≡ outcome.Stopped n) ↔ IsStopped stop made n
  pub within : (n : ℕ) → stop ≡ Some n → 0 < n → length made ≤ n
  -- where the journal took no more entries, the run had not come to its end
  pub waits : driven ≡ outcome.Full → Awaits is_run seat made
