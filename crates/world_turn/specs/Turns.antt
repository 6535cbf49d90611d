-- What a call through the turn does to its pass.
use Rattle.std.specs.Prelude.{◌≡◌, ◌↔◌, ◌||◌, false, ℕ, ◌+◌, ◌≤◌, max, Bool, true, List, [], ◌∷◌, ◌++◌, length}
use mathlib.Core.List.{IsPrefix}
use Rattle.world_core.specs.Keeping.{IsFull}
use Rattle.world_core.specs.Machines.{IfDone, gained, is_full, is_wanting}
use Rattle.world_core.specs.Moments.{moment_after, last_moment}
use Rattle.world_core.specs.Operations.{IsAnswer, entry_of}
use Rattle.world_core.specs.declared.op.Op.{Op}
use Rattle.world_core.specs.declared.entry.Entry.{Entry}
use Rattle.world_core.specs.declared.act.Acted.{Acted}
use Rattle.world_core.specs.declared.act.Acted.TheVariants.{Done, Full, NoMemory}
use Rattle.world_core.specs.Journals.{of_seat}
use Rattle.world_turn.specs.Seats.{Stand}
use Rattle.world_turn.specs.Steps.{adding, leaving, leaving_full, leaving_short, longer}
use Rattle.world_turn.specs.declared.view.View.{View}

-- a journal that a pass may find when it takes the turn
pub record Finds (v : View) (journal : List Entry) : Type 0 where
  pub front : IsPrefix v.front journal
  pub known : v.known ≤ length journal
  pub own : v.own ≡ of_seat v.seat journal

-- what a pass that held the turn knows after its operation was answered so
abbrev pub settled : View → Op → Acted → View
settled v op (Done seen) = leaving (adding v (entry_of v.seat op seen))
settled v op Full = leaving_full v
settled v op NoMemory = leaving_short v

-- The front that a pass has seen after its operation was answered so: the journal that it found and its own entry, the
-- whole journal where that was full, and for want of memory the front of before.
abbrev pub front_after : View → List Entry → Op → Acted → List Entry
front_after v journal op (Done seen) = journal ++ entry_of v.seat op seen ∷ []
front_after v journal op Full = journal
front_after v journal op NoMemory = v.front

-- the length that it then knows
abbrev pub known_after : View → List Entry → Acted → ℕ
known_after v journal (Done seen) = length journal + 1
known_after v journal Full = length journal
known_after v journal NoMemory = v.known

-- What stays of a pass.
pub record IsSame (v w : View) : Type 0 where
  pub seat : w.seat ≡ v.seat
  pub tick : w.tick ≡ v.tick
  pub seats : w.seats ≡ v.seats
  pub joined : w.joined ≡ v.joined

-- A pass did an operation: it found the one journal in some state, was answered as a world with that journal answers (what
-- the bucket holds is told when the world is closed), and its entry, if there is one, is the next of that journal.
pub record Acts (v : View) (op : Op) (acted : Acted) (w : View) : Type 0 where
  pub journal : List Entry
  pub finds : Finds v journal
  pub full : (acted ≡ Full) ↔ IsFull journal
  pub answer : IfDone acted (IsAnswer op)
  pub number : IfDone acted (λ seen. seen.seq ≡ length journal + 1)
  pub moment : IfDone acted (λ seen. seen.moment.ms ≡ moment_after v.tick (last_moment journal) op)
  pub own : w.own ≡ v.own ++ gained v.seat op acted
  pub front : w.front ≡ front_after v journal op acted
  pub known : w.known ≡ known_after v journal acted
  pub refused : w.refused ≡ (v.refused || is_full acted)
  pub wanted : w.wanted ≡ (v.wanted || is_wanting acted)
  pub same : IsSame v w

-- A pass looked, and so many entries were counted.
pub record Looks (v : View) (count : ℕ) (w : View) : Type 0 where
  pub later : v.known ≤ count
  pub known : w.known ≡ count
  pub own : w.own ≡ v.own
  pub front : w.front ≡ v.front
  pub refused : w.refused ≡ v.refused
  pub wanted : w.wanted ≡ v.wanted
  pub same : IsSame v w

-- A new pass, split from a root that knew `v`: it has the next seat, has seen what the root has, was refused nothing, and wanted
-- no memory.
pub record IsNew (v w : View) : Type 0 where
  pub seat : w.seat ≡ v.seats
  pub tick : w.tick ≡ v.tick
  pub own : w.own ≡ []
  pub front : w.front ≡ v.front
  pub known : w.known ≡ v.known
  pub refused : w.refused ≡ false
  pub wanted : w.wanted ≡ false

-- the root after it has made a pass
pub record IsSplit (v w : View) : Type 0 where
  pub seats : w.seats ≡ v.seats + 1
  pub tick : w.tick ≡ v.tick
  pub own : w.own ≡ v.own
  pub front : w.front ≡ v.front
  pub known : w.known ≡ v.known
  pub joined : w.joined ≡ v.joined
  pub refused : w.refused ≡ v.refused
  pub wanted : w.wanted ≡ v.wanted

-- The root after it took a pass in: it has seen the longer of both fronts, which both begin, and keeps the entries that the
-- pass had made. It was refused an operation where one of them was, and wanted memory where one of them did.
pub record IsJoined (v w u : View) : Type 0 where
  pub front : u.front ≡ longer v.front w.front
  pub first : IsPrefix v.front u.front
  pub second : IsPrefix w.front u.front
  pub known : u.known ≡ max v.known w.known
  pub joined : u.joined ≡ v.joined ++ (w.seat, w.own) ∷ []
  pub own : u.own ≡ v.own
  pub refused : u.refused ≡ (v.refused || w.refused)
  pub wanted : u.wanted ≡ (v.wanted || w.wanted)
  pub tick : u.tick ≡ v.tick
  pub seats : u.seats ≡ v.seats

-- a pass that knows no less
pub record IsLater (v w : View) : Type 0 where
  pub known : v.known ≤ w.known
  pub front : IsPrefix v.front w.front
  -- what it has made since stands in its front, at numbers above the length that it knew
  pub made : (made : List Entry) × (w.own ≡ v.own ++ made) × Stand v.known made w.front
