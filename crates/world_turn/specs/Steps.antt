-- What each step on the table makes of a view, and what it tells.
use Rattle.std.specs.Prelude.{◌≡◌, ◌≢◌, ◌||◌, ℕ, ◌+◌, ◌≤◌, nat_lt, max, if◌then◌else◌, Bool, List, [], ◌∷◌, ◌++◌, length, true, false, Option, Some}
use mathlib.Core.List.{IsPrefix}
use Rattle.atomic_table.specs.Table.{Me, Step, rest}
use Rattle.bucket_core.specs.Asking.{Call}
use Rattle.bucket_core.specs.Told.{BucketTold}
use Rattle.world_core.specs.declared.entry.Entry.{Entry}
use Rattle.world_turn.specs.Rule.{IsAsked, IsFrom, opened_of}
use Rattle.world_core.specs.Journals.{of_seat}
use Rattle.world_turn.specs.declared.view.View.{View}

-- the turn is taken, and this journal found; memory was wanted before, or not
abbrev pub holding : View → List Entry → Bool → View
holding v log wanted = record { live = v.live; seat = v.seat; own = v.own; front = v.front; known = v.known; holds = true; held = log; refused = v.refused; wanted = v.wanted; held_wanted = wanted; tick = v.tick; faults = v.faults; asked = v.asked; seats = v.seats; joined = v.joined; beside = v.beside }

-- an entry is added to the journal that is held
abbrev pub adding : View → Entry → View
adding v e = record { live = v.live; seat = v.seat; own = v.own ++ e ∷ []; front = v.held ++ e ∷ []; known = length v.held + 1; holds = v.holds; held = v.held ++ e ∷ []; refused = v.refused; wanted = v.wanted; held_wanted = v.held_wanted; tick = v.tick; faults = v.faults; asked = v.asked; seats = v.seats; joined = v.joined; beside = v.beside }

-- the turn is given back
abbrev pub leaving : View → View
leaving v = record { live = v.live; seat = v.seat; own = v.own; front = v.front; known = v.known; holds = false; held = []; refused = v.refused; wanted = v.wanted; held_wanted = false; tick = v.tick; faults = v.faults; asked = v.asked; seats = v.seats; joined = v.joined; beside = v.beside }

-- the same after an operation was refused: the journal that was held is full, and is the front
abbrev pub leaving_full : View → View
leaving_full v = record { live = v.live; seat = v.seat; own = v.own; front = v.held; known = length v.held; holds = false; held = []; refused = true; wanted = v.wanted; held_wanted = false; tick = v.tick; faults = v.faults; asked = v.asked; seats = v.seats; joined = v.joined; beside = v.beside }

-- the same after memory was wanted
abbrev pub leaving_short : View → View
leaving_short v = record { live = v.live; seat = v.seat; own = v.own; front = v.front; known = v.known; holds = false; held = []; refused = v.refused; wanted = true; held_wanted = false; tick = v.tick; faults = v.faults; asked = v.asked; seats = v.seats; joined = v.joined; beside = v.beside }

-- so many entries were counted
abbrev pub looking : View → ℕ → View
looking v count = record { live = v.live; seat = v.seat; own = v.own; front = v.front; known = count; holds = v.holds; held = v.held; refused = v.refused; wanted = v.wanted; held_wanted = v.held_wanted; tick = v.tick; faults = v.faults; asked = v.asked; seats = v.seats; joined = v.joined; beside = v.beside }

-- the root after it has made a seat
abbrev pub one_more : View → View
one_more v = record { live = v.live; seat = v.seat; own = v.own; front = v.front; known = v.known; holds = v.holds; held = v.held; refused = v.refused; wanted = v.wanted; held_wanted = v.held_wanted; tick = v.tick; faults = v.faults; asked = v.asked; seats = v.seats + 1; joined = v.joined; beside = v.beside }

-- the seat that the root makes next: it has seen what the root has
abbrev pub next_seat : View → View
next_seat v = record { live = true; seat = v.seats; own = []; front = v.front; known = v.known; holds = false; held = []; refused = false; wanted = false; held_wanted = false; tick = v.tick; faults = v.faults; asked = v.asked; seats = 0; joined = []; beside = [] }

-- the root after it has taken in a seat, whose front lies beside its own
abbrev pub joining : View → View → View
joining v w = record { live = v.live; seat = v.seat; own = v.own; front = v.front; known = max v.known w.known; holds = v.holds; held = v.held; refused = v.refused || w.refused; wanted = v.wanted || w.wanted; held_wanted = v.held_wanted; tick = v.tick; faults = v.faults; asked = v.asked; seats = v.seats; joined = v.joined ++ (w.seat, w.own) ∷ []; beside = w.front }

abbrev pub longer : List Entry → List Entry → List Entry
longer xs ys = if nat_lt (length xs) (length ys) then ys else xs

-- the root after it has compared the front that it took in with its own
abbrev pub comparing : View → View
comparing v = record { live = v.live; seat = v.seat; own = v.own; front = longer v.front v.beside; known = v.known; holds = v.holds; held = v.held; refused = v.refused; wanted = v.wanted; held_wanted = v.held_wanted; tick = v.tick; faults = v.faults; asked = v.asked; seats = v.seats; joined = v.joined; beside = [] }

-- Of a step: the pass before it, the number found, and the pass after it. A pass is its view and the slots that are out
-- with it.
module _ {W : Type 0} (journal : W → List Entry) (ticks : W → ℕ) (tells : W → BucketTold) where
  -- the world that lies in the slot which is out has this journal
  abbrev pub Lies : List (ℕ × Option W) → List Entry → Type 0
  Lies carried log = (w : W) × (carried ≡ (0, Some w) ∷ []) × (journal w ≡ log)

  -- the world came along, with the journal; or the turn was held, and nothing changed
  abbrev pub Takes : Step (Option W) → Me (Option W) View → ℕ → Me (Option W) View → Type 0
  Takes s me found new =
      (found ≡ 0 → (w : W) × (new ≡ (holding me.0 (journal w) new.0.held_wanted, (0, Some w) ∷ me.1)) × IsFrom journal ticks tells (opened_of me.0) w
      × (new.0.held_wanted ≡ false → IsAsked journal tells (opened_of me.0) w)
      × IsPrefix me.0.front (journal w) × (me.0.known ≤ length (journal w)) × (me.0.own ≡ of_seat me.0.seat (journal w)))
      × (found ≢ 0 → new ≡ me)

  abbrev pub Appends : Step (Option W) → Me (Option W) View → ℕ → Me (Option W) View → Type 0
  Appends s me found new = (e : Entry) → Lies me.1 (me.0.held ++ e ∷ []) → new ≡ (adding me.0 e, me.1)

  abbrev pub Gives : Step (Option W) → Me (Option W) View → ℕ → Me (Option W) View → Type 0
  Gives s me found new = new ≡ (leaving me.0, rest me.1)

  abbrev pub GivesFull : Step (Option W) → Me (Option W) View → ℕ → Me (Option W) View → Type 0
  GivesFull s me found new = new ≡ (leaving_full me.0, rest me.1)

  abbrev pub GivesShort : Step (Option W) → Me (Option W) View → ℕ → Me (Option W) View → Type 0
  GivesShort s me found new = new ≡ (leaving_short me.0, rest me.1)

  abbrev pub Counts : Step (Option W) → Me (Option W) View → ℕ → Me (Option W) View → Type 0
  Counts s me found new = (me.0.known ≤ found) × (new ≡ (looking me.0 found, me.1))

  abbrev pub Compares : Step (Option W) → Me (Option W) View → ℕ → Me (Option W) View → Type 0
  Compares s me found new = (new ≡ (comparing me.0, me.1)) × IsPrefix me.0.front (longer me.0.front me.0.beside) × IsPrefix me.0.beside (longer me.0.front me.0.beside)
