-- The rule of a shared world: what the words of the table, the world in its slot and the views of all passes have to do
-- with one another between any two steps. There is one journal, of which the rule says:
--
--   1. The first word counts its entries, and the second is 1 while the turn is held and 0 while it is free.
--   2. Each front that a pass has seen begins it, and no known length passes its length. All of it was seen by some live view: it is
--      the front of that, or one that lies beside it, taken in with another pass and not yet compared.
--   3. While the turn is free the world is at home, has this journal, and comes from the one that was opened.
--   4. While the turn is held the world is out, and one view holds the turn: no other does, and it holds the whole journal.
--   5. Each seat that was made has a live view, or was joined. No two live views have the same seat, and none has one that
--      was joined.
--   6. Its entries of a seat are the own entries of its live view, or those that the root kept when the seat was joined.
--   7. It has no entries of any other seat.
--   8. Unless a live view says that memory was wanted, all that the bucket of the world at home was asked is its calls, if
--      that held as the world was opened.
--   9. Each live view knows how the world was opened. The first port is the root's: its view counts the seats that were made, and
--      keeps those that were joined.
use Rattle.std.specs.Prelude.{◌≡◌, ◌≢◌, ◌⊎◌, ℕ, ◌<◌, ◌≤◌, ◌++◌, Bool, List, [], ◌∷◌, length, map, Contains, true, false, Option, Some, None}
use Rattle.std.specs.List.{AllByRecursion}
use mathlib.Core.List.{IsPrefix}
use mathlib.Core.Option.{none, some}
use lib.ListN.{get_elem?}
use Rattle.atomic_table.specs.Table.{State}
use Rattle.bucket_core.specs.Asking.{Call}
use Rattle.bucket_core.specs.Told.{BucketTold}
use Rattle.world_core.specs.Asking.{calls_of, opening}
use Rattle.world_core.specs.Worlds.{failed_count}
use Rattle.world_core.specs.declared.entry.Entry.{Entry}
use Rattle.world_core.specs.Journals.{of_seat}
use Rattle.world_turn.specs.declared.view.View.{View}

-- what every pass knows of a world as it was opened: how many milliseconds an operation takes, how often the bucket had
-- failed, and what it had been asked, where it tells that
pub record Opened : Type 0 where
  pub tick : ℕ
  pub faults : ℕ
  pub asked : Option (List Call)

abbrev pub opened_of : View → Opened
opened_of v = record { tick = v.tick; faults = v.faults; asked = v.asked }

-- what the root knows at the start
abbrev pub root : Opened → View
root opened = record { live = true; seat = 0; own = []; front = []; known = 0; holds = false; held = []; refused = false; wanted = false; held_wanted = false; tick = opened.tick; faults = opened.faults; asked = opened.asked; seats = 1; joined = []; beside = [] }

-- what is left of a view that was joined
abbrev pub spent : View
spent = record { live = false; seat = 0; own = []; front = []; known = 0; holds = false; held = []; refused = false; wanted = false; held_wanted = false; tick = 0; faults = 0; asked = None; seats = 0; joined = []; beside = [] }

-- what the rule says of the view at a port; `place` gives each seat its port
pub record Fits (turn holder : ℕ) (wanted : Bool) (opened : Opened) (journal : List Entry) (seats : ℕ) (joined : List (ℕ × List Entry)) (place : ℕ → ℕ) (port : ℕ) (v : View) : Type 0 where
  pub front : IsPrefix v.front journal
  pub beside : IsPrefix v.beside journal
  pub known : v.known ≤ length journal
  pub holds : v.holds ≡ true → (turn ≡ 1) × (port ≡ holder) × (v.live ≡ true) × (v.held ≡ journal) × (v.held_wanted ≡ wanted)
  pub own : v.live ≡ true → v.own ≡ of_seat v.seat journal
  pub seated : v.live ≡ true → (v.seat < seats) × (place v.seat ≡ port)
  pub comes : v.live ≡ true → opened_of v ≡ opened
  -- the root has the first port
  pub rooted : port ≡ 0 → (v.seats ≡ seats) × (v.joined ≡ joined)

-- what the root kept of a seat when it was joined
pub record IsKept (journal : List Entry) (views : List View) (seats : ℕ) (kept : ℕ × List Entry) : Type 0 where
  pub own : kept.1 ≡ of_seat kept.0 journal
  pub seated : kept.0 < seats
  pub gone : (port : ℕ) (v : View) → get_elem? views port ≡ some v → v.live ≡ true → v.seat ≢ kept.0

-- a world is seen by its journal, its tick, and what is told of its bucket
module _ {W : Type 0} (journal : W → List Entry) (ticks : W → ℕ) (tells : W → BucketTold) where
  -- The world comes from one that was opened so: its bucket has failed no more often since, unless its journal shows it.
  pub record IsFrom (opened : Opened) (w : W) : Type 0 where
    pub tick : ticks w ≡ opened.tick
    pub unfailed : failed_count (journal w) ≡ 0 → (tells w).faults ≡ opened.faults

-- All that the bucket was asked is the calls of the journal, if that held of a world that was opened so.
abbrev pub IsAsked : {W : Type 0} → (W → List Entry) → (W → BucketTold) → Opened → W → Type 0
IsAsked journal tells opened w = (before : List Call) → opened.asked ≡ Some (before ++ opening ∷ []) → (tells w).asked ≡ Some (before ++ opening ∷ calls_of (journal w))

-- this holds of the view at some port
abbrev pub SomeView : (View → Type 0) → List View → Type 0
SomeView P views = (port : ℕ) × (v : View) × (get_elem? views port ≡ some v) × P v

-- a live view says that memory was wanted
abbrev pub IsToldWanted : List View → Type 0
IsToldWanted views = SomeView (λ v. (v.live ≡ true) × (v.wanted ≡ true)) views

-- this is the front of a live view, or one that lies beside it
abbrev pub IsSeen : List Entry → List View → Type 0
IsSeen front views = SomeView (λ v. (v.live ≡ true) × ((v.front ≡ front) ⊎ (v.beside ≡ front))) views

-- the seat has a live view, or was joined
abbrev pub HasSeat : List View → List (ℕ × List Entry) → ℕ → Type 0
HasSeat views joined seat = SomeView (λ v. (v.live ≡ true) × (v.seat ≡ seat)) views ⊎ Contains (map (λ kept. kept.0) joined) seat

-- ---- the rule

module _ {W : Type 0} (journal : W → List Entry) (ticks : W → ℕ) (tells : W → BucketTold) where
  pub record Rule (opened : Opened) (s : State (Option W) View) : Type 0 where
    pub turn : ℕ
    pub holder : ℕ
    pub wanted : Bool
    pub log : List Entry
    pub seats : ℕ
    pub joined : List (ℕ × List Entry)
    pub place : ℕ → ℕ
    pub words : s.words ≡ length log ∷ turn ∷ []
    pub free : turn ≡ 0 → (w : W) × (s.homes ≡ some (Some w) ∷ []) × (journal w ≡ log) × IsFrom journal ticks tells opened w × (wanted ≡ false → IsAsked journal tells opened w)
    pub taken : turn ≢ 0 → (turn ≡ 1) × (s.homes ≡ none ∷ []) × ((v : View) × (get_elem? s.views holder ≡ some v) × (v.holds ≡ true))
    pub each : (port : ℕ) (v : View) → get_elem? s.views port ≡ some v → Fits turn holder wanted opened log seats joined place port v
    pub longest : IsSeen log s.views
    pub told : wanted ≡ true → IsToldWanted s.views
    pub everybody : (seat : ℕ) → seat < seats → HasSeat s.views joined seat
    pub kept : AllByRecursion (IsKept log s.views seats) joined
    pub nobody : (seat : ℕ) → seats ≤ seat → of_seat seat log ≡ []
