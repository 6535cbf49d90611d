-- What is known of a seat's syncs by its entries until now, and of an entry that follows them.
use Rattle.std.specs.Prelude.{◌≡◌, ◌≢◌, ℕ, List, [], ◌∷◌, ◌++◌, Option, Some, None}
use Rattle.world_core.specs.declared.entry.Entry.{Entry}
use Rattle.meta_fetcher.specs.Syncs.{SyncRun}
use Rattle.meta_fetcher.specs.declared.rules.SyncRules.{SyncRules}
use Rattle.meta_fetcher.specs.declared.sync.SyncEnd.{SyncEnd}
use Rattle.breach_finding.specs.Watching.{IsAt, came_of}
use Rattle.breach_finding.specs.declared.watching.Came.{Came}
use Rattle.breach_finding.specs.declared.watching.Came.TheVariants.{GoesOn}
use Rattle.breach_finding.specs.declared.watching.Told.{Told}
use Rattle.breach_finding.specs.declared.watching.UnderWay.{UnderWay}

-- a sync with these first entries may still go on
abbrev pub CanGoOn : SyncRules → List Entry → Type 0
CanGoOn rules made = (e : Entry) × (others : List Entry) × (end : Option SyncEnd) × SyncRun rules (made ++ e ∷ others) end

-- no sync that the seat has begun may go on
abbrev pub IsIdle : SyncRules → List Entry → Type 0
IsIdle rules own = (front made : List Entry) → own ≡ front ++ made → made ≢ [] → CanGoOn rules made → ⊥

-- This sync is under way at the end of the seat's entries, and no other.
pub record IsUnderWay (rules : SyncRules) (own : List Entry) (w : UnderWay) : Type 0 where
  pub front : List Entry
  pub first : Entry
  pub others : List Entry
  pub parts : own ≡ front ++ first ∷ others
  pub begun : first.moment.ms ≡ w.begin
  pub at : IsAt rules (first ∷ others) w.machine w.asks
  pub only : (begins made : List Entry) → own ≡ begins ++ made → made ≢ [] → CanGoOn rules made → made ≡ first ∷ others

abbrev pub IsWatched : SyncRules → List Entry → Option UnderWay → Type 0
IsWatched rules own None = IsIdle rules own
IsWatched rules own (Some w) = IsUnderWay rules own w

-- how far the entries of a sync have come: they have no end, or this one
abbrev pub IsCome : SyncRules → List Entry → Option SyncEnd → Came → Type 0
IsCome rules entries None came = (came ≡ GoesOn) × ((end : SyncEnd) → SyncRun rules entries (Some end) → ⊥)
IsCome rules entries (Some end) came = came ≡ came_of end

-- The entry, which follows the seat's own, is one of a sync that began at this moment and has come so far. No other sync of the
-- seat has it as its last entry.
pub record IsOfSync (rules : SyncRules) (own : List Entry) (e : Entry) (begin : ℕ) (came : Came) : Type 0 where
  pub front : List Entry
  pub first : Entry
  pub others : List Entry
  pub parts : own ++ e ∷ [] ≡ front ++ first ∷ others
  pub begun : first.moment.ms ≡ begin
  pub end : Option SyncEnd
  pub run : SyncRun rules (first ∷ others) end
  pub come : IsCome rules (first ∷ others) end came
  pub only : (begins made : List Entry) (also : Option SyncEnd) → own ≡ begins ++ made → SyncRun rules (made ++ e ∷ []) also → made ++ e ∷ [] ≡ first ∷ others

-- what is told of the entry: none where no sync has it as its last entry
abbrev pub IsToldOf : SyncRules → List Entry → Entry → Option Told → Type 0
IsToldOf rules own e None = (begins made : List Entry) (also : Option SyncEnd) → own ≡ begins ++ made → SyncRun rules (made ++ e ∷ []) also → ⊥
IsToldOf rules own e (Some told) = IsOfSync rules own e told.begin told.came
