-- What is known of the world when it comes out again.
use Rattle.std.specs.Prelude.{◌≡◌, ℕ, ◌<◌, ◌≤◌, map, List, [], Contains, length}
use Rattle.std.specs.List.{AllByRecursion}
use Rattle.world_core.specs.declared.entry.Entry.{Entry}
use Rattle.world_core.specs.Journals.{of_seat}
use Rattle.world_turn.specs.declared.view.View.{View}

-- each seat that was made was joined
abbrev pub AllJoined : View → Type 0
AllJoined v = (seat : ℕ) → 0 < seat → seat < v.seats → Contains (map (λ kept. kept.0) v.joined) seat

-- The journal is the root's front: the root has seen all of it, and has heard of no more entries. Its entries of each joined seat are those
-- that its pass had made when it was joined, its entries of seat 0 are the root's, and no other seat occurs.
pub record Closes (v : View) (tick : ℕ) (journal : List Entry) : Type 0 where
  pub ticks : tick ≡ v.tick
  pub front : v.front ≡ journal
  pub known : v.known ≤ length journal
  pub own : v.own ≡ of_seat 0 journal
  pub joined : AllByRecursion (λ kept. kept.1 ≡ of_seat kept.0 journal) v.joined
  pub nobody : (seat : ℕ) → v.seats ≤ seat → of_seat seat journal ≡ []
