-- How the journal of a run beside falls into its phases, by what the root's pass knows of them.
use Rattle.std.specs.Prelude.{◌≡◌, ℕ, ◌<◌, List, [], ◌∷◌, ◌++◌, map, All, Contains}
use Rattle.std.specs.List.{AllByRecursion, flat_map}
use Rattle.world_core.specs.declared.entry.Entry.{Entry}
use Rattle.world_core.specs.Journals.{of_seat}
use Rattle.world_turn.specs.Seats.{Stand}
use Rattle.world_turn.specs.declared.view.View.{View as Known}

-- one phase: the entry of its clock, and the entries of its workers' seats, in the workers' order
pub record Passed : Type 0 where
  pub clock : Entry
  pub kept : List (ℕ × List Entry)

-- Each phase's workers' entries stand behind its clock's, and before that of the next phase.
abbrev pub AreApart : List Entry → List Passed → Type 0
AreApart front [] = Unit {0}
AreApart front (one ∷ passed) =
    AllByRecursion (λ (kept : ℕ × List Entry). Stand one.clock.seq kept.1 front) one.kept
    × All (λ (later : Passed). AllByRecursion (λ (kept : ℕ × List Entry). All (λ e. e.seq < later.clock.seq) kept.1) one.kept) passed
    × AreApart front passed

-- what a root knows of the phases so far
pub record KnowsPhases (known : Known) (passed : List Passed) : Type 0 where
  pub own : known.own ≡ map (λ (one : Passed). one.clock) passed
  pub joined : known.joined ≡ flat_map (λ (one : Passed). one.kept) passed
  -- no worker has the root's seat
  pub seats : All (λ (one : Passed). All (λ (kept : ℕ × List Entry). 0 < kept.0) one.kept) passed
  pub apart : AreApart known.front passed

-- The journal is these phases, one after another: each has its clock's entry first, then the entries of its workers, and no others.
abbrev pub AreParts : List Passed → List Entry → Type 0
AreParts [] journal = journal ≡ []
AreParts (one ∷ passed) journal =
    (made : List Entry) × (others : List Entry) × (journal ≡ one.clock ∷ made ++ others)
    × All (λ e. Contains (map (λ (kept : ℕ × List Entry). kept.0) one.kept) e.seat) made
    × AllByRecursion (λ (kept : ℕ × List Entry). kept.1 ≡ of_seat kept.0 made) one.kept
    × AreParts passed others
