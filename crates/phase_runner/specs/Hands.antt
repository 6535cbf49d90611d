-- What is seen of a hand over a shared world.
use Rattle.std.specs.Prelude.{◌≡◌, ℕ, Option, Some, None, refl}
use Rattle.std.proofs.Common.{◌∙◌}
use Rattle.atomic_table.specs.Seated.{TableId}
use Rattle.world_turn.specs.Rule.{spent}
use Rattle.world_turn.specs.Passes.{table_of, view_of}
use Rattle.world_turn.specs.Turns.{IsLater}
use Rattle.world_turn.specs.declared.pass.Pass.{Pass}
use Rattle.world_turn.specs.declared.view.View.{View}
use Rattle.world_turn.proofs.Later.{later-none, later-more}

-- a hand: the table of its world, its seat, and what its pass knows
pub record HandView : Type 0 where
  pub table : TableId
  pub seat : ℕ
  pub view : View

abbrev pub view_in : Option Pass → View
view_in None = spent
view_in (Some pass) = view_of pass

abbrev pub seat_in : Option Pass → ℕ
seat_in None = 0
seat_in (Some pass) = pass.seat

-- the pass is there, and of this table
abbrev pub IsThere : TableId → Option Pass → Type 0
IsThere table None = ⊥
IsThere table (Some pass) = table_of pass ≡ table

-- a hand after operations: of the same seat, and its pass knows no less
pub record GoesOn (old new : HandView) : Type 0 where
  pub table : new.table ≡ old.table
  pub seat : new.seat ≡ old.seat
  pub later : IsLater old.view new.view

pub goes_on-none : (hand : HandView) → GoesOn hand hand
goes_on-none hand = record { table = refl; seat = refl; later = later-none hand.view }

pub goes_on-more : (first next last : HandView) → GoesOn first next → GoesOn next last → GoesOn first last
goes_on-more first next last one two = record {
  table = two.table ∙ one.table;
  seat = two.seat ∙ one.seat;
  later = later-more first.view next.view last.view one.later two.later;
}
