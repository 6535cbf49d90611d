-- A badge that lies in a pass.
use Rattle.std.specs.Prelude.{◌≡◌, ℕ, ◌+◌, Bool, List, [], ◌∷◌, true, false}
use Rattle.atomic_table.specs.declared.badge.Badge.{Badge}
use Rattle.world_turn.specs.Rule.{spent}
use Rattle.world_turn.specs.declared.view.View.{View}

abbrev pub first_of : List View → View
first_of [] = spent
first_of (v ∷ vs) = v

abbrev pub view_in : Badge View → View
view_in badge = first_of badge.views

-- The badge has one view, that of this seat, which does not hold the turn, and no front lies beside its own. It says whether
-- the full journal was met, and whether memory was wanted. The root has seat 0, and counts the passes that were split from it.
pub record IsAtRest (badge : Badge View) (seat splits : ℕ) (refused wanted : Bool) : Type 0 where
  pub one : badge.views ≡ view_in badge ∷ []
  pub live : (view_in badge).live ≡ true
  pub rests : (view_in badge).holds ≡ false
  pub sits : (view_in badge).seat ≡ seat
  pub compared : (view_in badge).beside ≡ []
  pub met_full : (view_in badge).refused ≡ refused
  pub wants : (view_in badge).wanted ≡ wanted
  pub first : seat ≡ 0 → badge.id ≡ 0
  pub counts : seat ≡ 0 → (view_in badge).seats ≡ splits + 1
