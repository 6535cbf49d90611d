-- When every seat was joined.
use Rattle.std.proofs.Common.{◌≡◌, ℕ, zero, suc, List, [], ◌∷◌, sym, ap, subst, arith}
use Rattle.std.specs.Prelude.{Contains, map}
use Rattle.world_core.specs.declared.entry.Entry.{Entry}
use Rattle.world_turn.specs.Closing.{AllJoined}
use Rattle.world_turn.specs.Rule.{Opened, root}
use Rattle.world_turn.specs.declared.view.View.{View}

-- no seat was made yet
pub none_split : (opened : Opened) (v : View) → v ≡ root opened → AllJoined v
none_split opened v is seat some below = let n : v.seats ≡ 1 = ap (λ x. x.seats) is in absurd (omega arith)

pub two_joined : (v : View) (a b : ℕ × List Entry) → v.seats ≡ 3 → v.joined ≡ a ∷ b ∷ [] → a.0 ≡ 1 → b.0 ≡ 2 → AllJoined v
two_joined v a b n is one two zero some below = absurd (omega arith)
two_joined v a b n is one two (suc zero) some below = subst (λ (j : List (ℕ × List Entry)). Contains (map (λ kept. kept.0) j) 1) (sym is) (0, omega arith, one)
two_joined v a b n is one two (suc (suc zero)) some below = subst (λ (j : List (ℕ × List Entry)). Contains (map (λ kept. kept.0) j) 2) (sym is) (1, omega arith, two)
two_joined v a b n is one two (suc (suc (suc k))) some below = absurd (omega arith)
