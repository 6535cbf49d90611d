-- To what workers came.
use Rattle.base.proofs.Membership.{only_member}
use Rattle.std.proofs.Common.{◌≡◌, ◌⊎◌, inl, inr, ℕ, zero, suc, List, [], ◌∷◌, All, Contains, Option, sym, subst, arith}
use Rattle.std.specs.List.{zip}
use Rattle.std.proofs.lemmas.List.Elements.{All-contains}
use Rattle.script_workers.specs.declared.worker.Worker.{Worker}
use Rattle.lifecycle_core.specs.Causes.{SomeCame}
use Rattle.lifecycle_core.specs.Conducts.{CameTo}
use Rattle.lifecycle_core.specs.Tasks.{End}

-- what holds of each end holds of one that some worker came to
pub of_each : (Q : End → Type 0) (ends : List (List (List End))) (end : End) → All (All (All Q)) ends → SomeCame ends end → Q end
of_each Q ends end all came =
    let phase = All-contains (All (All Q)) ends came.0 all came.2 in
    let own = All-contains (All Q) came.0 came.1 phase came.3 in
    All-contains Q came.1 end own came.4

pub one_of_two : {X : Type 0} (x z y : X) → Contains (x ∷ z ∷ []) y → (x ≡ y) ⊎ (z ≡ y)
one_of_two x z y (zero, below, is) = inl is
one_of_two x z y (suc zero, below, is) = inr is
one_of_two x z y (suc (suc k), below, is) = absurd (omega (arith, below))

-- an end of the one worker stands among its own
pub came_among : (worker : Worker) (own : List End) (hand : Option ℕ) (place : ℕ) (end : End) → CameTo (worker ∷ []) (own ∷ []) hand place end → Contains (zip worker.tasks own) (place, end)
came_among worker own hand place end came =
    let same : (worker, own) ≡ (came.worker, came.own) = only_member (worker, own) (came.worker, came.own) came.among in
    subst (λ (p : Worker × List End). Contains (zip p.0.tasks p.1) (place, end)) (sym same) came.came
