-- What a phase leaves of the views: each gateway's is its worker's last one, or that from before.
use Rattle.base.proofs.Membership.{contains_first, contains_later}
use Rattle.std.proofs.Common.{◌≡◌, ◌≢◌, ◌⊎◌, inl, inr, ℕ, ◌==◌, Bool, true, false, List, [], ◌∷◌, Contains, Option, Some, None, refl, sym, ◌∙◌, ap, subst, arith}
use Rattle.std.specs.List.{All, AllZip}
use Rattle.std.proofs.lemmas.Bool.Decides.{nat_tests}
use Rattle.std.proofs.lemmas.List.Elements.{All-cons, All-nil}
use Rattle.world_core.specs.declared.entry.Entry.{Entry}
use Rattle.script_workers.specs.declared.task.Task.{Task}
use Rattle.script_workers.specs.declared.worker.Worker.{Worker}
use Rattle.lifecycle_core.specs.Conducts.{PhaseRun, WorkerRun}
use Rattle.lifecycle_core.specs.Holdings.{Holding, Holdings, holding_of, nothing_held}
use Rattle.lifecycle_core.specs.Phases.{by_script}
use Rattle.lifecycle_core.specs.Setting.{Setting}
use Rattle.lifecycle_core.specs.Tasks.{End}

module _ (setting : Setting) (tasks : List Task) (workers : List Worker) (views : Holdings) (made : List Entry) (ends : List (List End)) (after : Holdings) (run : PhaseRun (by_script setting) tasks workers views made ends after) where
  abbrev Own : Worker → List End → Type 0
  Own = WorkerRun (by_script setting) tasks views made after

  -- of the workers' runs more may be known
  module _ (Holds : Option ℕ → Holding → Type 0) (R : Worker → List End → Type 0) (run_of : (worker : Worker) (own : List End) → R worker own → Own worker own) (known : AllZip R workers ends)
      (leaves : (worker : Worker) (own : List End) (r : R worker own) → Contains workers worker → Holds worker.gateway (run_of worker own r).last) where
    abbrev same_gateway : ℕ → Option ℕ → Bool
    same_gateway gateway None = false
    same_gateway gateway (Some other) = other == gateway

    -- a worker of the gateway, or none
    abbrev Searched : ℕ → List Worker → Type 0
    Searched gateway ws = Holds (Some gateway) (after gateway) ⊎ All (λ (w : Worker). w.gateway ≢ Some gateway) ws

    search_first : (gateway : ℕ) (w : Worker) (ws : List Worker) (own : List End) (rest : Searched gateway ws) (o : Option ℕ) (b : Bool) → w.gateway ≡ o → same_gateway gateway o ≡ b → Contains workers w → R w own → Searched gateway (w ∷ ws)
    search_first gateway w ws own (inl found) o b is test among one = inl found
    search_first gateway w ws own (inr none) None b is test among one = inr (All-cons (λ (x : Worker). x.gateway ≢ Some gateway) w ws (λ same. cc (is, same)) none)
    search_first gateway w ws own (inr none) (Some other) true is test among one =
        let same : other ≡ gateway = grind (arith, nat_tests, test) in
        let mine : w.gateway ≡ Some gateway = is ∙ ap (λ n. Some n) same in
        let its = run_of w own one in
        inl (subst (Holds (Some gateway)) (sym (its.leaves gateway mine)) (subst (λ (o : Option ℕ). Holds o its.last) mine (leaves w own one among)))
    search_first gateway w ws own (inr none) (Some other) false is test among one =
        inr (All-cons (λ (x : Worker). x.gateway ≢ Some gateway) w ws (λ same. let k : other ≡ gateway = cc (is, same) in absurd (grind (arith, nat_tests, test, k))) none)

    search : (gateway : ℕ) (ws : List Worker) (es : List (List End)) → ((w : Worker) → Contains ws w → Contains workers w) → AllZip R ws es → Searched gateway ws
    search gateway [] es within all = inr (All-nil (λ (w : Worker). w.gateway ≢ Some gateway))
    search gateway (w ∷ ws) [] within all = absurd all
    search gateway (w ∷ ws) (own ∷ es) within all =
        search_first gateway w ws own (search gateway ws es (λ x among. within x (contains_later w x ws among)) all.1) w.gateway (same_gateway gateway w.gateway) refl refl (within w (contains_first w ws)) all.0

    -- what holds of the workers' last views, and of those from before of gateways without a worker, holds of all
    pub views_left : Holds None nothing_held → ((gateway : ℕ) → All (λ (w : Worker). w.gateway ≢ Some gateway) workers → Holds (Some gateway) (views gateway)) → (gateway : Option ℕ) → Holds gateway (holding_of after gateway)
    views_left without before None = without
    views_left without before (Some gateway) = elim (search gateway workers ends (λ w among. among) known) [
      | inl found ↦ found
      | inr none ↦ subst (Holds (Some gateway)) (sym (run.kept gateway none)) (before gateway none)
    ]
