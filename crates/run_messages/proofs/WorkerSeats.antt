-- The worker of a seat, worker by worker.
use Rattle.std.proofs.Common.{◌≡◌, ℕ, ◌-◌, ◌<◌, ◌≤◌, ◌==◌, true, false, List, [], ◌∷◌, length, take, drop, get_or, refl, sym, ◌∙◌, ap, arith}
use Rattle.std.specs.Prelude.{Option, Some, None}
use Rattle.std.proofs.lemmas.List.{take_all}
use Rattle.std.proofs.lemmas.Bool.Decides.{nat_tests}
use Rattle.script_workers.specs.declared.worker.Worker.{Worker}
use Rattle.run_messages.specs.Actors.{worker_at}

is_seat : (own seat : ℕ) → own ≡ seat → (own == seat) ≡ true
is_seat own seat same = grind (arith, nat_tests)

is_other : (own seat : ℕ) → (own ≡ seat → ⊥) → (own == seat) ≡ false
is_other own seat other = grind (arith, nat_tests)

pub worker_none : (seat : ℕ) (workers : List Worker) → length workers < 1 → None ≡ worker_at seat workers
unfolding worker_at
worker_none seat [] none = refl
worker_none seat (w ∷ ws) none = absurd (omega (arith, none))

pub worker_first : (seat : ℕ) (workers : List Worker) (worker : Worker) → 1 ≤ length workers → worker ≡ get_or workers 0 worker → worker.seat ≡ seat → Some worker ≡ worker_at seat workers
unfolding worker_at
worker_first seat [] worker some is own = absurd (omega (arith, some))
worker_first seat (w ∷ ws) worker some is own =
    let e : (w.seat == seat) ≡ true = is_seat w.seat seat (ap (λ (x : Worker). x.seat) (sym is) ∙ own) in
    rw e (ap (λ (x : Worker). Some x) is)

pub worker_later : (seat : ℕ) (workers others : List Worker) (worker : Worker) (found : Option Worker) → 1 ≤ length workers → worker ≡ get_or workers 0 worker → (worker.seat ≡ seat → ⊥)
    → others ≡ take (length workers - 1) (drop 1 workers) → found ≡ worker_at seat others → found ≡ worker_at seat workers
unfolding worker_at
worker_later seat [] others worker found some is own rest later = absurd (omega (arith, some))
worker_later seat (w ∷ ws) others worker found some is own rest later =
    let e : (w.seat == seat) ≡ false = is_other w.seat seat (λ same. own (ap (λ (x : Worker). x.seat) is ∙ same)) in
    let r : others ≡ ws = rest ∙ take_all (length (w ∷ ws) - 1) ws (omega arith) in
    rw e (later ∙ ap (λ (l : List Worker). worker_at seat l) r)
