-- The seat of a hand, worker by worker.
use Rattle.std.proofs.Common.{◌≡◌, ℕ, ◌-◌, ◌<◌, ◌≤◌, true, false, List, [], ◌∷◌, length, take, drop, get_or, refl, sym, ◌∙◌, ap, arith}
use Rattle.std.proofs.lemmas.List.{take_all}
use Rattle.script_workers.specs.declared.hand.Hand.{Hand}
use Rattle.script_workers.specs.declared.worker.Worker.{Worker}
use Rattle.report_lines.specs.lifecycle_core.specs.InLine.{seat_of, serves}

pub seat_none : (workers : List Worker) (hand : Hand) → length workers < 1 → 0 ≡ seat_of workers hand
unfolding seat_of
seat_none [] hand none = refl
seat_none (w ∷ ws) hand none = absurd (omega (arith, none))

pub seat_first : (workers : List Worker) (worker : Worker) (hand : Hand) → 1 ≤ length workers → worker ≡ get_or workers 0 worker → serves hand worker.gateway worker.tasks ≡ true → worker.seat ≡ seat_of workers hand
unfolding seat_of
seat_first [] worker hand some is own = absurd (omega (arith, some))
seat_first (w ∷ ws) worker hand some is own =
    let e : serves hand w.gateway w.tasks ≡ true = ap (λ (x : Worker). serves hand x.gateway x.tasks) (sym is) ∙ own in
    rw e (ap (λ (x : Worker). x.seat) is)

pub seat_later : (workers others : List Worker) (worker : Worker) (hand : Hand) (seat : ℕ) → 1 ≤ length workers → worker ≡ get_or workers 0 worker → serves hand worker.gateway worker.tasks ≡ false
    → others ≡ take (length workers - 1) (drop 1 workers) → seat ≡ seat_of others hand → seat ≡ seat_of workers hand
unfolding seat_of
seat_later [] others worker hand seat some is own rest later = absurd (omega (arith, some))
seat_later (w ∷ ws) others worker hand seat some is own rest later =
    let e : serves hand w.gateway w.tasks ≡ false = ap (λ (x : Worker). serves hand x.gateway x.tasks) (sym is) ∙ own in
    let r : others ≡ ws = rest ∙ take_all (length (w ∷ ws) - 1) ws (omega arith) in
    rw e (later ∙ ap (λ (l : List Worker). seat_of l hand) r)
