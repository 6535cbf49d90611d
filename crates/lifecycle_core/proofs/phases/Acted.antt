-- Whoever works on a script in some way in which its uploads, compactions and cleanings are done, and all others do nothing but read,
-- leaves an acting journal.
use Rattle.std.proofs.Common.{◌≡◌, ◌≢◌, ◌⊎◌, inl, inr, ℕ, suc, ◌+◌, ◌==◌, true, false, Bool, cond, List, [], ◌∷◌, map, Contains, Option, Some, None, refl, sym, ◌∙◌, ap, subst, arith}
use Rattle.std.specs.Prelude.{is_none, slice_get}
use Rattle.std.specs.List.{All, AllZip, filter}
use Rattle.std.proofs.lemmas.Bool.Decides.{nat_tests}
use Rattle.std.proofs.lemmas.List.Elements.{All-contains, All-contains_itself, All-weaker}
use Rattle.base.proofs.Membership.{into_filter, into_map, of_map}
use Rattle.base.proofs.Pairs.{AllZip-second}
use Rattle.world_core.specs.Journals.{of_seat}
use Rattle.world_core.specs.Worlds.{IsJournal}
use Rattle.world_core.specs.declared.entry.Entry.{Entry}
use Rattle.script_workers.specs.declared.phase.Phase.{Phase}
use Rattle.script_workers.specs.declared.task.Task.{Task}
use Rattle.script_workers.specs.declared.worker.Worker.{Worker}
use Rattle.lifecycle_core.specs.Acting.{HasActors, IsActing, IsNumbering, ReadsApart, acting, actors}
use Rattle.lifecycle_core.specs.Conducts.{Assigned, Conduct, PhaseRun, TasksRun, Who, WorkerRun, who_of, working}
use Rattle.lifecycle_core.specs.Holdings.{Holding, none_held, nothing_held}
use Rattle.lifecycle_core.specs.Setting.{Setting}
use Rattle.lifecycle_core.specs.Tasks.{End}
use Rattle.lifecycle_core.specs.Ways.{PhasesRun}

pub no_gateway : (o : Option ℕ) → is_none o ≡ true → o ≡ None
no_gateway None is = refl
no_gateway (Some g) is = absurd (cc (is))

some_gateway : (o : Option ℕ) → is_none o ≡ false → o ≢ None
some_gateway None is same = absurd (cc (is))
some_gateway (Some g) is same = absurd (cc (same))

abbrev lone : Worker → Bool
lone worker = is_none worker.gateway

module _ {State Own : Type 0} (setting : Setting) (seats : ℕ → ℕ) (conduct : Conduct State Own) (has : HasActors setting seats conduct) where
  -- the ends of the workers without a gateway
  abbrev acted_by : List Worker → List (List Own) → List (List End)
  acted_by [] ends = []
  acted_by (w ∷ ws) [] = []
  acted_by (w ∷ ws) (own ∷ ends) = cond (is_none w.gateway) (map has.end_as own ∷ acted_by ws ends) (acted_by ws ends)

  tasks_acted : (who : Who) (all : List Entry) (before : State) (tasks : List Assigned) (entries : List Entry) (ends : List Own) (last : State) → who.gateway ≡ None → TasksRun conduct who all before tasks entries ends last
      → (held : Holding) → (left : Holding) × TasksRun (acting setting seats) who all held tasks entries (map has.end_as ends) left
  tasks_acted who all before [] entries ends last none (nothing, no_ends, same) held = (held, (nothing, ap (map has.end_as) no_ends, refl))
  tasks_acted who all before (own ∷ tasks) entries ends last none (inl (made, others, end, later, next, parts, run, is, rest)) held =
      let one = has.does who own.place own.task.work all before made (Some end) next none run held in
      let more = tasks_acted who all next tasks others later last none rest one.0 in
      (more.0, inl (made, others, has.end_as end, map has.end_as later, one.0, parts, one.1, ap (map has.end_as) is, more.1))
  tasks_acted who all before (own ∷ tasks) entries ends last none (inr (run, is)) held =
      let one = has.does who own.place own.task.work all before entries None last none run held in
      (one.0, inr (one.1, ap (map has.end_as) is))

  module _ (tasks : List Task) (before after : ℕ → State) (made : List Entry) where
    worker_acted : (worker : Worker) (own : List Own) → worker.gateway ≡ None → WorkerRun conduct tasks before made after worker own → WorkerRun (acting setting seats) tasks none_held made none_held worker (map has.end_as own)
    worker_acted worker own none run =
        let acted = tasks_acted (who_of worker) made (conduct.opens before worker) run.own (of_seat worker.seat made) own run.last none run.runs nothing_held in
        record { own = run.own; are = run.are; last = acted.0; runs = acted.1; leaves = tt }

    first_acted : (w : Worker) (ws : List Worker) (own : List Own) (ends : List (List Own)) (b : Bool) → is_none w.gateway ≡ b → WorkerRun conduct tasks before made after w own
        → AllZip (WorkerRun (acting setting seats) tasks none_held made none_held) (filter lone ws) (acted_by ws ends)
        → AllZip (WorkerRun (acting setting seats) tasks none_held made none_held) (cond b (w ∷ filter lone ws) (filter lone ws)) (cond b (map has.end_as own ∷ acted_by ws ends) (acted_by ws ends))
    first_acted w ws own ends true is run rest = (worker_acted w own (no_gateway w.gateway is) run, rest)
    first_acted w ws own ends false is run rest = rest

    all_acted : (ws : List Worker) (ends : List (List Own)) → AllZip (WorkerRun conduct tasks before made after) ws ends → AllZip (WorkerRun (acting setting seats) tasks none_held made none_held) (filter lone ws) (acted_by ws ends)
    all_acted [] [] all = tt
    all_acted [] (own ∷ ends) all = absurd all
    all_acted (w ∷ ws) [] all = absurd all
    all_acted (w ∷ ws) (own ∷ ends) all = first_acted w ws own ends (is_none w.gateway) refl all.0 (all_acted ws ends all.1)

  module _ (number : ℕ) (phase : Phase) (at : slice_get setting.script.phases number ≡ Some phase) (before after : ℕ → State) (made : List Entry) (ends : List (List Own))
      (run : PhaseRun conduct phase.tasks (conduct.workers number) before made ends after) where
    abbrev Sits : Entry → Type 0
    Sits e = Contains (map (λ (w : Worker). w.seat) (actors setting seats number)) e.seat ⊎ ReadsApart setting seats e

    sits_by : (e : Entry) (worker : Worker) (own : List Own) (b : Bool) → Contains made e → Contains (conduct.workers number) worker → worker.seat ≡ e.seat → is_none worker.gateway ≡ b → WorkerRun conduct phase.tasks before made after worker own → Sits e
    sits_by e worker own true inside among seat is w =
        inl (subst (λ (ws : List Worker). Contains (map (λ (x : Worker). x.seat) ws) e.seat) (has.actors_are number)
        (subst (Contains (map (λ (x : Worker). x.seat) (filter lone (conduct.workers number)))) seat
        (into_map (λ (x : Worker). x.seat) (filter lone (conduct.workers number)) worker (into_filter lone (conduct.workers number) worker among is))))
    sits_by e worker own false inside among seat is w =
        let test : (e.seat == worker.seat) ≡ true = grind (arith, nat_tests, seat) in
        inr (All-contains (ReadsApart setting seats) (of_seat worker.seat made) e (has.reads number phase worker before after made own at among (some_gateway worker.gateway is) w) (into_filter (λ (x : Entry). x.seat == worker.seat) made e inside test))

    one_sits : (e : Entry) → Contains made e → Sits e
    one_sits e inside = elim (All-contains (λ (x : Entry). Contains (map (λ (w : Worker). w.seat) (conduct.workers number)) x.seat ⊎ conduct.bystands x) made e run.seats inside) [
      | inl sits ↦
          let who = of_map (λ (w : Worker). w.seat) (conduct.workers number) e.seat sits in
          let own = AllZip-second (WorkerRun conduct phase.tasks before made after) (conduct.workers number) ends who.0 run.runs who.1 in
          sits_by e who.0 own.0 (is_none (who.0).gateway) inside who.1 who.2 refl own.2
      | inr by ↦ inr (has.bystanders e by)
    ]

    phase_acted : PhaseRun (acting setting seats) phase.tasks (actors setting seats number) none_held made (acted_by (conduct.workers number) ends) none_held
    phase_acted = record {
      seats = All-weaker (Contains made) Sits one_sits made (All-contains_itself made);
      runs = subst (λ (ws : List Worker). AllZip (WorkerRun (acting setting seats) phase.tasks none_held made none_held) ws (acted_by (conduct.workers number) ends)) (has.actors_are number)
          (all_acted phase.tasks before after made (conduct.workers number) ends run.runs);
      kept = λ gateway none. refl;
    }

  abbrev ends_acted : ℕ → List (List (List Own)) → List (List (List End))
  ends_acted number [] = []
  ends_acted number (own ∷ ends) = acted_by (conduct.workers number) own ∷ ends_acted (number + 1) ends

  phases_acted : (number : ℕ) (before : ℕ → State) (phases : List Phase) (entries : List Entry) (ends : List (List (List Own))) → ((k : ℕ) (p : Phase) → slice_get phases k ≡ Some p → slice_get setting.script.phases (number + k) ≡ Some p)
      → PhasesRun (working conduct) number before phases entries ends → PhasesRun (working (acting setting seats)) number none_held phases entries (ends_acted number ends)
  phases_acted number before [] entries ends same run = (run.0, ap (ends_acted number) run.1)
  phases_acted number before (phase ∷ phases) entries ends same (inl none) = inl (none.0, ap (ends_acted number) none.1)
  phases_acted number before (phase ∷ phases) entries ends same (inr (clock, made, others, first, later, after, parts, begins, run, are, go)) =
      let at : slice_get setting.script.phases number ≡ Some phase = ap (slice_get setting.script.phases) (omega arith) ∙ same 0 phase refl in
      let next : (k : ℕ) (p : Phase) → slice_get phases k ≡ Some p → slice_get setting.script.phases (number + 1 + k) ≡ Some p = λ k p own. ap (slice_get setting.script.phases) (omega arith) ∙ same (suc k) p own in
      inr (
        clock,
        made,
        others,
        acted_by (conduct.workers number) first,
        ends_acted (number + 1) later,
        none_held,
        parts,
        begins,
        phase_acted number phase at before after made first run,
        ap (ends_acted number) are,
        phases_acted (number + 1) after phases others later next go,
      )

  pub conduct_acts : IsNumbering setting seats → (journal : List Entry) (before : ℕ → State) (ends : List (List (List Own))) → IsJournal setting.script.rules.tick.ms journal → PhasesRun (working conduct) 0 before setting.script.phases journal ends → IsActing setting journal
  conduct_acts numbered journal before ends kept run = record {
    seats = seats;
    numbered = numbered;
    ends = ends_acted 0 ends;
    kept = kept;
    phases = phases_acted 0 before setting.script.phases journal ends (λ k p own. ap (slice_get setting.script.phases) (omega arith) ∙ own) run;
  }

  -- under this numbering
  pub seats_kept : (numbered : IsNumbering setting seats) (journal : List Entry) (before : ℕ → State) (ends : List (List (List Own))) (kept : IsJournal setting.script.rules.tick.ms journal) (run : PhasesRun (working conduct) 0 before setting.script.phases journal ends) (seat : ℕ)
      → (conduct_acts numbered journal before ends kept run).seats seat ≡ seats seat
  unfolding conduct_acts
  seats_kept numbered journal before ends kept run seat = refl
