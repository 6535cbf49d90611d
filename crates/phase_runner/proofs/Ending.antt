-- From seated workers to ended ones.
use Rattle.std.proofs.Common.{◌≡◌, ◌||◌, inl, inr, true≢false, Bool, ℕ, suc, ◌+◌, ◌<◌, ◌++◌, List, [], ◌∷◌, length, Option, Some, None, slice_index_or, map, sym, ap, ◌∙◌, subst, arith}
use Rattle.atomic_table.specs.Seated.{TableId}
use Rattle.world_core.specs.declared.entry.Entry.{Entry}
use Rattle.world_turn.specs.Seats.{Stand}
use Rattle.world_turn.specs.Passes.{view_of}
use Rattle.world_turn.specs.declared.pass.Pass.{Pass}
use Rattle.world_turn.specs.declared.view.View.{View}
use Rattle.phase_runner.specs.Phases.{IsSeated, AreSeated, IsEnded, AreEnded}
use Rattle.phase_runner.specs.Works.{Meaning, Telling, IsRun, IsDone}
use Rattle.phase_runner.specs.declared.work.Work.{Work}

module _ {J E : Type 0} (may : Meaning J E) (tells : Telling E) (table : TableId) (v : View) where
  abbrev before : Work J E → Option J × Option Pass
  before w = (w.job, w.pass)

  abbrev after : Work J E → Option Pass × Option E
  after w = (w.pass, w.end)

  ended : (seat : ℕ) (job : J) (old new : Pass) (end : E) → IsSeated table v seat old → IsRun may tells job old end new → IsEnded may tells v seat job new end
  ended seat job old new end n r = record {
    sits = r.seat ∙ n.sits;
    run = subst (λ (es : List Entry). may job seat es (Some (view_of new).front) end) (sym (r.run.1 ∙ ap (λ o. o ++ r.run.0) n.own)) (subst (λ (m : ℕ). may job m r.run.0 (Some (view_of new).front) end) n.sits r.run.2);
    stand = subst (λ (es : List Entry). Stand v.known es (view_of new).front) (sym (r.later.made.1 ∙ ap (λ o. o ++ r.later.made.0) n.own)) (subst (λ (m : ℕ). Stand m r.later.made.0 (view_of new).front) n.known r.later.made.2);
    refused = r.refused ∙ ap (λ (b : Bool). b || tells.full end) n.refused;
    wanted = λ so. elim (r.wanted so) [ inl was ↦ absurd (true≢false (sym was ∙ n.wanted)) | inr told ↦ told ];
  }

  one_ended : (seat : ℕ) (job : J) (jobs : List J) (w w' : Work J E) (ws ws' : List (Work J E)) → AreSeated table v seat (job ∷ jobs) (map before (w ∷ ws)) → IsDone may tells w.job w.pass w'.end w'.pass
      → (AreSeated table v (seat + 1) jobs (map before ws) → AreEnded may tells table v (seat + 1) jobs (map after ws')) → AreEnded may tells table v seat (job ∷ jobs) (map after (w' ∷ ws'))
  one_ended seat job jobs w w' ws ws' a d next = cases w.job w.pass w'.end w'.pass a d
    where
      cases : (j : Option J) (p : Option Pass) (e : Option E) (q : Option Pass) → AreSeated table v seat (job ∷ jobs) ((j, p) ∷ map before ws) → IsDone may tells j p e q
          → AreEnded may tells table v seat (job ∷ jobs) ((q, e) ∷ map after ws')
      cases (Some j) (Some p) (Some e) (Some q) a d = (d.table ∙ (a.1).table_is, ended seat job p q e a.1 (subst (λ (x : J). IsRun may tells x p e q) a.0 d), next a.2)
      cases None p e q a d = absurd a
      cases (Some j) None e q a d = absurd a
      cases (Some j) (Some p) None q a d = absurd d
      cases (Some j) (Some p) (Some e) None a d = absurd d

  pub all_ended : (seat : ℕ) (jobs : List J) (ws ws' : List (Work J E)) → length ws ≡ length ws' → AreSeated table v seat jobs (map before ws)
      → ((i : ℕ) (d : Work J E) → i < length ws → IsDone may tells (slice_index_or ws i d).job (slice_index_or ws i d).pass (slice_index_or ws' i d).end (slice_index_or ws' i d).pass)
      → AreEnded may tells table v seat jobs (map after ws')
  all_ended seat [] [] [] e a d = tt
  all_ended seat [] [] (w' ∷ ws') e a d = absurd (omega arith)
  all_ended seat [] (w ∷ ws) ws' e a d = absurd a
  all_ended seat (j ∷ js) [] ws' e a d = absurd a
  all_ended seat (j ∷ js) (w ∷ ws) [] e a d = absurd (omega arith)
  all_ended seat (j ∷ js) (w ∷ ws) (w' ∷ ws') e a d =
      one_ended seat j js w w' ws ws' a (d 0 w (omega arith)) (λ rest. all_ended (seat + 1) js ws ws' (omega arith) rest (λ i x l. d (suc i) x (omega arith)))
