-- Seated workers are ready, and as many as the jobs.
use Rattle.std.proofs.Common.{◌≡◌, ℕ, zero, suc, ◌+◌, ◌<◌, List, [], ◌∷◌, length, Option, Some, None, slice_index_or, map, refl, ap, arith}
use Rattle.atomic_table.specs.Seated.{TableId}
use Rattle.world_turn.specs.declared.pass.Pass.{Pass}
use Rattle.world_turn.specs.declared.view.View.{View}
use Rattle.phase_runner.specs.Phases.{AreSeated}
use Rattle.phase_runner.specs.Works.{IsReady}
use Rattle.phase_runner.specs.declared.work.Work.{Work}

module _ {J : Type 0} (table : TableId) (v : View) where
  first : (seat : ℕ) (job : J) (jobs : List J) (j : Option J) (p : Option Pass) (ws : List (Option J × Option Pass)) → AreSeated table v seat (job ∷ jobs) ((j, p) ∷ ws) → IsReady table j p × AreSeated table v (seat + 1) jobs ws
  first seat job jobs (Some j) (Some p) ws a = (a.1.table_is, a.2)
  first seat job jobs None p ws a = absurd a
  first seat job jobs (Some j) None ws a = absurd a

module _ {J E : Type 0} (table : TableId) (v : View) where
  pub ready : (seat : ℕ) (jobs : List J) (ws : List (Work J E)) → AreSeated table v seat jobs (map (λ w. (w.job, w.pass)) ws) → (k : ℕ) (d : Work J E) → k < length ws → IsReady table (slice_index_or ws k d).job (slice_index_or ws k d).pass
  ready seat jobs [] a k d l = absurd (omega arith)
  ready seat [] (w ∷ ws) a k d l = absurd a
  ready seat (j ∷ js) (w ∷ ws) a zero d l = (first table v seat j js w.job w.pass (map (λ w. (w.job, w.pass)) ws) a).0
  ready seat (j ∷ js) (w ∷ ws) a (suc k) d l = ready (seat + 1) js ws (first table v seat j js w.job w.pass (map (λ w. (w.job, w.pass)) ws) a).1 k d (omega arith)

  pub as_many : (seat : ℕ) (jobs : List J) (ws : List (Work J E)) → AreSeated table v seat jobs (map (λ w. (w.job, w.pass)) ws) → length ws ≡ length jobs
  as_many seat [] [] a = refl
  as_many seat [] (w ∷ ws) a = absurd a
  as_many seat (j ∷ js) [] a = absurd a
  as_many seat (j ∷ js) (w ∷ ws) a = ap suc (as_many (seat + 1) js ws (first table v seat j js w.job w.pass (map (λ w. (w.job, w.pass)) ws) a).1)
