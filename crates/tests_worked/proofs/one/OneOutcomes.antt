-- The script of one block has one report at the ends of its run.
use Rattle.base.proofs.Membership.{only_member}
use Rattle.std.proofs.Common.{◌≡◌, inl, inr, ℕ, pos, Bool, List, [], ◌∷◌, ◌++◌, length, Some, None, refl, sym, ap, subst, ◌∙◌, arith}
use Rattle.std.specs.List.{AllZip}
use Rattle.shipper.specs.declared.upload.UploadEnd.TheVariants as shipped
use Rattle.meta_fetcher.specs.declared.sync.SyncEnd.TheVariants as fetched
use Rattle.store_calls.specs.declared.series_call.SeriesEnd.TheVariants as called
use Rattle.script_workers.specs.Hands.{hands_of_task, gateway_of}
use Rattle.script_workers.specs.declared.hand.Hand.{Hand}
use Rattle.script_workers.specs.declared.hand.Hand.TheVariants as hands
use Rattle.script_workers.specs.declared.task.Task.{Task}
use Rattle.script_workers.specs.declared.work.Work.TheVariants as works
use Rattle.script_workers.specs.declared.worker.Worker.{Worker}
use Rattle.lifecycle_core.specs.Conducts.{CameTo}
use Rattle.lifecycle_core.specs.Tasks.{End, answered, synced, uploaded}
use Rattle.call_verdicts.specs.script_running.specs.Outcomes.{IsOutcome, Outcome, PhasesCame, TaskCame, TasksCame}
use Rattle.call_verdicts.specs.Verdicts.{IsReport}
use Rattle.call_verdicts.specs.report_lines.specs.Telling.{report_of}
use Rattle.call_verdicts.specs.script_running.specs.declared.came.Came.TheVariants as outcome
use Rattle.call_verdicts.specs.script_running.specs.declared.came.Stop.TheVariants as stops
use Rattle.call_verdicts.specs.script_running.specs.declared.outcome.SyncOutcome.TheVariants as syncs
use Rattle.tests_worked.specs.SmallBlock as small
use Rattle.tests_worked.specs.OneBlock as one
use Rattle.tests_worked.specs.OneBlockChanged as changed
use Rattle.tests_worked.proofs.small.Ends.{came_among, one_of_two}
use Rattle.tests_worked.proofs.one.OneBlock.{uploader, gateway, first_workers, second_workers, first_tasks, second_tasks, first_ends, second_ends}
use Rattle.call_verdicts.proofs.OneReport.{outcome_once}
use Rattle.tests_worked.proofs.one.OneReport.{outcomes, lines}
use Rattle.tests_worked.proofs.small.SmallOutcomes.{small_out, small_outcome, sync_out, upload_out}

-- ---- the ends of tasks

upload_came : (end : End) → CameTo (uploader ∷ []) first_ends None 0 end → uploaded (shipped.Done 3) ≡ end
upload_came end came = ap (λ (p : ℕ × End). p.1) (only_member (0, uploaded (shipped.Done 3)) (0, end) (came_among uploader (uploaded (shipped.Done 3) ∷ []) None 0 end came))

abbrev own_ends : List End
own_ends = synced (fetched.View one.view) ∷ answered one.used (called.Answer (small.up ∷ []) (small.a ∷ [])) ∷ []

sync_came : (end : End) → CameTo (gateway ∷ []) second_ends (Some 0) 0 end → synced (fetched.View one.view) ≡ end
sync_came end came =
    elim (one_of_two (0, synced (fetched.View one.view)) (1, answered one.used (called.Answer (small.up ∷ []) (small.a ∷ []))) (0, end) (came_among gateway own_ends (Some 0) 0 end came)) [
      | inl is ↦ ap (λ (p : ℕ × End). p.1) is
      | inr is ↦ absurd (omega (arith, ap (λ (p : ℕ × End). p.0) is))
    ]

query_came : (end : End) → CameTo (gateway ∷ []) second_ends (Some 0) 1 end → answered one.used (called.Answer (small.up ∷ []) (small.a ∷ [])) ≡ end
query_came end came =
    elim (one_of_two (0, synced (fetched.View one.view)) (1, answered one.used (called.Answer (small.up ∷ []) (small.a ∷ []))) (1, end) (came_among gateway own_ends (Some 0) 1 end came)) [
      | inl is ↦ absurd (omega (arith, ap (λ (p : ℕ × End). p.0) is))
      | inr is ↦ ap (λ (p : ℕ × End). p.1) is
    ]

-- ---- their outcomes

one_end : (hand : Hand) (P : Hand → End → Type 0) (own : List End) → AllZip P (hand ∷ []) own → (end : End) × (own ≡ end ∷ []) × P hand end
one_end hand P [] all = absurd all
one_end hand P (end ∷ []) all = (end, refl, all.0)
one_end hand P (end ∷ other ∷ ends) all = absurd all.1

abbrev upload : Task
upload = record { line = 6; work = works.Upload small.a None }

abbrev sync : Task
sync = record { line = 8; work = works.Sync 0 }

abbrev query : Task
query = record { line = 9; work = works.Query (pos 0) (pos 5000) 0 }

upload_outcome : (o : Outcome) → TaskCame one.script (uploader ∷ []) first_ends 0 upload o → o ≡ outcome.Upload (stops.Ended (shipped.Done 3))
unfolding hands_of_task
upload_outcome o came =
    let own = one_end (hands.Alone 0) (λ hand end. CameTo (uploader ∷ []) first_ends (gateway_of hand) 0 end) came.own came.came in
    outcome_once upload.work (uploaded (shipped.Done 3) ∷ []) o (outcome.Upload (stops.Ended (shipped.Done 3))) (subst (λ (ends : List End). IsOutcome upload.work ends o) (own.1 ∙ ap (λ end. end ∷ []) (sym (upload_came own.0 own.2))) came.is) (upload_out small.a None)

sync_outcome : (o : Outcome) → TaskCame one.script (gateway ∷ []) second_ends 0 sync o → o ≡ outcome.Sync (syncs.Blocks 1)
unfolding hands_of_task
sync_outcome o came =
    let own = one_end (hands.Gateway 0) (λ hand end. CameTo (gateway ∷ []) second_ends (gateway_of hand) 0 end) came.own came.came in
    outcome_once sync.work (synced (fetched.View one.view) ∷ []) o (outcome.Sync (syncs.Blocks 1)) (subst (λ (ends : List End). IsOutcome sync.work ends o) (own.1 ∙ ap (λ end. end ∷ []) (sym (sync_came own.0 own.2))) came.is) (sync_out 0 one.view 1 refl)

query_outcome : (o : Outcome) → TaskCame one.script (gateway ∷ []) second_ends 1 query o → o ≡ small_outcome
unfolding hands_of_task
query_outcome o came =
    let own = one_end (hands.Gateway 0) (λ hand end. CameTo (gateway ∷ []) second_ends (gateway_of hand) 1 end) came.own came.came in
    outcome_once query.work (answered one.used (called.Answer (small.up ∷ []) (small.a ∷ [])) ∷ []) o small_outcome (subst (λ (ends : List End). IsOutcome query.work ends o) (own.1 ∙ ap (λ end. end ∷ []) (sym (query_came own.0 own.2))) came.is) (small_out (pos 0) (pos 5000) 0 one.used)

first_outcomes : (os : List Outcome) → TasksCame one.script (uploader ∷ []) first_ends 0 first_tasks os → os ≡ outcome.Upload (stops.Ended (shipped.Done 3)) ∷ []
first_outcomes [] came = absurd came
first_outcomes (o ∷ os) came = let one = upload_outcome o came.0 in cc (one, came.1)

second_outcomes : (os : List Outcome) → TasksCame one.script (gateway ∷ []) second_ends 0 second_tasks os → os ≡ outcome.Sync (syncs.Blocks 1) ∷ small_outcome ∷ []
second_outcomes [] came = absurd came
second_outcomes (o ∷ []) came = absurd came.1
second_outcomes (o ∷ p ∷ os) came = let one = sync_outcome o came.0 in let two = query_outcome p came.1.0 in cc (one, two, came.1.1)

all_outcomes : (os : List Outcome) → PhasesCame one.script 0 one.script.phases one.ends os → os ≡ outcomes
all_outcomes os came =
    let first = first_outcomes came.0 (subst (λ (ws : List Worker). TasksCame one.script ws first_ends 0 first_tasks came.0) first_workers came.3) in
    let second = second_outcomes came.4.0 (subst (λ (ws : List Worker). TasksCame one.script ws second_ends 0 second_tasks came.4.0) second_workers came.4.3) in
    rw (came.2, first, came.4.2, second, came.4.4.1) refl

-- ---- the text

pub one_report : (as_asked : Bool) (text : List ℕ) → IsReport one.script one.script.phases one.ends as_asked text → text ≡ one.report
one_report as_asked text report = report.lines ∙ ap (report_of one.script (first_tasks ++ second_tasks)) (all_outcomes report.outcomes report.came) ∙ sym lines

shorter : changed.report_without_source ≡ one.report → ⊥
unfolding changed.report_without_source one.report
shorter is = omega (arith, ap length is)

pub source_is_printed : (as_asked : Bool) → ¬ IsReport one.script one.script.phases one.ends as_asked changed.report_without_source
source_is_printed as_asked report = shorter (one_report as_asked changed.report_without_source report)
