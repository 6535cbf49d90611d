-- The report of the script of one block.
use Rattle.std.proofs.Common.{◌≡◌, None, pos, true, List, [], ◌∷◌, ◌++◌, refl, sym, subst, lit<}
use Rattle.base.specs.Decimal.{decimal_text, signed_text}
use Rattle.ulid_core.specs.FixedDigits.{fixed_digits}
use Rattle.ulid_core.specs.UlidText.{text_of, character, alphabet}
use Rattle.label_sets.specs.Counts.{sample_count}
use Rattle.label_sets.specs.Notation.{quoted_byte, quoted, pair_text, comma_pair_text, pairs_text, set_text}
use Rattle.label_sets.specs.SampleText.{hex_sign, hex_text, pattern_text, timed_text, sample_text, spaced_sample_text, series_text}
use Rattle.shipper.specs.declared.upload.UploadEnd.TheVariants as shipped
use Rattle.meta_fetcher.specs.declared.sync.SyncEnd.TheVariants as fetched
use Rattle.store_calls.specs.declared.series_call.SeriesEnd.TheVariants as called
use Rattle.script_workers.specs.Hands.{hands_of_task}
use Rattle.script_workers.specs.declared.worker.Worker.{Worker}
use Rattle.lifecycle_core.specs.Tasks.{answered, synced, uploaded}
use Rattle.call_verdicts.specs.script_running.specs.Outcomes.{Outcome, PhasesCame, TasksCame}
use Rattle.call_verdicts.specs.report_lines.specs.Reports.{upload_words, sync_words, source_line, series_line, counts_text, answer_text, parted_text, named_lines, named_line, named_count, query_text, activity_text}
use Rattle.call_verdicts.specs.Verdicts.{IsReport}
use Rattle.call_verdicts.specs.report_lines.specs.Telling.{report_of}
use Rattle.call_verdicts.specs.script_running.specs.declared.came.Came.TheVariants as outcome
use Rattle.call_verdicts.specs.script_running.specs.declared.came.Stop.TheVariants as stops
use Rattle.call_verdicts.specs.script_running.specs.declared.outcome.SyncOutcome.TheVariants as syncs
use Rattle.tests_worked.specs.SmallBlock as small
use Rattle.tests_worked.specs.OneBlock as one
use Rattle.tests_worked.proofs.small.SmallOutcomes.{small_out, small_outcome, sync_out, upload_out}
use Rattle.tests_worked.proofs.one.OneBlock.{uploader, gateway, first_workers, second_workers, first_tasks, second_tasks, first_ends, second_ends}

abbrev pub outcomes : List Outcome
outcomes = outcome.Upload (stops.Ended (shipped.Done 3)) ∷ outcome.Sync (syncs.Blocks 1) ∷ small_outcome ∷ []

first_came : TasksCame one.script (uploader ∷ []) first_ends 0 first_tasks (outcome.Upload (stops.Ended (shipped.Done 3)) ∷ [])
unfolding hands_of_task
first_came = (
  record {
    own = uploaded (shipped.Done 3) ∷ [];
    came = (record { worker = uploader; own = uploaded (shipped.Done 3) ∷ []; among = (0, lit< tt, refl); is = refl; came = (0, lit< tt, refl) }, tt);
    is = upload_out small.a None;
  },
  refl,
)

second_came : TasksCame one.script (gateway ∷ []) second_ends 0 second_tasks (outcome.Sync (syncs.Blocks 1) ∷ small_outcome ∷ [])
unfolding hands_of_task
second_came = (
  record {
    own = synced (fetched.View one.view) ∷ [];
    came = (record { worker = gateway; own = synced (fetched.View one.view) ∷ answered one.used (called.Answer (small.up ∷ []) (small.a ∷ [])) ∷ []; among = (0, lit< tt, refl); is = refl; came = (0, lit< tt, refl) }, tt);
    is = sync_out 0 one.view 1 refl;
  },
  (
    record {
      own = answered one.used (called.Answer (small.up ∷ []) (small.a ∷ [])) ∷ [];
      came = (record { worker = gateway; own = synced (fetched.View one.view) ∷ answered one.used (called.Answer (small.up ∷ []) (small.a ∷ [])) ∷ []; among = (0, lit< tt, refl); is = refl; came = (1, lit< tt, refl) }, tt);
      is = small_out (pos 0) (pos 5000) 0 one.used;
    },
    refl,
  ),
)

came : PhasesCame one.script 0 one.script.phases one.ends outcomes
came = (
  outcome.Upload (stops.Ended (shipped.Done 3)) ∷ [],
  outcome.Sync (syncs.Blocks 1) ∷ small_outcome ∷ [],
  refl,
  subst (λ (ws : List Worker). TasksCame one.script ws first_ends 0 first_tasks (outcome.Upload (stops.Ended (shipped.Done 3)) ∷ [])) (sym first_workers) first_came,
  (
    outcome.Sync (syncs.Blocks 1) ∷ small_outcome ∷ [],
    [],
    refl,
    subst (λ (ws : List Worker). TasksCame one.script ws second_ends 0 second_tasks (outcome.Sync (syncs.Blocks 1) ∷ small_outcome ∷ [])) (sym second_workers) second_came,
    (refl, refl),
  ),
)

pub lines : one.report ≡ report_of one.script (first_tasks ++ second_tasks) outcomes
unfolding one.report report_of activity_text upload_words sync_words source_line series_line counts_text sample_count answer_text parted_text named_lines named_line named_count query_text text_of character alphabet fixed_digits decimal_text signed_text set_text pairs_text pair_text comma_pair_text quoted quoted_byte spaced_sample_text series_text sample_text timed_text pattern_text hex_text hex_sign
lines = refl

pub reports : IsReport one.script one.script.phases one.ends true one.report
reports = record { outcomes = outcomes; came = came; lines = lines; flag = refl }
