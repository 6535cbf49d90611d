-- The report of the script of a young block, which is the same for both runs.
use Rattle.std.proofs.Common.{◌≡◌, pos, None, true, List, [], ◌∷◌, ◌++◌, length, refl, sym, subst, lit<}
use Rattle.base.specs.Decimal.{decimal_text, signed_text}
use Rattle.ulid_core.specs.FixedDigits.{fixed_digits}
use Rattle.ulid_core.specs.UlidText.{text_of, character, alphabet}
use Rattle.label_sets.specs.Counts.{sample_count}
use Rattle.label_sets.specs.Notation.{quoted_byte, quoted, pair_text, comma_pair_text, pairs_text, set_text}
use Rattle.label_sets.specs.SampleText.{hex_sign, hex_text, pattern_text, timed_text, sample_text, spaced_sample_text, series_text}
use Rattle.shipper.specs.declared.upload.UploadEnd.TheVariants as shipped
use Rattle.meta_fetcher.specs.declared.sync.SyncEnd.TheVariants as fetched
use Rattle.script_workers.specs.Hands.{hands_of_task}
use Rattle.script_workers.specs.declared.worker.Worker.{Worker}
use Rattle.lifecycle_core.specs.Holdings.{Use}
use Rattle.lifecycle_core.specs.Tasks.{End, synced, uploaded}
use Rattle.call_verdicts.specs.script_running.specs.Outcomes.{Outcome, TasksCame}
use Rattle.call_verdicts.specs.report_lines.specs.Reports.{upload_words, sync_words, source_line, series_line, counts_text, answer_text, parted_text, named_lines, named_line, named_count, query_text, activity_text}
use Rattle.call_verdicts.specs.Verdicts.{IsReport}
use Rattle.call_verdicts.specs.report_lines.specs.Telling.{report_of}
use Rattle.call_verdicts.specs.script_running.specs.declared.came.Came.TheVariants as outcome
use Rattle.call_verdicts.specs.script_running.specs.declared.came.Stop.TheVariants as stops
use Rattle.call_verdicts.specs.script_running.specs.declared.outcome.SyncOutcome.TheVariants as syncs
use Rattle.tests_worked.specs.SmallBlock as small
use Rattle.tests_worked.specs.YoungBlock as young
use Rattle.tests_worked.proofs.small.SmallOutcomes.{no_out, no_outcome, small_out, small_outcome, sync_out, upload_out}
use Rattle.tests_worked.proofs.young.YoungBlock.{first_gateway, uploader, second_gateway, first_workers, second_workers, first_tasks, second_tasks, first_ends, second_ends}

abbrev first_outcomes : List Outcome
first_outcomes = outcome.Sync (syncs.Blocks 0) ∷ outcome.Upload (stops.Ended (shipped.Done 3)) ∷ no_outcome ∷ []

abbrev second_outcomes : List Outcome
second_outcomes = outcome.Sync (syncs.Blocks 1) ∷ small_outcome ∷ []

abbrev gateway_ends : Use → List End
gateway_ends used = synced (fetched.View used.view) ∷ young.no_answer used ∷ []

first_came : (used : Use) → length used.view.kept ≡ 0 → TasksCame young.script (first_gateway ∷ uploader ∷ []) (first_ends used) 0 first_tasks first_outcomes
unfolding hands_of_task
first_came used none = (
  record {
    own = synced (fetched.View used.view) ∷ [];
    came = (record { worker = first_gateway; own = gateway_ends used; among = (0, lit< tt, refl); is = refl; came = (0, lit< tt, refl) }, tt);
    is = sync_out 0 used.view 0 none;
  },
  (
    record {
      own = uploaded (shipped.Done 3) ∷ [];
      came = (record { worker = uploader; own = uploaded (shipped.Done 3) ∷ []; among = (1, lit< tt, refl); is = refl; came = (0, lit< tt, refl) }, tt);
      is = upload_out small.a None;
    },
    (
      record {
        own = young.no_answer used ∷ [];
        came = (record { worker = first_gateway; own = gateway_ends used; among = (0, lit< tt, refl); is = refl; came = (1, lit< tt, refl) }, tt);
        is = no_out (pos 0) (pos 5000) 0 used;
      },
      refl,
    ),
  ),
)

second_came : (used : Use) → length used.view.kept ≡ 1 → TasksCame young.script (second_gateway ∷ []) (second_ends used) 0 second_tasks second_outcomes
unfolding hands_of_task
second_came used one = (
  record {
    own = synced (fetched.View used.view) ∷ [];
    came = (record { worker = second_gateway; own = synced (fetched.View used.view) ∷ young.block_answer used ∷ []; among = (0, lit< tt, refl); is = refl; came = (0, lit< tt, refl) }, tt);
    is = sync_out 0 used.view 1 one;
  },
  (
    record {
      own = young.block_answer used ∷ [];
      came = (record { worker = second_gateway; own = synced (fetched.View used.view) ∷ young.block_answer used ∷ []; among = (0, lit< tt, refl); is = refl; came = (1, lit< tt, refl) }, tt);
      is = small_out (pos 0) (pos 5000) 1 used;
    },
    refl,
  ),
)

lines : young.report ≡ report_of young.script (first_tasks ++ second_tasks) (first_outcomes ++ second_outcomes)
unfolding young.report report_of activity_text upload_words sync_words source_line series_line counts_text sample_count answer_text parted_text named_lines named_line named_count query_text text_of character alphabet fixed_digits decimal_text signed_text set_text pairs_text pair_text comma_pair_text quoted quoted_byte spaced_sample_text series_text sample_text timed_text pattern_text hex_text hex_sign
lines = refl

pub reports : (early late : Use) → length early.view.kept ≡ 0 → length late.view.kept ≡ 1 → IsReport young.script young.script.phases (young.ends_by early late) true young.report
reports early late none one = record {
  outcomes = first_outcomes ++ second_outcomes;
  came = (
    first_outcomes,
    second_outcomes,
    refl,
    subst (λ (ws : List Worker). TasksCame young.script ws (first_ends early) 0 first_tasks first_outcomes) (sym first_workers) (first_came early none),
    (second_outcomes, [], refl, subst (λ (ws : List Worker). TasksCame young.script ws (second_ends late) 0 second_tasks second_outcomes) (sym second_workers) (second_came late one), (refl, refl)),
  );
  lines = lines;
  flag = refl;
}
