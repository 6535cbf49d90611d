-- The run of the script that uploads its block too late.
use Rattle.std.proofs.Common.{◌≡◌, inl, inr, ◌+◌, ◌^◌, ◌<◌, List, [], ◌∷◌, length, Contains, None, refl, sym, subst, lit<, lit≤}
use Rattle.std.proofs.lemmas.List.Elements.{All-from_recursion}
use Rattle.world_core.specs.Moments.{moment_after, last_moment}
use Rattle.world_core.specs.Operations.{IsLawful, IsReplyTo}
use Rattle.world_core.specs.Worlds.{IsJournal}
use Rattle.world_core.specs.declared.entry.Entry.{Entry}
use Rattle.shipper.specs.declared.upload.UploadEnd.TheVariants as shipped
use Rattle.script_workers.specs.Hands.{hands_of_task, with_hands, hands_from, places_from, workers_from, seats_from}
use Rattle.script_core.specs.Workers.{workers_of}
use Rattle.script_workers.specs.declared.task.Task.{Task}
use Rattle.script_workers.specs.declared.work.Work.TheVariants as works
use Rattle.script_workers.specs.declared.worker.Worker.{Worker}
use Rattle.lifecycle_core.specs.Conducts.{PhaseRun}
use Rattle.lifecycle_core.specs.Holdings.{none_held, nothing_held}
use Rattle.lifecycle_core.specs.Phases.{IsRunOf, by_script, by_workers}
use Rattle.lifecycle_core.specs.Tasks.{End, uploaded}
use Rattle.lifecycle_core.specs.Ways.{PhasesRun}
use Rattle.tests_worked.specs.Entries.{clock}
use Rattle.tests_worked.specs.LateUpload as late
use Rattle.tests_worked.specs.SmallBlock as small
use Rattle.tests_worked.proofs.small.Each.{each_of, by_workers_alone}
use Rattle.tests_worked.proofs.one.OneBlock.{uploader}
use Rattle.tests_worked.proofs.small.SmallTasks.{upload_task}

workers : workers_of late.script 0 ≡ uploader ∷ []
unfolding hands_of_task with_hands hands_from places_from workers_from seats_from
workers = refl

abbrev tasks : List Task
tasks = record { line = 4; work = works.Upload small.a None } ∷ []

abbrev first_ends : List (List End)
first_ends = (uploaded (shipped.Done 3) ∷ []) ∷ []

phase : PhaseRun (by_script late.setting) tasks (uploader ∷ []) none_held late.upload first_ends none_held
phase = record {
  seats = by_workers_alone (1 ∷ []) late.upload (All-from_recursion (λ (e : Entry). Contains (1 ∷ []) e.seat) late.upload ((0, lit< tt, refl), ((0, lit< tt, refl), ((0, lit< tt, refl), ((0, lit< tt, refl), tt)))));
  runs = (
    record {
      own = record { place = 0; task = record { line = 4; work = works.Upload small.a None } } ∷ [];
      are = ((refl, refl), refl);
      last = nothing_held;
      runs = inl (late.upload, [], uploaded (shipped.Done 3), [], nothing_held, refl, (upload_task late.setting refl 2 1 1_800_001, refl), refl, (refl, refl, refl));
      leaves = λ gateway is. absurd (cc);
    },
    tt,
  );
  kept = λ gateway none. refl;
}

phases : PhasesRun (by_workers late.setting) 0 none_held late.script.phases late.journal late.ends
phases = inr (
  clock 1 1_800_000,
  late.upload,
  [],
  first_ends,
  [],
  none_held,
  refl,
  record { seat = refl; sets = refl },
  subst (λ (ws : List Worker). PhaseRun (by_script late.setting) tasks ws none_held late.upload first_ends none_held) (sym workers) phase,
  refl,
  (refl, refl),
)

kept : IsJournal 1 late.journal
kept = record {
  few = lit≤ tt;
  numbered = each_of (λ before e. e.seq ≡ length before + 1) late.journal (refl, (refl, (refl, (refl, (refl, tt)))));
  lawful = each_of (λ before e. IsLawful e.op) late.journal (lit< tt, (tt, ((lit≤ tt, lit≤ tt), (tt, (tt, tt)))));
  kinds = each_of (λ before e. IsReplyTo e.op e.reply) late.journal (tt, (tt, (tt, (tt, (tt, tt)))));
  moments = each_of (λ before e. e.moment.ms ≡ moment_after 1 (last_moment before) e.op) late.journal (refl, (refl, (refl, (refl, (refl, tt)))));
  small = each_of (λ before e. e.moment.ms < 2 ^ 48) late.journal (lit< tt, (lit< tt, (lit< tt, (lit< tt, (lit< tt, tt)))));
}

pub run : IsRunOf late.setting late.journal late.ends
run = record { kept = kept; phases = phases }
