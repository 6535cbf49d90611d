-- The run in which a compaction does not find the index of the first block.
use Rattle.std.proofs.Common.{◌≡◌, ◌+◌, ◌^◌, ◌<◌, inl, List, [], ◌∷◌, ◌++◌, length, Some, None, refl, arith, codes, lit<, lit≤}
use Rattle.std.proofs.lemmas.List.Elements.{All-from_recursion}
use Rattle.block_keys.specs.declared.key.Key.TheVariants as key
use Rattle.world_core.specs.Moments.{moment_after, last_moment}
use Rattle.world_core.specs.Operations.{IsLawful, IsReplyTo}
use Rattle.world_core.specs.Worlds.{IsJournal}
use Rattle.world_core.specs.declared.entry.Entry.{Entry}
use Rattle.world_core.specs.declared.reply.Reply.TheVariants.{Found}
use Rattle.compactor.specs.declared.compact_end.CompactEnd.TheVariants as compacting
use Rattle.script_workers.specs.Hands.{hands_of_task, with_hands, hands_from, places_from, workers_from, seats_from}
use Rattle.script_workers.specs.declared.work.Work.TheVariants as works
use Rattle.script_core.specs.Workers.{workers_of}
use Rattle.lifecycle_core.specs.Breaches.{IsLie, honesty, mark_time, read_time, watched}
use Rattle.lifecycle_core.specs.Causes.{IsBlamedInCompaction, IsExplainedBy}
use Rattle.lifecycle_core.specs.Holdings.{none_held}
use Rattle.lifecycle_core.specs.Phases.{IsFinished, IsRunOf, by_workers}
use Rattle.lifecycle_core.specs.Tasks.{compacted}
use Rattle.lifecycle_core.specs.Ways.{PhasesRun}
use Rattle.tests_worked.specs.CompactedPair as pair
use Rattle.tests_worked.specs.Entries.{absent, clock}
use Rattle.tests_worked.specs.MissedInput as row
use Rattle.tests_worked.specs.SmallBlock as small
use Rattle.tests_worked.proofs.pair.CompactedPair.{a_uploader, b_uploader, two_uploaders, uploads_done, uploads_run}
use Rattle.tests_worked.proofs.small.Each.{each_of}
use Rattle.tests_worked.proofs.expired.LonePhases.{done_by, goes_on, lone, lone_phase}
use Rattle.tests_worked.proofs.pair.PairBucket.{shows_a_index}
use Rattle.tests_worked.proofs.pair.PairRounds.{missed_run}

second_workers : workers_of row.script 1 ≡ lone 3 ∷ []
unfolding hands_of_task with_hands hands_from places_from workers_from seats_from
second_workers = refl

abbrev second_on : List Entry
second_on = clock 10 1_800_000 ∷ row.compaction ++ []

abbrev first_on : List Entry
first_on = clock 1 0 ∷ (pair.a_upload ++ pair.b_upload) ++ second_on

second_phases : PhasesRun (by_workers row.setting) 1 none_held ((pair.phase 9 1_800_000 (works.Compact None)) ∷ []) second_on (((compacted (compacting.Missing 16) ∷ []) ∷ []) ∷ [])
second_phases =
    goes_on row.setting 1 none_held none_held (pair.phase 9 1_800_000 (works.Compact None)) [] (clock 10 1_800_000) row.compaction [] ((compacted (compacting.Missing 16) ∷ []) ∷ []) [] (lone 3 ∷ []) second_workers (record { seat = refl; sets = refl })
    (lone_phase row.setting (record { line = 10; work = works.Compact None }) 3 row.compaction (compacted (compacting.Missing 16)) (All-from_recursion (λ (e : Entry). e.seat ≡ 3) row.compaction (refl, (refl, (refl, (refl, (refl, (refl, tt))))))) refl none_held
    ((Some (compacting.Missing 16), missed_run, inl (refl, λ n no. absurd (cc (no)))), refl))
    (refl, refl)

first_phases : PhasesRun (by_workers row.setting) 0 none_held (pair.uploads ∷ ((pair.phase 9 1_800_000 (works.Compact None)) ∷ [])) first_on ((pair.upload_ends) ∷ (((compacted (compacting.Missing 16) ∷ []) ∷ []) ∷ []))
first_phases =
    goes_on row.setting 0 none_held none_held pair.uploads ((pair.phase 9 1_800_000 (works.Compact None)) ∷ []) (clock 1 0) (pair.a_upload ++ pair.b_upload) second_on (pair.upload_ends) (((compacted (compacting.Missing 16) ∷ []) ∷ []) ∷ []) (a_uploader ∷ b_uploader ∷ []) (two_uploaders row.phases) (record { seat = refl; sets = refl })
    (uploads_run row.phases)
    second_phases

phases : PhasesRun (by_workers row.setting) 0 none_held row.script.phases row.journal row.ends
phases = first_phases

kept : IsJournal 1 row.journal
kept = record {
  few = lit≤ tt;
  numbered = each_of (λ before e. e.seq ≡ length before + 1) row.journal (refl, (refl, (refl, (refl, (refl, (refl, (refl, (refl, (refl, (refl, (refl, (refl, (refl, (refl, (refl, (refl, tt))))))))))))))));
  lawful = each_of (λ before e. IsLawful e.op) row.journal (lit< tt, (tt, ((lit≤ tt, lit≤ tt), (tt, (tt, (tt, ((lit≤ tt, lit≤ tt), (tt, (tt, (lit< tt, (lit≤ tt, (tt, (tt, (tt, (tt, (tt, tt))))))))))))))));
  kinds = each_of (λ before e. IsReplyTo e.op e.reply) row.journal (tt, (tt, (tt, (tt, (tt, (tt, (tt, (tt, (tt, (tt, (tt, (tt, (tt, (tt, (tt, (tt, tt))))))))))))))));
  moments = each_of (λ before e. e.moment.ms ≡ moment_after 1 (last_moment before) e.op) row.journal (refl, (refl, (refl, (refl, (refl, (refl, (refl, (refl, (refl, (refl, (refl, (refl, (refl, (refl, (refl, (refl, tt))))))))))))))));
  small = each_of (λ before e. e.moment.ms < 2 ^ 48) row.journal (lit< tt, (lit< tt, (lit< tt, (lit< tt, (lit< tt, (lit< tt, (lit< tt, (lit< tt, (lit< tt, (lit< tt, (lit< tt, (lit< tt, (lit< tt, (lit< tt, (lit< tt, (lit< tt, tt))))))))))))))));
}

pub run : IsRunOf row.setting row.journal row.ends
run = record { kept = kept; phases = phases }

pub finished : IsFinished row.setting row.ends
finished = (uploads_done row.phases, (done_by (workers_of row.script 1) (lone 3) (compacted (compacting.Missing 16)) second_workers refl, refl))

-- ---- why

pub is_lie : IsLie row.front row.missed 65 70
is_lie = (Found small.index, codes "A", codes "F" ++ small.index, tt, shows_a_index, refl, refl, ([], codes "A", codes "F" ++ small.index, refl, refl, refl, refl, λ same. omega (arith, same)))

pub explained : IsExplainedBy row.setting (watched row.setting row.journal) IsBlamedInCompaction row.journal 16
explained = record {
  missed = row.missed;
  key = key.Index small.a;
  at = refl;
  reads = refl;
  absent = refl;
  rule = honesty;
  before = row.front;
  entry = row.missed;
  after = [];
  x = 65;
  y = 70;
  parts = refl;
  early = lit≤ tt;
  refused = is_lie;
  blamed = tt;
}

pub no_mark : ¬ IsBlamedInCompaction row.missed small.a mark_time pair.mark_put
no_mark blamed = blamed

pub no_other : ¬ IsBlamedInCompaction row.missed small.a read_time (absent 12 4 1_800_002 (key.Mark small.a))
no_other same = omega (arith, same)
