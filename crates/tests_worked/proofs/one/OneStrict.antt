-- The rules on syncs and on views refuse entries of that run.
use Rattle.std.proofs.Common.{◌≡◌, ℕ, List, [], ◌∷◌, Contains, Some, refl, sym, subst, arith, lit<}
use Rattle.moment_core.specs.declared.span.Span.{Span}
use Rattle.moment_core.specs.StandardRules.{minutes, hours}
use Rattle.block_keys.specs.declared.key.Key.TheVariants as key
use Rattle.block_meta.specs.MetaFields.{MarkFields}
use Rattle.block_meta.specs.MetaText.{IsMarkText}
use Rattle.world_core.specs.declared.entry.Entry.{Entry}
use Rattle.script_workers.specs.Hands.{hands_of_task, with_hands, hands_from, places_from, workers_from, seats_from}
use Rattle.script_core.specs.Workers.{workers_of}
use Rattle.script_workers.specs.declared.worker.Worker.{Worker}
use Rattle.meta_fetcher.specs.Syncs.{SyncRun}
use Rattle.meta_fetcher.specs.declared.sync.SyncEnd.TheVariants as fetched
use Rattle.lifecycle_core.specs.Breaches.{IsSeatOf, IsSyncIn, IsViewAt, Refuses, mark_time, sync_time, view_time}
use Rattle.lifecycle_core.specs.Setting.{setting_of}
use Rattle.lifecycle_core.specs.Tasks.{sync_rules}
use Rattle.tests_worked.specs.SmallRuns as runs
use Rattle.tests_worked.specs.SmallBlock as small
use Rattle.tests_worked.specs.Entries.{absent, listed, stored}
use Rattle.tests_worked.specs.OneBlock as one
use Rattle.tests_worked.specs.OneStrict.{script_with, hasty, idle, last_read, first_call}
use Rattle.tests_worked.proofs.small.SmallTasks.{sync_run_by}
use Rattle.tests_worked.proofs.one.OneBlock.{gateway}

sync_run : (ignore : Span) → SyncRun (sync_rules (setting_of (script_with ignore)) 0) one.sync (Some (fetched.View one.view))
sync_run ignore = sync_run_by (minutes 30) ignore 2 7 1_800_001 8 1_800_002 9 1_800_003 (Some (runs.seen 1_800_001)) refl

workers : (ignore : Span) → workers_of (script_with ignore) 1 ≡ gateway ∷ []
unfolding hands_of_task with_hands hands_from places_from workers_from seats_from
workers ignore = refl

seat_is : (ignore : Span) → IsSeatOf (setting_of (script_with ignore)) 0 2
seat_is ignore = (1, gateway, subst (λ (ws : List Worker). Contains ws gateway) (sym (workers ignore)) (0, lit< tt, refl), refl, refl)

sync_seen : (ignore : Span) → IsSyncIn (setting_of (script_with ignore)) one.journal 0 one.sync (Some (fetched.View one.view))
sync_seen ignore = record {
  seat = 2;
  sits = seat_is ignore;
  sync = record { before = []; after = one.query; parts = refl; run = sync_run ignore; whole = λ none. absurd (cc (none)) };
  alone = λ others own other earlier. omega (arith, earlier);
}

view_seen : (ignore : Span) → IsViewAt (setting_of (script_with ignore)) one.journal 0 10 one.view
view_seen ignore = record { entries = one.sync; gave = sync_seen ignore; before = lit< tt; last = λ others other seen less. omega (arith, less) }

pub slow_sync : (before : List Entry) → Refuses hasty one.journal sync_time before last_read 1_801_003 1_801_001
slow_sync before = (
  one.sync,
  Some (fetched.View one.view),
  listed 7 2 1_800_001 (small.a_text ∷ []),
  absent 8 2 1_800_002 (key.Mark small.a) ∷ last_read ∷ [],
  listed 7 2 1_800_001 (small.a_text ∷ []) ∷ absent 8 2 1_800_002 (key.Mark small.a) ∷ [],
  (0, sync_seen (record { ms = 1_000 })),
  refl,
  refl,
  (refl, refl, lit< tt),
)

pub old_view : (before : List Entry) → Refuses idle one.journal view_time before first_call 174_600_004 174_600_001
old_view before = (one.view, (0, (seat_is (hours 48), (key.Index small.a, refl, tt)), view_seen (hours 48)), (refl, refl, lit< tt))

pub late_mark : (entries before : List Entry) (bytes : List ℕ) (mark : MarkFields) → IsMarkText bytes mark → mark.deletion_time ≡ 0
    → Refuses one.setting entries mark_time before (stored 1 1 86_400_001 (key.Mark small.a) bytes) 86_400_001 86_400_000
late_mark entries before bytes mark is zero = (small.a, 0, (bytes, mark, refl, refl, is, zero), (refl, refl, lit< tt))
