-- The run of the script of one block whose sync is shown no meta.
use Rattle.std.proofs.Common.{◌≡◌, inl, inr, ◌+◌, ◌^◌, ◌<◌, ℕ, suc, List, [], ◌∷◌, ◌++◌, length, map, codes, Contains, Some, None, refl, sym, ◌∙◌, ap, subst, append_assoc, arith, lit<, lit≤}
use Rattle.std.specs.Str.{is_utf8, chars}
use Rattle.std.proofs.lemmas.List.Elements.{All-from_recursion}
use Rattle.block_keys.specs.declared.key.Key.TheVariants as key
use Rattle.block_meta.specs.Members.{json_of, object_of}
use Rattle.block_meta.specs.MetaReading.{meta_of_text}
use Rattle.block_meta.specs.OfBlocks.{block_meta}
use Rattle.serde_json.proofs.OnLiterals.{serde_json_on_literals}
use Rattle.world_core.specs.Journals.{Each}
use Rattle.world_core.specs.Moments.{moment_after, last_moment}
use Rattle.world_core.specs.Operations.{IsLawful, IsReplyTo}
use Rattle.world_core.specs.Plans.{Runs, noting}
use Rattle.world_core.specs.Worlds.{IsJournal}
use Rattle.world_core.specs.declared.entry.Entry.{Entry}
use Rattle.world_core.specs.declared.reply.Reply.TheVariants.{Found}
use Rattle.meta_fetcher.specs.Syncs.{Course, SyncRun, damaged, listing, with_entry}
use Rattle.meta_fetcher.specs.declared.sync.SyncEnd.TheVariants as fetched
use Rattle.script_core.specs.Workers.{workers_of}
use Rattle.script_workers.specs.declared.worker.Worker.{Worker}
use Rattle.lifecycle_core.specs.Breaches.{IsBreach, IsKept, IsLie, honesty, next_byte}
use Rattle.lifecycle_core.specs.Conducts.{AreDone, PhaseRun}
use Rattle.lifecycle_core.specs.Holdings.{none_held, nothing_held}
use Rattle.lifecycle_core.specs.Phases.{IsFinished, IsRunOf, by_script, by_workers}
use Rattle.lifecycle_core.specs.Tasks.{End, sync_rules, synced, without_view}
use Rattle.lifecycle_core.specs.Ways.{PhasesRun}
use Rattle.tests_worked.specs.Entries.{clock, found}
use Rattle.tests_worked.specs.SmallBlock as small
use Rattle.tests_worked.specs.OneBlock as one
use Rattle.tests_worked.specs.SpoiledMeta as spoilt
use Rattle.tests_worked.proofs.small.Bucket.{shows_meta}
use Rattle.tests_worked.proofs.small.SmallMeta.{a_reads}
use Rattle.tests_worked.proofs.small.Each.{each_of, by_workers_alone}
use Rattle.tests_worked.proofs.one.OneBlock.{first_done, first_ends, first_phase, first_tasks, first_workers, gateway, second_own, second_tasks, second_workers}
use Rattle.tests_worked.proofs.one.OneUnbroken.{front, front_is_kept}
use Rattle.tests_worked.proofs.small.SmallTasks.{rules}

-- ---- the sync

no_meta : block_meta small.a (codes "x") ≡ None
unfolding meta_of_text object_of json_of is_utf8 chars serde_json_on_literals
no_meta = refl

abbrev course : Course
course = record { first = 7; begin = record { ms = 1_800_001 }; end = record { ms = 1_800_003 } }

-- it may have so many pages and one more
by_pages : (more : ℕ) → Runs (noting with_entry None (listing rules (suc more) [])) spoilt.sync (Some (damaged 9, Some course))
by_pages more = (refl, rw a_reads (refl, (refl, rw no_meta (refl, inr refl))))

sync_run : SyncRun (sync_rules one.setting 0) spoilt.sync (Some (fetched.Damaged 9))
sync_run = ((damaged 9, Some course), by_pages 999_999, refl)

-- ---- the phases

abbrev second_ends : List (List End)
second_ends = (synced (fetched.Damaged 9) ∷ without_view ∷ []) ∷ []

second_phase : PhaseRun (by_script one.setting) second_tasks (gateway ∷ []) none_held spoilt.sync second_ends none_held
second_phase = record {
  seats = by_workers_alone (2 ∷ []) spoilt.sync (All-from_recursion (λ (e : Entry). Contains (2 ∷ []) e.seat) spoilt.sync ((0, lit< tt, refl), ((0, lit< tt, refl), ((0, lit< tt, refl), tt))));
  runs = (
    record {
      own = second_own;
      are = ((refl, refl), ((refl, refl), refl));
      last = nothing_held;
      runs = inl (
        spoilt.sync,
        [],
        synced (fetched.Damaged 9),
        without_view ∷ [],
        nothing_held,
        refl,
        (Some (fetched.Damaged 9), sync_run, refl, refl),
        refl,
        inl ([], [], without_view, [], nothing_held, refl, ((refl, inr refl), refl), refl, (refl, refl, refl)),
      );
      leaves = λ other is. refl;
    },
    tt,
  );
  kept = λ other none. refl;
}

phases : PhasesRun (by_workers one.setting) 0 none_held one.script.phases spoilt.journal (first_ends ∷ second_ends ∷ [])
phases = inr (
  clock 1 0,
  one.upload,
  clock 6 1_800_000 ∷ spoilt.sync,
  first_ends,
  second_ends ∷ [],
  none_held,
  refl,
  record { seat = refl; sets = refl },
  subst (λ (ws : List Worker). PhaseRun (by_script one.setting) first_tasks ws none_held one.upload first_ends none_held) (sym first_workers) first_phase,
  refl,
  inr (
    clock 6 1_800_000,
    spoilt.sync,
    [],
    second_ends,
    [],
    none_held,
    refl,
    record { seat = refl; sets = refl },
    subst (λ (ws : List Worker). PhaseRun (by_script one.setting) second_tasks ws none_held spoilt.sync second_ends none_held) (sym second_workers) second_phase,
    refl,
    (refl, refl),
  ),
)

kept : IsJournal 1 spoilt.journal
kept = record {
  few = lit≤ tt;
  numbered = each_of (λ before e. e.seq ≡ length before + 1) spoilt.journal (refl, (refl, (refl, (refl, (refl, (refl, (refl, (refl, (refl, tt)))))))));
  lawful = each_of (λ before e. IsLawful e.op) spoilt.journal (lit< tt, (tt, ((lit≤ tt, lit≤ tt), (tt, (tt, (lit< tt, (lit≤ tt, (tt, (tt, tt)))))))));
  kinds = each_of (λ before e. IsReplyTo e.op e.reply) spoilt.journal (tt, (tt, (tt, (tt, (tt, (tt, (tt, (tt, (tt, tt)))))))));
  moments = each_of (λ before e. e.moment.ms ≡ moment_after 1 (last_moment before) e.op) spoilt.journal (refl, (refl, (refl, (refl, (refl, (refl, (refl, (refl, (refl, tt)))))))));
  small = each_of (λ before e. e.moment.ms < 2 ^ 48) spoilt.journal (lit< tt, (lit< tt, (lit< tt, (lit< tt, (lit< tt, (lit< tt, (lit< tt, (lit< tt, (lit< tt, tt)))))))));
}

pub run : IsRunOf one.setting spoilt.journal spoilt.ends
run = record { kept = kept; phases = phases }

second_done : AreDone (workers_of one.script 1) second_ends
second_done = ap (map (λ (w : Worker). length w.tasks)) second_workers

pub finished : IsFinished one.setting spoilt.ends
finished = (first_done, (second_done, refl))

-- ---- the breach

abbrev before : List Entry
before = clock 1 0 ∷ one.upload ++ clock 6 1_800_000 ∷ spoilt.looks

-- the read of the meta as it stands
abbrev shown : Entry
shown = found 9 2 1_800_003 (key.Meta small.a) small.meta

before_is_kept : Each (IsKept one.setting spoilt.journal) before
before_is_kept own after e parts =
    let whole : front ≡ own ++ e ∷ (after ++ shown ∷ []) = ap (λ (es : List Entry). es ++ shown ∷ []) parts ∙ append_assoc own (e ∷ after) (shown ∷ []) in
    front_is_kept spoilt.journal own (after ++ shown ∷ []) e whole

meta_first : next_byte small.meta ≡ 123
unfolding small.meta
meta_first = refl

lie : IsLie before spoilt.spoiled 120 123
lie = (Found small.meta, codes "Fx", codes "F" ++ small.meta, tt, shows_meta, refl, refl, (codes "F", codes "x", small.meta, refl, refl, refl, meta_first, λ same. omega (arith, same)))

pub is_breach : IsBreach one.setting spoilt.journal honesty 9 120 123
is_breach = record {
  before = before;
  entry = spoilt.spoiled;
  after = [];
  parts = refl;
  is = refl;
  refused = lie;
  first = before_is_kept;
  foremost = λ other x y less. absurd (omega (arith, less));
}
