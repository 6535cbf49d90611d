-- The run in which two gateways, one of which has a partition, answer one query.
use Rattle.std.proofs.Common.{◌≡◌, ◌≢◌, ◌⊎◌, inl, inr, ℕ, ℤ, zero, suc, ◌+◌, ◌^◌, ◌<◌, pos, true, List, [], ◌∷◌, ◌++◌, length, Contains, Some, None, refl, sym, ◌∙◌, ap, subst, arith, lit<, lit≤}
use Rattle.std.specs.Prelude.{slice_get}
use Rattle.std.specs.List.{find, flat_map, list_any}
use Rattle.std.specs.List.Sorted.{IsStrictlySortedBy}
use Rattle.std.proofs.lemmas.List.Elements.{All-cons, All-from_recursion, All-head, All-nil, All-tail}
use Rattle.base.proofs.Lists.{cons_parts, nil_not_cons}
use Rattle.base.specs.Decimal.{decimal_text, signed_text}
use Rattle.ulid_core.specs.FixedDigits.{fixed_digits}
use Rattle.ulid_core.specs.UlidText.{text_of, character, alphabet}
use Rattle.label_sets.specs.Counts.{sample_count}
use Rattle.label_sets.specs.Notation.{quoted_byte, quoted, pair_text, comma_pair_text, pairs_text, set_text}
use Rattle.label_sets.specs.SampleText.{hex_sign, hex_text, pattern_text, timed_text, sample_text, spaced_sample_text, series_text}
use Rattle.label_sets.specs.Triples.{triples_under, triples_of, has_same_key}
use Rattle.label_sets.specs.declared.series.Series.{Series}
use Rattle.block_meta.specs.MetaFields.{fields_of}
use Rattle.block_meta.specs.OfBlocks.{block_meta}
use Rattle.moment_core.specs.StandardRules.{minutes, hours}
use Rattle.vertical_merge.specs.Merged.{IsMerge}
use Rattle.sync_filters.specs.declared.found.Found.{Found}
use Rattle.meta_fetcher.specs.Sightings.{sighting_of}
use Rattle.meta_fetcher.specs.Syncs.{SyncRun, listing, sighted, with_entry}
use Rattle.meta_fetcher.specs.declared.rules.SyncRules.{SyncRules}
use Rattle.meta_fetcher.proofs.Ascending.{kept_ascend}
use Rattle.meta_fetcher.specs.declared.sync.SyncEnd.TheVariants as fetched
use Rattle.shipper.specs.declared.upload.UploadEnd.TheVariants as shipped
use Rattle.store_calls.specs.SeriesCalls.{asking}
use Rattle.querier.specs.declared.asking.Ask.{Ask}
use Rattle.world_core.specs.Moments.{moment_after, last_moment}
use Rattle.world_core.specs.Operations.{IsLawful, IsReplyTo}
use Rattle.world_core.specs.Plans.{Runs, noting}
use Rattle.world_core.specs.Standing.{stands, Tells, IsHonest}
use Rattle.world_core.specs.Worlds.{IsJournal}
use Rattle.world_core.specs.declared.entry.Entry.{Entry}
use Rattle.script_core.specs.Workers.{workers_of}
use Rattle.script_workers.specs.Hands.{hands_of_task, with_hands, hands_from, places_from, workers_from, seats_from}
use Rattle.script_workers.specs.declared.phase.Phase.{Phase}
use Rattle.script_workers.specs.declared.task.Task.{Task}
use Rattle.script_workers.specs.declared.work.Work.TheVariants as works
use Rattle.script_workers.specs.declared.worker.Worker.{Worker}
use Rattle.lifecycle_core.specs.Conducts.{Assigned, CameTo, PhaseRun, WorkerRun}
use Rattle.lifecycle_core.specs.Guarantees.{IsGiven}
use Rattle.lifecycle_core.specs.Holdings.{Holdings, none_held, nothing_held}
use Rattle.lifecycle_core.specs.Phases.{IsRunOf, by_script, by_workers}
use Rattle.lifecycle_core.specs.Tasks.{End, QueryTask, asks_in, synced, uploaded}
use Rattle.lifecycle_core.specs.Ways.{PhasesRun}
use Rattle.call_verdicts.specs.script_running.specs.Outcomes.{IsOutcome, Outcome, PhasesCame, TasksCame}
use Rattle.call_verdicts.specs.script_running.specs.declared.came.Came.TheVariants as came_to
use Rattle.call_verdicts.specs.script_running.specs.declared.outcome.QueryOutcome.TheVariants as queries
use Rattle.call_verdicts.specs.script_running.specs.declared.outcome.SyncOutcome.TheVariants as syncs
use Rattle.call_verdicts.specs.script_running.specs.declared.came.Stop.TheVariants as stops
use Rattle.call_verdicts.specs.script_running.specs.declared.outcome.QueryPart.TheVariants as gave
use Rattle.call_verdicts.specs.report_lines.specs.Reports.{upload_words, sync_words, source_line, series_line, counts_text, answer_text, parted_text, named_lines, named_line, named_count, query_text, activity_text}
use Rattle.call_verdicts.specs.Verdicts.{IsReport}
use Rattle.call_verdicts.specs.report_lines.specs.Telling.{report_of}
use Rattle.tests_worked.specs.Entries.{clock}
use Rattle.tests_worked.specs.OneBlock as one
use Rattle.tests_worked.specs.SmallBlock as small
use Rattle.tests_worked.specs.SmallRuns as runs
use Rattle.tests_worked.specs.TwoGateways as two
use Rattle.tests_worked.proofs.small.Bucket.{full, page, query_told, shows_index, shows_meta, shows_no_mark, shows_segment}
use Rattle.tests_worked.proofs.small.SmallMeta.{a_reads, meta_reads}
use Rattle.tests_worked.proofs.small.Each.{each_after, each_of, by_workers_alone}
use Rattle.tests_worked.proofs.small.SmallOutcomes.{small_answer, sync_out, upload_out}
use Rattle.tests_worked.proofs.small.SmallCalls.{answer, call_run, called_by, left, query_task as query_by, synced_by, up_asked}
use Rattle.tests_worked.proofs.small.SmallTasks.{sync_run, upload_task}

-- ---- the tasks of the gateway that has a partition

-- by what it syncs
abbrev rules : SyncRules
rules = record { consistency = minutes 30; mark_delay = hours 24; page_limit = 1_000; partition = two.early }

abbrev seen : Found
seen = runs.seen 1_800_004

block_reads : block_meta small.a small.meta ≡ Some (fields_of small.said)
block_reads = rw meta_reads refl

small_sync : (more : ℕ) → Runs (noting with_entry None (listing rules (suc more) [])) (runs.sync 10 3 1_800_004)
    (Some (sighted (sighting_of seen ∷ []), Some (record { first = 10; begin = record { ms = 1_800_004 }; end = record { ms = 1_800_006 } })))
small_sync more = (refl, rw a_reads (refl, (refl, rw block_reads (refl, inr refl))))

sync_by_h : SyncRun rules (runs.sync 10 3 1_800_004) (Some (fetched.View two.used_by_h.view))
sync_by_h = (
  (sighted (sighting_of seen ∷ []), Some (record { first = 10; begin = record { ms = 1_800_004 }; end = record { ms = 1_800_006 } })),
  small_sync 999_999,
  (
    two.used_by_h.view,
    refl,
    record {
      first = refl;
      begin = refl;
      end = refl;
      found = seen ∷ [];
      sighted = refl;
      kept = refl;
      covered = refl;
      kept_ascend = kept_ascend rules (seen ∷ []) (λ k more. omega (arith, more));
      covered_ascend = λ k more. omega (arith, more);
    },
  ),
)

-- its query, for the times that lie in its partition
query_by_h : QueryTask (Some two.used_by_h) (Some (asking one.selector [] (pos 0) (pos 1500))) (synced_by two.used_by_h) (runs.query 19 3 1_800_013) (Some (two.answer_by two.used_by_h)) (called_by two.used_by_h)
query_by_h = (Some (answer left), call_run one.selector (pos 1500) refl refl up_asked 10 1_800_004 1_800_006 1_800_005 1_800_006 19 3 1_800_013, refl, refl)

-- ---- the workers

abbrev uploader : Worker
uploader = record { seat = 1; gateway = None; tasks = 0 ∷ [] }

abbrev g : Worker
g = record { seat = 2; gateway = Some 0; tasks = 0 ∷ 2 ∷ [] }

abbrev h : Worker
h = record { seat = 3; gateway = Some 1; tasks = 1 ∷ 2 ∷ [] }

first_workers : workers_of two.script 0 ≡ uploader ∷ []
unfolding hands_of_task with_hands hands_from places_from workers_from seats_from
first_workers = refl

second_workers : workers_of two.script 1 ≡ g ∷ h ∷ []
unfolding hands_of_task with_hands hands_from places_from workers_from seats_from
second_workers = refl

abbrev first_ends : List (List End)
first_ends = (uploaded (shipped.Done 3) ∷ []) ∷ []

abbrev second_ends : List (List End)
second_ends = two.ends_by two.used_by_g ∷ two.ends_by two.used_by_h ∷ []

-- what the gateways hold after their queries
abbrev views : Holdings
views zero = called_by two.used_by_g
views (suc zero) = called_by two.used_by_h
views (suc (suc other)) = nothing_held

kept_else : (other : ℕ) → Some 0 ≢ Some other → Some 1 ≢ Some other → views other ≡ nothing_held
kept_else zero one two = absurd (one refl)
kept_else (suc zero) one two = absurd (two refl)
kept_else (suc (suc other)) one two = refl

first_phase : PhaseRun (by_script two.setting) two.first_tasks (uploader ∷ []) none_held two.upload first_ends none_held
first_phase = record {
  seats = by_workers_alone (1 ∷ []) two.upload (All-from_recursion (λ (e : Entry). Contains (1 ∷ []) e.seat) two.upload ((0, lit< tt, refl), ((0, lit< tt, refl), ((0, lit< tt, refl), ((0, lit< tt, refl), tt)))));
  runs = (
    record {
      own = record { place = 0; task = record { line = 6; work = works.Upload small.a None } } ∷ [];
      are = ((refl, refl), refl);
      last = nothing_held;
      runs = inl (two.upload, [], uploaded (shipped.Done 3), [], nothing_held, refl, (upload_task two.setting refl 2 1 1, refl), refl, (refl, refl, refl));
      leaves = λ gateway is. absurd (cc);
    },
    tt,
  );
  kept = λ gateway none. refl;
}

abbrev at : ℕ → Task → Assigned
at place task = record { place = place; task = task }

abbrev query_task : Task
query_task = record { line = 10; work = works.Query (pos 0) (pos 5000) 0 }

run_of_g : WorkerRun (by_script two.setting) two.second_tasks none_held two.made views g (two.ends_by two.used_by_g)
run_of_g = record {
  own = at 0 (record { line = 8; work = works.Sync 0 }) ∷ at 2 query_task ∷ [];
  are = ((refl, refl), ((refl, refl), refl));
  last = called_by two.used_by_g;
  runs = inl (
    runs.sync 7 2 1_800_001,
    runs.query 13 2 1_800_007,
    synced (fetched.View two.used_by_g.view),
    two.answer_by two.used_by_g ∷ [],
    synced_by two.used_by_g,
    refl,
    (Some (fetched.View two.used_by_g.view), sync_run 7 2 1_800_001 (Some (runs.seen 1_800_001)) refl, refl, refl),
    refl,
    inl (
      runs.query 13 2 1_800_007,
      [],
      two.answer_by two.used_by_g,
      [],
      called_by two.used_by_g,
      refl,
      query_by one.selector up_asked 7 1_800_001 1_800_003 1_800_002 1_800_003 9 13 2 1_800_007,
      refl,
      (refl, refl, refl),
    ),
  );
  leaves = λ other is. let same : 0 ≡ other = cc in subst (λ (x : ℕ). views x ≡ called_by two.used_by_g) same refl;
}

run_of_h : WorkerRun (by_script two.setting) two.second_tasks none_held two.made views h (two.ends_by two.used_by_h)
run_of_h = record {
  own = at 1 (record { line = 9; work = works.Sync 1 }) ∷ at 2 query_task ∷ [];
  are = ((refl, refl), ((refl, refl), refl));
  last = called_by two.used_by_h;
  runs = inl (
    runs.sync 10 3 1_800_004,
    runs.query 19 3 1_800_013,
    synced (fetched.View two.used_by_h.view),
    two.answer_by two.used_by_h ∷ [],
    synced_by two.used_by_h,
    refl,
    (Some (fetched.View two.used_by_h.view), sync_by_h, refl, refl),
    refl,
    inl (
      runs.query 19 3 1_800_013,
      [],
      two.answer_by two.used_by_h,
      [],
      called_by two.used_by_h,
      refl,
      query_by_h,
      refl,
      (refl, refl, refl),
    ),
  );
  leaves = λ other is. let same : 1 ≡ other = cc in subst (λ (x : ℕ). views x ≡ called_by two.used_by_h) same refl;
}

second_phase : PhaseRun (by_script two.setting) two.second_tasks (g ∷ h ∷ []) none_held two.made second_ends views
second_phase = record {
  seats = by_workers_alone (2 ∷ 3 ∷ []) two.made (All-from_recursion (λ (e : Entry). Contains (2 ∷ 3 ∷ []) e.seat) two.made
      ((0, lit< tt, refl), ((0, lit< tt, refl), ((0, lit< tt, refl), ((1, lit< tt, refl), ((1, lit< tt, refl), ((1, lit< tt, refl), ((0, lit< tt, refl), ((0, lit< tt, refl), ((0, lit< tt, refl), ((0, lit< tt, refl), ((0, lit< tt, refl), ((0, lit< tt, refl), ((1, lit< tt, refl), ((1, lit< tt, refl), ((1, lit< tt, refl), ((1, lit< tt, refl), ((1, lit< tt, refl), ((1, lit< tt, refl), tt)))))))))))))))))));
  runs = (run_of_g, (run_of_h, tt));
  kept = λ other differ.
      kept_else other (All-head (λ (w : Worker). w.gateway ≢ Some other) g (h ∷ []) differ)
      (All-head (λ (w : Worker). w.gateway ≢ Some other) h [] (All-tail (λ (w : Worker). w.gateway ≢ Some other) g (h ∷ []) differ));
}

phases : PhasesRun (by_workers two.setting) 0 none_held two.script.phases two.journal two.ends
phases = inr (
  clock 1 0,
  two.upload,
  clock 6 1_800_000 ∷ two.made,
  first_ends,
  second_ends ∷ [],
  none_held,
  refl,
  record { seat = refl; sets = refl },
  subst (λ (ws : List Worker). PhaseRun (by_script two.setting) two.first_tasks ws none_held two.upload first_ends none_held) (sym first_workers) first_phase,
  refl,
  inr (
    clock 6 1_800_000,
    two.made,
    [],
    second_ends,
    [],
    views,
    refl,
    record { seat = refl; sets = refl },
    subst (λ (ws : List Worker). PhaseRun (by_script two.setting) two.second_tasks ws none_held two.made second_ends views) (sym second_workers) second_phase,
    refl,
    (refl, refl),
  ),
)

kept : IsJournal 1 two.journal
kept = record {
  few = lit≤ tt;
  numbered = each_of (λ before e. e.seq ≡ length before + 1) two.journal (refl, (refl, (refl, (refl, (refl, (refl, (refl, (refl, (refl, (refl, (refl, (refl, (refl, (refl, (refl, (refl, (refl, (refl, (refl, (refl, (refl, (refl, (refl, (refl, tt))))))))))))))))))))))));
  lawful = each_of (λ before e. IsLawful e.op) two.journal (lit< tt, (tt, ((lit≤ tt, lit≤ tt), (tt, (tt, (lit< tt, (lit≤ tt, (tt, (tt, (lit≤ tt, (tt, (tt, (tt, (tt, (tt, (tt, (tt, ((lit≤ tt, lit≤ tt), (tt, (tt, (tt, (tt, (tt, ((lit≤ tt, lit≤ tt), tt))))))))))))))))))))))));
  kinds = each_of (λ before e. IsReplyTo e.op e.reply) two.journal (tt, (tt, (tt, (tt, (tt, (tt, (tt, (tt, (tt, (tt, (tt, (tt, (tt, (tt, (tt, (tt, (tt, (tt, (tt, (tt, (tt, (tt, (tt, (tt, tt))))))))))))))))))))))));
  moments = each_of (λ before e. e.moment.ms ≡ moment_after 1 (last_moment before) e.op) two.journal (refl, (refl, (refl, (refl, (refl, (refl, (refl, (refl, (refl, (refl, (refl, (refl, (refl, (refl, (refl, (refl, (refl, (refl, (refl, (refl, (refl, (refl, (refl, (refl, tt))))))))))))))))))))))));
  small = each_of (λ before e. e.moment.ms < 2 ^ 48) two.journal (lit< tt, (lit< tt, (lit< tt, (lit< tt, (lit< tt, (lit< tt, (lit< tt, (lit< tt, (lit< tt, (lit< tt, (lit< tt, (lit< tt, (lit< tt, (lit< tt, (lit< tt, (lit< tt, (lit< tt, (lit< tt, (lit< tt, (lit< tt, (lit< tt, (lit< tt, (lit< tt, (lit< tt, tt))))))))))))))))))))))));
}

pub run : IsRunOf two.setting two.journal two.ends
run = record { kept = kept; phases = phases }

abbrev before_queries : List Entry
before_queries = clock 1 0 ∷ two.upload ++ clock 6 1_800_000 ∷ runs.sync 7 2 1_800_001 ++ runs.sync 10 3 1_800_004

pub honest : IsHonest two.journal
honest = each_of (λ before e. Tells (stands before) e.op e.reply) two.journal (tt, (refl, (tt, (tt, (tt, (tt, (page, (shows_no_mark, (shows_meta, (page, (shows_no_mark, (shows_meta, each_after (λ before e. Tells (stands before) e.op e.reply) before_queries (runs.query 13 2 1_800_007) (runs.query 19 3 1_800_013) (query_told full shows_index shows_segment 13 2 1_800_007) (query_told full shows_index shows_segment 19 3 1_800_013)))))))))))))

-- ---- the answer

came_of_g : CameTo (g ∷ h ∷ []) second_ends (Some 0) 2 (two.answer_by two.used_by_g)
came_of_g = record { worker = g; own = two.ends_by two.used_by_g; among = (0, lit< tt, refl); is = refl; came = (1, lit< tt, refl) }

came_of_h : CameTo (g ∷ h ∷ []) second_ends (Some 1) 2 (two.answer_by two.used_by_h)
came_of_h = record { worker = h; own = two.ends_by two.used_by_h; among = (1, lit< tt, refl); is = refl; came = (1, lit< tt, refl) }

-- both gave the same sample, which is told once
merge_both : IsMerge (flat_map triples_of ((small.up ∷ []) ∷ (small.up ∷ []) ∷ [])) (small.up ∷ [])
unfolding triples_of triples_under IsStrictlySortedBy
merge_both = record {
  ascending = (tt, tt);
  inhabited = All-cons (λ s. s.samples ≢ []) small.up [] (λ none. cc) (All-nil (λ (s : Series). s.samples ≢ []));
  first = record {
    ascending = (tt, tt);
    first = All-from_recursion (λ u. find (has_same_key u) (small.triple ∷ small.triple ∷ []) ≡ Some u) (small.triple ∷ []) (refl, tt);
    complete = All-from_recursion (λ u. list_any (has_same_key u) (small.triple ∷ []) ≡ true) (small.triple ∷ small.triple ∷ []) (refl, (refl, tt));
  };
}

pub given : IsGiven two.setting two.ends two.asked
unfolding triples_of triples_under
given = record {
  phase_number = 1;
  phase = record { line = 7; moment = record { ms = 1_800_000 }; tasks = two.second_tasks };
  place = 2;
  task = query_task;
  low = pos 0;
  high = pos 5000;
  selector_number = 0;
  in_phases = refl;
  in_tasks = refl;
  asks = refl;
  selects = refl;
  phase_ends = second_ends;
  phase_came = refl;
  parts = (small.up ∷ []) ∷ (small.up ∷ []) ∷ [];
  given = (
    subst (λ (ws : List Worker). CameTo ws second_ends (Some 0) 2 (two.answer_by two.used_by_g)) (sym second_workers) came_of_g,
    (subst (λ (ws : List Worker). CameTo ws second_ends (Some 1) 2 (two.answer_by two.used_by_h)) (sym second_workers) came_of_h, tt),
  );
  every = refl;
  series = small.up ∷ [];
  merged = merge_both;
  samples = refl;
}

-- ---- the report

abbrev answered_so : Outcome
answered_so = came_to.Query (queries.Answer small_answer (record { gateway = 0; sources = small.a ∷ [] } ∷ record { gateway = 1; sources = small.a ∷ [] } ∷ []))

both_out : IsOutcome query_task.work (two.answer_by two.used_by_g ∷ two.answer_by two.used_by_h ∷ []) answered_so
both_out = (
  came_to.Query (gave.Answer small_answer two.used_by_g.view.first) ∷ came_to.Query (gave.Answer small_answer two.used_by_h.view.first) ∷ [],
  (refl, (refl, tt)),
  (
    gave.Answer small_answer two.used_by_g.view.first ∷ gave.Answer small_answer two.used_by_h.view.first ∷ [],
    queries.Answer small_answer (record { gateway = 0; sources = small.a ∷ [] } ∷ record { gateway = 1; sources = small.a ∷ [] } ∷ []),
    refl,
    (refl, record { merged = merge_both; sources = refl }, refl),
    refl,
  ),
)

abbrev outcomes : List Outcome
outcomes = came_to.Upload (stops.Ended (shipped.Done 3)) ∷ came_to.Sync (syncs.Blocks 1) ∷ came_to.Sync (syncs.Blocks 1) ∷ answered_so ∷ []

first_came : TasksCame two.script (uploader ∷ []) first_ends 0 two.first_tasks (came_to.Upload (stops.Ended (shipped.Done 3)) ∷ [])
unfolding hands_of_task
first_came = (
  record {
    own = uploaded (shipped.Done 3) ∷ [];
    came = (record { worker = uploader; own = uploaded (shipped.Done 3) ∷ []; among = (0, lit< tt, refl); is = refl; came = (0, lit< tt, refl) }, tt);
    is = upload_out small.a None;
  },
  refl,
)

second_came : TasksCame two.script (g ∷ h ∷ []) second_ends 0 two.second_tasks (came_to.Sync (syncs.Blocks 1) ∷ came_to.Sync (syncs.Blocks 1) ∷ answered_so ∷ [])
unfolding hands_of_task
second_came = (
  record {
    own = synced (fetched.View two.used_by_g.view) ∷ [];
    came = (record { worker = g; own = two.ends_by two.used_by_g; among = (0, lit< tt, refl); is = refl; came = (0, lit< tt, refl) }, tt);
    is = sync_out 0 two.used_by_g.view 1 refl;
  },
  (
    record {
      own = synced (fetched.View two.used_by_h.view) ∷ [];
      came = (record { worker = h; own = two.ends_by two.used_by_h; among = (1, lit< tt, refl); is = refl; came = (0, lit< tt, refl) }, tt);
      is = sync_out 1 two.used_by_h.view 1 refl;
    },
    (
      record {
        own = two.answer_by two.used_by_g ∷ two.answer_by two.used_by_h ∷ [];
        came = (came_of_g, (came_of_h, tt));
        is = both_out;
      },
      refl,
    ),
  ),
)

came : PhasesCame two.script 0 two.script.phases two.ends outcomes
came = (
  came_to.Upload (stops.Ended (shipped.Done 3)) ∷ [],
  came_to.Sync (syncs.Blocks 1) ∷ came_to.Sync (syncs.Blocks 1) ∷ answered_so ∷ [],
  refl,
  subst (λ (ws : List Worker). TasksCame two.script ws first_ends 0 two.first_tasks (came_to.Upload (stops.Ended (shipped.Done 3)) ∷ [])) (sym first_workers) first_came,
  (
    came_to.Sync (syncs.Blocks 1) ∷ came_to.Sync (syncs.Blocks 1) ∷ answered_so ∷ [],
    [],
    refl,
    subst (λ (ws : List Worker). TasksCame two.script ws second_ends 0 two.second_tasks (came_to.Sync (syncs.Blocks 1) ∷ came_to.Sync (syncs.Blocks 1) ∷ answered_so ∷ [])) (sym second_workers) second_came,
    (refl, refl),
  ),
)

lines : two.report ≡ report_of two.script (two.first_tasks ++ two.second_tasks) outcomes
unfolding two.report report_of activity_text upload_words sync_words source_line series_line counts_text sample_count answer_text parted_text named_lines named_line named_count query_text text_of character alphabet fixed_digits decimal_text signed_text set_text pairs_text pair_text comma_pair_text quoted quoted_byte spaced_sample_text series_text sample_text timed_text pattern_text hex_text hex_sign
lines = refl

pub reports : IsReport two.script two.script.phases two.ends true two.report
reports = record { outcomes = outcomes; came = came; lines = lines; flag = refl }

-- ---- one gateway's part is not the answer

abbrev phase_of_upload : Phase
phase_of_upload = record { line = 5; moment = record { ms = 0 }; tasks = two.first_tasks }

abbrev phase_of_query : Phase
phase_of_query = record { line = 7; moment = record { ms = 1_800_000 }; tasks = two.second_tasks }

own_phase : (n : ℕ) (phase : Phase) → slice_get two.script.phases n ≡ Some phase → (phase_of_upload ≡ phase) ⊎ (phase_of_query ≡ phase)
own_phase zero phase at = inl (cc (at))
own_phase (suc zero) phase at = inr (cc (at))
own_phase (suc (suc n)) phase at = absurd (cc (at))

no_query : (place sel : ℕ) (task : Task) (low high : ℤ) → slice_get two.first_tasks place ≡ Some task → task.work ≡ works.Query low high sel → ⊥
no_query zero sel task low high at asks =
    let same : record { line = 6; work = works.Upload small.a None } ≡ task = cc (at) in
    let w : works.Upload small.a None ≡ task.work = ap (λ (t : Task). t.work) same in
    cc (w, asks)
no_query (suc place) sel task low high at asks = cc (at)

the_query : (place sel : ℕ) (task : Task) (low high : ℤ) → slice_get two.second_tasks place ≡ Some task → task.work ≡ works.Query low high sel → (pos 0 ≡ low) × (pos 5000 ≡ high)
the_query zero sel task low high at asks =
    let same : record { line = 8; work = works.Sync 0 } ≡ task = cc (at) in
    let w : works.Sync 0 ≡ task.work = ap (λ (t : Task). t.work) same in
    absurd (cc (w, asks))
the_query (suc zero) sel task low high at asks =
    let same : record { line = 9; work = works.Sync 1 } ≡ task = cc (at) in
    let w : works.Sync 1 ≡ task.work = ap (λ (t : Task). t.work) same in
    absurd (cc (w, asks))
the_query (suc (suc zero)) sel task low high at asks =
    let same : query_task ≡ task = cc (at) in
    let w : works.Query (pos 0) (pos 5000) 0 ≡ task.work = ap (λ (t : Task). t.work) same in
    let all : works.Query (pos 0) (pos 5000) 0 ≡ works.Query low high sel = w ∙ asks in
    (cc (all), cc (all))
the_query (suc (suc (suc place))) sel task low high at asks = absurd (cc (at))

-- for what the gateways are asked
abbrev ask_g : Ask
ask_g = record { gateway = 0; low = pos 0; high = pos 5000 }

abbrev ask_h : Ask
ask_h = record { gateway = 1; low = pos 0; high = pos 1500 }

pub not_alone : ¬ IsGiven two.setting two.ends (two.answered_by (two.by_g ∷ []))
not_alone alone = elim (own_phase alone.phase_number alone.phase alone.in_phases) [
  | inl is ↦ no_query alone.place alone.selector_number alone.task alone.low alone.high (subst (λ (p : Phase). slice_get p.tasks alone.place ≡ Some alone.task) (sym is) alone.in_tasks) alone.asks
  | inr is ↦
      let asked = the_query alone.place alone.selector_number alone.task alone.low alone.high (subst (λ (p : Phase). slice_get p.tasks alone.place ≡ Some alone.task) (sym is) alone.in_tasks) alone.asks in
      let every : ask_g ∷ [] ≡ ask_g ∷ ask_h ∷ [] =
      alone.every ∙ ap (λ (l : ℤ). asks_in two.setting l alone.high) (sym asked.0) ∙ ap (λ (u : ℤ). asks_in two.setting (pos 0) u) (sym asked.1) in
      nil_not_cons ask_h [] (cons_parts ask_g ask_g [] (ask_h ∷ []) every).1
]
