-- The run in which two blocks are uploaded while a gateway syncs.
use Rattle.std.proofs.Common.{◌≡◌, ◌≢◌, inl, inr, ℕ, ◌+◌, ◌^◌, ◌<◌, ◌≤◌, pos, Bool, true, false, cond, List, [], ◌∷◌, ◌++◌, length, All, Contains, Ok, Some, None, is_some, codes, refl, sym, ap, subst, arith, lit<, lit≤}
use Rattle.std.proofs.lemmas.List.Elements.{All-contains, All-from_recursion, All-head, Contains-append_right}
use Rattle.ulid_core.specs.FixedDigits.{fixed_digits}
use Rattle.ulid_core.specs.UlidText.{text_of, character, alphabet, bad_place, digit_of, number_of, ulid_of}
use Rattle.std.specs.Str.{is_utf8, chars}
use Rattle.std.specs.Fmt.{digits}
use Rattle.block_meta.proofs.FoundTexts.{meta_text_found}
use Rattle.block_meta.proofs.Plain.{meta_is_object}
use Rattle.block_meta.specs.MetaText.{IsMetaText}
use Rattle.block_meta.specs.Lawful.{are_lawful_times}
use Rattle.block_meta.specs.Members.{json_of, object_of, member_of, needed_of, of_kind, unsigned_of, signed_of, whole_of, version_of, section_of, count_of, each, list_of}
use Rattle.block_meta.specs.Members as members
use Rattle.block_meta.specs.MetaReading.{meta_of_text, meta_of, times_of, stats_of, stats_members_of, compaction_of, compaction_members_of, level_of, sources_of, thanos_of, thanos_members_of, labels_of, labels_from, resolution_of, text_or_empty, file_of, parent_of}
use Rattle.serde_json.proofs.OnLiterals.{serde_json_on_literals}
use Rattle.ulid_core.specs.Times.{time_of}
use Rattle.block_keys.specs.Keys.{key_ulid}
use Rattle.block_keys.specs.KeyText.{key_text, name_of, six_digits}
use Rattle.block_keys.specs.declared.key.Key.TheVariants as key
use Rattle.bucket_core.specs.Contents.{Contents, nothing, with_object}
use Rattle.bucket_core.specs.Pages.{IsPage, IsName}
use Rattle.label_sets.specs.Triples.{triples_of, triples_under}
use Rattle.moment_core.specs.StandardRules.{minutes, hours}
use Rattle.block_meta.specs.MetaFields.{MetaFields, fields_of}
use Rattle.block_meta.specs.MetaValue.{ulid_value, items_value, file_value, label_members, stats_value, compaction_value, thanos_value, meta_value, meta_text}
use Rattle.world_core.specs.Moments.{moment_after, last_moment}
use Rattle.world_core.specs.Operations.{IsLawful, IsReplyTo}
use Rattle.world_core.specs.Standing.{stands, Tells, IsHonest}
use Rattle.world_core.specs.Worlds.{IsJournal}
use Rattle.world_core.specs.declared.entry.Entry.{Entry}
use Rattle.shipper.specs.declared.upload.UploadEnd.TheVariants as shipped
use Rattle.meta_fetcher.specs.declared.sync.SyncEnd.TheVariants as fetched
use Rattle.store_calls.specs.declared.series_call.SeriesEnd.TheVariants as called
use Rattle.script_workers.specs.Hands.{hands_of_task, with_hands, hands_from, places_from, workers_from, seats_from}
use Rattle.script_core.specs.Workers.{workers_of}
use Rattle.script_workers.specs.declared.work.Work.TheVariants as works
use Rattle.script_workers.specs.declared.worker.Worker.{Worker}
use Rattle.lifecycle_core.specs.Completed.{IsCompletedAt, IsUploadedBefore, PutsMeta}
use Rattle.lifecycle_core.specs.Conducts.{CameTo, PhaseRun, WorkerRun}
use Rattle.lifecycle_core.specs.Guarantees.{IsGiven, Named}
use Rattle.lifecycle_core.specs.Holdings.{none_held, nothing_held}
use Rattle.lifecycle_core.specs.Phases.{IsRunOf, by_script, by_workers}
use Rattle.lifecycle_core.specs.Tasks.{End, answered, synced, uploaded}
use Rattle.lifecycle_core.specs.Ways.{PhasesRun}
use Rattle.tests_worked.specs.Entries.{clock, stored, found, absent, listed}
use Rattle.tests_worked.specs.SmallBlock as small
use Rattle.tests_worked.specs.SideBySide as side
use Rattle.tests_worked.proofs.small.Bucket.{segment_key, index_key, meta_key, mark_key, one_folder, page_of, query_told, segment_folder}
use Rattle.tests_worked.proofs.small.SmallMeta.{meta_is}
use Rattle.tests_worked.proofs.small.Each.{each_of, by_workers_alone}
use Rattle.base.proofs.Membership.{only_member}
use Rattle.tests_worked.proofs.small.SmallCalls.{all_asked, called_by, merge_given, query_task, synced_by}
use Rattle.tests_worked.proofs.small.SmallTasks.{upload_task_by, sync_run_by}
use Rattle.tests_worked.proofs.young.YoungBlock.{with_held, kept_else}

-- ---- the workers and their tasks

abbrev gateway : Worker
gateway = record { seat = 1; gateway = Some 0; tasks = 0 ∷ 1 ∷ [] }

abbrev uploader : Worker
uploader = record { seat = 2; gateway = None; tasks = 2 ∷ [] }

abbrev other_uploader : Worker
other_uploader = record { seat = 3; gateway = None; tasks = 3 ∷ [] }

abbrev workers : List Worker
workers = gateway ∷ uploader ∷ other_uploader ∷ []

workers_are : workers_of side.script 0 ≡ workers
unfolding hands_of_task with_hands hands_from places_from workers_from seats_from
workers_are = refl

abbrev answer : End
answer = answered side.used (called.Answer (small.up ∷ []) (small.a ∷ []))

abbrev gateway_ends : List End
gateway_ends = synced (fetched.View side.view) ∷ answer ∷ []

abbrev upload_ends : List End
upload_ends = uploaded (shipped.Done 3) ∷ []

abbrev phase_ends : List (List End)
phase_ends = gateway_ends ∷ upload_ends ∷ upload_ends ∷ []

abbrev sync : List Entry
sync = listed 4 1 3 (small.a_text ∷ []) ∷ absent 11 1 10 (key.Mark small.a) ∷ found 12 1 11 (key.Meta small.a) small.meta ∷ []

abbrev upload : List Entry
upload =
    absent 2 2 1 (key.Meta small.a)
    ∷ stored 3 2 2 (key.Segment small.a 1) small.segment
    ∷ stored 9 2 8 (key.Index small.a) small.index
    ∷ stored 10 2 9 (key.Meta small.a) small.meta
    ∷ []

gateway_run : WorkerRun (by_script side.setting) side.tasks none_held side.made (with_held (called_by side.used)) gateway gateway_ends
gateway_run = record {
  own = record { place = 0; task = record { line = 8; work = works.Sync 0 } } ∷ record { place = 1; task = record { line = 9; work = works.Query (pos 0) (pos 5000) 0 } } ∷ [];
  are = ((refl, refl), ((refl, refl), refl));
  last = called_by side.used;
  runs = inl (
    sync,
    side.query,
    synced (fetched.View side.view),
    answer ∷ [],
    synced_by side.used,
    refl,
    (Some (fetched.View side.view), sync_run_by (minutes 0) (hours 24) 1 4 3 11 10 12 11 (Some (small.found 10 11)) refl, refl, refl),
    refl,
    inl (side.query, [], answer, [], called_by side.used, refl, query_task [] all_asked 4 3 11 10 11 12 13 1 12, refl, (refl, refl, refl)),
  );
  leaves = λ other is. let same : 0 ≡ other = cc in subst (λ (x : ℕ). with_held (called_by side.used) x ≡ called_by side.used) same refl;
}

upload_run : WorkerRun (by_script side.setting) side.tasks none_held side.made (with_held (called_by side.used)) uploader upload_ends
upload_run = record {
  own = record { place = 2; task = record { line = 10; work = works.Upload small.a None } } ∷ [];
  are = ((refl, refl), refl);
  last = nothing_held;
  runs = inl (upload, [], uploaded (shipped.Done 3), [], nothing_held, refl, (upload_task_by side.setting small.a small.meta meta_is refl upload (refl, (refl, (refl, (refl, (refl, inr refl))))), refl), refl, (refl, refl, refl));
  leaves = λ gateway is. absurd (cc);
}

other_text : meta_text (fields_of (small.said_of side.b)) ≡ side.other_meta
unfolding side.other_meta
other_text = refl

other_run : WorkerRun (by_script side.setting) side.tasks none_held side.made (with_held (called_by side.used)) other_uploader upload_ends
other_run = record {
  own = record { place = 3; task = record { line = 11; work = works.Upload side.b None } } ∷ [];
  are = ((refl, refl), refl);
  last = nothing_held;
  runs = inl (side.other_upload, [], uploaded (shipped.Done 3), [], nothing_held, refl, (upload_task_by side.setting side.b side.other_meta other_text refl side.other_upload (refl, (refl, (refl, (refl, (refl, inr refl))))), refl), refl, (refl, refl, refl));
  leaves = λ gateway is. absurd (cc);
}

-- ---- the run

abbrev all_seats : List ℕ
all_seats = 1 ∷ 2 ∷ 3 ∷ []

abbrev IsSeat : Entry → Type 0
IsSeat e = Contains all_seats e.seat

by_gateway : Contains all_seats 1
by_gateway = (0, lit< tt, refl)

by_upload : Contains all_seats 2
by_upload = (1, lit< tt, refl)

by_other : Contains all_seats 3
by_other = (2, lit< tt, refl)

phase : PhaseRun (by_script side.setting) side.tasks workers none_held side.made phase_ends (with_held (called_by side.used))
phase = record {
  seats = by_workers_alone all_seats side.made (All-from_recursion IsSeat side.made
      (by_upload, (by_upload, (by_gateway, (by_other, (by_other, (by_other, (by_other, (by_upload, (by_upload, (by_gateway, (by_gateway, (by_gateway, (by_gateway, (by_gateway, (by_gateway, (by_gateway, (by_gateway, tt))))))))))))))))));
  runs = (gateway_run, (upload_run, (other_run, tt)));
  kept = λ other differ. kept_else (called_by side.used) none_held (λ o. refl) other (All-head (λ (w : Worker). w.gateway ≢ Some other) gateway (uploader ∷ other_uploader ∷ []) differ);
}

phases : PhasesRun (by_workers side.setting) 0 none_held side.script.phases side.journal side.ends
phases = inr (
  clock 1 0,
  side.made,
  [],
  phase_ends,
  [],
  with_held (called_by side.used),
  refl,
  record { seat = refl; sets = refl },
  subst (λ (ws : List Worker). PhaseRun (by_script side.setting) side.tasks ws none_held side.made phase_ends (with_held (called_by side.used))) (sym workers_are) phase,
  refl,
  (refl, refl),
)

kept : IsJournal 1 side.journal
kept = record {
  few = lit≤ tt;
  numbered = each_of (λ before e. e.seq ≡ length before + 1) side.journal (refl, (refl, (refl, (refl, (refl, (refl, (refl, (refl, (refl, (refl, (refl, (refl, (refl, (refl, (refl, (refl, (refl, (refl, tt))))))))))))))))));
  lawful = each_of (λ before e. IsLawful e.op) side.journal (lit< tt, (tt, ((lit≤ tt, lit≤ tt), (lit≤ tt, (tt, ((lit≤ tt, lit≤ tt), (tt, (tt, (tt, (tt, (tt, (tt, (tt, (tt, (tt, (tt, (tt, ((lit≤ tt, lit≤ tt), tt))))))))))))))))));
  kinds = each_of (λ before e. IsReplyTo e.op e.reply) side.journal (tt, (tt, (tt, (tt, (tt, (tt, (tt, (tt, (tt, (tt, (tt, (tt, (tt, (tt, (tt, (tt, (tt, (tt, tt))))))))))))))))));
  moments = each_of (λ before e. e.moment.ms ≡ moment_after 1 (last_moment before) e.op) side.journal (refl, (refl, (refl, (refl, (refl, (refl, (refl, (refl, (refl, (refl, (refl, (refl, (refl, (refl, (refl, (refl, (refl, (refl, tt))))))))))))))))));
  small = each_of (λ before e. e.moment.ms < 2 ^ 48) side.journal (lit< tt, (lit< tt, (lit< tt, (lit< tt, (lit< tt, (lit< tt, (lit< tt, (lit< tt, (lit< tt, (lit< tt, (lit< tt, (lit< tt, (lit< tt, (lit< tt, (lit< tt, (lit< tt, (lit< tt, (lit< tt, tt))))))))))))))))));
}

pub run : IsRunOf side.setting side.journal side.ends
run = record { kept = kept; phases = phases }

-- ---- what the bucket shows

other_segment_key : key_text (key.Segment side.b 1) ≡ codes "0000000000000000000000000B/chunks/000001"
unfolding key_text name_of six_digits text_of character alphabet fixed_digits
other_segment_key = refl

other_index_key : key_text (key.Index side.b) ≡ codes "0000000000000000000000000B/index"
unfolding key_text name_of text_of character alphabet fixed_digits
other_index_key = refl

other_meta_key : key_text (key.Meta side.b) ≡ codes "0000000000000000000000000B/meta.json"
unfolding key_text name_of text_of character alphabet fixed_digits
other_meta_key = refl

-- with the first block's segment alone, and with both blocks
abbrev begun : Contents
begun = with_object (key_text (key.Segment small.a 1)) small.segment nothing

abbrev both : Contents
both =
    with_object (key_text (key.Meta small.a)) small.meta
    (with_object (key_text (key.Index small.a)) small.index
    (with_object (key_text (key.Meta side.b)) side.other_meta
    (with_object (key_text (key.Index side.b)) small.index
    (with_object (key_text (key.Segment side.b 1)) small.segment begun))))

segment_there : IsName begun [] small.a_text
unfolding key_text name_of six_digits text_of character alphabet fixed_digits
segment_there = (key_text (key.Segment small.a 1), refl, refl)

only_segment : (b : Bool) (s : List ℕ) → is_some (cond b (Some s) None) ≡ true → b ≡ true
only_segment true s some = refl
only_segment false s some = absurd (cc)

segment_page : IsPage begun [] [] 1_000 (small.a_text ∷ [])
segment_page = page_of begun segment_there (λ text some. one_folder (key_text (key.Segment small.a 1)) text (only_segment _ small.segment some) segment_folder)

no_other : begun (key_text (key.Meta side.b)) ≡ None
no_other = rw (segment_key, other_meta_key) refl

both_mark : both (key_text (key.Mark small.a)) ≡ None
both_mark = rw (meta_key, index_key, segment_key, other_meta_key, other_index_key, other_segment_key, mark_key) refl

both_meta : both (key_text (key.Meta small.a)) ≡ Some small.meta
both_meta = rw meta_key refl

both_index : both (key_text (key.Index small.a)) ≡ Some small.index
both_index = rw (meta_key, index_key) refl

both_segment : both (key_text (key.Segment small.a 1)) ≡ Some small.segment
both_segment = rw (meta_key, index_key, segment_key, other_meta_key, other_index_key, other_segment_key) refl

pub honest : IsHonest side.journal
honest = each_of (λ before e. Tells (stands before) e.op e.reply) side.journal
    (tt, (refl, (tt, (segment_page, (no_other, (tt, (tt, (tt, (tt, (tt, (both_mark, (both_meta, query_told both both_index both_segment 13 1 12))))))))))))

-- ---- the query

came : CameTo workers phase_ends (Some 0) 1 answer
came = record { worker = gateway; own = gateway_ends; among = (0, lit< tt, refl); is = refl; came = (1, lit< tt, refl) }

pub given : IsGiven side.setting side.ends side.asked
unfolding triples_of triples_under
given = record {
  phase_number = 0;
  phase = record { line = 7; moment = record { ms = 0 }; tasks = side.tasks };
  place = 1;
  task = record { line = 9; work = works.Query (pos 0) (pos 5000) 0 };
  low = pos 0;
  high = pos 5000;
  selector_number = 0;
  in_phases = refl;
  in_tasks = refl;
  asks = refl;
  selects = refl;
  phase_ends = phase_ends;
  phase_came = refl;
  parts = (small.up ∷ []) ∷ [];
  given = (subst (λ (ws : List Worker). CameTo ws phase_ends (Some 0) 1 answer) (sym workers_are) came, tt);
  every = refl;
  series = small.up ∷ [];
  merged = merge_given;
  samples = refl;
}

-- ---- what is not guaranteed

abbrev IsLate : Entry → Type 0
IsLate e = PutsMeta small.a e → 10 ≤ e.seq

all_late : All IsLate side.journal
all_late = All-from_recursion IsLate side.journal (λ p. absurd (cc (p.1)), (λ p. absurd (cc (p.1)), (λ p. absurd (cc (p.1)), (λ p. absurd (cc (p.1)), (λ p. absurd (cc (p.1)), (λ p. absurd (cc (p.1)), (λ p. absurd (cc (p.1)), (λ p. let same : key.Meta side.b ≡ key.Meta small.a = cc (p.1) in absurd (omega (arith, ap key_ulid same)), (λ p. absurd (cc (p.1)), (λ p. lit≤ tt, (λ p. absurd (cc (p.1)), (λ p. absurd (cc (p.1)), (λ p. absurd (cc (p.1)), (λ p. absurd (cc (p.1)), (λ p. absurd (cc (p.1)), (λ p. absurd (cc (p.1)), (λ p. absurd (cc (p.1)), (λ p. absurd (cc (p.1)), tt))))))))))))))))))

completed_late : (seq : ℕ) (meta : MetaFields) → IsCompletedAt side.journal small.a seq meta → 10 ≤ seq
completed_late seq meta done =
    let among : Contains side.journal done.entry = subst (λ (es : List Entry). Contains es done.entry) (sym done.is) (Contains-append_right done.before (done.entry ∷ done.after) done.entry (0, omega arith, refl)) in
    let late = All-contains IsLate side.journal done.entry all_late among (done.bytes, done.puts, done.landed) in
    omega (arith, late, done.number)

abbrev side_named : Named
side_named = record { gateway = 0; used = side.used; low = pos 0; high = pos 5000; sources = small.a ∷ [] }

pub not_early : ¬ side.NamesEarlyUploads
not_early named =
    let all = All-head (λ (n : Named). All (λ ulid. IsUploadedBefore side.setting side.journal ulid n.used.view.first) n.sources) side_named [] named in
    let first = All-head (λ ulid. IsUploadedBefore side.setting side.journal ulid side.used.view.first) small.a [] all in
    let begin : 4 ≡ side.used.view.first = refl in
    omega (arith, completed_late first.seq first.meta first.completed, first.earlier, begin)

-- the other block's meta
other_value_read : json_of side.other_meta ≡ Ok (meta_value (fields_of (small.said_of side.b)))
unfolding side.other_meta meta_text json_of is_utf8 chars meta_value thanos_value compaction_value stats_value label_members file_value items_value ulid_value text_of character alphabet fixed_digits digits serde_json_on_literals
other_value_read = refl

other_fields_read : meta_of (meta_value (fields_of (small.said_of side.b))) ≡ Ok (fields_of (small.said_of side.b))
unfolding meta_value thanos_value compaction_value stats_value label_members file_value items_value ulid_value text_of character alphabet fixed_digits
    meta_of times_of stats_of stats_members_of compaction_of compaction_members_of level_of sources_of thanos_of thanos_members_of labels_of labels_from resolution_of text_or_empty file_of parent_of
    member_of needed_of of_kind unsigned_of signed_of whole_of members.text_of members.ulid_of version_of section_of count_of each list_of are_lawful_times ulid_of bad_place digit_of number_of
other_fields_read = refl

other_reads : meta_of_text side.other_meta ≡ Ok (fields_of (small.said_of side.b))
unfolding meta_of_text object_of
other_reads = rw (other_value_read, meta_is_object (fields_of (small.said_of side.b))) other_fields_read

other_meta_text : IsMetaText side.other_meta (fields_of (small.said_of side.b))
other_meta_text = (meta_text_found side.other_meta).holds (fields_of (small.said_of side.b)) other_reads

-- it lands at entry 8
abbrev before_other : List Entry
before_other = clock 1 0 ∷ side.begun ++ absent 5 3 4 (key.Meta side.b) ∷ stored 6 3 5 (key.Segment side.b 1) small.segment ∷ stored 7 3 6 (key.Index side.b) small.index ∷ []

other_first : All (λ e. ¬ PutsMeta side.b e) before_other
other_first = All-from_recursion (λ (e : Entry). ¬ PutsMeta side.b e) before_other
    (λ put. cc (put.1), (λ put. cc (put.1), (λ put. cc (put.1), (λ put. cc (put.1), (λ put. cc (put.1), (λ put. cc (put.1), (λ put. cc (put.1), tt)))))))

other_uploaded : IsUploadedBefore side.setting side.journal side.b 12
other_uploaded = record {
  is_declared = refl;
  seq = 8;
  meta = fields_of (small.said_of side.b);
  completed = record {
    before = before_other;
    entry = stored 8 3 7 (key.Meta side.b) side.other_meta;
    after = side.completed ++ side.query;
    is = refl;
    number = refl;
    bytes = side.other_meta;
    puts = refl;
    landed = refl;
    text = other_meta_text;
    first = other_first;
  };
  earlier = lit< tt;
}

pub not_late : ¬ side.NamesLateUploads
not_late names =
    let first = All-head (λ (n : Named). (ulid : ℕ) → IsUploadedBefore side.setting side.journal ulid n.used.last → time_of ulid + side.script.rules.consistency.ms ≤ n.used.view.begin.ms → Contains n.sources ulid) side_named [] names in
    omega (arith, only_member small.a side.b (first side.b other_uploaded (lit≤ tt)))
