-- The runs of the script that takes its block from the shelf.
use Rattle.std.proofs.Common.{◌≡◌, inl, inr, ℕ, ◌+◌, ◌*◌, ◌^◌, ◌<◌, ◌≤◌, sum_by, List, [], ◌∷◌, length, map, Contains, true, Some, None, refl, sym, ◌∙◌, ap, subst, append-nil, lit<, lit≤}
use Rattle.std.specs.List.{All, IsDistinct, list_any}
use Rattle.std.specs.List.Sorted.{IsStrictlySortedBy}
use Rattle.std.proofs.lemmas.List.Elements.{All-cons, All-from_recursion, All-nil}
use Rattle.base.specs.FixedDigits.{fixed_digits}
use Rattle.label_sets.specs.Finals.{is_among, without, final_of}
use Rattle.label_sets.specs.Ordered.{in_order, placed}
use Rattle.label_sets.specs.Triples.{Triple, triples_under, has_same_key}
use Rattle.chunk_files.specs.ChunkReading.{chunk_at, header_at, segment_at}
use Rattle.wire_bytes.specs.Crc.{crc, remainder}
use Rattle.wire_bytes.specs.Fields.{bytes_at, groups_of, number_at, uvarint_at}
use Rattle.matchers.specs.Selected.{is_selected, selected}
use Rattle.matchers.specs.Selectors.{is_match}
use Rattle.block_keys.specs.KeyText.{name_of, six_digits}
use Rattle.block_keys.specs.declared.key.Key.TheVariants as key
use Rattle.block_meta.specs.Built.{segment_objects}
use Rattle.block_meta.specs.MetaFields.{fields_of}
use Rattle.block_meta.specs.MetaValue.{meta_text}
use Rattle.block_content.specs.Checking.{Passes}
use Rattle.block_content.specs.Content.{IsContent}
use Rattle.block_content.specs.ContentReading.{series_bytes}
use Rattle.block_content.specs.Named.{chunk_share, counted, text_bytes, text_share}
use Rattle.block_content.specs.Shipped.{names_of, shipped_meta, sizes_of}
use Rattle.block_content.specs.declared.check_refusal.CheckRefusal.TheVariants.{NoFile}
use Rattle.world_core.specs.Moments.{moment_after, last_moment}
use Rattle.world_core.specs.Operations.{IsLawful, IsReplyTo}
use Rattle.world_core.specs.Worlds.{IsJournal}
use Rattle.world_core.specs.declared.entry.Entry.{Entry}
use Rattle.shipper.specs.declared.upload.UploadEnd.TheVariants as shipped
use Rattle.script_workers.specs.Hands.{hands_of_task, with_hands, hands_from, places_from, workers_from, seats_from}
use Rattle.script_core.specs.Workers.{workers_of}
use Rattle.script_workers.specs.declared.task.Task.{Task}
use Rattle.script_workers.specs.declared.work.Work.TheVariants as works
use Rattle.script_workers.specs.declared.worker.Worker.{Worker}
use Rattle.lifecycle_core.specs.Causes.{AreWell, IsWell}
use Rattle.world_core.specs.Journals.{of_seat}
use Rattle.lifecycle_core.specs.Conducts.{Assigned, PhaseRun, TasksRun, who_of}
use Rattle.lifecycle_core.specs.Guarantees.{IsExact}
use Rattle.lifecycle_core.specs.Held.{held, held_by}
use Rattle.lifecycle_core.specs.Holdings.{Use, none_held, nothing_held}
use Rattle.lifecycle_core.specs.Phases.{IsFinished, IsRunOf, by_script}
use Rattle.lifecycle_core.specs.Setting.{FromShelf, Setting, holding, refusing}
use Rattle.lifecycle_core.specs.Shipped.{IsRefused, IsShipped}
use Rattle.lifecycle_core.specs.Tasks.{End, UploadTask, refused, uploaded}
use Rattle.tests_worked.specs.Entries.{clock}
use Rattle.tests_worked.specs.ShelfBlock as shelf
use Rattle.tests_worked.specs.SmallBlock as small
use Rattle.tests_worked.specs.SmallFiles as files
use Rattle.tests_worked.proofs.small.BuiltBlock.{bytes, content, index_fits, same_objects, segment_fits}
use Rattle.tests_worked.proofs.small.Each.{each_of, by_workers_alone}
use Rattle.tests_worked.proofs.small.Ends.{of_each}
use Rattle.tests_worked.proofs.one.OneBlock.{uploader}
use Rattle.tests_worked.proofs.small.SmallIndex.{is_index, listed}
use Rattle.tests_worked.proofs.small.SmallMeta.{meta_is}

-- ---- what is shipped

holds : IsContent shelf.files (small.up ∷ [])
holds =
    let built = content small.a in
    record { indexed = built.indexed; index_is = built.index_is; series_are = built.series_are; within = built.within; apart = built.apart }

-- its one chunk and its one label are little for its bytes
chunks_few : counted (sum_by (series_bytes (small.segment ∷ [])) (listed ∷ [])) ≤ counted (chunk_share * sum_by length (small.segment ∷ []))
unfolding files.segment files.chunk files.content segment_at header_at chunk_at bytes_at number_at uvarint_at groups_of crc remainder
chunks_few = lit≤ tt

texts_few : counted (sum_by text_bytes (listed ∷ [])) ≤ counted (text_share * length small.index)
unfolding files.index files.symbols files.series files.label_index files.lists files.label_offsets files.table files.contents
texts_few = lit≤ tt

passes : Passes small.a shelf.files (small.up ∷ [])
passes = record {
  own = record { ulid_is = refl; first_level = refl; one_source = refl; sampled = refl };
  content = holds;
  some = λ none. cc (none);
  few = record { indexed = listed ∷ []; index_is = is_index; chunks = chunks_few; texts = texts_few };
}

said_is : shipped_meta shelf.kept (small.segment ∷ []) small.index [] ≡ fields_of small.said
unfolding shipped_meta sizes_of names_of segment_objects name_of six_digits fixed_digits
    files.segment files.chunk files.content files.index files.symbols files.series files.label_index files.lists files.label_offsets files.table files.contents
said_is = refl

pub is_shipped : IsShipped shelf.full shelf.block (small.objects_with small.a small.meta)
is_shipped = record {
  files = shelf.files;
  series = small.up ∷ [];
  read = refl;
  passes = passes;
  bytes = record { index = (bytes small.a).index; segments = (bytes small.a).segments };
  short = record { index = index_fits; segments = (segment_fits, tt) };
  numbers = record { series = lit< tt; samples = lit< tt; chunks = lit< tt; parents = tt };
  are = same_objects small.a (meta_text (shipped_meta shelf.kept (small.segment ∷ []) small.index [])) small.meta (ap meta_text said_is ∙ meta_is);
}

pub is_refused : IsRefused shelf.bare shelf.block 1
is_refused = record { refusal = NoFile (key.Meta small.a); read = refl; numbered = refl }

-- ---- a run, whatever the shelf has

workers_are : workers_of shelf.script 0 ≡ uploader ∷ []
unfolding hands_of_task with_hands hands_from places_from workers_from seats_from
workers_are = refl

abbrev tasks : List Task
tasks = record { line = 3; work = works.Upload small.a None } ∷ []

abbrev own_tasks : List Assigned
own_tasks = record { place = 0; task = record { line = 3; work = works.Upload small.a None } } ∷ []

abbrev ends_of : End → List (List End)
ends_of end = (end ∷ []) ∷ []

abbrev IsSeat : Entry → Type 0
IsSeat e = Contains (1 ∷ []) e.seat

-- with these entries of the upload, and this end of it
module _ (found : ℕ → FromShelf) (made : List Entry) (end : End) (seats : All IsSeat made) (own : of_seat 1 made ≡ made)
    (task : UploadTask (record { script = shelf.script; shelf = found }) small.a None made (Some end)) where
  abbrev setting : Setting
  setting = record { script = shelf.script; shelf = found }

  phase : PhaseRun (by_script setting) tasks (uploader ∷ []) none_held made (ends_of end) none_held
  phase = record {
    seats = by_workers_alone (1 ∷ []) made seats;
    runs = (
      record {
        own = own_tasks;
        are = ((refl, refl), refl);
        last = nothing_held;
        runs = subst (λ (es : List Entry). TasksRun (by_script setting) (who_of uploader) made nothing_held own_tasks es (end ∷ []) nothing_held) (sym own)
            (inl (made, [], end, [], nothing_held, sym (append-nil made), (task, refl), refl, (refl, refl, refl)));
        leaves = λ gateway none. absurd (cc (none));
      },
      tt,
    );
    kept = λ gateway none. refl;
  }

  run_by : IsJournal 1 (clock 1 0 ∷ made) → IsRunOf setting (clock 1 0 ∷ made) (ends_of end ∷ [])
  run_by kept = record {
    kept = kept;
    phases = inr (
      clock 1 0,
      made,
      [],
      ends_of end,
      [],
      none_held,
      ap (λ (es : List Entry). clock 1 0 ∷ es) (sym (append-nil made)),
      record { seat = refl; sets = refl },
      subst (λ (ws : List Worker). PhaseRun (by_script setting) tasks ws none_held made (ends_of end) none_held) (sym workers_are) phase,
      refl,
      (refl, refl),
    );
  }

  finished_by : IsFinished setting (ends_of end ∷ [])
  finished_by = (ap (map (λ (w : Worker). length w.tasks)) workers_are, refl)

-- ---- the shelf has the block

kept_upload : IsJournal 1 shelf.journal
kept_upload = record {
  few = lit≤ tt;
  numbered = each_of (λ before e. e.seq ≡ length before + 1) shelf.journal (refl, (refl, (refl, (refl, (refl, tt)))));
  lawful = each_of (λ before e. IsLawful e.op) shelf.journal (lit< tt, (tt, ((lit≤ tt, lit≤ tt), (tt, (tt, tt)))));
  kinds = each_of (λ before e. IsReplyTo e.op e.reply) shelf.journal (tt, (tt, (tt, (tt, (tt, tt)))));
  moments = each_of (λ before e. e.moment.ms ≡ moment_after 1 (last_moment before) e.op) shelf.journal (refl, (refl, (refl, (refl, (refl, tt)))));
  small = each_of (λ before e. e.moment.ms < 2 ^ 48) shelf.journal (lit< tt, (lit< tt, (lit< tt, (lit< tt, (lit< tt, tt)))));
}

upload_seats : All IsSeat shelf.upload
upload_seats = All-from_recursion IsSeat shelf.upload ((0, lit< tt, refl), ((0, lit< tt, refl), ((0, lit< tt, refl), ((0, lit< tt, refl), tt))))

upload_task : UploadTask shelf.full small.a None shelf.upload (Some (uploaded (shipped.Done 3)))
upload_task =
    (shelf.block, refl, inl (small.objects_with small.a small.meta, Some (shipped.Done 3), is_shipped, (refl, (refl, (refl, (refl, (refl, inr refl))))), inl (refl, λ n no. absurd (cc))))

pub run : IsRunOf shelf.full shelf.journal shelf.ends
run = run_by (λ ulid. holding shelf.files (small.up ∷ [])) shelf.upload (uploaded (shipped.Done 3)) upload_seats refl upload_task kept_upload

pub finished : IsFinished shelf.full shelf.ends
finished = finished_by (λ ulid. holding shelf.files (small.up ∷ [])) shelf.upload (uploaded (shipped.Done 3)) upload_seats refl upload_task

-- ---- what an answer has of it

pub exact : (used : Use) → IsExact shelf.full (shelf.asked used)
unfolding held held_by triples_under selected is_selected is_match final_of without is_among in_order placed IsDistinct IsStrictlySortedBy
exact used = record {
  ascending = (tt, tt);
  one_to_one = record {
    once = (tt, tt);
    taken = All-cons (Contains (small.triple ∷ [])) small.triple [] (0, lit< tt, refl) (All-nil (Contains (small.triple ∷ [])));
    complete = All-cons (λ t. list_any (has_same_key t) (small.triple ∷ []) ≡ true) small.triple [] refl (All-nil (λ (t : Triple). list_any (has_same_key t) (small.triple ∷ []) ≡ true));
  };
}

-- ---- it is bare

kept_bare : IsJournal 1 shelf.bare_journal
kept_bare = record {
  few = lit≤ tt;
  numbered = each_of (λ before e. e.seq ≡ length before + 1) shelf.bare_journal (refl, tt);
  lawful = each_of (λ before e. IsLawful e.op) shelf.bare_journal (lit< tt, tt);
  kinds = each_of (λ before e. IsReplyTo e.op e.reply) shelf.bare_journal (tt, tt);
  moments = each_of (λ before e. e.moment.ms ≡ moment_after 1 (last_moment before) e.op) shelf.bare_journal (refl, tt);
  small = each_of (λ before e. e.moment.ms < 2 ^ 48) shelf.bare_journal (lit< tt, tt);
}

bare_task : UploadTask shelf.bare small.a None [] (Some (refused 1))
bare_task = (shelf.block, refl, inr (inl (1, is_refused, (refl, inr refl))))

no_seats : All IsSeat []
no_seats = All-nil IsSeat

pub bare_run : IsRunOf shelf.bare shelf.bare_journal shelf.bare_ends
bare_run = run_by (λ ulid. refusing (NoFile (key.Meta ulid))) [] (refused 1) no_seats refl bare_task kept_bare

pub bare_finished : IsFinished shelf.bare shelf.bare_ends
bare_finished = finished_by (λ ulid. refusing (NoFile (key.Meta ulid))) [] (refused 1) no_seats refl bare_task

all_well : All (All (All IsWell)) shelf.bare_ends
all_well = All-from_recursion (All (All IsWell)) shelf.bare_ends (All-from_recursion (All IsWell) (ends_of (refused 1)) (All-from_recursion IsWell (refused 1 ∷ []) (tt, tt), tt), tt)

pub bare_well : AreWell shelf.bare_ends
bare_well end came = of_each IsWell shelf.bare_ends end all_well came
