-- The answered query of the script of one block.
use Rattle.std.proofs.Common.{◌≡◌, ◌<◌, ℕ, pos, true, List, [], ◌∷◌, ◌++◌, All, Contains, Some, refl, sym, subst, arith, lit<, lit≤}
use Rattle.std.proofs.lemmas.Int.{ints}
use Rattle.std.proofs.lemmas.List.Elements.{All-nil, All-cons, All-from_recursion}
use Rattle.std.specs.List.{IsDistinct, list_any}
use Rattle.std.specs.List.Sorted.{IsStrictlySortedBy}
use Rattle.label_sets.specs.Finals.{is_among, without, final_of}
use Rattle.label_sets.specs.Labels.{value_of}
use Rattle.label_sets.specs.Ordered.{in_order, placed}
use Rattle.label_sets.specs.Triples.{Triple, triples_under, triples_of, has_same_key}
use Rattle.matchers.specs.Selected.{is_selected, selected}
use Rattle.matchers.specs.Selectors.{is_match, accepts, is_accepted, value_or_empty}
use Rattle.block_keys.specs.declared.key.Key.TheVariants as key
use Rattle.world_core.specs.declared.entry.Entry.{Entry}
use Rattle.store_calls.specs.declared.series_call.SeriesEnd.TheVariants as called
use Rattle.script_workers.specs.declared.worker.Worker.{Worker}
use Rattle.script_workers.specs.declared.work.Work.TheVariants as works
use Rattle.lifecycle_core.specs.Completed.{IsCompletedAt, IsSettled, IsUploadedBefore, PutsMeta}
use Rattle.lifecycle_core.specs.Conducts.{CameTo}
use Rattle.lifecycle_core.specs.Guarantees.{IsExact, IsGiven, Named, NamesUploads}
use Rattle.lifecycle_core.specs.Held.{held, held_by}
use Rattle.lifecycle_core.specs.Tasks.{answered, sync_rules, synced}
use Rattle.meta_fetcher.specs.declared.sync.SyncEnd.TheVariants as fetched
use Rattle.tests_worked.specs.Entries.{clock, stored, absent}
use Rattle.tests_worked.specs.SmallBlock as small
use Rattle.tests_worked.specs.OneBlock as one
use Rattle.tests_worked.proofs.small.SmallMeta.{is_meta_text}
use Rattle.tests_worked.proofs.small.SmallCalls.{merge_given}
use Rattle.block_meta.specs.MetaFields.{fields_of}
use Rattle.tests_worked.proofs.one.OneBlock.{gateway, second_workers, second_tasks, second_ends}

answer_came : CameTo (gateway ∷ []) second_ends (Some 0) 1 (answered one.used (called.Answer (small.up ∷ []) (small.a ∷ [])))
answer_came = record {
  worker = gateway;
  own = synced (fetched.View one.view) ∷ answered one.used (called.Answer (small.up ∷ []) (small.a ∷ [])) ∷ [];
  among = (0, lit< tt, refl);
  is = refl;
  came = (1, lit< tt, refl);
}

pub given : IsGiven one.setting one.ends one.asked
unfolding triples_of triples_under
given = record {
  phase_number = 1;
  phase = record { line = 7; moment = record { ms = 1_800_000 }; tasks = second_tasks };
  place = 1;
  task = record { line = 9; work = works.Query (pos 0) (pos 5000) 0 };
  low = pos 0;
  high = pos 5000;
  selector_number = 0;
  in_phases = refl;
  in_tasks = refl;
  asks = refl;
  selects = refl;
  phase_ends = second_ends;
  phase_came = refl;
  parts = (small.up ∷ []) ∷ [];
  given = (
    subst (λ (ws : List Worker). CameTo ws second_ends (Some 0) 1 (answered one.used (called.Answer (small.up ∷ []) (small.a ∷ [])))) (sym second_workers) answer_came,
    tt,
  );
  every = refl;
  series = small.up ∷ [];
  merged = merge_given;
  samples = refl;
}

-- what the gateway names
abbrev pub one_named : Named
one_named = record { gateway = 0; used = one.used; low = pos 0; high = pos 5000; sources = small.a ∷ [] }

pub exact : IsExact one.setting one.asked
unfolding held held_by triples_under selected is_selected is_match accepts is_accepted value_or_empty value_of final_of without is_among in_order placed IsDistinct IsStrictlySortedBy
exact = record {
  ascending = (tt, tt);
  one_to_one = record {
    once = (tt, tt);
    taken = All-cons (Contains (small.triple ∷ [])) small.triple [] (0, lit< tt, refl) (All-nil (Contains (small.triple ∷ [])));
    complete = All-cons (λ t. list_any (has_same_key t) (small.triple ∷ []) ≡ true) small.triple [] refl (All-nil (λ (t : Triple). list_any (has_same_key t) (small.triple ∷ []) ≡ true));
  };
}

abbrev fresh : List Entry
fresh = clock 1 0 ∷ absent 2 1 1 (key.Meta small.a) ∷ stored 3 1 2 (key.Segment small.a 1) small.segment ∷ stored 4 1 3 (key.Index small.a) small.index ∷ []

complete : IsCompletedAt one.journal small.a 5 (fields_of small.said)
complete = record {
  before = fresh;
  entry = stored 5 1 4 (key.Meta small.a) small.meta;
  after = clock 6 1_800_000 ∷ one.sync ++ one.query;
  is = refl;
  number = refl;
  bytes = small.meta;
  puts = refl;
  landed = refl;
  text = is_meta_text;
  first = All-from_recursion (λ (e : Entry). ¬ PutsMeta small.a e) fresh (λ put. cc (put.1), (λ put. cc (put.1), (λ put. cc (put.1), (λ put. cc (put.1), tt))));
}

abbrev uploaded_before : (last : ℕ) → 5 < last → IsUploadedBefore one.setting one.journal small.a last
uploaded_before last later = record { is_declared = refl; seq = 5; meta = fields_of small.said; completed = complete; earlier = later }

pub names : NamesUploads one.setting one.journal one.asked
names = All-cons (λ (n : Named). All (λ ulid. IsUploadedBefore one.setting one.journal ulid n.used.last) n.sources) one_named []
    (All-cons (λ ulid. IsUploadedBefore one.setting one.journal ulid 9) small.a [] (uploaded_before 9 (lit< tt)) (All-nil (λ ulid. IsUploadedBefore one.setting one.journal ulid 9)))
    (All-nil (λ (n : Named). All (λ ulid. IsUploadedBefore one.setting one.journal ulid n.used.last) n.sources))

pub settled : IsSettled one.setting one.journal (sync_rules one.setting 0) one.used small.a
settled = record { uploaded = uploaded_before 7 (lit< tt); old = lit≤ tt; fresh = λ expired. expired; passes = record { from = omega (arith, ints); upto = omega (arith, ints) } }
