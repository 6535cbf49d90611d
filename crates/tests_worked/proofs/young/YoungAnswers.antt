-- The answered queries of the script of a young block.
use Rattle.std.proofs.Common.{◌≡◌, ◌<◌, ℕ, pos, true, List, [], ◌∷◌, ◌++◌, Contains, Some, refl, sym, subst, arith, lit<, lit≤}
use Rattle.std.proofs.lemmas.List.Elements.{All-nil, All-cons, All-from_recursion, All-head}
use Rattle.std.specs.List.{IsDistinct, list_any}
use Rattle.std.specs.List.Sorted.{IsStrictlySortedBy}
use Rattle.label_sets.specs.Triples.{Triple, triples_under, triples_of, has_same_key}
use Rattle.matchers.specs.Selected.{is_selected, selected}
use Rattle.meta_fetcher.specs.declared.sync.SyncEnd.TheVariants as fetched
use Rattle.script_workers.specs.declared.worker.Worker.{Worker}
use Rattle.script_workers.specs.declared.work.Work.TheVariants as works
use Rattle.world_core.specs.declared.entry.Entry.{Entry}
use Rattle.lifecycle_core.specs.Completed.{IsSettled, IsUploadedBefore, PutsMeta}
use Rattle.lifecycle_core.specs.Conducts.{CameTo}
use Rattle.lifecycle_core.specs.Guarantees.{IsExact, IsGiven, Named}
use Rattle.lifecycle_core.specs.Held.{held, held_by}
use Rattle.lifecycle_core.specs.Holdings.{Use}
use Rattle.lifecycle_core.specs.Tasks.{sync_rules, synced}
use Rattle.label_sets.specs.Finals.{is_among, without, final_of}
use Rattle.label_sets.specs.Ordered.{in_order, placed}
use Rattle.matchers.specs.Selectors.{is_match}
use Rattle.block_keys.specs.declared.key.Key.TheVariants as key
use Rattle.tests_worked.specs.SmallBlock as small
use Rattle.tests_worked.specs.SmallRuns as runs
use Rattle.tests_worked.specs.Entries.{clock, stored, absent}
use Rattle.tests_worked.specs.YoungBlock as young
use Rattle.block_meta.specs.MetaFields.{fields_of}
use Rattle.tests_worked.proofs.small.SmallMeta.{is_meta_text}
use Rattle.tests_worked.proofs.small.SmallCalls.{merge_given}
use Rattle.lifecycle_core.proofs.answers.Joining.{none_merged}
use Rattle.tests_worked.proofs.young.YoungBlock.{first_gateway, uploader, second_gateway, first_workers, second_workers, first_tasks, second_tasks, first_ends, second_ends}

none_came : (used : Use) → CameTo (first_gateway ∷ uploader ∷ []) (first_ends used) (Some 0) 2 (young.no_answer used)
none_came used = record {
  worker = first_gateway;
  own = synced (fetched.View used.view) ∷ young.no_answer used ∷ [];
  among = (0, lit< tt, refl);
  is = refl;
  came = (1, lit< tt, refl);
}

pub none_given : (early late : Use) → IsGiven young.setting (young.ends_by early late) (young.first_asked early)
unfolding triples_of
none_given early late = record {
  phase_number = 0;
  phase = record { line = 5; moment = record { ms = 0 }; tasks = first_tasks };
  place = 2;
  task = record { line = 8; work = works.Query (pos 0) (pos 5000) 0 };
  low = pos 0;
  high = pos 5000;
  selector_number = 0;
  in_phases = refl;
  in_tasks = refl;
  asks = refl;
  selects = refl;
  phase_ends = first_ends early;
  phase_came = refl;
  parts = [] ∷ [];
  given = (
    subst (λ (ws : List Worker). CameTo ws (first_ends early) (Some 0) 2 (young.no_answer early)) (sym first_workers) (none_came early),
    tt,
  );
  every = refl;
  series = [];
  merged = none_merged;
  samples = refl;
}

pub none_exact : (used : Use) → IsExact young.setting (young.first_asked used)
unfolding held selected IsDistinct IsStrictlySortedBy
none_exact used = record {
  ascending = tt;
  one_to_one = record { once = tt; taken = All-nil (Contains []); complete = All-nil (λ (t : Triple). list_any (has_same_key t) [] ≡ true) };
}

-- no block is old enough for a view that began in the first half hour
pub not_settled : (journal : List Entry) (used : Use) → used.view.begin.ms < 1_800_000 → (ulid : ℕ) → ¬ IsSettled young.setting journal (sync_rules young.setting 0) used ulid
not_settled journal used early ulid settled = omega (arith, settled.old)

-- with the upload first, the block was complete before the first sync began
abbrev before_meta : List Entry
before_meta = clock 1 0 ∷ absent 2 2 1 (key.Meta small.a) ∷ stored 3 2 2 (key.Segment small.a 1) small.segment ∷ stored 4 2 3 (key.Index small.a) small.index ∷ []

early_upload : IsUploadedBefore young.setting young.journal_turned small.a 6
early_upload = record {
  is_declared = refl;
  seq = 5;
  meta = fields_of small.said;
  completed = record {
    before = before_meta;
    entry = stored 5 2 4 (key.Meta small.a) small.meta;
    after = runs.sync 6 1 5 ++ clock 9 1_800_000 ∷ young.second_journal_turned;
    is = refl;
    number = refl;
    bytes = small.meta;
    puts = refl;
    landed = refl;
    text = is_meta_text;
    first = All-from_recursion (λ (e : Entry). ¬ PutsMeta small.a e) before_meta (λ put. cc (put.1), (λ put. cc (put.1), (λ put. cc (put.1), (λ put. cc (put.1), tt))));
  };
  earlier = lit< tt;
}

pub young_left_out : ¬ young.NamesAll young.IsUploadedEarly (young.first_asked young.early_turned)
young_left_out names =
    let first = All-head (λ (n : Named). (ulid : ℕ) → young.IsUploadedEarly n.used ulid → Contains n.sources ulid) (record { gateway = 0; used = young.early_turned; low = pos 0; high = pos 5000; sources = [] }) [] names in
    let among = first small.a (early_upload, lit≤ tt) in omega (arith, among.1)

-- ---- the second query

some_came : (used : Use) → CameTo (second_gateway ∷ []) (second_ends used) (Some 0) 1 (young.block_answer used)
some_came used = record {
  worker = second_gateway;
  own = synced (fetched.View used.view) ∷ young.block_answer used ∷ [];
  among = (0, lit< tt, refl);
  is = refl;
  came = (1, lit< tt, refl);
}

pub some_given : (early late : Use) → IsGiven young.setting (young.ends_by early late) (young.second_asked late)
unfolding triples_of triples_under
some_given early late = record {
  phase_number = 1;
  phase = record { line = 9; moment = record { ms = 1_800_000 }; tasks = second_tasks };
  place = 1;
  task = record { line = 11; work = works.Query (pos 0) (pos 5000) 1 };
  low = pos 0;
  high = pos 5000;
  selector_number = 1;
  in_phases = refl;
  in_tasks = refl;
  asks = refl;
  selects = refl;
  phase_ends = second_ends late;
  phase_came = refl;
  parts = (small.up ∷ []) ∷ [];
  given = (
    subst (λ (ws : List Worker). CameTo ws (second_ends late) (Some 0) 1 (young.block_answer late)) (sym second_workers) (some_came late),
    tt,
  );
  every = refl;
  series = small.up ∷ [];
  merged = merge_given;
  samples = refl;
}

pub some_exact : (used : Use) → IsExact young.setting (young.second_asked used)
unfolding held held_by triples_under selected is_selected is_match final_of without is_among in_order placed IsDistinct IsStrictlySortedBy
some_exact used = record {
  ascending = (tt, tt);
  one_to_one = record {
    once = (tt, tt);
    taken = All-cons (Contains (small.triple ∷ [])) small.triple [] (0, lit< tt, refl) (All-nil (Contains (small.triple ∷ [])));
    complete = All-cons (λ t. list_any (has_same_key t) (small.triple ∷ []) ≡ true) small.triple [] refl (All-nil (λ (t : Triple). list_any (has_same_key t) (small.triple ∷ []) ≡ true));
  };
}
