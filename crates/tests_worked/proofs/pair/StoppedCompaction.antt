-- The run in which the compaction of the two blocks is stopped, and a cleaning deletes what it had put.
use Rattle.std.proofs.Common.{◌≡◌, ◌+◌, ◌^◌, ◌<◌, inl, inr, ℕ, suc, List, [], ◌∷◌, ◌++◌, length, Contains, Some, None, refl, sym, ◌∙◌, ap, subst, arith, codes, lit<, lit≤}
use Rattle.std.specs.Prelude.{drop, take}
use Rattle.std.specs.List.{All}
use Rattle.std.proofs.lemmas.List.Elements.{All-contains, All-from_recursion, Contains-append_right}
use Rattle.base.proofs.Membership.{contains_first}
use Rattle.ulid_core.specs.FixedDigits.{fixed_digits}
use Rattle.ulid_core.specs.UlidText.{text_of, character, alphabet}
use Rattle.block_keys.specs.Keys.{key_ulid}
use Rattle.block_keys.specs.KeyText.{key_named, key_text, name_of, number_of, segment_of, six_digits}
use Rattle.block_keys.specs.declared.key.Key.{Key}
use Rattle.block_keys.specs.declared.key.Key.TheVariants as key
use Rattle.block_keys.specs.declared.object.Object.{Object}
use Rattle.block_meta.specs.MetaFields.{MetaFields}
use Rattle.bucket_core.specs.Pages.{IsName, IsPage}
use Rattle.moment_core.specs.StandardRules.{standard_rules}
use Rattle.world_core.specs.Moments.{moment_after, last_moment}
use Rattle.world_core.specs.Operations.{IsLawful, IsReplyTo}
use Rattle.world_core.specs.Plans.{Plan, Runs}
use Rattle.world_core.specs.Standing.{IsHonest, Tells, stands}
use Rattle.world_core.specs.Walks.{ulids_in}
use Rattle.world_core.specs.Worlds.{IsJournal}
use Rattle.world_core.specs.declared.entry.Entry.{Entry}
use Rattle.world_core.proofs.PlanLaws.{front}
use Rattle.cleaner.specs.Cleanings.{CleanRun, cleaning as clean_plan, deleting, listing, looking, none_deleted, one_partial_more, rules_of, walking}
use Rattle.cleaner.specs.Objects.{objects_of}
use Rattle.cleaner.specs.declared.clean.CleanEnd.{CleanEnd}
use Rattle.cleaner.specs.declared.clean.CleanEnd.TheVariants as cleaning
use Rattle.cleaner.specs.declared.clean_rules.CleanRules.{CleanRules}
use Rattle.script_workers.specs.Hands.{hands_of_task, with_hands, hands_from, places_from, workers_from, seats_from}
use Rattle.script_workers.specs.declared.work.Work.TheVariants as works
use Rattle.script_core.specs.Workers.{workers_of}
use Rattle.lifecycle_core.specs.Completed.{IsCompletedAt, PutsMeta}
use Rattle.lifecycle_core.specs.Decisions.{DecidesToDelete}
use Rattle.lifecycle_core.specs.Holdings.{none_held}
use Rattle.lifecycle_core.specs.Phases.{IsFinished, IsRunOf, by_workers}
use Rattle.lifecycle_core.specs.Tasks.{cleaned, stopped}
use Rattle.lifecycle_core.specs.Ways.{PhasesRun}
use Rattle.tests_worked.specs.CompactedPair as pair
use Rattle.tests_worked.specs.Entries.{clock}
use Rattle.tests_worked.specs.SmallBlock as small
use Rattle.tests_worked.specs.StoppedCompaction as row
use Rattle.tests_worked.proofs.pair.CompactedPair.{a_uploader, b_uploader, two_uploaders, uploads_done, uploads_run}
use Rattle.tests_worked.proofs.small.Each.{each_of}
use Rattle.tests_worked.proofs.expired.LonePhases.{done_by, goes_on, lone, lone_phase}
use Rattle.tests_worked.proofs.pair.PairBlocks.{not_new}
use Rattle.tests_worked.proofs.pair.PairBucket as bucket
use Rattle.tests_worked.proofs.pair.PairBucket.{contents_of, data_up, one_stands}
use Rattle.tests_worked.proofs.pair.PairMetas.{b_reads, n_reads}
use Rattle.tests_worked.proofs.pair.PairRounds.{data_run}
use Rattle.tests_worked.proofs.small.SmallMeta.{a_reads}

-- ---- the cleaning

abbrev rules : CleanRules
rules = rules_of standard_rules

three_listed : ulids_in (small.a_text ∷ pair.b_text ∷ pair.n_text ∷ []) ≡ small.a ∷ pair.b ∷ pair.n ∷ []
three_listed = rw (a_reads, b_reads, n_reads) refl

objects_are : objects_of pair.n row.objects ≡ key.Meta pair.n ∷ key.Segment pair.n 1 ∷ key.Index pair.n ∷ key.Mark pair.n ∷ []
unfolding key_named segment_of number_of
objects_are = refl

-- what is left when the partial is deleted
abbrev then_done : Plan CleanEnd
then_done = looking rules (one_partial_more none_deleted) []

deletes_made : (more : ℕ) → Runs (walking rules pair.n then_done (suc more) []) row.deletion (Some (cleaning.Done 0 1))
deletes_made more =
    (refl, subst (λ (keys : List Key). Runs (deleting keys then_done) row.deletes (Some (cleaning.Done 0 1))) (sym objects_are) (refl, (refl, (refl, (refl, (refl, inr refl))))))

listing_made : (more : ℕ) → Runs (listing rules (suc more) []) row.cleaning_made (Some (cleaning.Done 0 1))
listing_made more = (
  refl,
  subst (λ (ulids : List ℕ). Runs (looking rules none_deleted ulids) (row.looks ++ row.no_meta ∷ row.deletion) (Some (cleaning.Done 0 1))) (sym three_listed)
      (refl, (refl, (refl, (refl, (refl, (refl, deletes_made 999_999)))))),
)

pub cleaning_run : CleanRun standard_rules row.cleaning_made (Some (cleaning.Done 0 1))
cleaning_run = listing_made 999_999

abbrev own_front : List Entry
own_front = row.page ∷ row.looks ++ row.no_meta ∷ []

cleaning_begun : CleanRun standard_rules own_front None
cleaning_begun = front (clean_plan standard_rules) own_front row.block_page row.deletes (Some (cleaning.Done 0 1)) cleaning_run

pub decides : DecidesToDelete row.setting row.until_no_meta row.no_meta pair.n
decides = record { cleans = cleaning_begun; why = inr (record { asks = refl; absent = refl; old = refl }) }

-- ---- what the bucket shows meanwhile

left_a_unmarked : contents_of data_up (key_text (key.Mark small.a)) ≡ None
unfolding key_text name_of six_digits text_of character alphabet fixed_digits
left_a_unmarked = refl

left_a_meta : contents_of data_up (key_text (key.Meta small.a)) ≡ Some small.meta
unfolding key_text name_of six_digits text_of character alphabet fixed_digits
left_a_meta = refl

left_b_unmarked : contents_of data_up (key_text (key.Mark pair.b)) ≡ None
unfolding key_text name_of six_digits text_of character alphabet fixed_digits
left_b_unmarked = refl

left_b_meta : contents_of data_up (key_text (key.Meta pair.b)) ≡ Some pair.b_meta
unfolding key_text name_of six_digits text_of character alphabet fixed_digits
left_b_meta = refl

left_n_unmarked : contents_of data_up (key_text (key.Mark pair.n)) ≡ None
unfolding key_text name_of six_digits text_of character alphabet fixed_digits
left_n_unmarked = refl

left_n_unmet : contents_of data_up (key_text (key.Meta pair.n)) ≡ None
unfolding key_text name_of six_digits text_of character alphabet fixed_digits
left_n_unmet = refl

-- the names of the new block's objects
abbrev Named : List ℕ → Type 0
Named = IsName (contents_of data_up) (text_of pair.n)

segment_named : Named (codes "chunks/000001")
unfolding key_text name_of six_digits text_of character alphabet fixed_digits
segment_named = (key_text (key.Segment pair.n 1), refl, refl)

index_named : Named (codes "index")
unfolding key_text name_of six_digits text_of character alphabet fixed_digits
index_named = (key_text (key.Index pair.n), refl, refl)

index_rest : drop 27 (key_text (key.Index pair.n)) ≡ codes "index"
unfolding key_text name_of six_digits text_of character alphabet fixed_digits
index_rest = refl

segment_rest : drop 27 (key_text (key.Segment pair.n 1)) ≡ codes "chunks/000001"
unfolding key_text name_of six_digits text_of character alphabet fixed_digits
segment_rest = refl

-- no object of another block is listed under this one's name
abbrev ListsOwn : Object → Type 0
ListsOwn o = (name : List ℕ) → key_text o.key ≡ pair.n_text ++ 47 ∷ name → Contains row.objects name

abbrev first_byte : List ℕ → ℕ
first_byte [] = 0
first_byte (byte ∷ bytes) = byte

first_six : codes "000000" ≡ codes "000001" → ⊥
first_six same = let bytes : 48 ≡ 49 = ap (λ (l : List ℕ). first_byte (drop 5 l)) same in omega (arith, bytes)

at_Meta_pair_b : (name : List ℕ) → key_text (key.Meta pair.b) ≡ pair.n_text ++ 47 ∷ name → ⊥
unfolding key_text name_of six_digits text_of character alphabet fixed_digits
at_Meta_pair_b name is = first_six (ap (take 6) is)

at_Index_pair_b : (name : List ℕ) → key_text (key.Index pair.b) ≡ pair.n_text ++ 47 ∷ name → ⊥
unfolding key_text name_of six_digits text_of character alphabet fixed_digits
at_Index_pair_b name is = first_six (ap (take 6) is)

at_Segment_pair_b_1 : (name : List ℕ) → key_text (key.Segment pair.b 1) ≡ pair.n_text ++ 47 ∷ name → ⊥
unfolding key_text name_of six_digits text_of character alphabet fixed_digits
at_Segment_pair_b_1 name is = first_six (ap (take 6) is)

at_Meta_small_a : (name : List ℕ) → key_text (key.Meta small.a) ≡ pair.n_text ++ 47 ∷ name → ⊥
unfolding key_text name_of six_digits text_of character alphabet fixed_digits
at_Meta_small_a name is = first_six (ap (take 6) is)

at_Index_small_a : (name : List ℕ) → key_text (key.Index small.a) ≡ pair.n_text ++ 47 ∷ name → ⊥
unfolding key_text name_of six_digits text_of character alphabet fixed_digits
at_Index_small_a name is = first_six (ap (take 6) is)

at_Segment_small_a_1 : (name : List ℕ) → key_text (key.Segment small.a 1) ≡ pair.n_text ++ 47 ∷ name → ⊥
unfolding key_text name_of six_digits text_of character alphabet fixed_digits
at_Segment_small_a_1 name is = first_six (ap (take 6) is)

all_own : All ListsOwn data_up
all_own = All-from_recursion ListsOwn data_up (λ name is. (1, lit< tt, sym index_rest ∙ ap (drop 27) is), (λ name is. (0, lit< tt, sym segment_rest ∙ ap (drop 27) is), (λ name is. absurd (at_Meta_pair_b name is), (λ name is. absurd (at_Index_pair_b name is), (λ name is. absurd (at_Segment_pair_b_1 name is), (λ name is. absurd (at_Meta_small_a name is), (λ name is. absurd (at_Index_small_a name is), (λ name is. absurd (at_Segment_small_a_1 name is), tt))))))))

own_text : (name : List ℕ) → (own : Named name) → own.0 ≡ pair.n_text ++ 47 ∷ name
unfolding text_of character alphabet fixed_digits
own_text name own = own.2

no_other : (name : List ℕ) → Named name → Contains row.objects name
no_other name own = let one = one_stands data_up own.0 own.1 in All-contains ListsOwn data_up one.0 all_own one.1 name (one.2 ∙ own_text name own)

names : IsPage (contents_of data_up) (text_of pair.n) [] 1_000 row.objects
names = record {
  ascend = (refl, (refl, tt));
  few = lit≤ tt;
  stand = All-from_recursion Named row.objects (segment_named, (index_named, tt));
  whole = λ name own after. inl (no_other name own);
}

-- ---- the run

second_workers : workers_of row.script 1 ≡ lone 3 ∷ []
unfolding hands_of_task with_hands hands_from places_from workers_from seats_from
second_workers = refl

third_workers : workers_of row.script 2 ≡ lone 4 ∷ []
unfolding hands_of_task with_hands hands_from places_from workers_from seats_from
third_workers = refl

abbrev third_on : List Entry
third_on = clock 23 180_000_000 ∷ row.cleaning_made ++ []

abbrev second_on : List Entry
second_on = clock 10 1_800_000 ∷ row.compaction ++ third_on

abbrev first_on : List Entry
first_on = clock 1 0 ∷ (pair.a_upload ++ pair.b_upload) ++ second_on

third_phases : PhasesRun (by_workers row.setting) 2 none_held ((pair.phase 11 180_000_000 (works.Clean None)) ∷ []) third_on (((cleaned (cleaning.Done 0 1) ∷ []) ∷ []) ∷ [])
third_phases =
    goes_on row.setting 2 none_held none_held (pair.phase 11 180_000_000 (works.Clean None)) [] (clock 23 180_000_000) row.cleaning_made [] ((cleaned (cleaning.Done 0 1) ∷ []) ∷ []) [] (lone 4 ∷ []) third_workers (record { seat = refl; sets = refl })
    (lone_phase row.setting (record { line = 12; work = works.Clean None }) 4 row.cleaning_made (cleaned (cleaning.Done 0 1)) (All-from_recursion (λ (e : Entry). e.seat ≡ 4) row.cleaning_made (refl, (refl, (refl, (refl, (refl, (refl, (refl, (refl, (refl, (refl, (refl, (refl, tt))))))))))))) refl none_held
    ((Some (cleaning.Done 0 1), cleaning_run, inl (refl, λ n no. absurd (cc (no)))), refl))
    (refl, refl)

second_phases : PhasesRun (by_workers row.setting) 1 none_held ((pair.phase 9 1_800_000 (works.Compact (Some 12))) ∷ ((pair.phase 11 180_000_000 (works.Clean None)) ∷ [])) second_on (((stopped 12 ∷ []) ∷ []) ∷ (((cleaned (cleaning.Done 0 1) ∷ []) ∷ []) ∷ []))
second_phases =
    goes_on row.setting 1 none_held none_held (pair.phase 9 1_800_000 (works.Compact (Some 12))) ((pair.phase 11 180_000_000 (works.Clean None)) ∷ []) (clock 10 1_800_000) row.compaction third_on ((stopped 12 ∷ []) ∷ []) (((cleaned (cleaning.Done 0 1) ∷ []) ∷ []) ∷ []) (lone 3 ∷ []) second_workers (record { seat = refl; sets = refl })
    (lone_phase row.setting (record { line = 10; work = works.Compact (Some 12) }) 3 row.compaction (stopped 12) (All-from_recursion (λ (e : Entry). e.seat ≡ 3) row.compaction (refl, (refl, (refl, (refl, (refl, (refl, (refl, (refl, (refl, (refl, (refl, (refl, tt))))))))))))) refl none_held
    ((None, data_run, inr (12, (refl, lit< tt, refl), refl)), refl))
    third_phases

first_phases : PhasesRun (by_workers row.setting) 0 none_held (pair.uploads ∷ ((pair.phase 9 1_800_000 (works.Compact (Some 12))) ∷ (pair.phase 11 180_000_000 (works.Clean None)) ∷ [])) first_on ((pair.upload_ends) ∷ (((stopped 12 ∷ []) ∷ []) ∷ ((cleaned (cleaning.Done 0 1) ∷ []) ∷ []) ∷ []))
first_phases =
    goes_on row.setting 0 none_held none_held pair.uploads ((pair.phase 9 1_800_000 (works.Compact (Some 12))) ∷ (pair.phase 11 180_000_000 (works.Clean None)) ∷ []) (clock 1 0) (pair.a_upload ++ pair.b_upload) second_on (pair.upload_ends) (((stopped 12 ∷ []) ∷ []) ∷ ((cleaned (cleaning.Done 0 1) ∷ []) ∷ []) ∷ []) (a_uploader ∷ b_uploader ∷ []) (two_uploaders row.phases) (record { seat = refl; sets = refl })
    (uploads_run row.phases)
    second_phases

phases : PhasesRun (by_workers row.setting) 0 none_held row.script.phases row.journal row.ends
phases = first_phases

kept : IsJournal 1 row.journal
kept = record {
  few = lit≤ tt;
  numbered = each_of (λ before e. e.seq ≡ length before + 1) row.journal (refl, (refl, (refl, (refl, (refl, (refl, (refl, (refl, (refl, (refl, (refl, (refl, (refl, (refl, (refl, (refl, (refl, (refl, (refl, (refl, (refl, (refl, (refl, (refl, (refl, (refl, (refl, (refl, (refl, (refl, (refl, (refl, (refl, (refl, (refl, tt)))))))))))))))))))))))))))))))))));
  lawful = each_of (λ before e. IsLawful e.op) row.journal (lit< tt, (tt, ((lit≤ tt, lit≤ tt), (tt, (tt, (tt, ((lit≤ tt, lit≤ tt), (tt, (tt, (lit< tt, (lit≤ tt, (tt, (tt, (tt, (tt, (tt, ((lit≤ tt, lit≤ tt), (tt, ((lit≤ tt, lit≤ tt), (tt, ((lit≤ tt, lit≤ tt), (tt, (lit< tt, (lit≤ tt, (tt, (tt, (tt, (tt, (tt, (tt, (lit≤ tt, (tt, ((lit≤ tt, lit≤ tt), (tt, (tt, tt)))))))))))))))))))))))))))))))))));
  kinds = each_of (λ before e. IsReplyTo e.op e.reply) row.journal (tt, (tt, (tt, (tt, (tt, (tt, (tt, (tt, (tt, (tt, (tt, (tt, (tt, (tt, (tt, (tt, (tt, (tt, (tt, (tt, (tt, (tt, (tt, (tt, (tt, (tt, (tt, (tt, (tt, (tt, (tt, (tt, (tt, (tt, (tt, tt)))))))))))))))))))))))))))))))))));
  moments = each_of (λ before e. e.moment.ms ≡ moment_after 1 (last_moment before) e.op) row.journal (refl, (refl, (refl, (refl, (refl, (refl, (refl, (refl, (refl, (refl, (refl, (refl, (refl, (refl, (refl, (refl, (refl, (refl, (refl, (refl, (refl, (refl, (refl, (refl, (refl, (refl, (refl, (refl, (refl, (refl, (refl, (refl, (refl, (refl, (refl, tt)))))))))))))))))))))))))))))))))));
  small = each_of (λ before e. e.moment.ms < 2 ^ 48) row.journal (lit< tt, (lit< tt, (lit< tt, (lit< tt, (lit< tt, (lit< tt, (lit< tt, (lit< tt, (lit< tt, (lit< tt, (lit< tt, (lit< tt, (lit< tt, (lit< tt, (lit< tt, (lit< tt, (lit< tt, (lit< tt, (lit< tt, (lit< tt, (lit< tt, (lit< tt, (lit< tt, (lit< tt, (lit< tt, (lit< tt, (lit< tt, (lit< tt, (lit< tt, (lit< tt, (lit< tt, (lit< tt, (lit< tt, (lit< tt, (lit< tt, tt)))))))))))))))))))))))))))))))))));
}

pub run : IsRunOf row.setting row.journal row.ends
run = record { kept = kept; phases = phases }

pub finished : IsFinished row.setting row.ends
finished = (uploads_done row.phases, (done_by (workers_of row.script 1) (lone 3) (stopped 12) second_workers refl, (done_by (workers_of row.script 2) (lone 4) (cleaned (cleaning.Done 0 1)) third_workers refl, refl)))

pub honest : IsHonest row.journal
honest = each_of (λ before e. Tells (stands before) e.op e.reply) row.journal (tt, (refl, (tt, (tt, (tt, (bucket.shows_b_unmet, (tt, (tt, (tt, (tt, (bucket.two_listed, (bucket.shows_a_unmarked, (bucket.shows_a_meta, (bucket.shows_b_unmarked, (bucket.shows_b_meta, (bucket.shows_a_index, (bucket.shows_a_segment, (bucket.shows_b_index, (bucket.shows_b_segment, (bucket.shows_n_unmet, (tt, (tt, (tt, (bucket.data_listed, (left_a_unmarked, (left_a_meta, (left_b_unmarked, (left_b_meta, (left_n_unmarked, (left_n_unmet, (names, (tt, (tt, (tt, (tt, tt)))))))))))))))))))))))))))))))))))

-- ---- the new block is complete at no entry

no_meta_put : All (λ (e : Entry). ¬ PutsMeta pair.n e) row.journal
no_meta_put = All-from_recursion (λ (e : Entry). ¬ PutsMeta pair.n e) row.journal (λ put. cc (put.1), (λ put. cc (put.1), (λ put. cc (put.1), (λ put. cc (put.1), (λ put. let same : key.Meta small.a ≡ key.Meta pair.n = cc (put.1) in not_new small.a (lit≤ tt) (ap key_ulid same), (λ put. cc (put.1), (λ put. cc (put.1), (λ put. cc (put.1), (λ put. let same : key.Meta pair.b ≡ key.Meta pair.n = cc (put.1) in not_new pair.b (lit≤ tt) (ap key_ulid same), (λ put. cc (put.1), (λ put. cc (put.1), (λ put. cc (put.1), (λ put. cc (put.1), (λ put. cc (put.1), (λ put. cc (put.1), (λ put. cc (put.1), (λ put. cc (put.1), (λ put. cc (put.1), (λ put. cc (put.1), (λ put. cc (put.1), (λ put. cc (put.1), (λ put. cc (put.1), (λ put. cc (put.1), (λ put. cc (put.1), (λ put. cc (put.1), (λ put. cc (put.1), (λ put. cc (put.1), (λ put. cc (put.1), (λ put. cc (put.1), (λ put. cc (put.1), (λ put. cc (put.1), (λ put. cc (put.1), (λ put. cc (put.1), (λ put. cc (put.1), (λ put. cc (put.1), tt)))))))))))))))))))))))))))))))))))

pub incomplete : (seq : ℕ) (meta : MetaFields) → ¬ IsCompletedAt row.journal pair.n seq meta
incomplete seq meta done =
    let among : Contains row.journal done.entry = subst (λ (es : List Entry). Contains es done.entry) (sym done.is) (Contains-append_right done.before (done.entry ∷ done.after) done.entry (contains_first done.entry done.after)) in
    All-contains (λ (e : Entry). ¬ PutsMeta pair.n e) row.journal done.entry no_meta_put among (done.bytes, done.puts, done.landed)
