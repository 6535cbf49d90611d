-- A query over a view that keeps the small block: five ranges of the index and one of the segment give its sample.
use Rattle.std.proofs.Common.{◌≡◌, ◌≢◌, inr, ℕ, ℤ, ◌==◌, pos, true, false, cond, ◌||◌, List, [], ◌∷◌, length, Contains, Some, None, Ok, codes, refl, sym, ◌∙◌, ap, subst, arith, lit<}
use Rattle.std.specs.Prelude.{flat_map, int_le}
use Rattle.std.specs.List.{find, list_any}
use Rattle.std.specs.List.Sorted.{IsStrictlySortedBy}
use Rattle.std.specs.Ordering.{int_cmp, is_le}
use Rattle.std.proofs.lemmas.List.Elements.{All-nil, All-cons}
use Rattle.base.proofs.Membership.{only_member}
use Rattle.wire_bytes.specs.Fields.{groups_of, uvarint_at}
use Rattle.label_sets.specs.Finals.{is_among, without, final_of}
use Rattle.label_sets.specs.Labels.{value_of}
use Rattle.label_sets.specs.Ordered.{in_order, placed}
use Rattle.label_sets.specs.Triples.{Triple, has_same_key, triples_of, triples_under}
use Rattle.label_sets.specs.declared.series.Series.{Series}
use Rattle.block_keys.specs.declared.key.Key.TheVariants as key
use Rattle.matchers.specs.declared.condition.Condition.TheVariants.{Equal}
use Rattle.matchers.specs.declared.matcher.Matcher.{Matcher}
use Rattle.matchers.specs.Selectors.{is_accepted}
use Rattle.vertical_merge.specs.Merged.{AreFirst, IsMerge}
use Rattle.world_core.specs.Plans.{Runs}
use Rattle.world_core.proofs.PlanParts.{joined}
use Rattle.index_parts.specs.declared.postings_row.PostingsRow.{PostingsRow}
use Rattle.index_parts.specs.Parts.{known}
use Rattle.index_v2.specs.PostingsLists.{list_of}
use Rattle.index_v2.specs.SeriesLabels.{numbered_at}
use Rattle.index_v2.specs.WholeReading.{lists_at}
use Rattle.series_selection.specs.Selections.{IsListed, IsSelection, IsTaken, TakesBy, rows_read}
use Rattle.meta_fetcher.specs.declared.view.View.{View}
use Rattle.base.specs.Firsts.{each_at}
use Rattle.store_chunks.specs.Taken.{shown}
use Rattle.store_calls.specs.BlockReads.{gives, block_call}
use Rattle.store_ranges.specs.ChunkRanges.{IsSetOf, group_of}
use Rattle.store_chunks.specs.ChunkReads.{chunk_len_at, chunk_samples_at, glimpse_at, read, shows, stored_at, tested_at, tests_at}
use Rattle.store_ranges.specs.IndexRanges.{end_of}
use Rattle.store_ranges.specs.Reads.{Block, Cache, Query, kept, range_of, used as used_range}
use Rattle.store_calls.proofs.SmallReads.{one_number, one_stretch, only, piece}
use Rattle.store_calls.specs.SeriesCalls.{CallEnd, SeriesRun, after_block, asking, reading, took}
use Rattle.store_calls.specs.declared.series_call.SeriesEnd.TheVariants as called
use Rattle.lifecycle_core.specs.Holdings.{Holding, Use, empty_cache}
use Rattle.lifecycle_core.specs.Tasks.{QueryTask, answered}
use Rattle.tests_worked.specs.OneBlock as one
use Rattle.tests_worked.specs.SmallBlock as small
use Rattle.tests_worked.specs.SmallFiles as files
use Rattle.tests_worked.specs.SmallRuns as runs
use Rattle.tests_worked.proofs.small.SmallBytes.{chunk_read, content_read}
use Rattle.tests_worked.proofs.small.SmallIndex.{all_read, all_row, contents_read, label_read, label_row, listed, part, place, rows, series_read, symbols_read, table_read, texts}

-- ---- merges of its one sample

only_first : (t : Triple) → has_same_key t t ≡ true → AreFirst (t ∷ []) (t ∷ [])
unfolding IsStrictlySortedBy
only_first t same = record {
  ascending = (tt, tt);
  first = All-cons (λ u. find (has_same_key u) (t ∷ []) ≡ Some u) t [] (ap (λ b. cond b (Some t) None) same) (All-nil (λ u. find (has_same_key u) (t ∷ []) ≡ Some u));
  complete = All-cons (λ u. list_any (has_same_key u) (t ∷ []) ≡ true) t [] (ap (λ b. b || false) same) (All-nil (λ u. list_any (has_same_key u) (t ∷ []) ≡ true));
}

merge_up : IsMerge (small.triple ∷ []) (small.up ∷ [])
unfolding triples_of triples_under IsStrictlySortedBy
merge_up = record { ascending = (tt, tt); inhabited = All-cons (λ s. s.samples ≢ []) small.up [] (λ none. cc) (All-nil (λ (s : Series). s.samples ≢ [])); first = only_first _ refl }

-- the one gateway's series are the merge of all that gateways gave
pub merge_given : IsMerge (flat_map triples_of ((small.up ∷ []) ∷ [])) (small.up ∷ [])
unfolding triples_of triples_under
merge_given = merge_up

no_merge : IsMerge [] []
unfolding IsStrictlySortedBy triples_of
no_merge = record {
  ascending = tt;
  inhabited = All-nil (λ (s : Series). s.samples ≢ []);
  first = record { ascending = tt; first = All-nil (λ u. find (has_same_key u) [] ≡ Some u); complete = All-nil (λ u. list_any (has_same_key u) [] ≡ true) };
}

-- ---- what a selector takes

abbrev HasList : PostingsRow → List ℕ → Type 0
HasList row numbers = list_of (part 68 files.lists) (Some row) ≡ Ok numbers

-- the lists that a selector needs are read, and it takes the one series
pub record IsAsked (selector : List Matcher) : Type 0 where
  lists : List (List ℕ)
  lists_read : lists_at (part 68 files.lists) (rows_read [] rows selector) ≡ Ok lists
  selected : IsSelection HasList rows [] selector (2 ∷ [])

list_is : (row : PostingsRow) (numbers : List ℕ) → row ≡ all_row → HasList row numbers → 2 ∷ [] ≡ numbers
list_is row numbers same has = let both : Ok (2 ∷ []) ≡ Ok numbers = sym all_read ∙ (ap (λ (r : PostingsRow). list_of (part 68 files.lists) (Some r)) (sym same) ∙ has) in cc (both)

abbrev two_listed : IsListed HasList rows 2
two_listed = record { first = all_row; others = label_row ∷ []; begins = refl; listed = record { numbers = 2 ∷ []; list_is = all_read; has = (0, lit< tt, refl) } }

-- a listed number is that of the series
two_alone : (number : ℕ) → IsListed HasList rows number → Contains (2 ∷ []) number
two_alone number is =
    let first : is.first ≡ all_row = cc (is.begins) in
    subst (λ (l : List ℕ). Contains l number) (sym (list_is is.first is.listed.numbers first is.listed.list_is)) is.listed.has

abbrev Takes : ℕ → Matcher → Type 0
Takes number m = TakesBy (value_of [] m.name) HasList rows m number

all_lists : lists_at (part 68 files.lists) (rows_read [] rows []) ≡ Ok ((2 ∷ []) ∷ [])
unfolding lists_at rows_read
all_lists = rw all_read refl

-- no matcher
pub all_asked : IsAsked []
all_asked = record {
  lists = (2 ∷ []) ∷ [];
  lists_read = all_lists;
  selected = record {
    ascend = λ k more. omega (arith, more);
    taken = λ number. (
      λ among. subst (λ (n : ℕ). IsTaken HasList rows [] [] n) (only_member 2 number among) (record { listed = two_listed; by_all = All-nil (Takes 2) }),
      λ is. two_alone number is.listed,
    );
  };
}

up_lists : lists_at (part 68 files.lists) (rows_read [] rows one.selector) ≡ Ok ((2 ∷ []) ∷ (2 ∷ []) ∷ [])
unfolding lists_at rows_read value_of is_accepted
up_lists = rw (all_read, label_read) refl

abbrev up_matcher : Matcher
up_matcher = record { name = codes "__name__"; condition = Equal (codes "up") }

takes_up : Takes 2 up_matcher
unfolding value_of is_accepted
takes_up = record { row = label_row; among = (1, lit< tt, refl); name_is = refl; holds = refl; listed = record { numbers = 2 ∷ []; list_is = label_read; has = (0, lit< tt, refl) } }

-- the metric `up`
pub up_asked : IsAsked one.selector
up_asked = record {
  lists = (2 ∷ []) ∷ (2 ∷ []) ∷ [];
  lists_read = up_lists;
  selected = record {
    ascend = λ k more. omega (arith, more);
    taken = λ number. (
      λ among. subst (λ (n : ℕ). IsTaken HasList rows [] one.selector n) (only_member 2 number among) (record { listed = two_listed; by_all = All-cons (Takes 2) up_matcher [] takes_up (All-nil (Takes 2)) }),
      λ is. two_alone number is.listed,
    );
  };
}

-- ---- the reads

-- what a call knows of the block
abbrev block : Block
block = record { ulid = small.a; index_size = Some 205; min_time = pos 1000; max_time = pos 2000; external = [] }

contents_long : (length files.contents == 52) ≡ true
unfolding files.contents
contents_long = refl

symbols_long : (length files.symbols == 27) ≡ true
unfolding files.symbols
symbols_long = refl

table_long : (length files.table == 30) ≡ true
unfolding files.table
table_long = refl

lists_long : (length files.lists == 32) ≡ true
unfolding files.lists
lists_long = refl

series_long : (length files.series == 16) ≡ true
unfolding files.series
series_long = refl

run_read : each_at (numbered_at (known (part 32 files.series)) texts) (2 ∷ []) ≡ Ok (listed ∷ [])
unfolding each_at
run_read = rw series_read refl

chunk_long : chunk_len_at files.chunk 0 ≡ Ok 18
unfolding files.chunk files.content chunk_len_at uvarint_at groups_of
chunk_long = refl

-- the ranges that the reads leave in the cache
abbrev with_range : ℕ → ℕ → List ℕ → Cache → Cache
with_range from len bytes cache = kept (range_of (key.Index small.a) (piece from len)) bytes cache

abbrev pub left : Cache
left = with_range 32 16 files.series (with_range 68 32 files.lists (with_range 123 30 files.table (with_range 5 27 files.symbols empty_cache)))

-- and those that stand there once a second query has used them, in the order in which it asked for them
abbrev again : ℕ → ℕ → Cache → Cache
again from len cache = used_range (range_of (key.Index small.a) (piece from len)) cache

abbrev pub left_again : Cache
left_again = again 32 16 (again 68 32 (again 123 30 (again 5 27 left)))

one_source : IsSetOf (small.a ∷ []) (small.a ∷ [])
one_source = record { increasing = λ k more. omega (arith, more); members = λ x. (λ h. h, λ h. h) }

abbrev pub answer : Cache → CallEnd
answer cache = record { end = called.Answer (small.up ∷ []) (small.a ∷ []); cache = cache }

-- up to a time that is not before the sample's
module _ (selector : List Matcher) (high : ℤ) (begins : int_le (pos 1000) high ≡ true) (lasts : is_le (int_cmp (pos 1000) high) ≡ true) (asked : IsAsked selector) where
  abbrev query : Query
  query = asking selector [] (pos 0) high

  group_read : each_at (glimpse_at (tests_at query block (place ∷ [])) (group_of (only 8)) files.chunk) (8 ∷ []) ≡ Ok (shows files.up.samples ∷ [])
  unfolding each_at glimpse_at chunk_samples_at tested_at stored_at
  group_read = rw (chunk_long, chunk_read, content_read, lasts) refl

  triples_are : flat_map (shown query block (read 8 files.up.samples ∷ [])) (listed ∷ []) ≡ small.triple ∷ []
  unfolding shown triples_under final_of without is_among in_order placed
  triples_are = rw begins refl

  block_run : (seq seat moment : ℕ) → Runs (block_call query block empty_cache) (runs.query seq seat moment) (Some (gives (small.triple ∷ []) left))
  unfolding end_of
  block_run seq seat moment = (
    refl,
    rw (contents_long, contents_read) (
      refl,
      rw (symbols_long, symbols_read) (
        refl,
        rw (table_long, table_read) (
          refl,
          rw (lists_long, all_read, asked.lists_read)
              (inr (
                2 ∷ [],
                asked.selected,
                inr (
                  only 2 ∷ [],
                  one_stretch _ 2,
                  (
                    refl,
                    rw (series_long, run_read, begins)
                        (inr (
                          8 ∷ [],
                          one_number 8,
                          inr (
                            only 8 ∷ [],
                            one_stretch _ 8,
                            (refl, rw group_read (refl, inr (ap (λ (ts : List Triple). Some (gives ts left)) (sym triples_are)))),
                          ),
                        )),
                  ),
                ),
              )),
        ),
      ),
    ),
  )

  pub call_run : (first begin end mark_read meta_read seq seat moment : ℕ)
      → SeriesRun (runs.view_of first begin end (Some (small.found mark_read meta_read))) query empty_cache (runs.query seq seat moment) (Some (answer left))
  call_run first begin end mark_read meta_read seq seat moment =
      rw begins (
        took (small.triple ∷ []) left,
        joined (block_call query block empty_cache) (after_block [] (reading query [])) (runs.query seq seat moment) [] (gives (small.triple ∷ []) left) (Some (took (small.triple ∷ []) left)) (block_run seq seat moment) (refl, inr refl),
        ((small.up ∷ [], small.a ∷ [], refl, merge_up, one_source), refl),
      )

  -- by what the first call left
  block_again : (seq seat moment : ℕ) → Runs (block_call query block left) (runs.query_again seq seat moment) (Some (gives (small.triple ∷ []) left_again))
  unfolding end_of
  block_again seq seat moment = (
    refl,
    rw (contents_long, contents_read, symbols_long, symbols_read, table_long, table_read, lists_long, all_read, asked.lists_read)
        (inr (
          2 ∷ [],
          asked.selected,
          inr (
            only 2 ∷ [],
            one_stretch _ 2,
            rw (series_long, run_read, begins)
                (inr (
                  8 ∷ [],
                  one_number 8,
                  inr (
                    only 8 ∷ [],
                    one_stretch _ 8,
                    (refl, rw group_read (refl, inr (ap (λ (ts : List Triple). Some (gives ts left_again)) (sym triples_are)))),
                  ),
                )),
          ),
        )),
  )

  pub call_again : (first begin end mark_read meta_read seq seat moment : ℕ)
      → SeriesRun (runs.view_of first begin end (Some (small.found mark_read meta_read))) query left (runs.query_again seq seat moment) (Some (answer left_again))
  call_again first begin end mark_read meta_read seq seat moment =
      rw begins (
        took (small.triple ∷ []) left_again,
        joined (block_call query block left) (after_block [] (reading query [])) (runs.query_again seq seat moment) [] (gives (small.triple ∷ []) left_again) (Some (took (small.triple ∷ []) left_again)) (block_again seq seat moment) (refl, inr refl),
        ((small.up ∷ [], small.a ∷ [], refl, merge_up, one_source), refl),
      )

abbrev pub question : List Matcher → Query
question selector = asking selector [] (pos 0) (pos 5000)

-- what a gateway holds with a view, before that call and after it
abbrev pub synced_by : Use → Holding
synced_by used = record { used = Some used; cache = empty_cache }

abbrev pub called_by : Use → Holding
called_by used = record { used = Some used; cache = left }

-- the view that keeps the block, by the numbers and moments of its sync
abbrev use_of : ℕ → ℕ → ℕ → ℕ → ℕ → ℕ → Use
use_of first begin end mark_read meta_read last = record { view = runs.view_of first begin end (Some (small.found mark_read meta_read)); last = last }

pub query_task : (selector : List Matcher) → IsAsked selector → (first begin end mark_read meta_read last seq seat moment : ℕ)
    → let used : Use = use_of first begin end mark_read meta_read last in
    QueryTask (Some used) (Some (question selector)) (synced_by used) (runs.query seq seat moment) (Some (answered used (called.Answer (small.up ∷ []) (small.a ∷ [])))) (called_by used)
query_task selector asked first begin end mark_read meta_read last seq seat moment =
    (Some (answer left), call_run selector (pos 5000) refl refl asked first begin end mark_read meta_read seq seat moment, refl, refl)

-- ---- over a view that keeps nothing

no_source : IsSetOf [] []
no_source = record { increasing = λ k more. omega (arith, more); members = λ x. (λ h. h, λ h. h) }

empty_call_run : (view : View) → view.kept ≡ [] → (query : Query) (cache : Cache) → SeriesRun view query cache [] (Some (record { end = called.Answer [] []; cache = cache }))
empty_call_run view none query cache = rw none (took [] cache, (refl, inr refl), (([], [], refl, no_merge, no_source), refl))

pub empty_query_task : (used : Use) → used.view.kept ≡ [] → (query : Query) → QueryTask (Some used) (Some query) (synced_by used) [] (Some (answered used (called.Answer [] []))) (synced_by used)
empty_query_task used none query = (Some (record { end = called.Answer [] []; cache = empty_cache }), empty_call_run used.view none query empty_cache, refl, refl)
