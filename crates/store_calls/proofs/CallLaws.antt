-- What is said of all calls: for what they ask, and what they leave in the cache.
use Rattle.std.proofs.Common.{◌≡◌, ℕ, List, [], ◌∷◌, ◌++◌, Option, Some, None, sym, subst, inl, inr}
use Rattle.std.specs.Prelude.{All, Contains}
use Rattle.std.specs.List.{AllByRecursion}
use Rattle.std.proofs.lemmas.List.Elements.{All-append, All-from_recursion, All-nil, All-same, All-weaker, recursion_from_All}
use Rattle.base.proofs.Membership.{contains_first, contains_later}
use Rattle.label_sets.specs.Triples.{Triple}
use Rattle.world_core.specs.Plans.{Runs}
use Rattle.world_core.specs.declared.entry.Entry.{Entry}
use Rattle.world_core.proofs.PlanLaws.{asked_are, each_op, end_is}
use Rattle.world_core.proofs.PlanParts.{Parts, broken, both, parts}
use Rattle.meta_fetcher.specs.declared.view.View.{View}
use Rattle.store_ranges.specs.Reads.{Block, Cache, Query}
use Rattle.store_calls.specs.BlockReads.{BlockEnd, gives, breaks_off, block_call}
use Rattle.store_calls.specs.Asking.{IsReadOf, IsReadOfOne}
use Rattle.store_calls.specs.KeptRanges.{IsOfReads}
use Rattle.store_calls.specs.SeriesCalls.{Called, took, broke, CallEnd, Gives, SeriesRun, after_block, reading, sources_of, to_read}
use Rattle.store_calls.proofs.BlockLaws.{block_asks, block_keeps, cache_left}

-- ---- what is asked for

abbrev AsksOf : List Block → List Entry → Type 0
AsksOf blocks entries = All (λ (e : Entry). IsReadOfOne blocks e.op) entries

asks_more : (block : Block) (blocks : List Block) (entries : List Entry) → AsksOf blocks entries → AsksOf (block ∷ blocks) entries
asks_more block blocks entries all =
    All-weaker (λ (e : Entry). IsReadOfOne blocks e.op) (λ (e : Entry). IsReadOfOne (block ∷ blocks) e.op) (λ e (b, among, is). (b, contains_later block b blocks among, is)) entries all

block_entries : (query : Query) (block : Block) (blocks : List Block) (cache : Cache) (entries : List Entry) (end : Option BlockEnd) → Runs (block_call query block cache) entries end
    → AsksOf (block ∷ blocks) entries
block_entries query block blocks cache entries end run =
    All-weaker (λ (e : Entry). IsReadOf block.ulid e.op) (λ (e : Entry). IsReadOfOne (block ∷ blocks) e.op) (λ e is. (block, contains_first block blocks, is)) entries
    (All-from_recursion (λ (e : Entry). IsReadOf block.ulid e.op) entries
    (each_op (IsReadOf block.ulid) [] entries (asked_are (λ made op. IsReadOf block.ulid op) (block_call query block cache) [] entries end (block_asks query block cache) run)))

abbrev AllAskOf : Query → List Block → Type 0
AllAskOf query blocks =
    (taken : List Triple) (cache : Cache) (entries : List Entry) (end : Option Called) → Runs (reading query blocks taken cache) entries end → AsksOf blocks entries

first_asks : (query : Query) (block : Block) (blocks : List Block) → AllAskOf query blocks → AllAskOf query (block ∷ blocks)
first_asks query block blocks later taken cache entries end run =
    by_parts (parts (block_call query block cache) (after_block taken (reading query blocks)) entries end run)
  where
    by_end : (others : List Entry) (last : BlockEnd) → Runs (after_block taken (reading query blocks) last) others end → AsksOf (block ∷ blocks) others
    by_end others (gives share next) rest = asks_more block blocks others (later (taken ++ share) next others end rest)
    by_end others (breaks_off why next) rest = All-same (λ (e : Entry). IsReadOfOne (block ∷ blocks) e.op) others [] rest.0 (All-nil (λ (e : Entry). IsReadOfOne (block ∷ blocks) e.op))

    by_parts : Parts (block_call query block cache) (after_block taken (reading query blocks)) entries end → AsksOf (block ∷ blocks) entries
    by_parts (broken first none) = block_entries query block blocks cache entries None first
    by_parts (both own others last is first rest) =
        All-same (λ (e : Entry). IsReadOfOne (block ∷ blocks) e.op) entries (own ++ others) is
        (All-append (λ (e : Entry). IsReadOfOne (block ∷ blocks) e.op) own others (block_entries query block blocks cache own (Some last) first) (by_end others last rest))

reading_asks : (query : Query) (blocks : List Block) → AllAskOf query blocks
reading_asks query [] taken cache entries end run = All-same (λ (e : Entry). IsReadOfOne [] e.op) entries [] run.0 (All-nil (λ (e : Entry). IsReadOfOne [] e.op))
reading_asks query (block ∷ blocks) taken cache entries end run = first_asks query block blocks (reading_asks query blocks) taken cache entries end run

pub call_asks : (view : View) (query : Query) (cache : Cache) (entries : List Entry) (end : Option CallEnd) → SeriesRun view query cache entries end
    → All (λ (e : Entry). IsReadOfOne (to_read query view.kept) e.op) entries
call_asks view query cache entries None run = reading_asks query (to_read query view.kept) [] cache entries None run
call_asks view query cache entries (Some call) (told, run, is) = reading_asks query (to_read query view.kept) [] cache entries (Some told) run

-- ---- what is kept

abbrev cache_told : Called → Cache
cache_told (took taken cache) = cache
cache_told (broke why cache) = cache

-- entries are such, where they and others are
pub each_front : (P : Entry → Type 0) (own others : List Entry) → AllByRecursion P (own ++ others) → AllByRecursion P own × AllByRecursion P others
each_front P [] others all = (tt, all)
each_front P (e ∷ own) others all = let rest = each_front P own others all.1 in ((all.0, rest.0), rest.1)

module _ (journal : List Entry) (query : Query) where
  abbrev AllKeep : List Block → Type 0
  AllKeep blocks =
      (taken : List Triple) (before : Cache) (entries : List Entry) (told : Called) → AllByRecursion (Contains journal) entries → IsOfReads journal before
      → Runs (reading query blocks taken before) entries (Some told) → IsOfReads journal (cache_told told)

  first_keeps : (block : Block) (blocks : List Block) → AllKeep blocks → AllKeep (block ∷ blocks)
  first_keeps block blocks later taken before entries told among fine run =
      by_parts (parts (block_call query block before) (after_block taken (reading query blocks)) entries (Some told) run)
    where
      by_end : (others : List Entry) (last : BlockEnd) → AllByRecursion (Contains journal) others → IsOfReads journal (cache_left last)
          → Runs (after_block taken (reading query blocks) last) others (Some told) → IsOfReads journal (cache_told told)
      by_end others (gives share next) rest kept run = later (taken ++ share) next others told rest kept run
      by_end others (breaks_off why next) rest kept (none, inl wrong) = absurd (cc (wrong))
      by_end others (breaks_off why next) rest kept (none, inr is) =
          let same : told ≡ broke why next = cc (is) in subst (λ (t : Called). IsOfReads journal (cache_told t)) (sym same) kept

      by_parts : Parts (block_call query block before) (after_block taken (reading query blocks)) entries (Some told) → IsOfReads journal (cache_told told)
      by_parts (broken first none) = absurd (cc (none))
      by_parts (both own others last is first rest) =
          let each = each_front (Contains journal) own others (subst (AllByRecursion (Contains journal)) is among) in
          by_end others last each.1
          (end_is (Contains journal) (λ made end. IsOfReads journal (cache_left end)) (block_call query block before) [] own last (block_keeps journal query block before fine) each.0 first)
          rest

  reading_keeps : (blocks : List Block) → AllKeep blocks
  reading_keeps [] taken before entries told among fine (none, inl wrong) = absurd (cc (wrong))
  reading_keeps [] taken before entries told among fine (none, inr is) =
      let same : told ≡ took taken before = cc (is) in subst (λ (t : Called). IsOfReads journal (cache_told t)) (sym same) fine
  reading_keeps (block ∷ blocks) taken before entries told among fine run = first_keeps block blocks (reading_keeps blocks) taken before entries told among fine run

by_told : (journal : List Entry) (sources : List ℕ) (told : Called) (call : CallEnd) → Gives sources told call → IsOfReads journal (cache_told told) → IsOfReads journal call.cache
by_told journal sources (took taken cache) call is fine = subst (IsOfReads journal) (sym is.1) fine
by_told journal sources (broke why cache) call is fine = subst (IsOfReads journal) (sym is.1) fine

pub call_keeps : (view : View) (query : Query) (before : Cache) (entries journal : List Entry) (call : CallEnd) → SeriesRun view query before entries (Some call)
    → All (Contains journal) entries → IsOfReads journal before → IsOfReads journal call.cache
call_keeps view query before entries journal call (told, run, is) among fine =
    by_told journal (sources_of view.kept) told call is
    (reading_keeps journal query (to_read query view.kept) [] before entries told (recursion_from_All (Contains journal) entries among) fine run)
