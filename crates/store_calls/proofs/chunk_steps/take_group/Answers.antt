use Rattle.std.proofs.Common.{ℕ, List, Some, arith, subst}
use Rattle.std.specs.Prelude.{IsErr}
use Rattle.std.specs.List.Sorted.{IsNonDecreasingBy}
use Rattle.base.specs.Firsts.{each_at}
use Rattle.index_parts.specs.SeriesEntry.{reference_of}
use Rattle.store_chunks.specs.ChunkReads.{glimpse_at, tests_at}
use Rattle.store_chunks.specs.ChunksRead.{reads_of}
use Rattle.store_chunks.specs.Glimpsed.{ShowsGroup}
use Rattle.store_ranges.specs.Asking.{query_asked, block_asked}
use Rattle.store_ranges.specs.ToRead.{group_read}
use Rattle.store_calls.proofs.ChunkPlans.{group_shown, group_damaged}
use Rattle.store_chunks.proofs.ChunksOn.{shown_as, refused_as_seen}
use Rattle.store_calls.proofs.chunk_steps.take_group.Goals as goal

pub returns-in-Some : goal.returns-in-Some
returns-in-Some c = λ cache.
    group_shown c.args.asked.now cache c.args.work c.in-Some.made.rows c.in-Some.made.pending.items c.args.seq c.args.bytes c.go_on_chunks.result (omega (arith, c.in-Some.made.pending.ok.0, c.in-Some.made.pending.small.0, c.in-Some.made.pending.small.1))
    (subst (λ (b : List ℕ). IsNonDecreasingBy reference_of c.args.work.places.items → ShowsGroup (reads_of c.args.work.found.items) c.args.work.group.references (each_at (glimpse_at (tests_at (query_asked c.args.asked.now) (block_asked c.args.asked.now) c.args.work.places.items) (group_read c.args.work.group) b) c.args.work.group.references)
    (Some c.in-Some.made)) c.bytes-2.ensures
    (shown_as (query_asked c.args.asked.now) (block_asked c.args.asked.now) (group_read c.args.work.group) c.bytes-2.result.now c.args.work.group.references c.deref-2.result.now c.args.work.places.items (reads_of c.args.work.found.items) c.in_ok-shown.shown c.in-Some.made
    c.deref-2.ensures.value c.in-Some.is c.in_ok-shown.ensures))
    (c.go_on_chunks.ensures cache)

pub returns-in-None : goal.returns-in-None
returns-in-None c = λ cache.
    group_damaged c.args.asked.now cache c.args.work c.args.seq c.args.bytes
    (subst (λ (b : List ℕ). IsNonDecreasingBy reference_of c.args.work.places.items → IsErr (each_at (glimpse_at (tests_at (query_asked c.args.asked.now) (block_asked c.args.asked.now) c.args.work.places.items) (group_read c.args.work.group) b) c.args.work.group.references)) c.bytes-2.ensures
    (refused_as_seen (query_asked c.args.asked.now) (block_asked c.args.asked.now) (group_read c.args.work.group) c.bytes-2.result.now c.args.work.group.references c.deref-2.result.now c.args.work.places.items (reads_of c.args.work.found.items) c.in_ok-shown.shown
    c.deref-2.ensures.value c.in-None.is c.in_ok-shown.ensures))
