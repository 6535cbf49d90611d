use Rattle.std.proofs.Common.{ℕ, List, Some, ap, subst, get_or, map}
use Rattle.std.proofs.lemmas.List.{take_all}
use Rattle.base.specs.Firsts.{each_at}
use Rattle.store_ranges.specs.Asking.{query_asked, block_asked}
use Rattle.store_ranges.specs.ToRead.{group_read}
use Rattle.store_chunks.specs.ChunkReads.{tests_at, glimpse_at}
use Rattle.store_chunks.specs.ChunksRead.{reads_of}
use Rattle.store_chunks.specs.Glimpsed.{pending_chunk, shown_so, ShowsOne, ShowsGroup}
use Rattle.store_chunks.specs.declared.glimpse.Pending.{Pending}
use Rattle.store_chunks.proofs.GroupShows.{shown_none, shown_more, shown_refused}
use Rattle.store_chunks.proofs.glimpse.glimpses_at.Goals as goal

pub loop-reference-init : goal.loop-reference-init
loop-reference-init c = λ up.
    let reads = glimpse_at (tests_at (query_asked c.args.asked.now) (block_asked c.args.asked.now) c.args.places.now) (group_read c.args.group.now) c.args.bytes.now in
    shown_none reads c.args.references.now (reads_of c.args.found.items) (record { rows = c.args.found; pending = c.new.result }) (ap (λ (l : List Pending). (reads_of c.args.found.items, map pending_chunk l)) c.new.ensures.items)

pub returns-in-None : goal.returns-in-None
returns-in-None c = λ up.
    let reads = glimpse_at (tests_at (query_asked c.args.asked.now) (block_asked c.args.asked.now) c.args.places.now) (group_read c.args.group.now) c.args.bytes.now in
    shown_refused reads c.args.references.now (reads_of c.args.found.items) c.loop-reference.reference-index c.loop-reference.shown c.loop-reference-test.true (c.loop-reference.invariant up)
    (subst (ShowsOne (shown_so c.loop-reference.shown) (get_or c.args.references.now c.loop-reference.reference-index 0) (reads (get_or c.args.references.now c.loop-reference.reference-index 0))) c.in-None.is (c.in_ok-next.ensures up))

pub loop-reference-preserved : goal.loop-reference-preserved
loop-reference-preserved c = λ up.
    let reads = glimpse_at (tests_at (query_asked c.args.asked.now) (block_asked c.args.asked.now) c.args.places.now) (group_read c.args.group.now) c.args.bytes.now in
    shown_more reads c.args.references.now (reads_of c.args.found.items) c.loop-reference.reference-index c.loop-reference.shown c.in-Some.more c.loop-reference-test.true (c.loop-reference.invariant up)
    (subst (ShowsOne (shown_so c.loop-reference.shown) (get_or c.args.references.now c.loop-reference.reference-index 0) (reads (get_or c.args.references.now c.loop-reference.reference-index 0))) c.in-Some.is (c.in_ok-next.ensures up))

pub returns : goal.returns
returns c = λ up.
    let reads = glimpse_at (tests_at (query_asked c.args.asked.now) (block_asked c.args.asked.now) c.args.places.now) (group_read c.args.group.now) c.args.bytes.now in
    subst (λ (l : List ℕ). ShowsGroup (reads_of c.args.found.items) l (each_at reads l) (Some c.loop-reference.shown)) (take_all c.loop-reference.reference-index c.args.references.now c.loop-reference-test.false) (c.loop-reference.invariant up)
