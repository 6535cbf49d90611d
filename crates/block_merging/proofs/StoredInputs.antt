-- The chunks of blocks that hold something that can be read are those that a writer takes.
use Rattle.std.proofs.Common.{◌≡◌, ℕ, List, [], ◌∷◌, map, sym, subst, ◌∙◌, inl, inr, ℤ, arith}
use Rattle.std.specs.Prelude.{Contains, ◌≤ℤ◌, ◌<ℤ◌}
use Rattle.std.specs.List.{AllByRecursion}
use Rattle.std.proofs.lemmas.Int.{ints}
use Rattle.std.proofs.lemmas.List.Elements.{Contains-append_cases}
use Rattle.base.proofs.Membership.{no_member, contains_first, contains_later, each_member, all_members, of_map, of_flat_map, into_flat_map}
use Rattle.base.specs.Lists.{joined}
use Rattle.base.specs.Grammar.{IsBytes}
use Rattle.base.proofs.Binds.{ok_is}
use Rattle.label_sets.specs.declared.label.Label.{Label}
use Rattle.label_sets.specs.declared.sample.Sample.{Sample}
use Rattle.label_sets.specs.Times.{IsWithin}
use Rattle.xor_chunks.specs.Grammar.{IsText}
use Rattle.index_parts.specs.declared.chunk_place.ChunkPlace.{ChunkPlace}
use Rattle.index_parts.specs.declared.index_series.IndexSeries.{IndexSeries}
use Rattle.index_parts.specs.IndexFile.{IsIndex}
use Rattle.index_v2.specs.declared.refusal.IndexRefusal.{IndexRefusal}
use Rattle.block_meta.specs.declared.block_plan.BlockPlan.{BlockPlan}
use Rattle.block_meta.specs.declared.block_files.BlockFiles.{BlockFiles}
use Rattle.block_content.specs.Content.{StandsAt, IsChunkOf, HoldsSeries, AreWithin}
use Rattle.block_content.proofs.TimesAndOrder.{index_again}
use Rattle.block_writing.specs.Put.{PutChunk, PutSeries, IsStored}
use Rattle.block_writing.specs.Standing.{content_at}
use Rattle.block_writing.specs.Writing.{plan_fields, part_of, chunk_in}
use Rattle.block_writing.proofs.Placed.{read_there}
use Rattle.block_merging.specs.declared.series_queue.SeriesQueue.{SeriesQueue}
use Rattle.block_merging.specs.Inputs.{LiesWithin, HasContent, AreTaken, taken}
use Rattle.block_merging.proofs.SameLists.{zip_member}
use Rattle.block_merging.specs.Queues.{chunks_of, lefts_in, HasQueues}
use Rattle.block_merging.proofs.GroupsTaken.{member_alike}

pub index_once : (bytes : List ℕ) (one other : List IndexSeries) → IsBytes bytes → IsIndex bytes one → IsIndex bytes other → one ≡ other
index_once bytes one other are is too = ok_is {E = IndexRefusal} one other (sym (index_again bytes one are is) ∙ index_again bytes other are too)

-- where a series that was taken comes from
record IsFrom (external : List Label) (replicas : List (List ℕ)) (blocks : List BlockFiles) (s : PutSeries) : Type 0 where
  block : BlockFiles
  block_in : Contains blocks block
  indexed : List IndexSeries
  index_is : IsIndex block.index indexed
  one : IndexSeries
  one_in : Contains indexed one
  is : taken external replicas block.segments one ≡ s

from_later : (external : List Label) (replicas : List (List ℕ)) (block : BlockFiles) (blocks : List BlockFiles) (s : PutSeries) → IsFrom external replicas blocks s → IsFrom external replicas (block ∷ blocks) s
from_later external replicas block blocks s from = record {
  block = from.block;
  block_in = contains_later block from.block blocks from.block_in;
  indexed = from.indexed;
  index_is = from.index_is;
  one = from.one;
  one_in = from.one_in;
  is = from.is;
}

comes_from : (external : List Label) (replicas : List (List ℕ)) (blocks : List BlockFiles) (all : List PutSeries) (s : PutSeries) → AreTaken external replicas blocks all → Contains all s → IsFrom external replicas blocks s
comes_from external replicas [] all s are among = absurd (no_member s (subst (λ l. Contains l s) are among))
comes_from external replicas (block ∷ blocks) all s (indexed, others, index_is, are, is) among =
    elim (Contains-append_cases (map (taken external replicas block.segments) indexed) others s (subst (λ l. Contains l s) is among)) [
      | inl own ↦ let w = of_map (taken external replicas block.segments) indexed s own in record {
        block = block;
        block_in = contains_first block blocks;
        indexed = indexed;
        index_is = index_is;
        one = w.0;
        one_in = w.1;
        is = w.2;
      }
      | inr later ↦ from_later external replicas block blocks s (comes_from external replicas blocks others s are later)
    ]

-- ---- a chunk

lie_within : (low high min max time : ℤ) → low ≤ℤ min → max ≤ℤ high → (min ≤ℤ time) × (time <ℤ max) → (low ≤ℤ time) × (time <ℤ high)
lie_within low high min max time begin end here = (omega (arith, ints, begin, here.0), omega (arith, ints, end, here.1))

pub data_there : (segments : List (List ℕ)) (place : ChunkPlace) (content : List ℕ) → StandsAt segments place content → content_at segments (part_of place) ≡ content
data_there segments place content at = read_there segments (part_of place) content (record { segment = at.segment; named = at.named; stands = at.stands })

chunk_stored : (plan : BlockPlan) (block : BlockFiles) (place : ChunkPlace) (part : List Sample) → LiesWithin plan block → IsChunkOf block.segments place part → AllByRecursion (IsWithin block.meta.min_time block.meta.max_time) part
    → IsStored (plan_fields plan) (chunk_in block.segments place)
chunk_stored plan block place part lies is within = record {
  samples = part;
  text_is = subst (λ c. IsText 8 c part) (sym (data_there block.segments place is.content is.stands)) is.reads;
  begins = is.timed.begins;
  ends = is.timed.ends;
  within = all_members (IsWithin plan.min_time plan.max_time) part (λ s among.
      lie_within plan.min_time plan.max_time block.meta.min_time block.meta.max_time s.time lies.begin lies.end (each_member (IsWithin block.meta.min_time block.meta.max_time) part s within among));
}

from_stored : (plan : BlockPlan) (block : BlockFiles) (indexed : List IndexSeries) (one : IndexSeries) (c : PutChunk) → LiesWithin plan block → HasContent block → IsBytes block.index → IsIndex block.index indexed
    → Contains indexed one → Contains (map (chunk_in block.segments) one.chunks) c → IsStored (plan_fields plan) c
from_stored plan block indexed one c lies (list, content) bytes index_is one_in among =
    let same : indexed ≡ content.indexed = index_once block.index indexed content.indexed bytes index_is content.index_is in
    let s = zip_member (HoldsSeries block.segments) content.indexed list one content.series_are (subst (λ l. Contains l one) same one_in) in
    let p = of_map (chunk_in block.segments) one.chunks c among in
    let part = zip_member (IsChunkOf block.segments) one.chunks s.2.parts p.0 s.2.chunks_are p.1 in
    let within : AllByRecursion (IsWithin block.meta.min_time block.meta.max_time) s.0.samples = each_member (AreWithin block.meta) list s.0 content.within s.1 in
    subst (IsStored (plan_fields plan)) p.2
    (chunk_stored plan block p.0 part.0 lies part.2 (all_members (IsWithin block.meta.min_time block.meta.max_time) part.0 (λ x here.
    each_member (IsWithin block.meta.min_time block.meta.max_time) s.0.samples x within (subst (λ l. Contains l x) (sym s.2.samples_are) (into_flat_map (λ (q : List Sample). q) s.2.parts part.0 x part.1 here)))))

pub taken_stored : (plan : BlockPlan) (replicas : List (List ℕ)) (blocks : List BlockFiles) (all : List PutSeries) (s : PutSeries) (c : PutChunk) → AllByRecursion (LiesWithin plan) blocks → AllByRecursion HasContent blocks → AllByRecursion (λ block. IsBytes block.index) blocks
    → AreTaken plan.labels replicas blocks all → Contains all s → Contains s.chunks c → IsStored (plan_fields plan) c
taken_stored plan replicas blocks all s c lie held bytes are among here =
    let from = comes_from plan.labels replicas blocks all s are among in
    from_stored plan from.block from.indexed from.one c (each_member (LiesWithin plan) blocks from.block lie from.block_in) (each_member HasContent blocks from.block held from.block_in)
    (each_member (λ block. IsBytes block.index) blocks from.block bytes from.block_in) from.index_is from.one_in (subst (λ (p : PutSeries). Contains p.chunks c) (sym from.is) here)

-- the chunks of what is left of all blocks
pub left_stored : (plan : BlockPlan) (replicas : List (List ℕ)) (blocks : List BlockFiles) (queues : List SeriesQueue) → AllByRecursion (LiesWithin plan) blocks → AllByRecursion HasContent blocks → HasQueues plan.labels replicas blocks queues
    → AllByRecursion (IsStored (plan_fields plan)) (chunks_of (joined (lefts_in plan.labels replicas queues)))
left_stored plan replicas blocks queues lie held h = all_members (IsStored (plan_fields plan)) (chunks_of (joined (lefts_in plan.labels replicas queues))) (λ c among.
    let x = of_flat_map (λ (s : PutSeries). s.chunks) (joined (lefts_in plan.labels replicas queues)) c among in
    taken_stored plan replicas blocks h.all x.0 c lie held h.bytes h.are (member_alike (joined (lefts_in plan.labels replicas queues)) h.all x.0 h.alike x.1) x.2)
