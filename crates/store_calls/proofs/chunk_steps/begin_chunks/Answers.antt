use Rattle.std.proofs.Common.{◌*◌, ◌^◌, ◌<◌, ℕ, List, map, sym, ap, subst, ◌∙◌, false, true, arith}
use Rattle.std.specs.Prelude.{All}
use Rattle.std.specs.List.{flat_map}
use Rattle.std.specs.List.Sorted.{IsPermutation}
use Rattle.index_parts.specs.declared.chunk_place.ChunkPlace.{ChunkPlace}
use Rattle.index_parts.specs.SeriesEntry.{reference_of}
use Rattle.index_parts.specs.declared.index_series.IndexSeries.{IndexSeries}
use Rattle.store_ranges.specs.Asking.{query_asked}
use Rattle.store_chunks.specs.Taken.{taken}
use Rattle.store_ranges.specs.ChunkRanges.{IsSetOf}
use Rattle.store_chunks.specs.ChunkReads.{have_keys}
use Rattle.store_ranges.specs.ToRead.{AreGroupsToRead}
use Rattle.store_ranges.specs.declared.group_read.GroupRead.{GroupRead}
use Rattle.store_chunks.proofs.KeyedReferences.{small_references}
use Rattle.store_calls.proofs.ChunkPlans.{no_keys, chunks_begun}
use Rattle.store_calls.proofs.chunk_steps.begin_chunks.Goals as goal

pub returns-then-not-have_keys : goal.returns-then-not-have_keys
returns-then-not-have_keys c = λ cache.
    let places = c.deref-2.ensures.value ∙ c.in_ok-places.ensures ∙ ap (λ (l : List IndexSeries). flat_map (taken (query_asked c.args.asked.now)) l) c.deref.ensures.value in
    no_keys c.args.asked.now cache c.args.last c.args.series.items (ap have_keys (sym places) ∙ sym c.have_keys.ensures.value ∙ c.if-not-have_keys.true)

pub groups_to_read-requires-clause-keys : goal.groups_to_read-requires-clause-keys
groups_to_read-requires-clause-keys c =
    subst (All (λ (r : ℕ). r < 999_999 * 2 ^ 32)) (sym c.members.ensures)
    (small_references c.deref-2.result.now c.in_ok-references.references (999_999 * 2 ^ 32)
    (subst (λ (l : List ChunkPlace). IsSetOf (map reference_of l) c.in_ok-references.references) (c.deref-3.ensures.value ∙ sym c.deref-2.ensures.value) c.in_ok-references.ensures)
    (c.have_keys.ensures.small c.if-not-have_keys.false))

pub returns : goal.returns
returns c = λ cache.
    let taken_are = c.in_ok-places.ensures ∙ ap (λ (l : List IndexSeries). flat_map (taken (query_asked c.args.asked.now)) l) c.deref.ensures.value in
    chunks_begun c.args.asked.now cache c.args.last c.args.series.items c.in_ok-sorted.sorted.items c.in_ok-references.references c.from.result.items c.new.result.items c.go_on_groups.result
    (ap have_keys (sym (c.deref-2.ensures.value ∙ taken_are)) ∙ sym c.have_keys.ensures.value ∙ c.if-not-have_keys.false)
    (subst (λ (l : List ChunkPlace). IsSetOf (map reference_of l) c.in_ok-references.references) (c.deref-3.ensures.value ∙ taken_are) c.in_ok-references.ensures)
    (subst (λ (l : List ℕ). AreGroupsToRead l c.from.result.items) c.members.ensures
    (subst (λ (g : List GroupRead). AreGroupsToRead c.members.result.now g) (sym c.from.ensures.0) c.in_ok-groups.ensures))
    (subst (λ (l : List ChunkPlace). IsPermutation l c.in_ok-sorted.sorted.items) taken_are c.in_ok-sorted.ensures.same)
    c.in_ok-sorted.ensures.ascend c.new.ensures.items (omega (arith, c.from.result.ok.0, c.from.result.small.0, c.from.result.small.1)) (c.go_on_groups.ensures cache)
