use Rattle.std.proofs.Common.{◌≡◌, ◌∙◌, Option, Some, None, ap, sym, subst, rules}
use Rattle.std.specs.Prelude.{nat_lt}
use Rattle.std.proofs.lemmas.List.Sorted.{IsPartitionPoint-from_clause, IsPartitionedBy-ltb}
use Rattle.store_chunks.specs.declared.shown.ChunkRead.{ChunkRead}
use Rattle.store_chunks.proofs.FoundChunks.{IsPoint, rising, found_there, not_there}
use Rattle.store_chunks.proofs.shown.samples_of.Goals as goal

same_chunk : (one other : ChunkRead) → Some one ≡ Some other → one ≡ other
same_chunk one other e = cc

no_chunk : (one : ChunkRead) → ◌≡◌ {A = Option ChunkRead} None (Some one) → ⊥
no_chunk one e = cc

pub returns-then-one-reference : goal.returns-then-one-reference
returns-then-one-reference c = λ up. c.members.ensures ∙ found_there c.args.found.now c.args.place.now c.partition_point-there.result c.in-Some.one.now
    (subst (λ r. IsPoint c.args.found.now r c.partition_point-there.result) c.reference_of-reference.ensures.value
    (IsPartitionPoint-from_clause (λ (one : ChunkRead). nat_lt one.reference c.reference_of-reference.result) _ _ c.partition_point-there.ensures.partitioned
    (IsPartitionedBy-ltb (λ (one : ChunkRead). one.reference) _ _ (rising _ up)) (λ a r q k. search rules)))
    (sym c.in-Some.ensures) (c.if-one-reference.true ∙ c.reference_of-reference.ensures.value)

pub returns-else-one-reference : goal.returns-else-one-reference
returns-else-one-reference c = λ up. not_there c.args.found.now c.args.place.now c.partition_point-there.result up
    (subst (λ r. IsPoint c.args.found.now r c.partition_point-there.result) c.reference_of-reference.ensures.value
    (IsPartitionPoint-from_clause (λ (one : ChunkRead). nat_lt one.reference c.reference_of-reference.result) _ _ c.partition_point-there.ensures.partitioned
    (IsPartitionedBy-ltb (λ (one : ChunkRead). one.reference) _ _ (rising _ up)) (λ a r q k. search rules)))
    (λ one is same. c.if-one-reference.false (ap (λ (x : ChunkRead). x.reference) (same_chunk c.in-Some.one.now one (c.in-Some.ensures ∙ is)) ∙ same ∙ sym c.reference_of-reference.ensures.value))

pub returns-in-None : goal.returns-in-None
returns-in-None c = λ up. not_there c.args.found.now c.args.place.now c.partition_point-there.result up
    (subst (λ r. IsPoint c.args.found.now r c.partition_point-there.result) c.reference_of-reference.ensures.value
    (IsPartitionPoint-from_clause (λ (one : ChunkRead). nat_lt one.reference c.reference_of-reference.result) _ _ c.partition_point-there.ensures.partitioned
    (IsPartitionedBy-ltb (λ (one : ChunkRead). one.reference) _ _ (rising _ up)) (λ a r q k. search rules)))
    (λ one is same. no_chunk one (c.in-None.ensures ∙ is))
