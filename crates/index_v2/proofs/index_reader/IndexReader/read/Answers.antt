use Rattle.std.proofs.Common.{refl, inl, arith}
use Rattle.index_v2.proofs.HeldLaws.{read_whole}
use Rattle.index_v2.proofs.index_reader.IndexReader.read.Goals as goal

pub invariant_of-result : goal.invariant_of-result
invariant_of-result c = (
  inl (read_whole _ _ _ _ _ refl (λ i. (c.type_inv.bytes i).fits) c.in_ok-toc.ensures c.in_ok-symbols.ensures.exact c.in_ok-rows.ensures.exact),
  λ i. (c.type_inv.bytes i).fits,
  omega arith,
  c.in_ok-symbols.ensures.few,
  c.in_ok-rows.ensures.few,
)

pub returns-clause-whole : goal.returns-clause-whole
returns-clause-whole c = read_whole _ _ _ _ _ refl (λ i. (c.type_inv.bytes i).fits) c.in_ok-toc.ensures c.in_ok-symbols.ensures.exact c.in_ok-rows.ensures.exact
