use Rattle.std.proofs.Common.{List, [], ◌∷◌, ◌++◌, take, refl, sym, ap, subst, ◌∙◌, arith}
use Rattle.std.proofs.lemmas.List.{take_all}
use Rattle.std.specs.List.{AllByRecursion}
use Rattle.base.proofs.Lists.{take_none}
use Rattle.base.specs.Grammar.{IsBytes}
use Rattle.block_meta.specs.declared.file_size.FileSize.{FileSize}
use Rattle.block_meta.proofs.Blocks.{front_more}
use Rattle.block_writing.specs.WrittenMeta.{sizes_from}
use Rattle.block_writing.proofs.Names.{sizes_more}
use Rattle.block_writing.proofs.written_meta.sizes_of.Goals as goal

pub loop-place-init : goal.loop-place-init
unfolding sizes_from
loop-place-init c = record {
  sizes = c.new-sizes.ensures;
  bytes = subst (AllByRecursion IsBytes) (sym (take_none c.args.segments.now)) tt;
}

pub loop-place-preserved : goal.loop-place-preserved
loop-place-preserved c = record {
  sizes = c.in_ok-push.ensures.ok ∙ ap (λ (l : List FileSize). l ++ c.in_ok-size_of_segment.field-0 ∷ []) c.loop-place.invariant.sizes
      ∙ ap (λ (x : FileSize). sizes_from 1 (take c.loop-place.place c.args.segments.now) ++ x ∷ []) c.in_ok-size_of_segment.ensures.size
      ∙ sym (sizes_more c.args.segments.now c.loop-place.place _ c.bytes.result.now c.index-segments-place.result c.loop-place-test.true (c.bytes.ensures ∙ c.index-segments-place.is) refl);
  bytes = front_more IsBytes c.args.segments.now c.loop-place.place _ c.index-segments-place.result c.loop-place.invariant.bytes c.loop-place-test.true c.index-segments-place.is (subst IsBytes c.bytes.ensures c.in_ok-size_of_segment.ensures.bytes);
}

pub returns-clause-bytes : goal.returns-clause-bytes
returns-clause-bytes c = (
  subst IsBytes c.bytes-2.ensures c.in_ok-size_of_index.ensures.bytes,
  subst (AllByRecursion IsBytes) (take_all c.loop-place.place c.args.segments.now (omega arith)) c.loop-place.invariant.bytes,
)
