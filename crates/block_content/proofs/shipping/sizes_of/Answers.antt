use Rattle.std.proofs.Common.{ℕ, List, [], ◌∷◌, ◌++◌, take, map, refl, sym, ap, subst, ◌∙◌, arith}
use Rattle.std.proofs.lemmas.List.{take_all}
use Rattle.std.specs.List.{AllByRecursion}
use Rattle.base.proofs.Lists.{take_none}
use Rattle.base.specs.Grammar.{IsBytes}
use Rattle.block_keys.specs.declared.key.Key.TheVariants as key
use Rattle.block_meta.specs.declared.file_size.FileSize.{FileSize}
use Rattle.block_meta.proofs.Blocks.{front_more}
use Rattle.block_meta.specs.Built.{segment_objects}
use Rattle.block_content.specs.Shipped.{size_of}
use Rattle.block_content.proofs.ListedFiles.{no_sizes, sizes_more, all_sizes}
use Rattle.block_content.proofs.shipping.sizes_of.Goals as goal

pub loop-place-init : goal.loop-place-init
loop-place-init c = record {
  sizes = c.new-sizes.ensures ∙ sym (no_sizes c.args.ulid c.args.segments.now);
  bytes = subst (AllByRecursion IsBytes) (sym (take_none c.args.segments.now)) tt;
}

pub loop-place-preserved : goal.loop-place-preserved
loop-place-preserved c = record {
  sizes = c.in_ok-push.ensures.ok ∙ ap (λ (l : List FileSize). l ++ c.in_ok-size_of.field-0 ∷ []) c.loop-place.invariant.sizes
      ∙ ap (λ (x : FileSize). map size_of (segment_objects c.args.ulid 1 (take c.loop-place.place c.args.segments.now)) ++ x ∷ []) c.in_ok-size_of.ensures.size
      ∙ sym (sizes_more c.args.ulid c.args.segments.now c.loop-place.place _ c.bytes.result.now c.index-segments-place.result c.loop-place-test.true (c.bytes.ensures ∙ c.index-segments-place.is) refl);
  bytes = front_more IsBytes c.args.segments.now c.loop-place.place _ c.index-segments-place.result c.loop-place.invariant.bytes c.loop-place-test.true c.index-segments-place.is (subst IsBytes c.bytes.ensures c.in_ok-size_of.ensures.bytes);
}

pub returns-clause-sizes : goal.returns-clause-sizes
returns-clause-sizes c =
    all_sizes c.args.ulid c.args.segments.now c.args.index.now c.loop-place.place c.loop-place.sizes _ _ c.loop-place.invariant.sizes (omega arith)
    (c.in_ok-size_of-2.ensures.size ∙ ap (λ (bytes : List ℕ). size_of (record { key = key.Index c.args.ulid; bytes = bytes })) c.bytes-2.ensures) c.in_ok-push-2.ensures.ok

pub returns-clause-bytes : goal.returns-clause-bytes
returns-clause-bytes c = (
  subst IsBytes c.bytes-2.ensures c.in_ok-size_of-2.ensures.bytes,
  subst (AllByRecursion IsBytes) (take_all c.loop-place.place c.args.segments.now (omega arith)) c.loop-place.invariant.bytes,
)
