use Rattle.std.proofs.Common.{◌≡◌, take}
use Rattle.std.specs.List.{AllByRecursion}
use Rattle.base.specs.Grammar.{IsBytes}
use Rattle.block_writing.specs.WrittenMeta.{sizes_from}
use Rattle.block_writing.proofs.written_meta.sizes_of.Given as goal

abbrev pub invariant-loop-place : goal.invariant-loop-place
invariant-loop-place l = record {
  sizes : l.sizes ≡ sizes_from 1 (take l.place l.segments);
  bytes : AllByRecursion IsBytes (take l.place l.segments);
}
