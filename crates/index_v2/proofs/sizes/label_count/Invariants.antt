use Rattle.std.proofs.Common.{◌≡◌, take}
use Rattle.index_parts.specs.IndexFile.{labels_of}
use Rattle.index_v2.proofs.sizes.label_count.Given as goal

abbrev pub invariant-loop-one : goal.invariant-loop-one
invariant-loop-one l = l.count ≡ labels_of (take l.one-index l.series)
