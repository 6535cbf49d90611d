use Rattle.std.proofs.Common.{◌≡◌, take}
use Rattle.std.specs.Prelude.{fold}
use Rattle.std.specs.BTreeSet.{insert_key}
use Rattle.std.specs.Ordering.{nat_cmp}
use Rattle.block_meta.proofs.ulid_sets.add_all.Given as goal

abbrev pub invariant-loop-ulid : goal.invariant-loop-ulid
invariant-loop-ulid l = l.set.keys ≡ fold (insert_key nat_cmp) l.initial.set.keys (take l.ulid-index l.ulids)
