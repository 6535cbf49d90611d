use Rattle.std.proofs.Common.{rules, ◌≡◌, subst, sym}
use Rattle.std.specs.List.Sorted.{IsStrictlyIncreasing}
use Rattle.std.proofs.lemmas.Map.Keys.{IsStrictlyIncreasing-from_sorted}
use Rattle.block_meta.proofs.ulid_sets.ulids_in.Goals as goal

pub returns-clause-increasing : goal.returns-clause-increasing
returns-clause-increasing c =
    let same : c.from_vec.result ≡ c.args.set.now.keys = search rules in
    let o = IsStrictlyIncreasing-from_sorted _ c.iter.ensures.ordered in
    subst IsStrictlyIncreasing (sym same) o
