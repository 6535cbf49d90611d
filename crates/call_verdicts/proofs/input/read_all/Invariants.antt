use Rattle.std.proofs.Common.{◌≡◌, ◌-◌, ◌<◌, ◌++◌, List, ℕ, length, vec_len}
use Rattle.std.specs.Prelude.{option_map}
use Rattle.call_verdicts.proofs.input.read_all.Given as goal

-- what was read and what is left is all that was there
abbrev pub invariant-loop-source : goal.invariant-loop-source
invariant-loop-source g l = record {
  room : 0 < length l.piece.items;
  whole : (g.R.Source.told l.fn.source).left ≡ option_map (λ (rest : List ℕ). l.bytes.items ++ rest) (g.R.Source.told l.source).left;
  same : (g.R.Source.told l.source).faults ≡ (g.R.Source.told l.fn.source).faults;
}

abbrev pub decreases-loop-source : goal.decreases-loop-source
decreases-loop-source g l = 67108865 - vec_len l.bytes
