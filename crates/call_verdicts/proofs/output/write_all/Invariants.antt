use Rattle.std.proofs.Common.{◌≡◌, ◌≤◌, ◌++◌, List, ℕ, length}
use Rattle.std.specs.Prelude.{option_map}
use Rattle.call_verdicts.proofs.output.write_all.Given as goal

-- what was written and what is left is the text
abbrev pub invariant-loop-left : goal.invariant-loop-left
invariant-loop-left g l = record {
  written : (front : List ℕ) × (l.text ≡ front ++ l.left) × ((g.K.Sink.told l.out).written ≡ option_map (λ (bytes : List ℕ). bytes ++ front) (g.K.Sink.told l.fn.out).written);
  later : (g.K.Sink.told l.fn.out).faults ≤ (g.K.Sink.told l.out).faults;
}

abbrev pub decreases-loop-left : goal.decreases-loop-left
decreases-loop-left g l = length l.left
