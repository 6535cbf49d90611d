use Rattle.std.proofs.Common.{◌≡◌, ℕ, ◌+◌, ◌<◌, false, get_or}
use Rattle.std.specs.Str.{bytes_eq}
use Rattle.label_sets.specs.declared.label.Label.{Label}
use Rattle.label_sets.proofs.notation.has_repeated_name.Given as goal

abbrev pub invariant-loop-i : goal.invariant-loop-i
invariant-loop-i l = (k : ℕ) (d : Label) → k + 1 < l.i → bytes_eq (get_or l.labels k d).name (get_or l.labels (k + 1) d).name ≡ false
