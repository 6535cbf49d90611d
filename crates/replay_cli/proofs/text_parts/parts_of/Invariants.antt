use Rattle.std.proofs.Common.{◌≡◌, ◌++◌, []}
use Rattle.std.specs.List.{All, flat_map}
use Rattle.replay_cli.specs.TextParts.{series_in}
use Rattle.replay_cli.proofs.text_parts.parts_of.Given as goal

abbrev pub invariant-loop-others : goal.invariant-loop-others
invariant-loop-others l =
    (flat_map series_in l.parts.items ++ l.left ≡ l.series)
    × All (λ part. part.text.items ≡ []) l.parts.items
