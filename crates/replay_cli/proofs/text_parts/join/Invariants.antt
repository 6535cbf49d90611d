use Rattle.std.proofs.Common.{◌≡◌, ◌++◌, take, Ok}
use Rattle.std.specs.List.{All, flat_map}
use Rattle.replay_cli.proofs.text_parts.join.Given as goal

abbrev pub invariant-loop-part : goal.invariant-loop-part
invariant-loop-part l =
    All (λ part. part.came ≡ Ok tt) (take l.part-index l.parts)
    × (l.out.items ≡ l.initial.out.items ++ flat_map (λ part. part.text.items) (take l.part-index l.parts))
