use Rattle.std.proofs.Common.{ap, ◌∙◌}
use Rattle.std.specs.Int.{w128}
use Rattle.std.proofs.lemmas.Int.{to_z-of_z}
use Rattle.xor_chunks.specs.Known.{state_of}
use Rattle.xor_chunks.specs.Steps.{behind, follow_at}
use Rattle.xor_chunks.proofs.Takes.{reads_same}
use Rattle.xor_chunks.proofs.Peeks.{behind_none}
use Rattle.xor_chunks.proofs.step.follow.Goals as goal

pub returns : goal.returns
returns c =
    reads_same _ _ _ _ _ c.follow_known.ensures
    (ap (λ z. behind 0 (follow_at (state_of c.args.last) z) c.peek-word.new.self) (to_z-of_z w128 c.args.change c.ranges.change) ∙ behind_none _ _ ∙ ap (follow_at (state_of c.args.last) c.args.change) c.peek-word.ensures.same)
