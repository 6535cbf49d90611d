use Rattle.std.proofs.Common.{arith}
use Rattle.generated_day.specs.Day.{round_text, all_rounds_text}
use Rattle.generated_day.proofs.Parts.{part_more, part_end}
use Rattle.generated_day.proofs.day.put_rounds.Goals as goal

pub loop-round-preserved : goal.loop-round-preserved
loop-round-preserved c =
    part_more (round_text) _ _ _ c.loop-round.round 16 c.loop-round-test.true c.in_ok-put_round.ensures c.loop-round.invariant

pub returns : goal.returns
unfolding all_rounds_text
returns c = part_end (round_text) _ _ c.loop-round.round 16 (omega arith) c.loop-round.invariant
