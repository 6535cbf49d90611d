use Rattle.std.proofs.Common.{sym, subst, arith}
use Rattle.std.proofs.lemmas.List.{take_rest}
use Rattle.chunk_files.specs.Chunk.{IsFront}
use Rattle.block_merging.proofs.StandingData.{none_past_end}
use Rattle.block_merging.proofs.standing_data.segment_data.Goals as goal

pub returns-then-begin-segment-clause-data : goal.returns-then-begin-segment-clause-data
returns-then-begin-segment-clause-data c = λ content h. absurd (none_past_end c.args.segment.now content c.args.offset (omega (arith, c.if-begin-segment.true)) h)

pub returns-then-begin-segment-clause-sum : goal.returns-then-begin-segment-clause-sum
returns-then-begin-segment-clause-sum c = λ content h. absurd (none_past_end c.args.segment.now content c.args.offset (omega (arith, c.if-begin-segment.true)) h)

pub returns-clause-data : goal.returns-clause-data
returns-clause-data c = λ content h. c.front_data.ensures.data content (subst (λ b. IsFront b content) (sym (take_rest c.args.segment.now c.args.offset)) h.stands)

pub returns-clause-sum : goal.returns-clause-sum
returns-clause-sum c = λ content h. c.front_data.ensures.sum content (subst (λ b. IsFront b content) (sym (take_rest c.args.segment.now c.args.offset)) h.stands)
