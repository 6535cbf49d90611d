use Rattle.std.proofs.Common.{ap, sym, ◌∙◌}
use Rattle.xor_chunks.specs.Known.{state_of}
use Rattle.xor_chunks.specs.Spans.{end_at}
use Rattle.xor_chunks.proofs.passing.pass_most.Goals as goal

pub returns : goal.returns
returns c =
    ap (λ l. end_at c.args.count (state_of c.args.second) l) (sym c.place_of.ensures.place) ∙ c.pass_near-left.ensures.end ∙ ap (λ l. end_at c.pass_near-left.result.0 (state_of c.pass_near-left.result.1) l) (sym c.reader_at.ensures)
