use Rattle.xor_chunks.proofs.SpansRead.{span_found, span_only}
use Rattle.xor_chunks.proofs.spanning.span_stored.Goals as goal

pub returns : goal.returns
returns c = record {
  found = span_found _ _ c.span_data.ensures.bytes c.span_data.ensures.exact;
  only = λ samples is. span_only c.args.bytes.now c.span_data.result samples c.span_data.ensures.exact is;
  exact = c.span_data.ensures.exact;
}
