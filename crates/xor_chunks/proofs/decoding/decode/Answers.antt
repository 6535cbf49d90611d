use Rattle.xor_chunks.proofs.TextsRead.{found, only, few}
use Rattle.xor_chunks.proofs.decoding.decode.Goals as goal

pub returns : goal.returns
returns c = record {
  found = found 7 _ _ c.data_of.ensures.bytes c.data_of.ensures.exact;
  only = λ samples is. only 7 c.args.bytes.now c.data_of.result samples c.data_of.ensures.exact is;
  exact = c.data_of.ensures.exact;
  few = few 7 _ _ c.data_of.ensures.bytes c.data_of.ensures.exact;
}
