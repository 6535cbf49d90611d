use Rattle.std.proofs.Common.{arith}
use Rattle.index_parts.proofs.Decoding.{found_weaker, turns_risen}
use Rattle.index_parts.proofs.postings_reading.numbers_at_once.Goals as goal

pub returns-clause-read : goal.returns-clause-read
returns-clause-read c = found_weaker c.decoded_numbers.result _ _ (λ numbers h. turns_risen c.args.count c.rest.result.now c.as_chunks.result.0.now c.args.cursor.now numbers.items c.rest.ensures c.as_chunks.ensures.front c.as_chunks.ensures.front_len (omega arith) h) c.decoded_numbers.ensures.decoded
