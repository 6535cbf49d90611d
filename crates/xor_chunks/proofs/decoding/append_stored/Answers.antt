use Rattle.xor_chunks.proofs.Appending.{appended_found, appended_only, appended_few}
use Rattle.xor_chunks.proofs.decoding.append_stored.Goals as goal

pub returns : goal.returns
returns c = record {
  found = appended_found (λ all. all.items) _ _ _ c.push_data.ensures.bytes c.push_data.ensures.exact;
  only = λ read is. appended_only (λ all. all.items) c.args.samples.items c.args.bytes.now c.push_data.result read c.push_data.ensures.exact is;
  exact = c.push_data.ensures.exact;
  few = appended_few (λ all. all.items) _ _ _ c.push_data.ensures.bytes c.push_data.ensures.exact;
}
