use Rattle.block_content.proofs.ContentLaws.{call_exact, call_found, call_only, call_refused, call_refuses, call_few}
use Rattle.block_content.proofs.content_reading.content.Goals as goal

pub returns : goal.returns
returns c = record {
  found = call_found c.args.files.now c.bytes.result.now c.members.result.now c.bytes.ensures c.members.ensures c.read_content.ensures.bytes c.read_content.result c.read_content.ensures.exact;
  only = call_only c.args.files.now c.bytes.result.now c.members.result.now c.bytes.ensures c.members.ensures c.read_content.ensures.bytes c.read_content.result c.read_content.ensures.exact;
  refused = call_refused c.args.files.now c.bytes.result.now c.members.result.now c.bytes.ensures c.members.ensures c.read_content.ensures.bytes c.read_content.result c.read_content.ensures.exact;
  refuses = call_refuses c.args.files.now c.bytes.result.now c.members.result.now c.bytes.ensures c.members.ensures c.read_content.ensures.bytes c.read_content.result c.read_content.ensures.exact;
  few = call_few c.args.files.now c.bytes.result.now c.members.result.now c.bytes.ensures c.members.ensures c.read_content.ensures.bytes c.read_content.result c.read_content.ensures.few;
  exact = call_exact c.args.files.now c.bytes.result.now c.members.result.now c.bytes.ensures c.members.ensures c.read_content.ensures.bytes c.read_content.result c.read_content.ensures.exact;
}
