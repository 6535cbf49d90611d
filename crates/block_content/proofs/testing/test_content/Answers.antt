use Rattle.block_content.proofs.ContentTests.{index_bytes, test_few, test_found, test_only, test_refused, test_refuses}
use Rattle.block_content.proofs.testing.test_content.Goals as goal

pub returns : goal.returns
returns c = record {
  found = test_found c.args.files.now c.bytes.result.now c.members.result.now c.bytes.ensures c.members.ensures c.test_files.ensures.bytes c.test_files.result c.test_files.ensures.exact;
  only = test_only c.args.files.now c.bytes.result.now c.members.result.now c.bytes.ensures c.members.ensures c.test_files.ensures.bytes c.test_files.result c.test_files.ensures.exact;
  refused = test_refused c.args.files.now c.bytes.result.now c.members.result.now c.bytes.ensures c.members.ensures c.test_files.ensures.bytes c.test_files.result c.test_files.ensures.exact;
  refuses = test_refuses c.args.files.now c.bytes.result.now c.members.result.now c.bytes.ensures c.members.ensures c.test_files.ensures.bytes c.test_files.result c.test_files.ensures.exact;
  few = test_few c.args.files.now c.bytes.result.now c.members.result.now c.bytes.ensures c.members.ensures c.test_files.ensures.bytes c.test_files.result c.test_files.ensures.few;
  bytes = index_bytes c.args.files.now c.bytes.result.now c.members.result.now c.bytes.ensures c.members.ensures c.test_files.ensures.bytes;
}
