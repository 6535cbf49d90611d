use Rattle.std.proofs.Common.{refl}
use Rattle.bucket_core.specs.Asking.{gets_range}
use Rattle.block_keys.specs.KeyText.{key_text}
use Rattle.bucket_core.specs.declared.answer.GetAnswer.TheVariants.{NoMemory}
use Rattle.world_core.specs.Performing.{get_reply}
use Rattle.world_core.specs.declared.op.Op.TheVariants.{GetRange}
use Rattle.world_core.proofs.Asking.{asks_once}
use Rattle.world_core.proofs.bucket_calls.get_range.Goals as goal

pub returns-clause-asks : goal.returns-clause-asks
returns-clause-asks g c =
    asks_once g.B.Bucket.told get_reply _ _ (GetRange c.args.key c.args.from c.args.len) (gets_range (key_text c.args.key) c.args.from c.args.len) _ _ NoMemory (record {}) _ refl
    (cc (c.as_str.ensures, c.in_ok-name.ensures.value)) refl c.get_reply.ensures c.get_range.ensures.asks
