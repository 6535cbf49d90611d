use Rattle.std.proofs.Common.{refl}
use Rattle.bucket_core.specs.Asking.{puts}
use Rattle.block_keys.specs.KeyText.{key_text}
use Rattle.bucket_core.specs.declared.answer.PutAnswer.TheVariants.{NoMemory}
use Rattle.world_core.specs.Performing.{put_reply}
use Rattle.world_core.specs.declared.op.Op.TheVariants.{Put}
use Rattle.world_core.proofs.Asking.{asks_once}
use Rattle.world_core.proofs.KeyTexts.{IsKey-text}
use Rattle.world_core.proofs.bucket_calls.put.Goals as goal

pub put-requires : goal.put-requires
put-requires g c = IsKey-text _ _ c.args.key c.as_str.ensures c.in_ok-name.ensures.written

pub returns-clause-asks : goal.returns-clause-asks
returns-clause-asks g c =
    asks_once g.B.Bucket.told put_reply _ _ (Put c.args.key c.args.bytes.now) (puts (key_text c.args.key) c.args.bytes.now) _ _ NoMemory (record {}) _ refl
    (cc (c.as_str.ensures, c.in_ok-name.ensures.value)) refl c.put_reply.ensures c.put.ensures.asks
