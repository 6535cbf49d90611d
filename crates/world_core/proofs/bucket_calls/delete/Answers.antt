use Rattle.std.proofs.Common.{refl}
use Rattle.world_core.specs.declared.op.Op.TheVariants.{Delete}
use Rattle.world_core.proofs.Asking.{asks_call}
use Rattle.bucket_core.specs.Asking.{deletes}
use Rattle.block_keys.specs.KeyText.{key_text}
use Rattle.world_core.proofs.bucket_calls.delete.Goals as goal

pub returns-clause-asks : goal.returns-clause-asks
returns-clause-asks g c =
    asks_call g.B.Bucket.told _ _ (Delete c.args.key) (deletes (key_text c.args.key)) _ _ refl
    (cc (c.as_str.ensures, c.in_ok-name.ensures.value)) c.delete.ensures.asks
