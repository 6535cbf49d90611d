use Rattle.std.proofs.Common.{refl, []}
use Rattle.bucket_core.specs.Asking.{lists}
use Rattle.bucket_core.specs.declared.answer.PageAnswer.TheVariants.{NoMemory}
use Rattle.world_core.specs.Performing.{page_reply}
use Rattle.world_core.specs.declared.op.Op.TheVariants.{RootPage}
use Rattle.world_core.proofs.Asking.{asks_once}
use Rattle.world_core.proofs.bucket_calls.root_page.Goals as goal

pub returns-clause-asks : goal.returns-clause-asks
returns-clause-asks g c =
    asks_once g.B.Bucket.told page_reply _ _ (RootPage c.args.after.now c.args.limit) (lists [] c.args.after.now c.args.limit) _ _ NoMemory (record {}) _ refl
    (cc (c.as_str.ensures)) refl c.page_reply.ensures c.page.ensures.asks
