-- An operation was done, and no copy of its reply could be made: it has neither landed nor failed, so it is told as one for
-- which memory was wanted.
use Rattle.std.proofs.Common.{◌≡◌, ℕ, false, Option, Some, None, IfSome, option_map, refl, sym, ◌∙◌, ap, subst}
use Rattle.std.specs.Prelude.{Result, Ok, Err}
use Rattle.base.specs.declared.memory.NoMemory.{NoMemory}
use Rattle.bucket_core.specs.Causes.{KeepsFaults}
use Rattle.bucket_core.specs.Contents.{Contents}
use Rattle.bucket_core.specs.Told.{BucketTold}
use Rattle.world_core.specs.Operations.{has_failed}
use Rattle.world_core.specs.Performing.{IsPerformed, reply_seen}
use Rattle.world_core.specs.Standing.{has_landed, left_by}
use Rattle.world_core.specs.declared.op.Op.{Op}
use Rattle.world_core.specs.declared.op.Op.TheVariants.{Clock, Put, Get, GetRange, Delete, RootPage, BlockPage}
use Rattle.world_core.specs.declared.reply.Reply.{Reply}
use Rattle.world_core.specs.declared.seen.Seen.{Seen}

unlanded : (op : Op) (reply : Reply) (c : Contents) → has_landed reply ≡ false → left_by op reply c ≡ c
unlanded (Clock moment) reply c none = refl
unlanded (Put key bytes) reply c none = rw none refl
unlanded (Get key) reply c none = refl
unlanded (GetRange key from len) reply c none = refl
unlanded (Delete key) reply c none = rw none refl
unlanded (RootPage after limit) reply c none = refl
unlanded (BlockPage ulid after limit) reply c none = refl

same_left : (op : Op) (reply : Reply) (o : Option Contents) → has_landed reply ≡ false → option_map (left_by op reply) o ≡ option_map (λ c. c) o
same_left op reply None none = refl
same_left op reply (Some c) none = ap (λ (x : Contents). Some x) (unlanded op reply c none)

always : (o : Option Contents) → IfSome o (λ c. Unit {0})
always None = tt
always (Some c) = tt

module _ {B : Type 0} (tells : B → BucketTold) (old new : B) (op : Op) (reply : Reply) where
  untold_reply : (none : NoMemory) → has_landed reply ≡ false → has_failed reply ≡ false → IsPerformed tells old op (Ok reply) new → IsPerformed tells old op (Err none) new
  untold_reply none landed failed done = record {
    kind = tt;
    told = always (tells old).contents;
    left = done.left ∙ same_left op reply (tells old).contents landed;
    kept = subst (KeepsFaults (tells old) (tells new)) failed done.kept;
  }

  pub untold : (seen : Result Seen NoMemory) (none : NoMemory) → seen ≡ Err none → has_landed reply ≡ false → has_failed reply ≡ false → IsPerformed tells old op (Ok reply) new → IsPerformed tells old op (reply_seen seen) new
  untold seen none is landed failed done =
      subst (λ (r : Result Seen NoMemory). IsPerformed tells old op (reply_seen r) new) (sym is) (untold_reply none landed failed done)
