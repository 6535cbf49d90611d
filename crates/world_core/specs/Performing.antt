-- What doing an operation on a bucket means.
use Rattle.std.specs.Prelude.{◌≡◌, ℕ, Bool, false, Option, IfSome, option_map, Result, Ok, Err, IfOk}
use Rattle.base.specs.declared.memory.NoMemory.{NoMemory}
use Rattle.bucket_core.specs.Causes.{KeepsFaults}
use Rattle.bucket_core.specs.Contents.{Contents}
use Rattle.bucket_core.specs.Told.{BucketTold}
use Rattle.bucket_core.specs.declared.answer.PutAnswer.{PutAnswer}
use Rattle.bucket_core.specs.declared.answer.PutAnswer.TheVariants as put
use Rattle.bucket_core.specs.declared.answer.GetAnswer.{GetAnswer}
use Rattle.bucket_core.specs.declared.answer.GetAnswer.TheVariants as get
use Rattle.bucket_core.specs.declared.answer.DeleteAnswer.{DeleteAnswer}
use Rattle.bucket_core.specs.declared.answer.DeleteAnswer.TheVariants as delete
use Rattle.bucket_core.specs.declared.answer.PageAnswer.{PageAnswer}
use Rattle.bucket_core.specs.declared.answer.PageAnswer.TheVariants as page
use Rattle.world_core.specs.Operations.{IsReplyTo, has_failed}
use Rattle.world_core.specs.Standing.{left_by, Tells}
use Rattle.world_core.specs.declared.seen.Seen.{Seen}
use Rattle.world_core.specs.declared.op.Op.{Op}
use Rattle.world_core.specs.declared.reply.Reply.{Reply}
use Rattle.world_core.specs.declared.reply.Reply.TheVariants.{Stored, Found, Absent, Deleted, Names, Failed}

-- the reply that an answer of the bucket gives, if it is one
abbrev pub put_reply : PutAnswer → Result Reply NoMemory
put_reply put.Stored = Ok Stored
put_reply (put.Failed landed) = Ok (Failed landed)
put_reply put.NoMemory = Err (record {})

abbrev pub get_reply : GetAnswer → Result Reply NoMemory
get_reply (get.Found bytes) = Ok (Found bytes)
get_reply get.Absent = Ok Absent
get_reply get.Failed = Ok (Failed false)
get_reply get.NoMemory = Err (record {})

abbrev pub delete_reply : DeleteAnswer → Result Reply NoMemory
delete_reply delete.Deleted = Ok Deleted
delete_reply (delete.Failed landed) = Ok (Failed landed)

abbrev pub page_reply : PageAnswer → Result Reply NoMemory
page_reply (page.Names names) = Ok (Names names)
page_reply page.Failed = Ok (Failed false)
page_reply page.NoMemory = Err (record {})

-- what is left after an operation, which for want of memory was not done
abbrev pub left_after : Op → Result Reply NoMemory → Contents → Contents
left_after op (Ok reply) contents = left_by op reply contents
left_after op (Err none) contents = contents

-- whether the call failed
abbrev pub is_failure : Result Reply NoMemory → Bool
is_failure (Ok reply) = has_failed reply
is_failure (Err none) = false

-- An operation took a bucket from `old` to `new`.
pub record IsPerformed {B : Type 0} (tells : B → BucketTold) (old : B) (op : Op) (result : Result Reply NoMemory) (new : B) : Type 0 where
  pub kind : IfOk result (λ reply. IsReplyTo op reply)
  -- where the bucket tells what it holds, the reply shows it
  pub told : IfSome (tells old).contents (λ c. IfOk result (λ reply. Tells c op reply))
  pub left : (tells new).contents ≡ option_map (left_after op result) (tells old).contents
  pub kept : KeepsFaults (tells old) (tells new) (is_failure result)

-- the reply that was told, if one was
abbrev pub reply_seen : Result Seen NoMemory → Result Reply NoMemory
reply_seen (Ok seen) = Ok seen.reply
reply_seen (Err none) = Err none
