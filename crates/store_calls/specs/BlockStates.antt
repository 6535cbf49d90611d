-- A call of one block as a machine: what it waits for, what it may still do, and how often it still asks. The machine's steps alone
-- speak of this. What a call is from its start on, BlockRuns says.
use Rattle.std.specs.Prelude.{◌≡◌, ℕ, List, Option}
use Rattle.world_core.specs.declared.op.Op.{Op}
use Rattle.world_core.specs.declared.entry.Entry.{Entry}
use Rattle.world_core.specs.declared.act.Act.{Act}
use Rattle.world_core.specs.declared.act.Act.TheVariants as act
use Rattle.store_calls.specs.BlockRuns.{cache_of}
use Rattle.store_calls.specs.WorkStates.{may_at, asked_at, count_at}
use Rattle.store_calls.specs.declared.block_call.BlockCall.{BlockCall}
use Rattle.store_calls.specs.declared.block_call.BlockOutcome.{BlockOutcome}
use Rattle.store_calls.specs.declared.work.Work.TheVariants.{Fresh}
use Rattle.store_calls.specs.declared.work.Step.{Step}
use Rattle.store_calls.specs.declared.work.Step.TheVariants.{Wait, Done}

abbrev pub IsFresh : BlockCall → Type 0
IsFresh call = call.work ≡ Fresh

-- a run of what is left, which leaves the cache that the machine has then
abbrev pub may_call : BlockCall → List Entry → Option BlockOutcome → BlockCall → Type 0
may_call call entries end last = may_at call.asked call.work (cache_of call) entries end (cache_of last)

abbrev pub asked_call : BlockCall → Option Op
asked_call call = asked_at call.asked.ulid call.work

abbrev pub count_call : BlockCall → ℕ
count_call call = count_at call.work

-- It waits, or it has come to its end.
abbrev pub ActsAs : BlockCall → Step → Act BlockOutcome → BlockCall → Type 0
ActsAs old (Wait op work) result new = (result ≡ act.Do op) × (new.work ≡ work) × (new.asked ≡ old.asked) × (new.cache ≡ old.cache)
ActsAs old (Done end) result new = (result ≡ act.Done end) × (new.cache ≡ old.cache)
