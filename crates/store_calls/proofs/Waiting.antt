-- How a call goes on with a range that the cache has or has not got.
use Rattle.std.proofs.Common.{◌≡◌, ℕ, ◌<◌, ◌≤◌, List, Some, None, Result, Ok}
use Rattle.base.specs.declared.memory.NoMemory.{NoMemory}
use Rattle.block_keys.specs.declared.key.Key.TheVariants.{Index}
use Rattle.world_core.proofs.PlanLaws.{comes_kept}
use Rattle.world_core.specs.declared.op.Op.TheVariants.{GetRange}
use Rattle.world_core.specs.Plans.{Plan, Keeps}
use Rattle.store_ranges.specs.IndexRanges.{Piece}
use Rattle.store_ranges.specs.Reads.{Cache, Reached, range_of}
use Rattle.store_ranges.specs.Caching.{IsFromCache}
use Rattle.store_ranges.specs.IndexReads.{reached}
use Rattle.store_calls.specs.BlockReads.{BlockEnd}
use Rattle.store_calls.specs.BlockRuns.{Leading, IsEnd}
use Rattle.store_calls.specs.WorkStates.{Leads, Holds, asked_at, count_at, left_at, waits, range_left, sized_left}
use Rattle.store_ranges.specs.declared.asked.Asked.{Asked}
use Rattle.store_calls.specs.declared.work.Work.{Work}
use Rattle.store_calls.specs.declared.work.Step.{Step}
use Rattle.store_calls.specs.declared.work.Step.TheVariants.{Wait}
use Rattle.store_calls.proofs.Leading.{leads_kept, leads_wait, keeps_cached, keeps_waits}

module _ (asked : Asked) (old new : Cache) (last : ℕ) (piece : Piece) (next : Reached → List ℕ → Plan BlockEnd) where
  -- the cache has the range
  pub leads_cached : (final : Cache) (less more : ℕ) (bytes : List ℕ) (r : Result Step NoMemory) → less ≤ more → IsFromCache (range_of (Index asked.ulid) piece) old (Some bytes) new
      → Leads asked final less (Leading (sized_left asked piece (reached last new) next bytes)) r → Leads asked final more (Leading (range_left asked piece (reached last old) next)) r
  leads_cached final less more bytes r le has leads =
      leads_kept asked final less more (sized_left asked piece (reached last new) next bytes) (range_left asked piece (reached last old) next) r le
      (keeps_cached asked old new last piece next bytes has.0 has.1) leads

  -- it has not got it
  pub leads_absent : (limit : ℕ) (one : Work) (r : Step) → IsFromCache (range_of (Index asked.ulid) piece) old None new → r ≡ Wait (GetRange (Index asked.ulid) piece.from piece.len) one
      → asked_at asked.ulid one ≡ Some (GetRange (Index asked.ulid) piece.from piece.len) → count_at one < limit
      → Holds one → Keeps (left_at asked one new) (waits asked piece new next)
      → Leads asked new limit (Leading (range_left asked piece (reached last old) next)) (Ok r)
  leads_absent limit one r none is asks falls holds same =
      leads_wait asked new limit piece one (Leading (range_left asked piece (reached last old) next)) r is asks falls
      (λ entries end left run.
      comes_kept (waits asked piece new next) (range_left asked piece (reached last old) next) (IsEnd left)
      (keeps_waits asked old new last piece next none.0 none.1) entries end
      (comes_kept (left_at asked one new) (waits asked piece new next) (IsEnd left) same entries end (run holds)))
