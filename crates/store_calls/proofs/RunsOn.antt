-- How a call goes on with runs of series.
use Rattle.std.proofs.Common.{◌≡◌, ℕ, ◌+◌, ◌*◌, ◌≤◌, List, [], ◌∷◌, length, map, refl, subst, Some, Result, Ok, arith}
use Rattle.base.specs.declared.memory.NoMemory.{NoMemory}
use Rattle.block_keys.specs.declared.key.Key.TheVariants.{Index}
use Rattle.world_core.proofs.PlanLaws.{comes_kept}
use Rattle.world_core.specs.declared.op.Op.TheVariants.{GetRange}
use Rattle.index_parts.specs.declared.index_series.IndexSeries.{IndexSeries}
use Rattle.store_ranges.specs.Reads.{Cache}
use Rattle.store_ranges.specs.IndexReads.{reached}
use Rattle.store_ranges.specs.Asking.{piece_of}
use Rattle.store_ranges.specs.ToRead.{run_read}
use Rattle.store_calls.specs.BlockRuns.{Leading, IsEnd}
use Rattle.store_calls.specs.WorkStates.{most, Leads, left_at, runs_left, with_run, with_lists, sized_left, texts_of, lists_piece}
use Rattle.store_calls.specs.RunFindings.{GoesOnRuns, FindsRuns}
use Rattle.store_ranges.specs.declared.asked.Asked.{Asked}
use Rattle.store_ranges.specs.declared.run_read.RunRead.{RunRead}
use Rattle.store_calls.specs.declared.run_steps.Taken.TheVariants as taken
use Rattle.store_calls.specs.declared.work.RunWork.{RunWork}
use Rattle.store_calls.specs.declared.work.TablesRead.{TablesRead}
use Rattle.store_calls.specs.declared.work.Work.TheVariants as work
use Rattle.store_calls.specs.declared.work.Step.{Step}
use Rattle.store_calls.specs.declared.work.Step.TheVariants.{Wait}
use Rattle.store_calls.proofs.Leading.{leads_kept, leads_wait, keeps_waits}
use Rattle.store_calls.proofs.IndexPlans.{lists_read}

-- it waits for a run that the cache has not got
pub runs_wait : (asked : Asked) (old new : Cache) (last : ℕ) (runs : List RunRead) (series : List IndexSeries) (one : RunWork) (r : Step)
    → GoesOnRuns asked (texts_of one.read) last old new runs series (taken.Waits one.run one.later one.series)
    → r ≡ Wait (GetRange (Index asked.ulid) one.run.range.from one.run.range.len) (work.Run one)
    → Leads asked new (4 * most * most + length runs) (Leading (runs_left asked (texts_of one.read) (map run_read runs) (reached last old) series)) (Ok r)
runs_wait asked old new last runs series one r (none, fewer, keeps) is =
    leads_wait asked new (4 * most * most + length runs) (piece_of one.run.range) (work.Run one) (Leading (runs_left asked (texts_of one.read) (map run_read runs) (reached last old) series)) r is refl
    (omega (arith, fewer))
    (λ entries end left run.
    comes_kept (runs_left asked (texts_of one.read) (run_read one.run ∷ map run_read one.later.items) (reached last new) one.series.items)
    (runs_left asked (texts_of one.read) (map run_read runs) (reached last old) series) (IsEnd left) keeps entries end
    (comes_kept (left_at asked (work.Run one) new)
    (runs_left asked (texts_of one.read) (run_read one.run ∷ map run_read one.later.items) (reached last new) one.series.items) (IsEnd left)
    (keeps_waits asked new new last (piece_of one.run.range) (with_run asked (texts_of one.read) (run_read one.run) (map run_read one.later.items) one.series.items) none refl) entries end (run tt)))

-- the runs are known, and none of their series is
pub lists_on : (asked : Asked) (read : TablesRead) (lists : List ℕ) (runs given : List RunRead) (series : List IndexSeries) (last : ℕ) (old new : Cache) (r : Result Step NoMemory)
    → FindsRuns asked read lists (Some runs) → given ≡ runs → series ≡ [] → length given ≤ most
    → Leads asked new (4 * most * most + length given) (Leading (runs_left asked (texts_of read.first) (map run_read given) (reached last old) series)) r
    → Leads asked new (5 * most * most) (Leading (sized_left asked (lists_piece read.first.places) (reached last old) (with_lists asked read) lists)) r
lists_on asked read lists runs given series last old new r finds same none few leads =
    leads_kept asked new (4 * most * most + length given) (5 * most * most) (runs_left asked (texts_of read.first) (map run_read runs) (reached last old) [])
    (sized_left asked (lists_piece read.first.places) (reached last old) (with_lists asked read) lists) r (omega (arith, few))
    (lists_read asked read lists runs last old finds)
    (subst (λ (l : List IndexSeries). Leads asked new (4 * most * most + length given) (Leading (runs_left asked (texts_of read.first) (map run_read runs) (reached last old) l)) r) none
    (subst (λ (l : List RunRead). Leads asked new (4 * most * most + length given) (Leading (runs_left asked (texts_of read.first) (map run_read l) (reached last old) series)) r) same leads))
