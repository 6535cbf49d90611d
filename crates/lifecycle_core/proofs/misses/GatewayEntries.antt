-- The entries of a gateway's syncs and series calls are reads.
use Rattle.std.proofs.Common.{ℕ, List, Option}
use Rattle.std.specs.List.{AllByRecursion}
use Rattle.std.proofs.lemmas.List.Elements.{All-weaker, recursion_from_All}
use Rattle.world_core.specs.declared.entry.Entry.{Entry}
use Rattle.world_core.specs.declared.op.Op.{Op}
use Rattle.world_core.specs.declared.op.Op.TheVariants as op
use Rattle.meta_fetcher.specs.Syncs.{SyncRun}
use Rattle.meta_fetcher.proofs.SyncLaws.{only_asks}
use Rattle.meta_fetcher.specs.declared.rules.SyncRules.{SyncRules}
use Rattle.meta_fetcher.specs.declared.sync.SyncEnd.{SyncEnd}
use Rattle.meta_fetcher.specs.declared.view.View.{View}
use Rattle.store_ranges.specs.Reads.{Cache, Query as Question}
use Rattle.store_calls.specs.Asking.{IsReadOf, IsReadOfOne}
use Rattle.store_calls.specs.SeriesCalls.{CallEnd, SeriesRun, to_read}
use Rattle.store_calls.proofs.CallLaws.{call_asks}
use Rattle.lifecycle_core.specs.Acting.{IsReading}

-- ---- syncs

-- a sync reads
pub sync_reads : (rules : SyncRules) (entries : List Entry) (end : Option SyncEnd) → SyncRun rules entries end → AllByRecursion (λ (e : Entry). IsReading e.op) entries
sync_reads rules entries end run = only_asks IsReading rules (λ cursor. tt) (λ ulid. tt) (λ ulid. tt) entries end run

-- ---- series calls

read_reads : (ulid : ℕ) (o : Op) → IsReadOf ulid o → IsReading o
read_reads ulid (op.Clock moment) is = absurd is
read_reads ulid (op.Put k bytes) is = absurd is
read_reads ulid (op.Get k) is = tt
read_reads ulid (op.GetRange k from len) is = tt
read_reads ulid (op.Delete k) is = absurd is
read_reads ulid (op.RootPage after limit) is = tt
read_reads ulid (op.BlockPage own after limit) is = tt

-- a call reads
pub call_reads : (view : View) (query : Question) (cache : Cache) (entries : List Entry) (end : Option CallEnd) → SeriesRun view query cache entries end → AllByRecursion (λ (e : Entry). IsReading e.op) entries
call_reads view query cache entries end run =
    recursion_from_All (λ (e : Entry). IsReading e.op) entries
    (All-weaker (λ (e : Entry). IsReadOfOne (to_read query view.kept) e.op) (λ (e : Entry). IsReading e.op) (λ e is. read_reads (is.0).ulid e.op is.2) entries (call_asks view query cache entries end run))
