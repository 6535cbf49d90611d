-- A call goes on behind the bytes that were waited for.
use Rattle.std.proofs.Common.{◌≡◌, ℕ, List, sym, ap, subst, ◌∙◌, Result, arith}
use Rattle.block_keys.specs.declared.key.Key.TheVariants.{Index}
use Rattle.base.specs.declared.memory.NoMemory.{NoMemory}
use Rattle.world_core.specs.Plans.{Plan, Keeps}
use Rattle.store_ranges.specs.IndexRanges.{Piece}
use Rattle.store_ranges.specs.Reads.{Cache, Reached, kept, range_of}
use Rattle.store_ranges.specs.IndexReads.{reached}
use Rattle.store_calls.specs.BlockReads.{BlockEnd}
use Rattle.store_calls.specs.BlockRuns.{Leading}
use Rattle.store_calls.specs.WorkStates.{Where, Leads, Holds, count_at, with_bytes, sized_left, kept_left}
use Rattle.store_ranges.specs.declared.asked.Asked.{Asked}
use Rattle.store_calls.specs.declared.work.Work.{Work}
use Rattle.store_calls.specs.declared.work.Step.{Step}
use Rattle.store_calls.proofs.Leading.{leads_free, keeps_all}

abbrev pub TakesBytes : Asked → Cache → Cache → ℕ → List ℕ → Result Step NoMemory → Work → Type 0
TakesBytes asked old new seq bytes r work = Leads asked new (count_at work) (Where (Holds work) (Leading (with_bytes asked work old seq bytes))) r

pub takes_as : (asked : Asked) (old new : Cache) (seq : ℕ) (given bytes : List ℕ) (r : Result Step NoMemory) (one other : Work) → one ≡ other → given ≡ bytes → TakesBytes asked old new seq given r other → TakesBytes asked old new seq bytes r one
takes_as asked old new seq given bytes r one other is same takes =
    subst (λ (b : List ℕ). TakesBytes asked old new seq b r one) same (subst (TakesBytes asked old new seq given r) (sym is) takes)

-- what may follow does so where something holds, too
pub leads_freely : (asked : Asked) (cache : Cache) (limit : ℕ) (So : Type 0) (plan : Plan BlockEnd) (r : Result Step NoMemory) → Leads asked cache limit (Leading plan) r → Leads asked cache limit (Where So (Leading plan)) r
leads_freely asked cache limit So plan r leads = leads_free asked cache limit limit So plan plan r (omega arith) (λ so. keeps_all plan) leads

-- the bytes of a range were read and kept
pub leads_read : (asked : Asked) (piece same : Piece) (old mid final : Cache) (seq limit : ℕ) (next : Reached → List ℕ → Plan BlockEnd) (bytes : List ℕ) (So : Type 0) (r : Result Step NoMemory)
    → same ≡ piece → mid ≡ kept (range_of (Index asked.ulid) same) bytes old
    → Leads asked final limit (Leading (sized_left asked piece (reached seq mid) next bytes)) r → Leads asked final limit (Where So (Leading (kept_left asked piece old next seq bytes))) r
leads_read asked piece same old mid final seq limit next bytes So r is read leads =
    leads_free asked final limit limit So (sized_left asked piece (reached seq mid) next bytes) (kept_left asked piece old next seq bytes) r (omega arith)
    (λ so. subst (λ (c : Cache). Keeps (sized_left asked piece (reached seq c) next bytes) (kept_left asked piece old next seq bytes))
    (sym (read ∙ ap (λ (p : Piece). kept (range_of (Index asked.ulid) p) bytes old) is)) (keeps_all (kept_left asked piece old next seq bytes)))
    leads
