-- How a compaction begins, and how its reads end.
use Rattle.std.proofs.Common.{◌≡◌, ℕ, List, [], ◌∷◌, Option, Some, None, IsSomeAnd, Ok, inl, inr, refl, subst}
use Rattle.moment_core.specs.declared.rules.Rules.{Rules}
use Rattle.world_core.specs.Machines.{GoesOn}
use Rattle.world_core.specs.Operations.{IsAnswer, entry_of}
use Rattle.world_core.specs.declared.op.Op.{Op}
use Rattle.world_core.specs.declared.seen.Seen.{Seen}
use Rattle.world_core.specs.declared.entry.Entry.{Entry}
use Rattle.world_core.specs.declared.act.Act.{Act}
use Rattle.world_core.specs.declared.act.Act.TheVariants as act
use Rattle.meta_fetcher.specs.contracts.sync.SyncMachine.TheImpl.{ghosts as syncs}
use Rattle.meta_fetcher.specs.Syncs.{SyncRun}
use Rattle.meta_fetcher.specs.declared.rules.SyncRules.{SyncRules}
use Rattle.meta_fetcher.specs.declared.sync.Sync.{Sync}
use Rattle.meta_fetcher.specs.declared.sync.SyncEnd.{SyncEnd}
use Rattle.compactor.specs.Compactions.{sync_rules, after_sync, CompactRun}
use Rattle.world_core.specs.Parts.{PartThen}
use Rattle.compactor.proofs.ReadSteps.{ends_fit}
use Rattle.compactor.specs.Reading.{FitsEnd}
use Rattle.compactor.specs.contracts.reads.ReadsMachine.TheImpl.{ghosts as reads}
use Rattle.compactor.specs.declared.compact_end.CompactEnd.{CompactEnd}
use Rattle.compactor.specs.declared.reads.Reads.{Reads}
use Rattle.compactor.specs.declared.reads_end.ReadsEnd.{ReadsEnd}
use Rattle.compactor.specs.declared.stage.Stage.{Stage}
use Rattle.compactor.specs.declared.stage.Stage.TheVariants.{Syncing}
use Rattle.compactor.proofs.SyncParts.{joins}

-- a sync, and then what follows it, is a compaction
pub starts : (rules : Rules) (given : SyncRules) (replicas : List (List ℕ)) (sync : Sync) → given ≡ sync_rules rules → replicas ≡ rules.replicas
    → ((entries : List Entry) (end : Option SyncEnd) (last : Sync) → syncs.may sync entries end last → SyncRun given entries end)
    → (entries : List Entry) (end : Option CompactEnd) → PartThen syncs.may sync (λ own came. after_sync replicas rules.retention came) entries end → CompactRun rules entries end
starts rules given replicas sync same copied run entries end part =
    by (subst (λ (rs : List (List ℕ)). PartThen syncs.may sync (λ own came. after_sync rs rules.retention came) entries end) copied part)
  where
    ran : (entries : List Entry) (end : Option SyncEnd) (last : Sync) → syncs.may sync entries end last → SyncRun (sync_rules rules) entries end
    ran entries end last may = subst (λ (rs : SyncRules). SyncRun rs entries end) same (run entries end last may)

    by : PartThen syncs.may sync (λ own came. after_sync rules.replicas rules.retention came) entries end → CompactRun rules entries end
    by (inl (broken, none)) = joins rules entries end (inl (ran entries None broken.0 broken.1, none))
    by (inr hands) =
        joins rules entries end
        (inr (record { own = hands.own; others = hands.others; are = hands.are; came = hands.came; synced = ran hands.own (Some hands.came) hands.last hands.first; rest = hands.rest }))

-- the sync that is begun was not begun before
pub fresh_sync : (stage : Stage) (sync : Sync) → stage ≡ Syncing sync → ((other : Sync) × (stage ≡ Syncing other) × syncs.fresh other) → syncs.fresh sync
fresh_sync stage sync is (other, so, fresh) = let same : other ≡ sync = cc (is, so) in subst syncs.fresh same fresh

-- ---- the reads

-- reads that end at once may be merged
pub fits_first : (old new : Reads) (made : List Entry) (a : Act ReadsEnd) (came : ReadsEnd) → a ≡ act.Done came → GoesOn reads.may reads.asked old made (Ok a) new → FitsEnd came
fits_first old new made a came is goes = ends_fit old new made came (subst (λ (b : Act ReadsEnd). GoesOn reads.may reads.asked old made (Ok b) new) is goes)

-- and so those that end after a reply
pub fits_step : (old new : Reads) (seen : Seen) (a : Act ReadsEnd) (came : ReadsEnd) → a ≡ act.Done came → IsSomeAnd (reads.asked old) (λ op. IsAnswer op seen)
    → ((seat : ℕ) (op : Op) → reads.asked old ≡ Some op → GoesOn reads.may reads.asked old (entry_of seat op seen ∷ []) (Ok a) new) → FitsEnd came
fits_step old new seen a came is answer goes = by (reads.asked old) refl answer
  where
    by : (o : Option Op) → reads.asked old ≡ o → IsSomeAnd o (λ op. IsAnswer op seen) → FitsEnd came
    by None e none = absurd none
    by (Some op) e some = fits_first old new (entry_of 0 op seen ∷ []) a came is (goes 0 op e)
