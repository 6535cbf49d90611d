-- Runs of a compaction are runs of a sync and of what follows its end.
use Rattle.std.proofs.Common.{List, ◌++◌, Option, Some, None, sym, subst, ◌∙◌, ap, inl, inr, append-nil}
use Rattle.moment_core.specs.declared.rules.Rules.{Rules}
use Rattle.world_core.specs.Plans.{Plan, Runs, finds}
use Rattle.world_core.specs.declared.entry.Entry.{Entry}
use Rattle.world_core.proofs.PlanLaws.{untold}
use Rattle.world_core.proofs.PlanParts.{Parts, broken, both, parts, joined}
use Rattle.meta_fetcher.specs.Syncs.{Synced, Course, IsEnd, sync}
use Rattle.meta_fetcher.specs.OneView.{one_end_of}
use Rattle.world_core.proofs.PlanParts.{begun}
use Rattle.compactor.specs.Compactions.{sync_rules, after_sync, CompactRun}
use Rattle.compactor.specs.SyncFirst.{BeginsWithSync}
use Rattle.compactor.specs.declared.compact_end.CompactEnd.{CompactEnd}

module _ (rules : Rules) where
  abbrev next : Synced × Option Course → Plan CompactEnd
  next told = finds (IsEnd (sync_rules rules) told) (one_end_of (sync_rules rules) told) (after_sync rules.replicas rules.retention)

  fallen : (entries : List Entry) (end : Option CompactEnd) → Parts (sync (sync_rules rules)) next entries end → BeginsWithSync rules entries end
  fallen entries end (broken one none) = inl (one, none)
  fallen entries end (both own others told same first (inl none)) =
      inl (subst (λ es. Runs (sync (sync_rules rules)) es None) (sym (same ∙ ap (λ es. own ++ es) none.0 ∙ append-nil own)) (untold (sync (sync_rules rules)) own (Some told) first), none.1)
  fallen entries end (both own others told same first (inr (came, is, run))) =
      inr (record { own = own; others = others; are = same; came = came; synced = (told, first, is); rest = run })

  pub falls : (entries : List Entry) (end : Option CompactEnd) → CompactRun rules entries end → BeginsWithSync rules entries end
  falls entries end run = fallen entries end (parts (sync (sync_rules rules)) next entries end run)

  pub joins : (entries : List Entry) (end : Option CompactEnd) → BeginsWithSync rules entries end → CompactRun rules entries end
  joins entries end (inl (one, none)) = subst (CompactRun rules entries) (sym none) (begun (sync (sync_rules rules)) next entries one)
  joins entries end (inr split) =
      subst (λ es. CompactRun rules es end) (sym split.are)
      (joined (sync (sync_rules rules)) next split.own split.others split.synced.0 end split.synced.1 (inr (split.came, split.synced.2, split.rest)))
