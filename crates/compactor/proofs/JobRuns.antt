-- Groups of which nothing is to be compacted are passed over.
use Rattle.std.proofs.Common.{ℕ, ◌+◌, List, [], ◌∷◌, ◌++◌, inr, sym, subst}
use Rattle.std.specs.List.{AllByRecursion}
use Rattle.world_core.specs.Plans.{Plan, Runs, Keeps}
use Rattle.group_planner.specs.declared.group.Group.{Group}
use Rattle.compactor.specs.Compactions.{compacting, compacting_groups}
use Rattle.compactor.specs.Jobs.{IsUnplanned, metas_of, Skips, TakesJob}
use Rattle.compactor.specs.declared.job.Job.{Job}
use Rattle.compactor.specs.declared.compact_end.CompactEnd.{CompactEnd}

module _ (replicas : List (List ℕ)) (compacted : ℕ) (next : ℕ → Plan CompactEnd) where
  skip : (front left : List Group) → AllByRecursion IsUnplanned front → Keeps (compacting_groups replicas compacted left next) (compacting_groups replicas compacted (front ++ left) next)
  skip [] left all entries end run = run
  skip (group ∷ front) left all entries end run = inr ([], all.0, skip front left all.1 entries end run)

  -- no group has a plan
  pub all_skipped : (all : List Group) → Skips all [] → Keeps (next compacted) (compacting_groups replicas compacted all next)
  all_skipped all skips entries end run = subst (λ l. Runs (compacting_groups replicas compacted l next) entries end) (sym skips.are) (skip skips.front [] skips.unplanned entries end run)

  -- the first that has one
  pub job_runs : (all left : List Group) (job : Job) → TakesJob all left job
      → Keeps (compacting replicas job.labels (compacting_groups replicas compacted left next) (compacting_groups replicas (compacted + 1) left next) (metas_of job)) (compacting_groups replicas compacted all next)
  job_runs all left job takes entries end run =
      subst (λ l. Runs (compacting_groups replicas compacted l next) entries end) (sym takes.skipped.are)
      (skip takes.skipped.front (takes.group ∷ left) takes.skipped.unplanned entries end
      (inr (
        metas_of job,
        takes.is.plan,
        subst (λ l. Runs (compacting replicas l (compacting_groups replicas compacted left next) (compacting_groups replicas (compacted + 1) left next) (metas_of job)) entries end) takes.is.labels_are run,
      )))
