-- What is done with a view.
use Rattle.std.proofs.Common.{◌≡◌, ◌+◌, ℕ, List, [], inr, subst, Option, Result}
use Rattle.base.specs.declared.memory.NoMemory.{NoMemory}
use Rattle.world_core.specs.declared.act.Act.{Act}
use Rattle.moment_core.specs.declared.span.Span.{Span}
use Rattle.world_core.specs.Plans.{Plan, Runs, Keeps}
use Rattle.meta_fetcher.specs.declared.view.View.{View}
use Rattle.group_planner.specs.Groups.{AreGroups}
use Rattle.group_planner.specs.declared.group.Group.{Group}
use Rattle.group_planner.proofs.GroupLaws.{one_answer}
use Rattle.world_core.specs.Plans.{finds, ends}
use Rattle.compactor.specs.FoundNames.{names_of, expired_at}
use Rattle.compactor.specs.Compactions.{metas_of, rounds}
use Rattle.compactor.specs.CompactStates.{groups_from, groups_left, marks_left, Begins}
use Rattle.compactor.specs.Compactions.{compacting}
use Rattle.compactor.specs.Jobs.{Skips, TakesJob, metas_of as job_metas}
use Rattle.compactor.specs.declared.compact.Compact.{Compact}
use Rattle.compactor.specs.declared.job.Job.{Job}
use Rattle.compactor.proofs.CompactSteps.{begins_as}
use Rattle.compactor.proofs.JobRuns.{all_skipped, job_runs}
use Rattle.compactor.specs.Marking.{marking}
use Rattle.compactor.specs.declared.reason.Reason.TheVariants.{Covered, Expired}
use Rattle.compactor.specs.declared.compact_end.CompactEnd.{CompactEnd}
use Rattle.compactor.specs.declared.compact_end.CompactEnd.TheVariants.{Done, Fault}
use Rattle.compactor.proofs.MarkSteps.{marks_keep}

view_keeps : (replicas : List (List ℕ)) (retention : Option Span) (view : View) (covered expired : List ℕ) (groups : List Group)
    → covered ≡ names_of view.covered → expired ≡ names_of (expired_at retention view.begin view.kept) → AreGroups replicas (metas_of view.kept) groups
    → Keeps (marking Fault Covered 0 covered (λ put. groups_from replicas expired put 0 groups)) (rounds replicas retention view)
view_keeps replicas retention view covered expired groups are expired_are groups_are entries end run =
    marks_keep Fault Covered 0 (names_of view.covered) (λ put. groups_from replicas expired put 0 groups)
    (λ collected. finds (AreGroups replicas (metas_of view.kept)) (one_answer replicas (metas_of view.kept)) (λ found. groups_from replicas (names_of (expired_at retention view.begin view.kept)) collected 0 found))
    (λ put es last rest. inr (groups, groups_are, subst (λ (ulids : List ℕ). Runs (groups_from replicas ulids put 0 groups) es last) expired_are rest))
    entries end (subst (λ (ulids : List ℕ). Runs (marking Fault Covered 0 ulids (λ put. groups_from replicas expired put 0 groups)) entries end) are run)

-- a call that goes on by what was seen
pub view_begins : (replicas : List (List ℕ)) (retention : Option Span) (view : View) (covered expired : List ℕ) (groups : List Group) (r : Result (Act CompactEnd) NoMemory) (new : Compact)
    → covered ≡ names_of view.covered → expired ≡ names_of (expired_at retention view.begin view.kept) → AreGroups replicas (metas_of view.kept) groups
    → Begins (marking Fault Covered 0 covered (λ put. groups_from replicas expired put 0 groups)) r new → Begins (rounds replicas retention view) r new
view_begins replicas retention view covered expired groups r new are expired_are groups_are begins =
    begins_as (marking Fault Covered 0 covered (λ put. groups_from replicas expired put 0 groups)) (rounds replicas retention view) r new
    (view_keeps replicas retention view covered expired groups are expired_are groups_are) begins

-- ---- the next group

abbrev last_plan : Compact → ℕ → Plan CompactEnd
last_plan c all = marking Fault Expired 0 c.expired.items (λ marked. ends (Done c.collected all marked))

-- the first group that has a plan
pub group_begins : (c new : Compact) (r : Result (Act CompactEnd) NoMemory) (left : List Group) (compacted : ℕ) (job : Job) → TakesJob c.groups.items left job → compacted ≡ c.compacted + 1
    → Begins (compacting c.replicas job.labels (groups_from c.replicas c.expired.items c.collected compacted left) (groups_from c.replicas c.expired.items c.collected compacted left) (job_metas job)) r new
    → Begins (groups_left c) r new
group_begins c new r left compacted job takes more begins =
    begins_as
    (compacting c.replicas job.labels (groups_from c.replicas c.expired.items c.collected c.compacted left) (groups_from c.replicas c.expired.items c.collected (c.compacted + 1) left) (job_metas job))
    (groups_left c) r new (job_runs c.replicas c.compacted (last_plan c) c.groups.items left job takes)
    (subst (λ (n : ℕ). Begins (compacting c.replicas job.labels (groups_from c.replicas c.expired.items c.collected n left) (groups_from c.replicas c.expired.items c.collected n left) (job_metas job)) r new) more begins)

-- no group has one
pub none_begins : (c new : Compact) (r : Result (Act CompactEnd) NoMemory) → Skips c.groups.items [] → Begins (marks_left Expired c c.expired.items) r new → Begins (groups_left c) r new
none_begins c new r skips begins = begins_as (marks_left Expired c c.expired.items) (groups_left c) r new (all_skipped c.replicas c.compacted (last_plan c) c.groups.items skips) begins
