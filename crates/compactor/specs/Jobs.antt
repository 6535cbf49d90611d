-- The groups of a compaction that have a plan.
use Rattle.std.specs.Prelude.{◌≡◌, List, [], ◌∷◌, ◌++◌, Option, Some, None}
use Rattle.std.specs.List.{AllByRecursion}
use Rattle.block_meta.specs.declared.meta.Meta.{Meta}
use Rattle.group_planner.specs.Members.{ulids_of}
use Rattle.group_planner.specs.Plans.{IsPlan}
use Rattle.group_planner.specs.declared.group.Group.{Group}
use Rattle.compactor.specs.declared.job.Job.{Job}

-- nothing of the group is to be compacted
abbrev pub IsUnplanned : Group → Type 0
IsUnplanned group = IsPlan group.members []

abbrev pub metas_of : Job → List Meta
metas_of job = job.first ∷ job.others.items

-- the group's plan, with its labels and the ULIDs of its blocks
pub record IsJobOf (group : Group) (job : Job) : Type 0 where
  pub plan : IsPlan group.members (metas_of job)
  pub labels_are : job.labels ≡ group.labels
  pub parents_are : job.parents.items ≡ ulids_of (metas_of job)

-- the job of a group, and none where nothing of it is to be compacted
abbrev pub IsFor : Group → Option Job → Type 0
IsFor group None = IsUnplanned group
IsFor group (Some job) = IsJobOf group job

-- The groups begin with these, of which nothing is to be compacted.
pub record Skips (all left : List Group) : Type 0 where
  pub front : List Group
  pub are : all ≡ front ++ left
  pub unplanned : AllByRecursion IsUnplanned front

-- The first of the groups that has a plan, after those that have none, and the groups behind it.
pub record TakesJob (all left : List Group) (job : Job) : Type 0 where
  pub group : Group
  pub skipped : Skips all (group ∷ left)
  pub is : IsJobOf group job

abbrev pub Takes : List Group → List Group → Option Job → Type 0
Takes all left None = Skips all []
Takes all left (Some job) = TakesJob all left job
