-- How many operations a compaction still asks for.
use Rattle.std.proofs.Common.{◌≡◌, ◌+◌, ◌*◌, ◌<◌, ◌≤◌, ℕ, List, ◌∷◌, length, length-append, Result, Ok, Err, sym, ap, subst, ◌∙◌, arith}
use Rattle.base.specs.declared.memory.NoMemory.{NoMemory}
use Rattle.world_core.specs.Machines.{Falls}
use Rattle.world_core.specs.declared.op.Op.{Op}
use Rattle.world_core.specs.declared.act.Act.{Act}
use Rattle.world_core.specs.declared.act.Act.TheVariants as act
use Rattle.group_planner.specs.declared.group.Group.{Group}
use Rattle.compactor.specs.CompactStates.{most_asked, count_at, count_of}
use Rattle.compactor.specs.Jobs.{TakesJob}
use Rattle.compactor.specs.declared.compact.Compact.{Compact}
use Rattle.compactor.specs.declared.job.Job.{Job}
use Rattle.compactor.specs.declared.stage.Stage.{Stage}

-- a part that asks falls
pub asks_falls : {A : Type 0} (old new : ℕ) (a : Act A) (op : Op) → a ≡ act.Do op → Falls old (Ok a) new → new < old
asks_falls {A} old new a op is falls = subst (λ (b : Act A). Falls old (Ok b) new) is falls

-- and so on its level
pub falls_at : {A : Type 0} (level old new whole : ℕ) (a : Act A) (op : Op) → whole ≡ level + new → a ≡ act.Do op → Falls old (Ok a) new → whole < level + old
falls_at {A} level old new whole a op same is falls = let less : new < old = asks_falls old new a op is falls in omega (arith, less, same)

pub under_at : (level above count whole : ℕ) → whole ≡ most_asked * level + count → level < above → count < most_asked → whole < most_asked * above
under_at level above count whole same lower few = omega (arith, lower, few, same)

pub same_level : (level : ℕ) → level ≤ level
same_level level = omega arith

pub level_falls : {E : Type 0} (level above more : ℕ) (r : Result (Act E) NoMemory) (new : ℕ) → level ≤ above → Falls (most_asked * level) r new → Falls (most_asked * above + more) r new
level_falls level above more (Ok (act.Do op)) new le falls = omega (arith, le, falls)
level_falls level above more (Ok (act.Done end)) new le falls = tt
level_falls level above more (Err none) new le falls = tt

-- the measure of the state, by its stage
pub stage_falls : {E : Type 0} (stage : Stage) (old : Compact) (r : Result (Act E) NoMemory) (new : ℕ) → old.stage ≡ stage → Falls (count_at stage (length old.groups.items)) r new → Falls (count_of old) r new
stage_falls stage old r new is falls = subst (λ (s : Stage). Falls (count_at s (length old.groups.items)) r new) (sym is) falls

-- ---- how many groups are left

pub left_fewer : (all left : List Group) (job : Job) → TakesJob all left job → length left + 1 ≤ length all
left_fewer all left job takes =
    let many : length all ≡ length takes.skipped.front + length (takes.group ∷ left) = ap length takes.skipped.are ∙ length-append takes.skipped.front (takes.group ∷ left) in
    omega (arith, many)
