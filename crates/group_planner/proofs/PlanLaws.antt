-- There is one plan.
use Rattle.std.proofs.Common.{◌≡◌, eqb, cond, false, List, length, sym, ap, ◌∙◌}
use Rattle.group_planner.specs.Overlaps.{IsOverlapPlan}
use Rattle.group_planner.specs.Selections.{IsSelection}
use Rattle.block_meta.specs.declared.meta.Meta.{Meta}
use Rattle.group_planner.specs.Plans.{IsPlan, without_last}
use Rattle.group_planner.proofs.OverlapLaws.{one_overlap}
use Rattle.group_planner.proofs.SelectionLaws.{one_selection, a_selection}

pub one_plan : (members one other : List Meta) → IsPlan members one → IsPlan members other → one ≡ other
one_plan members one other a b =
    a.first ∙ ap (λ l. cond (eqb (length l) 0) a.selected l) (one_overlap members a.overlap b.overlap a.is_overlap b.is_overlap)
    ∙ ap (λ l. cond (eqb (length b.overlap) 0) l b.overlap) (one_selection (without_last members) a.selected b.selected a.is_selection b.is_selection) ∙ sym b.first

pub plan_of_overlap : (members overlap : List Meta) → IsOverlapPlan members overlap → eqb (length overlap) 0 ≡ false → IsPlan members overlap
plan_of_overlap members overlap is some =
    let other : (selected : List Meta) × IsSelection (without_last members) selected = a_selection (without_last members) in
    record { overlap = overlap; is_overlap = is; selected = other.0; is_selection = other.1; first = sym (ap (λ b. cond b other.0 overlap) some) }
