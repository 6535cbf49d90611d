use Rattle.std.proofs.Common.{[], not, refl, sym, ap, subst, ◌∙◌, List, Bool, length}
use Rattle.std.specs.List.Sorted.{IsStrictlyIncreasing}
use Rattle.std.proofs.lemmas.List.{length-map}
use Rattle.std.proofs.lemmas.List.Kept.{IsStrictlyIncreasing-filter}
use Rattle.base.specs.Lists.{is_one_of}
use Rattle.matchers.specs.Selectors.{is_accepted}
use Rattle.index_v2.proofs.WholeLoops.{gives_stop}
use Rattle.series_selection.specs.SelectionSteps.{marks_of}
use Rattle.series_selection.proofs.Answered.{rows_left, rows_refused}
use Rattle.series_selection.proofs.selection.left_by_asking.Goals as goal

pub kept_marked-requires : goal.kept_marked-requires
kept_marked-requires c =
    let marked = c.in_ok-marks.ensures.marked in
    ap (λ (l : List Bool). length l) (c.as_slice.ensures.value ∙ marked.marks_are) ∙ length-map c.members.result.now (λ n. is_one_of marked.listed n) ∙ ap length (c.members.ensures ∙ sym c.members-2.ensures)

pub returns-in_err-marks-clause-gives : goal.returns-in_err-marks-clause-gives
returns-in_err-marks-clause-gives c =
    gives_stop _ _ c.from_residual-in_err-marks.result c.in_err-marks.field-0.0 _ _ c.from_residual-in_err-marks.ensures.1 c.in_err-marks.ensures.marked
    (λ refused. rows_refused _ _ _ _ _ refused)

pub returns-clause-gives : goal.returns-clause-gives
returns-clause-gives c =
    let marked = c.in_ok-marks.ensures.marked in
    rows_left c.args.index.now.lists c.args.index.now.rows c.args.matcher.now c.args.numbers _ _ _ _ _
    marked.read refl c.members-2.ensures (ap not (c.accepts-wanted.ensures.value ∙ ap (λ k. is_accepted k []) c.in_ok-searcher.ensures.value))
    (c.in_ok-kept_marked.ensures marked.listed (c.as_slice.ensures.value ∙ marked.marks_are ∙ ap (marks_of marked.listed) (c.members.ensures ∙ sym c.members-2.ensures)))

pub returns-clause-rises : goal.returns-clause-rises
returns-clause-rises c =
    let marked = c.in_ok-marks.ensures.marked in
    subst IsStrictlyIncreasing (sym (c.in_ok-kept_marked.ensures marked.listed (c.as_slice.ensures.value ∙ marked.marks_are ∙ ap (marks_of marked.listed) (c.members.ensures ∙ sym c.members-2.ensures))))
    (IsStrictlyIncreasing-filter _ _ (subst IsStrictlyIncreasing (sym c.members-2.ensures) c.requires))
