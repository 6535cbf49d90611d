use Rattle.std.proofs.Common.{ℕ, List, ◌∷◌, ap, ◌∙◌}
use Rattle.std.proofs.lemmas.List.{map-id}
use Rattle.index_writing.proofs.AlignedTexts.{so_far_step, so_far_stop, so_far_end, so_far_places}
use Rattle.index_writing.proofs.section_places.put_row_lists.Goals as goal

pub returns-in_err-put_list-clause-makes : goal.returns-in_err-put_list-clause-makes
returns-in_err-put_list-clause-makes c =
    so_far_stop c.loop-row.invariant _ _ _ _ _ _ c.loop-row-test.true c.row-item.is c.in_err-put_list.ensures.makes c.from_residual-in_err-put_list.ensures.1

pub loop-row-preserved : goal.loop-row-preserved
loop-row-preserved c =
    so_far_step c.loop-row.invariant c.put_list.new.out.items _ c.row-item.result c.row-item.result _ c.loop-row-test.true c.row-item.is c.in_ok-put_list.ensures.makes c.in_ok-put_list.ensures.place c.in_ok-push-2.ensures.ok

pub returns-clause-makes : goal.returns-clause-makes
returns-clause-makes c = so_far_end c.loop-row.invariant (List ℕ) c.loop-row.places c.loop-row-test.false

pub returns-clause-places : goal.returns-clause-places
returns-clause-places c =
    so_far_places c.loop-row.invariant c.loop-row-test.false
    ∙ ap (λ l. c.args.first ∷ l) (map-id _)
