use Rattle.std.proofs.Common.{ℕ, List, ◌∙◌}
use Rattle.std.proofs.lemmas.List.{map-id}
use Rattle.index_writing.proofs.AlignedTexts.{so_far_step, so_far_stop, so_far_end, so_far_places}
use Rattle.index_writing.proofs.section_places.put_label_indices.Goals as goal

pub returns-in_err-put_label_index-clause-makes : goal.returns-in_err-put_label_index-clause-makes
returns-in_err-put_label_index-clause-makes c =
    so_far_stop c.loop-name.invariant _ _ _ _ _ _ c.loop-name-test.true c.name-item.is c.in_err-put_label_index.ensures.makes c.from_residual.ensures.1

pub loop-name-preserved : goal.loop-name-preserved
loop-name-preserved c =
    so_far_step c.loop-name.invariant c.put_label_index.new.out.items _ c.name-item.result c.name-item.result _ c.loop-name-test.true c.name-item.is c.in_ok-put_label_index.ensures.makes c.in_ok-put_label_index.ensures.place c.in_ok-push.ensures.ok

pub returns-clause-makes : goal.returns-clause-makes
returns-clause-makes c = so_far_end c.loop-name.invariant (List ℕ) c.loop-name.places c.loop-name-test.false

pub returns-clause-places : goal.returns-clause-places
returns-clause-places c =
    so_far_places c.loop-name.invariant c.loop-name-test.false ∙ map-id _
