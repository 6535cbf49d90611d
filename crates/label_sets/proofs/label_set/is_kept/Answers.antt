use Rattle.std.proofs.Common.{sym, ◌∙◌, ap, []}
use Rattle.label_sets.specs.Labels.{value_of}
use Rattle.label_sets.specs.Finals.{is_among}
use Rattle.label_sets.proofs.FinalLabels.{reduced_external, reduced_own}
use Rattle.label_sets.proofs.label_set.is_kept.Goals as goal

pub returns-in-Ok : goal.returns-in-Ok
returns-in-Ok c = reduced_external _ _ _ _
    (ap (value_of c.args.external.now) (sym c.as_str-name.ensures) ∙ c.in-Ok.ensures.found.1 (record { name = []; value = [] }))

pub returns-in-Err : goal.returns-in-Err
returns-in-Err c = reduced_own _ _ _ _
    (ap (value_of c.args.external.now) (sym c.as_str-name.ensures) ∙ c.in-Err.ensures.absent.1)
    (c.is_among.ensures ∙ ap (is_among c.args.replicas.now) c.as_str-name.ensures)
