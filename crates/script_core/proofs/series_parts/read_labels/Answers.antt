use Rattle.std.proofs.Common.{sym, ap, ◌∙◌, Ok}
use Rattle.std.specs.Option.{option_copied}
use Rattle.std.proofs.lemmas.Option.{same_Some}
use Rattle.std.proofs.lemmas.Result.{err_from_is_err_and}
use Rattle.base.proofs.Binds.{ok_or_ok}
use Rattle.script_core.proofs.SeriesParts.{labels_are, no_refusal, set_is, set_there}
use Rattle.script_core.proofs.series_parts.read_labels.Goals as goal

pub returns-in_err-last_labels-clause-only : goal.returns-in_err-last_labels-clause-only
returns-in_err-last_labels-clause-only c = λ set is utf8 one.
    let p = err_from_is_err_and c.from_residual-in_err-last_labels.result c.from_residual-in_err-last_labels.ensures.1 in
    let known = sym c.text_of.ensures ∙ ap option_copied (ok_or_ok c.text_of.result _ c.in_ok-text.text (sym c.ok_or.ensures.value ∙ c.in_ok-text.was)) in
    rw (p.1, p.2) (no_refusal c.args.text.now c.in_ok-text.text.now set known is c.in_err-last_labels.field-0.0 c.in_err-last_labels.ensures)

pub returns-in_err-set-clause-only : goal.returns-in_err-set-clause-only
returns-in_err-set-clause-only c = λ set is utf8 one.
    let known = sym c.text_of.ensures ∙ ap option_copied (ok_or_ok c.text_of.result _ c.in_ok-text.text (sym c.ok_or.ensures.value ∙ c.in_ok-text.was)) in
    absurd (set_there c.in_ok-last_labels.field-0 set c.in_err-set.field-0.0 _ (set_is c.args.text.now c.in_ok-text.text.now set known is c.in_ok-last_labels.field-0 c.in_ok-last_labels.ensures) (sym c.ok_or-2.ensures.value ∙ c.in_err-set.was))

pub returns-clause-set : goal.returns-clause-set
returns-clause-set c =
    labels_are c.args.text.now c.in_ok-text.text.now c.in_ok-set.set (sym c.text_of.ensures ∙ ap option_copied (ok_or_ok c.text_of.result _ c.in_ok-text.text (sym c.ok_or.ensures.value ∙ c.in_ok-text.was))) (c.in_ok-last_labels.ensures ∙ ap Ok (ok_or_ok c.in_ok-last_labels.field-0 _ c.in_ok-set.set (sym c.ok_or-2.ensures.value ∙ c.in_ok-set.was)))

pub returns-clause-only : goal.returns-clause-only
returns-clause-only c = λ set is utf8 one.
    let known = sym c.text_of.ensures ∙ ap option_copied (ok_or_ok c.text_of.result _ c.in_ok-text.text (sym c.ok_or.ensures.value ∙ c.in_ok-text.was)) in
    same_Some _ _ (sym (ok_or_ok c.in_ok-last_labels.field-0 _ c.in_ok-set.set (sym c.ok_or-2.ensures.value ∙ c.in_ok-set.was)) ∙ set_is c.args.text.now c.in_ok-text.text.now set known is c.in_ok-last_labels.field-0 c.in_ok-last_labels.ensures)
