use Rattle.std.proofs.Common.{◌≡◌, Ok, Err, inl, sym, subst}
use Rattle.std.proofs.lemmas.Result.{err_from_is_err_and}
use Rattle.script_core.specs.Parts.{test_samples}
use Rattle.script_core.proofs.SeriesParts.{on_ok, series_one_line, series_size, put_reads, samples_tested, none_refused, adding_refused}
use Rattle.script_core.proofs.SpelledValues.{ascend_tested}
use Rattle.script_core.proofs.series_parts.put_series.Goals as goal

pub returns-clause-line : goal.returns-clause-line
returns-clause-line c =
    let tested = samples_tested c.args.samples (subst (λ s. test_samples s ≡ Ok tt) c.members.ensures (sym c.in_ok-test_samples.ensures)) in
    on_ok c.add_series.result (series_one_line c.args.labels.now c.args.samples tested.1 c.in_ok-set.ensures.line)

pub returns-clause-size : goal.returns-clause-size
returns-clause-size c =
    let tested = samples_tested c.args.samples (subst (λ s. test_samples s ≡ Ok tt) c.members.ensures (sym c.in_ok-test_samples.ensures)) in
    on_ok c.add_series.result (series_size c.args.labels.now c.args.samples tested.1)

pub returns-clause-read : goal.returns-clause-read
returns-clause-read c =
    let tested = samples_tested c.args.samples (subst (λ s. test_samples s ≡ Ok tt) c.members.ensures (sym c.in_ok-test_samples.ensures)) in
    put_reads c.args.labels.now c.in_ok-set.set c.args.samples c.in_ok-set.ensures.set c.in_ok-set.ensures.utf8 tested.0 tested.1 _ _ c.add_series.result tested.2 c.add_series.ensures

pub returns-in_err-set-clause-refused : goal.returns-in_err-set-clause-refused
returns-in_err-set-clause-refused c = λ set are.
    let p = err_from_is_err_and c.from_residual.result c.from_residual.ensures.1 in
    rw (p.1, p.2) (inl (c.in_err-set.ensures.only set are.is_set are.utf8 are.one_line))

pub returns-in_err-test_samples-clause-refused : goal.returns-in_err-test_samples-clause-refused
returns-in_err-test_samples-clause-refused c = λ set are.
    let refusal = c.in_err-test_samples.field-0.0 in
    absurd (none_refused c.args.samples refusal are.some are.fields (ascend_tested c.args.samples are.ascend) (subst (λ s. test_samples s ≡ Err refusal) c.members.ensures (sym c.in_err-test_samples.ensures)))

pub returns-clause-refused : goal.returns-clause-refused
returns-clause-refused c = λ set are.
    adding_refused _ _ c.in_ok-set.set set c.args.samples c.add_series.result (c.in_ok-set.ensures.only set are.is_set are.utf8 are.one_line) c.add_series.ensures
