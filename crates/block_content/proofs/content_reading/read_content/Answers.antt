use Rattle.std.proofs.Common.{sym}
use Rattle.index_v2.proofs.WholeLoops.{gives_stop}
use Rattle.block_content.proofs.ContentSteps.{index_stops}
use Rattle.block_content.proofs.ContentTests.{walk_refused, found_stops, built_is, built_few}
use Rattle.block_content.proofs.content_reading.read_content.Goals as goal

pub returns-in_err-indexed-clause-exact : goal.returns-in_err-indexed-clause-exact
returns-in_err-indexed-clause-exact c = gives_stop _ _ c.from_residual.result c.in_err-indexed.field-0.0 _ _ c.from_residual.ensures.1 c.in_err-indexed.ensures.exact (λ refused. index_stops c.args.meta.now c.args.index.now c.args.segments.now _ refused)

pub returns-in_err-counts-clause-exact : goal.returns-in_err-counts-clause-exact
returns-in_err-counts-clause-exact c = gives_stop _ _ c.from_residual-in_err-counts.result c.in_err-counts.field-0.0 _ _ c.from_residual-in_err-counts.ensures.1
    (walk_refused c.args.meta.now c.args.index.now c.args.segments.now c.in_ok-indexed.indexed c.members.result.now c.in_ok-indexed.ensures.exact c.members.ensures c.in_err-counts.field-0.0 c.in_err-counts.ensures.read) (λ refused. refused)

pub returns-in_err-test_found-clause-exact : goal.returns-in_err-test_found-clause-exact
returns-in_err-test_found-clause-exact c = gives_stop _ _ c.from_residual-in_err-test_found.result c.in_err-test_found.field-0.0 _ _ c.from_residual-in_err-test_found.ensures.1
    (found_stops c.args.meta.now c.args.index.now c.args.segments.now c.in_ok-indexed.indexed c.members.result.now c.in_ok-indexed.ensures.exact c.members.ensures c.in_ok-counts.counts.samples c.in_ok-counts.counts.outside c.first_repeated.result
    c.in_ok-counts.ensures.read c.members-2.result.now c.members-2.ensures c.first_repeated.ensures c.in_err-test_found.field-0.0 (sym c.in_err-test_found.ensures)) (λ refused. refused)

pub returns-clause-exact : goal.returns-clause-exact
returns-clause-exact c =
    built_is c.args.meta.now c.args.index.now c.args.segments.now c.in_ok-indexed.indexed c.members.result.now c.in_ok-indexed.ensures.exact c.members.ensures c.in_ok-counts.counts.samples c.in_ok-counts.counts.outside c.first_repeated.result
    c.in_ok-counts.ensures.read c.members-2.result.now c.members-2.ensures c.first_repeated.ensures c.members-3.result.now c.members-3.ensures (sym c.in_ok-test_found.ensures) c.all_series.result c.all_series.ensures.read

pub returns-clause-few : goal.returns-clause-few
returns-clause-few c = built_few c.args.index.now c.args.segments.now c.in_ok-indexed.indexed c.members-3.result.now c.all_series.result c.in_ok-indexed.ensures.exact c.in_ok-indexed.ensures.few c.members-3.ensures c.all_series.ensures.few
