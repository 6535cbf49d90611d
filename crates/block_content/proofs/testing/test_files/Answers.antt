use Rattle.std.proofs.Common.{sym}
use Rattle.block_content.proofs.ContentTests.{tested_stops, index_refused, walk_refused, found_stops, all_tested}
use Rattle.block_content.proofs.testing.test_files.Goals as goal

pub returns-in_err-indexed-clause-exact : goal.returns-in_err-indexed-clause-exact
returns-in_err-indexed-clause-exact c = tested_stops c.args.meta.now c.args.index.now c.args.segments.now c.from_residual.result c.in_err-indexed.field-0.0 c.from_residual.ensures.1
    (index_refused c.args.meta.now c.args.index.now c.args.segments.now c.in_err-indexed.field-0.0 c.in_err-indexed.ensures.exact)

pub returns-in_err-counts-clause-exact : goal.returns-in_err-counts-clause-exact
returns-in_err-counts-clause-exact c = tested_stops c.args.meta.now c.args.index.now c.args.segments.now c.from_residual-in_err-counts.result c.in_err-counts.field-0.0 c.from_residual-in_err-counts.ensures.1
    (walk_refused c.args.meta.now c.args.index.now c.args.segments.now c.in_ok-indexed.indexed c.members.result.now c.in_ok-indexed.ensures.exact c.members.ensures c.in_err-counts.field-0.0 c.in_err-counts.ensures.read)

pub returns-in_err-test_found-clause-exact : goal.returns-in_err-test_found-clause-exact
returns-in_err-test_found-clause-exact c = tested_stops c.args.meta.now c.args.index.now c.args.segments.now c.from_residual-in_err-test_found.result c.in_err-test_found.field-0.0 c.from_residual-in_err-test_found.ensures.1
    (found_stops c.args.meta.now c.args.index.now c.args.segments.now c.in_ok-indexed.indexed c.members.result.now c.in_ok-indexed.ensures.exact c.members.ensures c.in_ok-counts.counts.samples c.in_ok-counts.counts.outside c.first_repeated.result
    c.in_ok-counts.ensures.read c.members-2.result.now c.members-2.ensures c.first_repeated.ensures c.in_err-test_found.field-0.0 (sym c.in_err-test_found.ensures))

pub returns-clause-exact : goal.returns-clause-exact
returns-clause-exact c = all_tested c.args.meta.now c.args.index.now c.args.segments.now c.in_ok-indexed.indexed c.members.result.now c.in_ok-indexed.ensures.exact c.members.ensures c.in_ok-counts.counts.samples c.in_ok-counts.counts.outside c.first_repeated.result
    c.in_ok-counts.ensures.read c.members-2.result.now c.members-2.ensures c.first_repeated.ensures (sym c.in_ok-test_found.ensures)
