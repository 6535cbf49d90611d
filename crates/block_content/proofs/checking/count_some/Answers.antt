use Rattle.std.proofs.Common.{inr, sym, ◌∙◌, refl, length}
use Rattle.block_content.specs.CheckReading.{some_at}
use Rattle.block_content.proofs.NamedBytes.{few_told}
use Rattle.block_content.proofs.BytesRead.{reads_told}
use Rattle.block_content.proofs.CheckSteps.{empty_stopped, read_much, found_refused, found_much, found_passed, count_stops, no_members, some_members, counts_refused}
use Rattle.block_content.proofs.checking.count_some.Goals as goal

pub returns-then-is_empty : goal.returns-then-is_empty
returns-then-is_empty c = inr (empty_stopped c.args.meta.now c.args.index.now c.args.segments.now c.args.indexed.now (no_members c.args.indexed.now c.is_empty.result c.is_empty.ensures c.if-is_empty.true))

pub returns-then-not-few : goal.returns-then-not-few
returns-then-not-few c = inr (read_much c.args.meta.now c.args.index.now c.args.segments.now c.args.indexed.now (some_members c.args.indexed.now c.is_empty.result c.is_empty.ensures c.if-is_empty.false)
    (reads_told c.args.segments.now c.args.indexed.now c.args.bytes c.in_ok-few.few c.requires c.in_ok-few.ensures ∙ c.if-not-few.true))

pub returns-in_err-counts : goal.returns-in_err-counts
returns-in_err-counts c = count_stops (some_at c.args.meta.now c.args.index.now c.args.segments.now c.args.indexed.now) c.from_residual-in_err-counts.result c.in_err-counts.field-0.0 c.from_residual-in_err-counts.ensures.1
    (counts_refused c.args.meta.now c.args.index.now c.args.segments.now c.args.indexed.now (some_members c.args.indexed.now c.is_empty.result c.is_empty.ensures c.if-is_empty.false)
    (reads_told c.args.segments.now c.args.indexed.now c.args.bytes c.in_ok-few.few c.requires c.in_ok-few.ensures ∙ c.if-not-few.false) c.in_err-counts.field-0.0 c.in_err-counts.ensures.read)

pub returns-in_err-test_found : goal.returns-in_err-test_found
returns-in_err-test_found c = count_stops (some_at c.args.meta.now c.args.index.now c.args.segments.now c.args.indexed.now) c.from_residual-in_err-test_found.result c.in_err-test_found.field-0.0 c.from_residual-in_err-test_found.ensures.1
    (inr (found_refused c.args.meta.now c.args.index.now c.args.segments.now c.args.indexed.now (some_members c.args.indexed.now c.is_empty.result c.is_empty.ensures c.if-is_empty.false)
    (reads_told c.args.segments.now c.args.indexed.now c.args.bytes c.in_ok-few.few c.requires c.in_ok-few.ensures ∙ c.if-not-few.false)
    c.in_ok-counts.counts.samples c.in_ok-counts.counts.outside c.first_repeated.result c.in_ok-counts.ensures.read c.first_repeated.ensures c.in_err-test_found.field-0.0 (sym c.in_err-test_found.ensures)))

pub returns-then-not-names_few : goal.returns-then-not-names_few
returns-then-not-names_few c = inr (found_much c.args.meta.now c.args.index.now c.args.segments.now c.args.indexed.now (some_members c.args.indexed.now c.is_empty.result c.is_empty.ensures c.if-is_empty.false)
    (reads_told c.args.segments.now c.args.indexed.now c.args.bytes c.in_ok-few.few c.requires c.in_ok-few.ensures ∙ c.if-not-few.false)
    c.in_ok-counts.counts.samples c.in_ok-counts.counts.outside c.first_repeated.result c.in_ok-counts.ensures.read c.first_repeated.ensures (sym c.in_ok-test_found.ensures)
    (few_told c.args.index.now c.args.segments.now c.args.indexed.now c.args.bytes c.in_ok-counts.counts.bytes c.names_few.result c.requires c.in_ok-counts.ensures.bytes c.names_few.ensures ∙ c.if-not-names_few.true))

pub returns : goal.returns
returns c = found_passed c.args.meta.now c.args.index.now c.args.segments.now c.args.indexed.now (some_members c.args.indexed.now c.is_empty.result c.is_empty.ensures c.if-is_empty.false)
    (reads_told c.args.segments.now c.args.indexed.now c.args.bytes c.in_ok-few.few c.requires c.in_ok-few.ensures ∙ c.if-not-few.false)
    c.in_ok-counts.counts.samples c.in_ok-counts.counts.outside c.first_repeated.result c.in_ok-counts.ensures.read c.first_repeated.ensures (length c.args.indexed.now) (sym c.in_ok-test_found.ensures)
    (few_told c.args.index.now c.args.segments.now c.args.indexed.now c.args.bytes c.in_ok-counts.counts.bytes c.names_few.result c.requires c.in_ok-counts.ensures.bytes c.names_few.ensures ∙ c.if-not-names_few.false) refl
