use Rattle.std.proofs.Common.{◌∙◌}
use Rattle.store_ranges.proofs.Spans.{run_eq, run_small, run_begins}
use Rattle.store_ranges.proofs.run_reads.run_to_read.Goals as goal

pub invariant_of-result : goal.invariant_of-result
invariant_of-result c = record {
  begins = run_begins c.args.numbers.now c.args.span c.from_vec.result c.requires.within c.requires.rise (c.from_vec.ensures ∙ c.in_ok-from_slice.ensures.items);
  small = run_small c.args.numbers.now c.args.span c.from_vec.result c.requires.small (c.from_vec.ensures ∙ c.in_ok-from_slice.ensures.items);
}

pub returns : goal.returns
returns c = run_eq c.args.sections.toc c.args.sections.size c.args.all.now c.args.numbers.now c.args.span c.end_of_run-end.result c.saturating_sub.result c.from_vec.result
    c.requires.within c.end_of_run-end.ensures c.saturating_sub.ensures (c.from_vec.ensures ∙ c.in_ok-from_slice.ensures.items)
