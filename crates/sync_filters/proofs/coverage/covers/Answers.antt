use Rattle.std.proofs.Common.{sym, ap, ◌∙◌}
use Rattle.std.specs.Prelude.{is_some}
use Rattle.sync_filters.proofs.BitMarks.{marked, unmarked}
use Rattle.sync_filters.proofs.coverage.covers.Goals as goal

pub returns-in-Some : goal.returns-in-Some
returns-in-Some c =
    let at = c.in-Some.ensures in
    marked c.args.listed.now c.args.marks.now c.args.block.now c.args.holder.now.place c.in-Some.theirs.now c.args.mark c.has_bits.result c.covers_if.result c.requires.marks c.requires.mark at.lookup.0 at.lookup.1 c.has_bits.ensures c.covers_if.ensures

pub returns-in-None : goal.returns-in-None
returns-in-None c = unmarked c.args.listed.now c.args.marks.now c.args.block.now c.args.holder.now.place c.requires.marks (sym (ap is_some c.in-None.is) ∙ c.get.ensures.lookup.0)
