use Rattle.std.proofs.Common.{sym, arith}
use Rattle.compactor.proofs.Refusing.{refused_result, numbers_there, named_at}
use Rattle.compactor.proofs.merging.refused_at.Goals as goal

pub returns : goal.returns
returns c =
    refused_result c.number_of.result c.args.blocks.now c.args.numbers.now c.args.place c.requires.refused.0 c.args.cause c.in-Some.block.now c.in-Some-get.read.now
    (omega (arith, c.if-place-eq4294967295.false, c.ranges.place.fits)) c.requires.refused.2 c.requires.refused.1 (sym c.in-Some.ensures) (sym c.in-Some-get.ensures) c.number_of.ensures

pub unreachable-requires-in_default-get : goal.unreachable-requires-in_default-get
unreachable-requires-in_default-get c = numbers_there c.args.blocks.now c.args.numbers.now c.args.place c.in-Some.block.now c.requires.named (sym c.in-Some.ensures) (sym c.in_default-get.ensures)

pub number_of-requires-clause-named : goal.number_of-requires-clause-named
number_of-requires-clause-named c = named_at c.args.blocks.now c.args.numbers.now c.args.place c.in-Some.block.now c.in-Some-get.read.now c.requires.named (sym c.in-Some.ensures) (sym c.in-Some-get.ensures)
