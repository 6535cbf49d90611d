use Rattle.index_parts.specs.Parts.{part_of, known}
use Rattle.index_v2.proofs.HeldLaws.{known_is}
use Rattle.index_v2.proofs.SymbolsAre.{none_are, symbols_are}
use Rattle.index_v2.proofs.symbols.Symbols.read.Goals as goal

pub invariant_of-result : goal.invariant_of-result
invariant_of-result c = none_are

pub invariant_of-result-in-Ok : goal.invariant_of-result-in-Ok
invariant_of-result-in-Ok c = symbols_are _ _ _ (c.in-Ok.ensures.found (known (part_of c.args.part)) (known_is _))
