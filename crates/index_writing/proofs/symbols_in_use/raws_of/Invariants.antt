use Rattle.std.proofs.Common.{◌≡◌, take, map}
use Rattle.index_writing.specs.SymbolsInUse.{raw_of}
use Rattle.index_writing.proofs.symbols_in_use.raws_of.Given as goal

abbrev pub invariant-loop-one : goal.invariant-loop-one
invariant-loop-one l = l.raws.items ≡ map (raw_of l.symbols) (take l.one-index l.series)
