use Rattle.std.proofs.Common.{◌≡◌, take, map}
use Rattle.index_writing.specs.SymbolsInUse.{number_of}
use Rattle.index_writing.proofs.symbols_in_use.numbers_of.Given as goal

abbrev pub invariant-loop-label : goal.invariant-loop-label
invariant-loop-label l = (l.names.items ≡ map (λ x. number_of l.symbols x.name) (take l.label-index l.labels)) × (l.values.items ≡ map (λ x. number_of l.symbols x.value) (take l.label-index l.labels))
