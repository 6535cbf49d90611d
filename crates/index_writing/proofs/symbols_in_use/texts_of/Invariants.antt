use Rattle.std.proofs.Common.{◌≡◌, take}
use Rattle.std.specs.List.{flat_map, AllByRecursion}
use Rattle.label_sets.specs.Labels.{IsLabelSet}
use Rattle.index_writing.specs.SymbolsInUse.{texts_of_labels}
use Rattle.index_writing.proofs.symbols_in_use.texts_of.Given as goal

abbrev pub invariant-loop-one : goal.invariant-loop-one
invariant-loop-one l = (l.texts.items ≡ flat_map (λ s. texts_of_labels s.labels) (take l.one-index l.series)) × AllByRecursion (λ one. IsLabelSet one.labels) (take l.one-index l.series)
