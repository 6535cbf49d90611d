use Rattle.std.proofs.Common.{◌≡◌, ◌++◌, take}
use Rattle.index_writing.specs.SymbolsInUse.{texts_of_labels}
use Rattle.index_writing.proofs.symbols_in_use.add_texts.Given as goal

abbrev pub invariant-loop-label : goal.invariant-loop-label
invariant-loop-label l = l.texts.items ≡ l.initial.texts.items ++ texts_of_labels (take l.label-index l.labels)
