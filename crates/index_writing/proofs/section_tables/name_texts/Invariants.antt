use Rattle.std.proofs.Common.{◌≡◌, take, map}
use Rattle.index_writing.specs.SymbolsInUse.{symbol_of}
use Rattle.index_writing.proofs.section_tables.name_texts.Given as goal

abbrev pub invariant-loop-name : goal.invariant-loop-name
invariant-loop-name l = l.texts ≡ map (λ name. symbol_of l.symbols name.name) (take l.name-index l.names)
