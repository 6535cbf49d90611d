use Rattle.std.proofs.Common.{rules}
use Rattle.index_parts.specs.Symbols.{IsNextSymbol}
use Rattle.index_parts.specs.SymbolsReading.{symbol_at}
use Rattle.index_parts.proofs.SymbolLaws.{symbol_turn, symbol_size}
use Rattle.index_parts.proofs.ListLaws.{read_found, read_only, read_few}
use Rattle.index_parts.proofs.symbol_table.read_symbols.Goals as goal

pub returns-clause-found : goal.returns-clause-found
returns-clause-found c = read_found IsNextSymbol symbol_at symbol_turn (λ x. x) _ _ _ c.table_of.ensures.exact c.table_of.ensures.bytes

pub returns-clause-only : goal.returns-clause-only
returns-clause-only c = λ members is. read_only IsNextSymbol symbol_at symbol_turn (λ x. x) c.args.index.now c.args.at c.table_of.result c.table_of.ensures.exact members is

pub returns-clause-few : goal.returns-clause-few
returns-clause-few c = let few = read_few IsNextSymbol symbol_at symbol_turn (λ x. x) _ _ c.table_of.result c.table_of.ensures.exact 1 symbol_size c.table_of.ensures.bytes in search rules
