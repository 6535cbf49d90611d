-- Symbols that an index holds ascend, and are fewer than 2 ^ 32.
use Rattle.std.proofs.Common.{ℕ, List, [], ◌∷◌, Option, Some, None, arith}
use Rattle.std.specs.List.Sorted.{IsStrictlySortedBy}
use Rattle.std.proofs.lemmas.Cmp.{nat_list_cmp_total}
use Rattle.base.specs.Order.{ComesAfter, InOrderAfter}
use Rattle.base.proofs.Order.{sorted_from_order}
use Rattle.label_sets.specs.Labels.{compare_texts}
use Rattle.index_parts.specs.Symbols.{IsNextSymbol, IsSymbols}
use Rattle.index_parts.specs.Turns.{AreInTurn}
use Rattle.index_v2.specs.Ranks.{AreSymbols}

in_order : (before : Option (List ℕ)) (text : List ℕ) (symbols : List (List ℕ)) → AreInTurn IsNextSymbol before text symbols → InOrderAfter (ComesAfter compare_texts) before symbols
in_order before text [] are = tt
in_order before text (s ∷ symbols) are = (are.2.ascends, in_order (Some s) are.1 symbols are.3)

pub symbols_are : (index : List ℕ) (at : ℕ) (symbols : List (List ℕ)) → IsSymbols index at symbols → AreSymbols symbols
symbols_are index at symbols is = record { ascend = sorted_from_order compare_texts nat_list_cmp_total None symbols (in_order None is.texts symbols is.texts_are); small = is.count_is.fits }

no_symbol : IsStrictlySortedBy compare_texts []
unfolding IsStrictlySortedBy
no_symbol = tt

pub none_are : AreSymbols []
none_are = record { ascend = no_symbol; small = omega arith }
