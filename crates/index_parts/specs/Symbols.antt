-- The symbol table: every text of an index's labels once, in ascending order.
use Rattle.std.specs.Prelude.{ℕ, List, Option}
use Rattle.base.specs.Order.{ComesAfter}
use Rattle.label_sets.specs.Labels.{compare_texts}
use Rattle.index_parts.specs.Framed.{IsText, text_field}
use Rattle.index_parts.specs.Lists.{IsList, list_text}

pub record IsNextSymbol (before : Option (List ℕ)) (text symbol : List ℕ) : Type 0 where
  pub text_is : IsText text symbol
  pub ascends : ComesAfter compare_texts before symbol

abbrev pub IsSymbols : List ℕ → ℕ → List (List ℕ) → Type 0
IsSymbols = IsList IsNextSymbol

-- what a writer puts
abbrev pub symbols_text : List (List ℕ) → List ℕ
symbols_text symbols = list_text text_field symbols
