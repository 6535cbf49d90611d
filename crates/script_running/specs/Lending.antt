-- What the workers of a script are lent of it.
use Rattle.std.specs.Prelude.{◌≡◌, ℕ, List}
use Rattle.std.specs.List.{AllZip}
use Rattle.matchers.specs.SelectorText.{IsSelectorText}
use Rattle.matchers.specs.declared.matcher.Matcher.{Matcher}
use Rattle.moment_core.specs.declared.partition.Partition.{Partition}
use Rattle.moment_core.specs.declared.rules.Rules.{Rules}
use Rattle.script_core.specs.Lawful.{IsLawfulScript}
use Rattle.script_core.specs.declared.block.Block.{Block}
use Rattle.script_core.specs.declared.script.Script.{Script}
use Rattle.lifecycle_core.specs.Setting.{Setting}
use Rattle.script_running.specs.Shelves.{AreAllAtHand, setting_by}
use Rattle.script_running.specs.declared.shelf.ShelfBlock.{ShelfBlock}

-- a script, and what was read of the shelf for its blocks
pub record Loan : Type 0 where
  pub script : Script
  pub shelf : List ShelfBlock

-- the setting in which tasks are done by it
abbrev pub setting_in : Loan → Setting
setting_in loan = setting_by loan.script loan.shelf

-- each selector has the text at its place
abbrev pub AreTextsOf : List (List Matcher) → List (List ℕ) → Type 0
AreTextsOf selectors texts = AllZip (λ selector text. IsSelectorText text selector) selectors texts

-- The parts that are lent of a lawful script. What it takes from the shelf is at hand.
pub record AreParts (script : Script) (shelf : List ShelfBlock) (rules : Rules) (partitions : List Partition) (blocks : List Block) (texts : List (List ℕ)) : Type 0 where
  pub lawful : IsLawfulScript script
  pub at_hand : AreAllAtHand script shelf
  pub rules_are : rules ≡ script.rules
  pub partitions_are : partitions ≡ script.partitions
  pub blocks_are : blocks ≡ script.blocks
  pub texts_are : AreTextsOf script.selectors texts
