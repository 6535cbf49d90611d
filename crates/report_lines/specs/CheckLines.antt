-- The line that tells what the check of a block came to.
use Rattle.std.specs.Prelude.{ℕ, List, ◌++◌, codes}
use Rattle.base.specs.Decimal.{decimal_text}
use Rattle.base.specs.Lines.{newline}
use Rattle.ulid_core.specs.UlidText.{text_of}
use Rattle.report_lines.specs.declared.check_outcome.CheckOutcome.{CheckOutcome}
use Rattle.report_lines.specs.declared.check_outcome.CheckOutcome.TheVariants.{Passed, Refused}

unfoldable pub check_words : CheckOutcome → List ℕ
check_words (Passed series samples) = codes "ok " ++ decimal_text series ++ codes " series " ++ (decimal_text samples ++ codes " samples")
check_words (Refused number) = codes "refused " ++ decimal_text number

unfoldable pub check_line : ℕ → CheckOutcome → List ℕ
check_line ulid outcome = codes "check " ++ text_of ulid ++ codes ": " ++ check_words outcome ++ newline
