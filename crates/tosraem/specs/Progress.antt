-- What is shown of a run that is on its way.
use Rattle.std.specs.Prelude.{ℕ, List, ◌++◌, codes}
use Rattle.base.specs.Decimal.{decimal_text}

unfoldable pub progress_words : ℕ → ℕ → ℕ → ℕ → List ℕ
progress_words phase phases operations bytes =
    (codes "phase " ++ decimal_text phase) ++ (codes " of " ++ decimal_text phases)
    ++ (codes ", " ++ decimal_text operations) ++ (codes " operations, " ++ decimal_text bytes) ++ codes " bytes\r"
