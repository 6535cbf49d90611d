-- When a tree of `regex` finds what a text stands for.
use Rattle.std.specs.Prelude.{◌≡◌, ℕ, ◌<◌, List, All, is_some}
use Rattle.regex.specs.Patterns.{Re, find_str}
use Rattle.matchers.specs.Patterns.{is_matched}

-- In every value of bytes the tree is found exactly where the text is matched.
abbrev pub SearchesFor : Re → List ℕ → Type 0
SearchesFor re text =
    (value : List ℕ) → All (λ byte. byte < 256) value → is_some (find_str re value 0) ≡ is_matched text value
