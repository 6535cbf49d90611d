-- What a page of a folder shows, whatever the folder holds, and what a read of a part of a file gives.
use Rattle.std.specs.Prelude.{◌≡◌, ℕ, ◌≤◌, true, List, length, All, Some}
use Rattle.base.specs.Order.{InOrderAfter, ComesAfter}
use Rattle.label_sets.specs.Labels.{compare_texts}
use Rattle.bucket_core.specs.declared.answer.GetAnswer.{GetAnswer}
use Rattle.bucket_core.specs.declared.answer.GetAnswer.TheVariants as get
use Rattle.bucket_core.specs.declared.answer.PageAnswer.{PageAnswer}
use Rattle.bucket_core.specs.declared.answer.PageAnswer.TheVariants as page
use Rattle.dir_bucket.specs.Names.{is_plain}

-- names after this one, in order, at most so many, and each of them plain
pub record IsListing (after : List ℕ) (limit : ℕ) (names : List (List ℕ)) : Type 0 where
  pub ascend : InOrderAfter (ComesAfter compare_texts) (Some after) names
  pub few : length names ≤ limit
  pub plain : All (λ name. is_plain name ≡ true) names

-- what a page may answer
abbrev pub ShowsListing : List ℕ → ℕ → PageAnswer → Type 0
ShowsListing after limit (page.Names names) = IsListing after limit names
ShowsListing after limit page.Failed = Unit {0}
ShowsListing after limit page.NoMemory = Unit {0}

-- no more bytes are found than these
abbrev pub ShowsAtMost : ℕ → GetAnswer → Type 0
ShowsAtMost most (get.Found bytes) = length bytes ≤ most
ShowsAtMost most get.Absent = Unit {0}
ShowsAtMost most get.Failed = Unit {0}
ShowsAtMost most get.NoMemory = Unit {0}
