-- A page of names, by the objects that stand.
use Rattle.std.specs.Prelude.{◌≡◌, ◌⊎◌, ◌==◌, ℕ, ◌≤◌, List, [], ◌∷◌, ◌++◌, length, All, Contains, Some, IsSome}
use Rattle.std.specs.List.{before_first}
use Rattle.wire_bytes.specs.Files.{slash}
use Rattle.base.specs.Order.{InOrderAfter, ComesAfter}
use Rattle.label_sets.specs.Labels.{ComesBefore, compare_texts}
use Rattle.bucket_core.specs.Contents.{Contents}
use Rattle.bucket_core.specs.declared.answer.PageAnswer.{PageAnswer}
use Rattle.bucket_core.specs.declared.answer.PageAnswer.TheVariants.{Names, Failed, NoMemory}

-- the name under which a folder lists a key: the text after the folder and a slash, and where no folder is
-- given the key's part before its first slash
abbrev pub Lists : List ℕ → List ℕ → List ℕ → Type 0
Lists [] key name = name ≡ before_first (λ byte. byte == slash) key
Lists (byte ∷ bytes) key name = key ≡ (byte ∷ bytes) ++ slash ∷ name

-- some object that stands is listed under the name
abbrev pub IsName : Contents → List ℕ → List ℕ → Type 0
IsName contents within name = (key : List ℕ) × IsSome (contents key) × Lists within key name

-- the least names greater than the cursor, as many as there are up to the limit
pub record IsPage (contents : Contents) (within after : List ℕ) (limit : ℕ) (names : List (List ℕ)) : Type 0 where
  pub ascend : InOrderAfter (ComesAfter compare_texts) (Some after) names
  pub few : length names ≤ limit
  pub stand : All (IsName contents within) names
  -- a name that is not on the page comes after a page that is full
  pub whole : (name : List ℕ) → IsName contents within name → ComesBefore after name →
      Contains names name ⊎ ((length names ≡ limit) × All (λ listed. ComesBefore listed name) names)

-- what a page may answer
abbrev pub ShowsPage : Contents → List ℕ → List ℕ → ℕ → PageAnswer → Type 0
ShowsPage contents within after limit (Names names) = IsPage contents within after limit names
ShowsPage contents within after limit Failed = Unit {0}
ShowsPage contents within after limit NoMemory = Unit {0}
