-- A postings list: the numbers of series, strictly ascending.
use Rattle.std.specs.Prelude.{ℕ, List, Option}
use Rattle.std.specs.Int.{w32, to_be_bytes}
use Rattle.std.specs.Ordering.{nat_cmp}
use Rattle.base.specs.Order.{ComesAfter}
use Rattle.wire_bytes.specs.FieldTexts.{IsFixed}
use Rattle.index_parts.specs.Lists.{IsList, list_text}

-- a number in four bytes, above the one before it
pub record IsNextPosting (before : Option ℕ) (text : List ℕ) (number : ℕ) : Type 0 where
  pub text_is : IsFixed w32 text number
  pub rises : ComesAfter nat_cmp before number

abbrev pub IsPostings : List ℕ → ℕ → List ℕ → Type 0
IsPostings = IsList IsNextPosting

-- what a writer puts
abbrev pub postings_text : List ℕ → List ℕ
postings_text numbers = list_text (to_be_bytes w32) numbers
