-- The numbers of a postings list ascend, and each has 32 bits.
use Rattle.std.proofs.Common.{ℕ, zero, suc, ◌+◌, ◌^◌, ◌<◌, List, [], ◌∷◌, get_or, Option, Some, subst, arith, sym}
use Rattle.std.specs.List.{All, AllByRecursion}
use Rattle.std.specs.List.Sorted.{IsStrictlyIncreasing}
use Rattle.std.proofs.lemmas.List.Elements.{All-from_recursion}
use Rattle.base.proofs.Bools.{lt-from_Less}
use Rattle.index_parts.specs.IndexFile.{AreListed}
use Rattle.index_parts.specs.Turns.{AreInTurn}
use Rattle.index_parts.specs.Postings.{IsNextPosting, IsPostings}
use Rattle.index_parts.specs.declared.postings_row.PostingsRow.{PostingsRow}

rising : (before : Option ℕ) (text numbers : List ℕ) → AreInTurn IsNextPosting before text numbers → IsStrictlyIncreasing numbers
rising _ _ [] are k lt = absurd (omega arith)
rising _ _ (n ∷ []) are k lt = absurd (omega arith)
rising _ _ (n ∷ m ∷ numbers) are zero lt = lt-from_Less n m are.3.2.rises
rising before text (n ∷ m ∷ numbers) are (suc k) lt =
    subst (λ i. get_or (m ∷ numbers) k 0 < get_or (n ∷ m ∷ numbers) i 0) {x = suc (k + 1)} {y = suc k + 1} (omega arith) (rising _ _ (m ∷ numbers) are.3 k (omega arith))

smaller : (before : Option ℕ) (text numbers : List ℕ) → AreInTurn IsNextPosting before text numbers → AllByRecursion (λ n. n < 2 ^ 32) numbers
smaller _ _ [] are = tt
smaller _ _ (n ∷ numbers) are = (are.2.text_is.fits, smaller (Some n) are.1 numbers are.3)

pub numbers_rise : (index : List ℕ) (at : ℕ) (numbers : List ℕ) → IsPostings index at numbers → IsStrictlyIncreasing numbers
numbers_rise _ _ _ is = rising _ _ _ is.texts_are

pub numbers_small : (index : List ℕ) (at : ℕ) (numbers : List ℕ) → IsPostings index at numbers → All (λ n. n < 2 ^ 32) numbers
numbers_small _ _ _ is = All-from_recursion (λ n. n < 2 ^ 32) _ (smaller _ _ _ is.texts_are)

pub none_rise : IsStrictlyIncreasing []
none_rise = λ k lt. absurd (omega arith)

pub none_small : All (λ n. n < 2 ^ 32) []
none_small = λ k d lt. absurd (omega arith)

pub listed_rises : (index : List ℕ) (rows : List PostingsRow) (numbers : List ℕ) → AreListed index rows numbers → IsStrictlyIncreasing numbers
listed_rises index [] numbers are = subst IsStrictlyIncreasing (sym are) none_rise
listed_rises index (row ∷ rows) numbers are = numbers_rise index row.offset numbers are
