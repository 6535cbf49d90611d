-- There is one list that ascends and has these numbers.
use Rattle.std.proofs.Common.{◌≡◌, ◌↔◌, ℕ, List, Contains, sym, ◌∙◌}
use Rattle.std.specs.List.Sorted.{IsStrictlyIncreasing}
use Rattle.label_sets.specs.declared.label.Label.{Label}
use Rattle.matchers.specs.declared.matcher.Matcher.{Matcher}
use Rattle.block_meta.proofs.AscendingOnce.{ascending_only}
use Rattle.index_parts.specs.declared.postings_row.PostingsRow.{PostingsRow}
use Rattle.series_selection.specs.Selections.{IsSelection}
use Rattle.store_ranges.specs.ChunkRanges.{IsSetOf}

same_numbers : (one other : List ℕ) → IsStrictlyIncreasing one → IsStrictlyIncreasing other → ((n : ℕ) → Contains one n ↔ Contains other n) → one ≡ other
same_numbers one other up rises same =
    sym (ascending_only one one up (λ n. ((λ c. c), (λ c. c)))) ∙ ascending_only one other rises (λ n. ((same n).0, (same n).1))

pub one_set : (list one other : List ℕ) → IsSetOf list one → IsSetOf list other → one ≡ other
one_set list one other is so =
    same_numbers one other is.increasing so.increasing
    (λ n. ((λ c. (so.members n).1 ((is.members n).0 c)), (λ c. (is.members n).1 ((so.members n).0 c))))

pub one_selection : (Lists : PostingsRow → List ℕ → Type 0) (rows : List PostingsRow) (external : List Label) (selector : List Matcher) (one other : List ℕ) → IsSelection Lists rows external selector one → IsSelection Lists rows external selector other → one ≡ other
one_selection Lists rows external selector one other is so =
    same_numbers one other is.ascend so.ascend
    (λ n. ((λ c. (so.taken n).1 ((is.taken n).0 c)), (λ c. (is.taken n).1 ((so.taken n).0 c))))
