-- Series that were merged sample by sample.
use Rattle.std.specs.Prelude.{◌≡◌, ◌≢◌, List, [], map, true, All, Contains, Some}
use Rattle.std.specs.List.{find, list_any}
use Rattle.std.specs.List.Sorted.{IsStrictlySortedBy}
use Rattle.label_sets.specs.declared.series.Series.{Series}
use Rattle.label_sets.specs.Labels.{compare_sets}
use Rattle.label_sets.specs.Triples.{Triple, triples_of, compare_keys, has_same_key}
pub use Rattle.label_sets.specs.Triples.{IsDeduplication}

-- The first pattern at each key of a list: the keys strictly ascend, each key of the list stands, and under it the triple that
-- is the first one of the list there.
pub record AreFirst (list kept : List Triple) : Type 0 where
  pub ascending : IsStrictlySortedBy compare_keys kept
  pub first : All (λ t. find (has_same_key t) list ≡ Some t) kept
  pub complete : All (λ t. list_any (has_same_key t) kept ≡ true) list

-- The series are the merge of the triples: the labels strictly ascend, no series is without a sample, and the samples are
-- the first pattern at each key of the list.
pub record IsMerge (list : List Triple) (series : List Series) : Type 0 where
  pub ascending : IsStrictlySortedBy compare_sets (map (λ s. s.labels) series)
  pub inhabited : All (λ s. s.samples ≢ []) series
  pub first : AreFirst list (triples_of series)

-- all patterns of the list at one key are equal
abbrev pub PatternsAgree : List Triple → Type 0
PatternsAgree list =
    (one other : Triple) → Contains list one → Contains list other → has_same_key one other ≡ true → one.pattern ≡ other.pattern
