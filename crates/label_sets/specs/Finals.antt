-- The labels under which the samples of a series are seen, and those that a compacted block keeps.
use Rattle.std.specs.Prelude.{ℕ, List, ◌++◌, Bool, not}
use Rattle.std.specs.List.{filter, list_any}
use Rattle.std.specs.Str.{bytes_eq}
use Rattle.label_sets.specs.declared.label.Label.{Label}
use Rattle.label_sets.specs.Labels.{has_lesser_name, names_of}
use Rattle.label_sets.specs.Ordered.{in_order}

-- whether the name is one of these
unfoldable pub is_among : List (List ℕ) → List ℕ → Bool
is_among names name = list_any (λ one. bytes_eq one name) names

-- the labels whose names are not among these
unfoldable pub without : List (List ℕ) → List Label → List Label
without names labels = filter (λ l. not (is_among names l.name)) labels

-- Final labels: the external labels, and those of the series whose names no external label has, less every label whose
-- name is a replica label; in the order of the names.
unfoldable pub final_of : List Label → List Label → List (List ℕ) → List Label
final_of labels external replicas =
    in_order has_lesser_name (without replicas (external ++ without (names_of external) labels))

-- Reduced labels: those of the series whose names are neither external labels nor replica labels.
unfoldable pub reduced_of : List Label → List Label → List (List ℕ) → List Label
reduced_of labels external replicas = without replicas (without (names_of external) labels)
