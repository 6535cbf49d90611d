-- What a block holds that others are merged into: what these hold, under reduced labels.
use Rattle.std.specs.Prelude.{ℕ, List}
use Rattle.std.specs.List.{flat_map}
use Rattle.label_sets.specs.declared.label.Label.{Label}
use Rattle.label_sets.specs.declared.series.Series.{Series}
use Rattle.label_sets.specs.Finals.{reduced_of}
use Rattle.label_sets.specs.Triples.{Triple, triples_under}

-- the samples of a block, each under its series' reduced labels
abbrev pub reduced_triples : List Label → List (List ℕ) → List Series → List Triple
reduced_triples external replicas list = flat_map (λ s. triples_under (reduced_of s.labels external replicas) s.samples) list

-- those of all blocks, one block after another
abbrev pub all_triples : List Label → List (List ℕ) → List (List Series) → List Triple
all_triples external replicas contents = flat_map (reduced_triples external replicas) contents
