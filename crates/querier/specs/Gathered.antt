-- The answers of several gateways as one.
use Rattle.std.specs.Prelude.{◌≡◌, ◌⊎◌, ℕ, List, [], All, Contains}
use Rattle.std.specs.List.{find, flat_map}
use Rattle.block_meta.specs.Lawful.{ascending}
use Rattle.label_sets.specs.declared.series.Series.{Series}
use Rattle.label_sets.specs.Triples.{Triple, has_same_key, triples_of}
use Rattle.vertical_merge.specs.Merged.{IsMerge}
use Rattle.querier.specs.declared.answer.Answer.{Answer}

abbrev pub answer : List Series → List ℕ → Answer
answer series sources = record { series = series; sources = sources }

-- the samples of all answers, in the answers' order
abbrev pub gathered_samples : List Answer → List Triple
gathered_samples answers = flat_map (λ one. triples_of one.series) answers

-- the sources of all answers, in the answers' order
abbrev pub gathered_sources : List Answer → List ℕ
gathered_sources answers = flat_map (λ one. one.sources) answers

-- An answer of all these together: at each key the pattern of the first that has one, and the sources of all, ascending, each once.
pub record IsGathered (answers : List Answer) (made : Answer) : Type 0 where
  pub merged : IsMerge (gathered_samples answers) made.series
  pub sources : made.sources ≡ ascending (gathered_sources answers)

-- the first answers have no sample that the others have not, and the sample that is first at a key is the same one
pub record TellTheSame (answers told : List Answer) : Type 0 where
  pub nothing_more : All (Contains (gathered_samples told)) (gathered_samples answers)
  pub first : (t : Triple) → find (has_same_key t) (gathered_samples answers) ≡ find (has_same_key t) (gathered_samples told)

-- An answer that was compared with the first one is as it was, or it had the first one's series and has none now.
abbrev pub IsComparedWith : Answer → Answer → Answer → Type 0
IsComparedWith first old new = (new ≡ old) ⊎ ((first.series ≡ old.series) × (new.series ≡ []))
