-- A meta is told by its fields: the proofs that it carries are of propositions.
use Rattle.std.proofs.Common.{◌≡◌, ℕ, ℤ, List, ap, subst, ◌∙◌}
use Rattle.std.proofs.Props.{props}
use Rattle.std.specs.List.Sorted.{IsStrictlyIncreasing}
use Rattle.block_meta.specs.Lawful.{AreLawfulTimes}
use Rattle.block_meta.specs.MetaFields.{MetaFields, fields_of}
use Rattle.block_meta.specs.declared.meta.Meta.{Meta}

pub times_prop : (min max : ℤ) → IsProp (AreLawfulTimes min max)
times_prop _ _ = hlevel props

pub distinct_prop : (sources : List ℕ) → IsProp (IsStrictlyIncreasing sources)
distinct_prop _ = hlevel props

abbrev meta_made : (f : MetaFields) → AreLawfulTimes f.min_time f.max_time → IsStrictlyIncreasing f.sources → Meta
meta_made f times distinct = record {
  ulid = f.ulid;
  min_time = f.min_time;
  max_time = f.max_time;
  series = f.series;
  samples = f.samples;
  chunks = f.chunks;
  level = f.level;
  sources = f.sources;
  parents = f.parents;
  labels = f.labels;
  resolution = f.resolution;
  source = f.source;
  files = f.files;
  segment_files = f.segment_files;
  times = times;
  distinct = distinct;
}

same_made : (f g : MetaFields) → f ≡ g → (t : AreLawfulTimes f.min_time f.max_time) (d : IsStrictlyIncreasing f.sources) (t' : AreLawfulTimes g.min_time g.max_time) (d' : IsStrictlyIncreasing g.sources) → meta_made f t d ≡ meta_made g t' d'
same_made f g e t d =
    subst (λ h. (t' : AreLawfulTimes h.min_time h.max_time) (d' : IsStrictlyIncreasing h.sources) → meta_made f t d ≡ meta_made h t' d') e
    (λ t' d'. ap (λ x. meta_made f x d) (times_prop _ _ t t') ∙ ap (λ x. meta_made f t' x) (distinct_prop _ d d'))

-- metas with the same fields are one
pub same_meta : (m n : Meta) → fields_of m ≡ fields_of n → m ≡ n
same_meta m n e = same_made _ _ e _ _ _ _
