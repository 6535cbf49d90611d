-- Loops that look for the first of its kind.
use Rattle.std.proofs.Common.{◌≡◌, ℕ, ◌+◌, ◌-◌, ◌^◌, ◌<◌, ◌≤◌, min, List, ◌∷◌, Bool, true, false, ◌&&◌, length, take, drop, get_or, Option, None, Some, ℤ, refl, sym, ap, ◌∙◌}
use Rattle.std.specs.Prelude.{option_map}
use Rattle.std.proofs.lemmas.List.{drop_more, drop_all}
use Rattle.label_sets.specs.declared.sample.Sample.{Sample}
use Rattle.label_sets.specs.Times.{is_within}
use Rattle.index_parts.specs.declared.chunk_place.ChunkPlace.{ChunkPlace}
use Rattle.index_parts.specs.declared.index_series.IndexSeries.{IndexSeries}
use Rattle.block_meta.specs.declared.meta.Meta.{Meta}
use Rattle.base.specs.Firsts.{first_at}
use Rattle.block_content.specs.ContentReading.{outside_of, first_time, begins_after, follow, repeated_in, fitted}
use Rattle.base.proofs.FirstLaws.{none_step, some_stop, none_end}
use Rattle.block_content.proofs.ChunkWalks.{fitted_more}

-- ---- a sample outside the block's times

abbrev pub NoneOutside : Meta → List Sample → ℕ → Type 0
NoneOutside meta samples i = first_at (outside_of meta) (take i samples) ≡ None

inside : (meta : Meta) (sample : Sample) (r : Bool) → r ≡ is_within meta.min_time meta.max_time sample → r ≡ true → outside_of meta sample ≡ None
inside meta sample r is passed = rw (sym is ∙ passed) refl

beside : (meta : Meta) (sample : Sample) (r : Bool) → r ≡ is_within meta.min_time meta.max_time sample → r ≡ false → outside_of meta sample ≡ Some sample.time
beside meta sample r is failed = rw (sym is ∙ failed) refl

pub time_start : (meta : Meta) (samples : List Sample) → NoneOutside meta samples 0
unfolding first_at
time_start meta samples = refl

pub time_step : (meta : Meta) (samples : List Sample) (i : ℕ) (sample d : Sample) (r : Bool) → NoneOutside meta samples i → i < length samples → sample ≡ get_or samples i d → r ≡ is_within meta.min_time meta.max_time sample → r ≡ true → NoneOutside meta samples (i + 1)
time_step meta samples i sample d r none lt at is passed = none_step (outside_of meta) samples i sample d none lt at (inside meta sample r is passed)

pub time_stop : (meta : Meta) (samples : List Sample) (i : ℕ) (sample d : Sample) (r : Bool) → NoneOutside meta samples i → i < length samples → sample ≡ get_or samples i d → r ≡ is_within meta.min_time meta.max_time sample → r ≡ false → Some sample.time ≡ first_time meta samples
time_stop meta samples i sample d r none lt at is failed = sym (ap (option_map (λ (q : ℕ × ℤ). q.1)) (some_stop (outside_of meta) samples i sample d sample.time none lt at (beside meta sample r is failed)))

pub time_end : (meta : Meta) (samples : List Sample) (i : ℕ) → NoneOutside meta samples i → length samples ≤ i → None ≡ first_time meta samples
time_end meta samples i none le = sym (ap (option_map (λ (q : ℕ × ℤ). q.1)) (none_end (outside_of meta) samples i none le))

-- ---- a series whose chunks do not follow one another

module _ {A X : Type 0} (found : A → Option X) where
  pub record NoneYet (list : List A) (i series : ℕ) : Type 0 where
    pub none : first_at found (take i list) ≡ None
    pub number : series ≡ fitted i

  pub yet_start : (list : List A) → NoneYet list 0 0
  unfolding first_at
  yet_start list = record { none = refl; number = refl }

  pub yet_step : (list : List A) (i series next : ℕ) (one d : A) → NoneYet list i series → i < length list → one ≡ get_or list i d → found one ≡ None → next ≡ min (series + 1) (2 ^ 32 - 1) → NoneYet list (i + 1) next
  yet_step list i series next one d far lt at is counted = record { none = none_step found list i one d far.none lt at is; number = fitted_more i series next far.number counted }

  pub yet_stop : (list : List A) (i series : ℕ) (one d : A) (e : X) → NoneYet list i series → i < length list → one ≡ get_or list i d → found one ≡ Some e → (place : ℕ) × (first_at found list ≡ Some (place, e)) × (series ≡ fitted place)
  yet_stop list i series one d e far lt at is = (i, some_stop found list i one d e far.none lt at is, far.number)

-- ---- chunks one after another

abbrev pub FollowSoFar : List ChunkPlace → Option ChunkPlace → ℕ → Type 0
FollowSoFar chunks before i = follow None chunks ≡ follow before (drop i chunks)

pub follow_step : (chunks : List ChunkPlace) (before : Option ChunkPlace) (i : ℕ) (chunk d : ChunkPlace) (r : Bool) → FollowSoFar chunks before i → i < length chunks → chunk ≡ get_or chunks i d → r ≡ begins_after before chunk → r ≡ true → FollowSoFar chunks (Some chunk) (i + 1)
unfolding follow
follow_step chunks before i chunk d r far lt at is passed =
    far ∙ ap (follow before) (drop_more chunks i d lt ∙ ap (λ (y : ChunkPlace). y ∷ drop (i + 1) chunks) (sym at)) ∙ ap (λ (b : Bool). b && follow (Some chunk) (drop (i + 1) chunks)) (sym is ∙ passed)

pub follow_stop : (chunks : List ChunkPlace) (before : Option ChunkPlace) (i : ℕ) (chunk d : ChunkPlace) (r : Bool) → FollowSoFar chunks before i → i < length chunks → chunk ≡ get_or chunks i d → r ≡ begins_after before chunk → r ≡ false → false ≡ follow None chunks
unfolding follow
follow_stop chunks before i chunk d r far lt at is failed =
    sym (far ∙ ap (follow before) (drop_more chunks i d lt ∙ ap (λ (y : ChunkPlace). y ∷ drop (i + 1) chunks) (sym at)) ∙ ap (λ (b : Bool). b && follow (Some chunk) (drop (i + 1) chunks)) (sym is ∙ failed))

pub follow_end : (chunks : List ChunkPlace) (before : Option ChunkPlace) (i : ℕ) → FollowSoFar chunks before i → length chunks ≤ i → true ≡ follow None chunks
unfolding follow
follow_end chunks before i far le = sym (far ∙ ap (follow before) (drop_all i chunks le))

pub follows : (one : IndexSeries) (chunks : List ChunkPlace) (r : Bool) → chunks ≡ one.chunks → r ≡ follow None chunks → r ≡ true → repeated_in one ≡ None
follows one chunks r are is passed = let so : follow None one.chunks ≡ true = ap (follow None) (sym are) ∙ sym is ∙ passed in rw so refl

pub follows_not : (one : IndexSeries) (chunks : List ChunkPlace) (r : Bool) → chunks ≡ one.chunks → r ≡ follow None chunks → r ≡ false → repeated_in one ≡ Some tt
follows_not one chunks r are is failed = let so : follow None one.chunks ≡ false = ap (follow None) (sym are) ∙ sym is ∙ failed in rw so refl
