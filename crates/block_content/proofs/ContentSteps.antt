-- What the steps of reading a block's files come to.
use Rattle.std.proofs.Common.{◌≡◌, ℕ, List, None, Some, Ok, Err, ℤ, refl, sym, ap, ◌∙◌, ◌⊎◌, inl, inr}
use Rattle.base.specs.Reading.{refused_as}
use Rattle.label_sets.specs.declared.sample.Sample.{Sample}
use Rattle.index_parts.specs.declared.index_series.IndexSeries.{IndexSeries}
use Rattle.block_meta.specs.declared.meta.Meta.{Meta}
use Rattle.base.specs.Firsts.{each_at, first_at}
use Rattle.block_content.specs.ContentReading.{chunks_at, list_of, first_outside, repeated_in, fitted, refused_index, refused_chunk, index_at, tested_at, chunked_at, contents_at}
use Rattle.block_content.specs.declared.chunk_cause.ChunkCause.{ChunkCause}
use Rattle.block_content.specs.declared.check_refusal.CheckRefusal.{CheckRefusal}
use Rattle.block_content.specs.declared.check_refusal.CheckRefusal.TheVariants.{OutsideRange, Repeated, NoMemory}

module _ (meta : Meta) (segments : List (List ℕ)) (indexed : List IndexSeries) where
  pub chunks_refused : (e : CheckRefusal) → (e ≡ NoMemory) ⊎ ((r : ℕ × (ℕ × ChunkCause)) × (each_at (chunks_at segments) indexed ≡ Err r) × (e ≡ refused_chunk r)) → (e ≡ NoMemory) ⊎ (chunked_at meta segments indexed ≡ Err e)
  unfolding chunked_at
  chunks_refused e (inl none) = inl none
  chunks_refused e (inr (r, refused, is)) =
      let stopped : chunked_at meta segments indexed ≡ Err (refused_chunk r) = rw refused refl in
      inr (stopped ∙ ap (λ (d : CheckRefusal). Err d) (sym is))

  module _ (parts : List (List (List Sample))) (read : each_at (chunks_at segments) indexed ≡ Ok parts) where
    pub times_refused : (place series : ℕ) (time : ℤ) → first_at (first_outside meta) (list_of indexed parts) ≡ Some (place, time) → series ≡ fitted place → chunked_at meta segments indexed ≡ Err (OutsideRange series time)
    unfolding chunked_at tested_at
    times_refused place series time found is =
        let stopped : chunked_at meta segments indexed ≡ Err (OutsideRange (fitted place) time) = rw (read, found) refl in
        stopped ∙ ap (λ (n : ℕ). Err (OutsideRange n time)) (sym is)

    pub order_refused : (place series : ℕ) → first_at (first_outside meta) (list_of indexed parts) ≡ None → first_at repeated_in indexed ≡ Some (place, tt) → series ≡ fitted place → chunked_at meta segments indexed ≡ Err (Repeated series)
    unfolding chunked_at tested_at
    order_refused place series none found is =
        let stopped : chunked_at meta segments indexed ≡ Err (Repeated (fitted place)) = rw (read, none, found) refl in
        stopped ∙ ap (λ (n : ℕ). Err (Repeated n)) (sym is)

    pub all_read : first_at (first_outside meta) (list_of indexed parts) ≡ None → first_at repeated_in indexed ≡ None → chunked_at meta segments indexed ≡ Ok (list_of indexed parts)
    unfolding chunked_at tested_at
    all_read none none' = rw (read, none, none') refl

pub behind_index : (meta : Meta) (index : List ℕ) (segments : List (List ℕ)) (indexed : List IndexSeries) → refused_as refused_index (index_at index) ≡ Ok indexed → contents_at meta index segments ≡ chunked_at meta segments indexed
unfolding contents_at
behind_index meta index segments indexed e = rw e refl

pub index_stops : (meta : Meta) (index : List ℕ) (segments : List (List ℕ)) (e : CheckRefusal) → refused_as refused_index (index_at index) ≡ Err e → contents_at meta index segments ≡ Err e
unfolding contents_at
index_stops meta index segments e is = rw is refl

-- ---- reading step by step, where the index was read

module _ (meta : Meta) (index : List ℕ) (segments : List (List ℕ)) (indexed items : List IndexSeries) (read : refused_as refused_index (index_at index) ≡ Ok indexed) (moved : items ≡ indexed) where
  pub list_refused : (e : CheckRefusal) → (e ≡ NoMemory) ⊎ ((r : ℕ × (ℕ × ChunkCause)) × (each_at (chunks_at segments) items ≡ Err r) × (e ≡ refused_chunk r)) → (e ≡ NoMemory) ⊎ (contents_at meta index segments ≡ Err e)
  list_refused e (inl none) = inl none
  list_refused e (inr (r, refused, is)) =
      elim (chunks_refused meta segments indexed e (inr (r, ap (each_at (chunks_at segments)) (sym moved) ∙ refused, is))) [
        | inl none ↦ inl none
        | inr h ↦ inr (behind_index meta index segments indexed read ∙ h)
      ]
