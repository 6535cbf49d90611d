-- A series with its labels, read part by part.
use Rattle.std.proofs.Common.{◌≡◌, ℕ, List, [], Result, Ok, Err, refl, ap, subst, ◌∙◌, ◌⊎◌, inl, inr}
use Rattle.base.specs.Reading.{◌>>=◌}
use Rattle.base.specs.Members.{members_at}
use Rattle.base.proofs.Binds.{bind_ok, ok_is}
use Rattle.wire_bytes.specs.Position.{Position}
use Rattle.index_parts.specs.declared.refusal.PartRefusal.{PartRefusal}
use Rattle.index_parts.specs.declared.refusal.PartRefusal.TheVariants as part
use Rattle.index_parts.specs.declared.raw_series.RawSeries.{RawSeries}
use Rattle.index_parts.specs.declared.chunk_place.ChunkPlace.{ChunkPlace}
use Rattle.index_parts.specs.SeriesReading.{labels_begin_at, label_at, names_of, values_of, labels_at, chunks_at, series_at}
use Rattle.index_parts.specs.declared.raw_series.RawLabel.{RawLabel}
use Rattle.label_sets.specs.declared.label.Label.{Label}
use Rattle.index_parts.specs.declared.index_series.IndexSeries.{IndexSeries}
use Rattle.index_v2.specs.SeriesLabels.{labels_of, texts_at, labelled_at}

abbrev pub with_chunks : List ChunkPlace → List Label → Result IndexSeries PartRefusal
with_chunks chunks labels = Ok (record { labels = labels; chunks = chunks })

module _ (index : List ℕ) (symbols : List (List ℕ)) (at : ℕ) where
  -- ---- from the parts of a series

  pub labelled_not_begun : (refusal : PartRefusal) → labels_begin_at index at ≡ Err refusal → labelled_at index symbols at ≡ Err refusal
  unfolding labelled_at
  labelled_not_begun _ a = rw a refl

  module _ (count : ℕ) (p : Position) (begins : labels_begin_at index at ≡ Ok (count, p)) where
    no_labels : (refusal : PartRefusal) → texts_at symbols [] count p ≡ Err refusal → labelled_at index symbols at ≡ Err refusal
    unfolding labelled_at
    no_labels _ b = rw (begins, b) refl

    pub labelled_no_labels : (refusal : PartRefusal) → (refusal ≡ part.NoMemory) ⊎ (texts_at symbols [] count p ≡ Err refusal) → (refusal ≡ part.NoMemory) ⊎ (labelled_at index symbols at ≡ Err refusal)
    labelled_no_labels _ (inl out) = inl out
    labelled_no_labels refusal (inr b) = inr (no_labels refusal b)

    module _ (texts : Result (List Label) PartRefusal) (q : Position) (read : texts_at symbols [] count p ≡ Ok (texts, q)) where
      no_chunks : (refusal : PartRefusal) → chunks_at q ≡ Err refusal → labelled_at index symbols at ≡ Err refusal
      unfolding labelled_at
      no_chunks _ c = rw (begins, read, c) refl

      pub labelled_no_chunks : (refusal : PartRefusal) → (refusal ≡ part.NoMemory) ⊎ (chunks_at q ≡ Err refusal) → (refusal ≡ part.NoMemory) ⊎ (labelled_at index symbols at ≡ Err refusal)
      labelled_no_chunks _ (inl out) = inl out
      labelled_no_chunks refusal (inr c) = inr (no_chunks refusal c)

      pub labelled_by : (chunks : List ChunkPlace) → chunks_at q ≡ Ok chunks → labelled_at index symbols at ≡ (texts >>= with_chunks chunks)
      unfolding labelled_at
      labelled_by _ c = rw (begins, read, c) refl

-- ---- the series without its texts

series_read : (index : List ℕ) (at count : ℕ) (p q : Position) (raws : List RawLabel) (chunks : List ChunkPlace) → labels_begin_at index at ≡ Ok (count, p) → members_at label_at count p ≡ Ok (raws, q) → chunks_at q ≡ Ok chunks → series_at index at ≡ Ok (record { names = names_of raws; values = values_of raws; chunks = chunks })
unfolding series_at labels_at
series_read _ _ _ _ _ _ _ a b c = rw (a, b, c) refl

-- A series that was read: the labels that stand there, and their texts.
pub record IsLabelled (index : List ℕ) (symbols : List (List ℕ)) (at : ℕ) (series : IndexSeries) : Type 0 where
  pub raws : List RawLabel
  pub stands : series_at index at ≡ Ok (record { names = names_of raws; values = values_of raws; chunks = series.chunks })
  pub labels_are : labels_of symbols [] raws ≡ Ok series.labels

pub labelled_parts : (index : List ℕ) (symbols : List (List ℕ)) (at : ℕ) (series : IndexSeries) → labelled_at index symbols at ≡ Ok series → IsLabelled index symbols at series
unfolding labelled_at texts_at
labelled_parts index symbols at series e =
    let begin = bind_ok _ _ _ e in
    let texts = bind_ok _ _ _ begin.2 in
    let raws = bind_ok _ _ _ texts.1 in
    let chunks = bind_ok _ _ _ texts.2 in
    let labels = bind_ok _ _ _ chunks.2 in
    let same = ok_is {E = PartRefusal} _ _ raws.2 in
    let is : IsLabelled index symbols at (record { labels = labels.0; chunks = chunks.0 }) = record {
      raws = raws.0.0;
      stands = series_read index at begin.0.0 begin.0.1 raws.0.1 raws.0.0 chunks.0 begin.1 raws.1 (ap (λ r. chunks_at r.1) same ∙ chunks.1);
      labels_are = ap (λ r. r.0) same ∙ labels.1;
    } in
    subst (IsLabelled index symbols at) (ok_is {E = PartRefusal} _ _ labels.2) is

-- A series that stands there: its labels, whose texts decide.
pub record StandsRaw (index : List ℕ) (symbols : List (List ℕ)) (at : ℕ) (series : RawSeries) : Type 0 where
  pub raws : List RawLabel
  pub names_are : names_of raws ≡ series.names
  pub values_are : values_of raws ≡ series.values
  pub read_is : labelled_at index symbols at ≡ (labels_of symbols [] raws >>= with_chunks series.chunks)

texts_read : (symbols : List (List ℕ)) (count : ℕ) (p q : Position) (raws : List RawLabel) → members_at label_at count p ≡ Ok (raws, q) → texts_at symbols [] count p ≡ Ok (labels_of symbols [] raws, q)
unfolding texts_at
texts_read _ _ _ _ _ e = rw e refl

pub raw_stands : (index : List ℕ) (symbols : List (List ℕ)) (at : ℕ) (series : RawSeries) → series_at index at ≡ Ok series → StandsRaw index symbols at series
unfolding series_at labels_at
raw_stands index symbols at series e =
    let begin = bind_ok _ _ _ e in
    let lists = bind_ok _ _ _ begin.2 in
    let raws = bind_ok _ _ _ lists.1 in
    let chunks = bind_ok _ _ _ lists.2 in
    let same = ok_is {E = PartRefusal} _ _ raws.2 in
    let is : StandsRaw index symbols at (record { names = lists.0.0.0; values = lists.0.0.1; chunks = chunks.0 }) = record {
      raws = raws.0.0;
      names_are = ap (λ r. r.0.0) same;
      values_are = ap (λ r. r.0.1) same;
      read_is = labelled_by index symbols at begin.0.0 begin.0.1 begin.1 _ raws.0.1 (texts_read symbols begin.0.0 begin.0.1 raws.0.1 raws.0.0 raws.1) chunks.0 (ap (λ r. chunks_at r.1) same ∙ chunks.1);
    } in
    subst (StandsRaw index symbols at) (ok_is {E = PartRefusal} _ _ chunks.2) is
