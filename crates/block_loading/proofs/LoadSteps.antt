-- The steps of loading, each as it goes on or stops.
use Rattle.std.proofs.Common.{◌≡◌, ℕ, List, Result, Ok, Err, refl, sym, ap, subst, ◌∙◌, ◌⊎◌, inl, inr}
use Rattle.std.specs.Prelude.{IsErrAnd}
use Rattle.base.specs.Reading.{refused_as}
use Rattle.block_keys.specs.declared.key.Key.TheVariants.{Meta, Index}
use Rattle.block_meta.specs.MetaFields.{MetaFields}
use Rattle.block_meta.specs.MetaReading.{meta_of_text}
use Rattle.block_meta.specs.declared.refusal.MetaRefusal.{MetaRefusal}
use Rattle.block_meta.specs.declared.refusal.MetaRefusal.TheVariants as meta
use Rattle.index_parts.specs.declared.index_series.IndexSeries.{IndexSeries}
use Rattle.index_v2.specs.declared.refusal.IndexRefusal.{IndexRefusal}
use Rattle.block_content.specs.ContentReading.{index_at, refused_index}
use Rattle.block_content.specs.declared.check_refusal.CheckRefusal.{CheckRefusal}
use Rattle.block_content.specs.declared.check_refusal.CheckRefusal.TheVariants as check
use Rattle.bucket_core.specs.Contents.{Contents}
use Rattle.block_loading.specs.Loading.{last_segment}
use Rattle.block_loading.specs.LoadReading.{IsBrokenOff, Loads, LoadsIndex, refused_block, refused_meta, file_at, meta_at, index_in, segments_at, load_at}
use Rattle.block_loading.specs.declared.load_refusal.LoadRefusal.{LoadRefusal}

-- a call that stopped with a refusal of another
pub stops : {X Y : Type 0} (view : X → Y) (read : Result Y LoadRefusal) (r : Result X LoadRefusal) (e : LoadRefusal) → IsErrAnd r (λ d. d ≡ e) → IsBrokenOff e ⊎ (read ≡ Err e) → Loads view r read
stops view read (Ok x) e is why = absurd is
stops view read (Err d) e is why = subst (λ (c : LoadRefusal). IsBrokenOff c ⊎ (read ≡ Err c)) (sym is) why

-- the same of the index
pub stops_index : (read : Result (List ℕ × List IndexSeries) LoadRefusal) (r : Result (List ℕ × ℕ) LoadRefusal) (e : LoadRefusal) → IsErrAnd r (λ d. d ≡ e) → IsBrokenOff e ⊎ (read ≡ Err e) → LoadsIndex r read
stops_index read (Ok x) e is why = absurd is
stops_index read (Err d) e is why = subst (λ (c : LoadRefusal). IsBrokenOff c ⊎ (read ≡ Err c)) (sym is) why

-- where one reading follows another, a stop of the first is one of the whole
pub stops_first : {A B : Type 0} (first : Result A LoadRefusal) (whole : Result B LoadRefusal) (e : LoadRefusal) → (first ≡ Err e → whole ≡ Err e) → IsBrokenOff e ⊎ (first ≡ Err e) → IsBrokenOff e ⊎ (whole ≡ Err e)
stops_first first whole e goes (inl off) = inl off
stops_first first whole e goes (inr h) = inr (goes h)

-- a refusal twice said
twice : {A D E F : Type 0} (f : D → E) (g : E → F) (r : Result A D) → refused_as (λ d. g (f d)) r ≡ refused_as g (refused_as f r)
twice f g (Ok x) = refl
twice f g (Err d) = refl

module _ (told : Contents) (ulid : ℕ) where
  -- ---- the meta

  pub no_meta : (e : LoadRefusal) → file_at told (Meta ulid) ≡ Err e → meta_at told ulid ≡ Err e
  unfolding meta_at
  no_meta e h = rw h refl

  module _ (text lent : List ℕ) (read : file_at told (Meta ulid) ≡ Ok text) (lends : lent ≡ text) where
    meta_is : meta_at told ulid ≡ refused_as refused_meta (meta_of_text lent)
    unfolding meta_at
    meta_is = let here : file_at told (Meta ulid) ≡ Ok lent = read ∙ ap (λ (b : List ℕ). Ok b) (sym lends) in rw here refl

    pub meta_read : (meta : MetaFields) → meta_of_text lent ≡ Ok meta → meta_at told ulid ≡ Ok meta
    meta_read meta h = meta_is ∙ ap (refused_as refused_meta) h

    pub meta_stopped : (e : MetaRefusal) (said : LoadRefusal) → (e ≡ meta.NoMemory) ⊎ (meta_of_text lent ≡ Err e) → said ≡ refused_meta e → IsBrokenOff said ⊎ (meta_at told ulid ≡ Err said)
    meta_stopped e said (inl none) is = inl (inl (is ∙ ap refused_meta none))
    meta_stopped e said (inr h) is = inr (meta_is ∙ ap (refused_as refused_meta) h ∙ ap (λ (x : LoadRefusal). Err x) (sym is))

  -- ---- the index

  pub no_index : (e : LoadRefusal) → file_at told (Index ulid) ≡ Err e → index_in told ulid ≡ Err e
  unfolding index_in
  no_index e h = rw h refl

  module _ (text lent : List ℕ) (read : file_at told (Index ulid) ≡ Ok text) (lends : lent ≡ text) where
    pub index_read : (indexed : List IndexSeries) → index_at lent ≡ Ok indexed → index_in told ulid ≡ Ok (text, indexed)
    unfolding index_in
    index_read indexed h = let here : index_at text ≡ Ok indexed = ap index_at (sym lends) ∙ h in rw (read, here) refl

    pub index_stopped : (e : CheckRefusal) (said : LoadRefusal) → (e ≡ check.NoMemory) ⊎ (refused_as refused_index (index_at lent) ≡ Err e) → said ≡ refused_block e → IsBrokenOff said ⊎ (index_in told ulid ≡ Err said)
    unfolding index_in
    index_stopped e said (inl none) is = inl (inl (is ∙ ap refused_block none))
    index_stopped e said (inr h) is =
        let here : refused_as refused_index (index_at text) ≡ Err e = ap (λ (b : List ℕ). refused_as refused_index (index_at b)) (sym lends) ∙ h in
        let refused : refused_as (λ (d : IndexRefusal). refused_block (refused_index d)) (index_at text) ≡ Err (refused_block e) = twice refused_index refused_block (index_at text) ∙ ap (refused_as refused_block) here in
        inr (rw (read, refused) (ap (λ (x : LoadRefusal). Err x) (sym is)))

  -- ---- the whole

  pub without_meta : (e : LoadRefusal) → meta_at told ulid ≡ Err e → load_at told ulid ≡ Err e
  unfolding load_at
  without_meta e h = rw h refl

  module _ (meta : MetaFields) (has : meta_at told ulid ≡ Ok meta) where
    pub without_index : (e : LoadRefusal) → index_in told ulid ≡ Err e → load_at told ulid ≡ Err e
    unfolding load_at
    without_index e h = rw (has, h) refl

    module _ (index : List ℕ) (indexed : List IndexSeries) (is : index_in told ulid ≡ Ok (index, indexed)) (last : ℕ) (counted : last ≡ last_segment indexed) where
      pub without_segment : (e : LoadRefusal) → segments_at told ulid 1 0 last ≡ Err e → load_at told ulid ≡ Err e
      unfolding load_at
      without_segment e h = let here : segments_at told ulid 1 0 (last_segment indexed) ≡ Err e = ap (segments_at told ulid 1 0) (sym counted) ∙ h in rw (has, is, here) refl

      pub all_loaded : (segments : List (List ℕ)) → segments_at told ulid 1 0 last ≡ Ok segments → load_at told ulid ≡ Ok (record { meta = meta; index = index; segments = segments })
      unfolding load_at
      all_loaded segments h = let here : segments_at told ulid 1 0 (last_segment indexed) ≡ Ok segments = ap (segments_at told ulid 1 0) (sym counted) ∙ h in rw (has, is, here) refl
