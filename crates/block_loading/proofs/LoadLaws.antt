-- Loading a block: what the functions give is what the relations say.
use Rattle.std.proofs.Common.{◌≡◌, ℕ, ◌+◌, List, length, Ok, Err, refl, sym, ap, subst, ◌∙◌, arith, inl, inr}
use Rattle.std.specs.Prelude.{◌≢◌}
use Rattle.base.specs.Reading.{refused_as}
use Rattle.base.proofs.Binds.{bind_ok, bind_err, ok_is, refused_as_ok, refused_as_err}
use Rattle.block_keys.specs.declared.key.Key.{Key}
use Rattle.block_keys.specs.declared.key.Key.TheVariants.{Meta, Index, Segment, Mark}
use Rattle.block_meta.specs.MetaFields.{MetaFields, fields_of}
use Rattle.block_meta.specs.MetaReading.{meta_of_text}
use Rattle.block_meta.specs.declared.refusal.MetaRefusal.{MetaRefusal}
use Rattle.block_meta.specs.declared.refusal.MetaRefusal.TheVariants as meta
use Rattle.index_parts.specs.declared.index_series.IndexSeries.{IndexSeries}
use Rattle.index_v2.specs.declared.refusal.IndexRefusal.{IndexRefusal}
use Rattle.index_v2.specs.declared.refusal.IndexRefusal.TheVariants as index
use Rattle.block_meta.specs.declared.block_files.BlockFiles.{BlockFiles}
use Rattle.block_content.specs.ContentReading.{index_at, refused_index}
use Rattle.block_content.specs.declared.check_refusal.CheckRefusal.{CheckRefusal}
use Rattle.block_content.specs.declared.check_refusal.CheckRefusal.TheVariants.{NoFile, BadMeta, UlidDiffers, NotLevelOne, SourcesNotSelf, Downsampled, TooLarge, BadIndex, EmptyBlock, BadChunk, OutsideRange, Repeated, NamesTooMuch, NoMemory}
use Rattle.bucket_core.specs.Contents.{Contents}
use Rattle.block_loading.specs.Loading.{HasFile, HasMeta, HasIndex, HasSegments, last_segment, IsLoaded, ReachesSegment, Reaches, PassesTogether, RefusesLoad}
use Rattle.block_loading.specs.LoadReading.{refused_block, refused_meta, file_at, meta_at, index_in, segment_at, segments_at, BlockParts, parts_of, load_at}
use Rattle.block_loading.specs.declared.load_refusal.LoadRefusal.{LoadRefusal}
use Rattle.block_loading.specs.declared.load_refusal.LoadRefusal.TheVariants.{Refused}
use Rattle.block_loading.proofs.FileLaws.{RefusesFile, file_found, file_again, file_refused, file_absent, file_large}
use Rattle.block_loading.proofs.SegmentLaws.{IsOver, size_of, segment_unread, segment_over, segment_refused, segments_found, segments_again, same_segments, segments_refused, segments_refuses}
use Rattle.block_loading.proofs.LoadSteps.{no_meta, no_index, without_meta}

-- ---- refusals as the block's

abbrev IsIndexRefusal : IndexRefusal → LoadRefusal
IsIndexRefusal e = refused_block (refused_index e)

meta_kept : (refusal : MetaRefusal) → refusal ≢ meta.NoMemory → refused_meta refusal ≡ Refused (BadMeta refusal)
meta_kept meta.NotJson other = refl
meta_kept (meta.MissingField name) other = refl
meta_kept (meta.WrongKind name) other = refl
meta_kept meta.BadVersion other = refl
meta_kept meta.BadTimes other = refl
meta_kept (meta.BadUlid name) other = refl
meta_kept meta.BadLabels other = refl
meta_kept meta.NoMemory other = absurd (other refl)

-- a refusal of a meta that is said of the block
meta_told : (d : MetaRefusal) (refusal : CheckRefusal) → refused_meta d ≡ Refused refusal → (refusal ≡ BadMeta d) × (d ≢ meta.NoMemory)
meta_told meta.NotJson refusal e = (cc, λ h. absurd cc)
meta_told (meta.MissingField name) refusal e = (cc, λ h. absurd cc)
meta_told (meta.WrongKind name) refusal e = (cc, λ h. absurd cc)
meta_told meta.BadVersion refusal e = (cc, λ h. absurd cc)
meta_told meta.BadTimes refusal e = (cc, λ h. absurd cc)
meta_told (meta.BadUlid name) refusal e = (cc, λ h. absurd cc)
meta_told meta.BadLabels refusal e = (cc, λ h. absurd cc)
meta_told meta.NoMemory refusal e = absurd cc

index_kept : (refusal : IndexRefusal) → refusal ≢ index.NoMemory → IsIndexRefusal refusal ≡ Refused (BadIndex refusal)
index_kept index.BadMagic other = refl
index_kept index.BadVersion other = refl
index_kept (index.BadTocSum kept computed) other = refl
index_kept (index.BadSection section part) other = refl
index_kept (index.BadSeries number part) other = refl
index_kept (index.PostingsDiffer place) other = refl
index_kept index.NoMemory other = absurd (other refl)

index_told : (d : IndexRefusal) (refusal : CheckRefusal) → IsIndexRefusal d ≡ Refused refusal → (refusal ≡ BadIndex d) × (d ≢ index.NoMemory)
index_told index.BadMagic refusal e = (cc, λ h. absurd cc)
index_told index.BadVersion refusal e = (cc, λ h. absurd cc)
index_told (index.BadTocSum kept computed) refusal e = (cc, λ h. absurd cc)
index_told (index.BadSection section part) refusal e = (cc, λ h. absurd cc)
index_told (index.BadSeries number part) refusal e = (cc, λ h. absurd cc)
index_told (index.PostingsDiffer place) refusal e = (cc, λ h. absurd cc)
index_told index.NoMemory refusal e = absurd cc

refused_is : (d e : CheckRefusal) → Refused d ≡ Refused e → d ≡ e
refused_is d e h = cc

module _ (told : Contents) (ulid : ℕ) where
  -- ---- the meta

  pub meta_found : (meta : MetaFields) → meta_at told ulid ≡ Ok meta → HasMeta told ulid meta
  unfolding meta_at
  meta_found meta e = let text = bind_ok _ _ _ e in record { text = text.0; file = file_found told (Meta ulid) text.0 text.1; reads = refused_as_ok _ _ _ text.2 }

  pub meta_again : (meta : MetaFields) → HasMeta told ulid meta → meta_at told ulid ≡ Ok meta
  unfolding meta_at
  meta_again meta is = rw (file_again told (Meta ulid) is.text is.file, is.reads) refl

  -- ---- the index

  pub index_found : (index : List ℕ) (indexed : List IndexSeries) → index_in told ulid ≡ Ok (index, indexed) → HasIndex told ulid index indexed
  unfolding index_in
  index_found index indexed e =
      let text = bind_ok _ _ _ e in
      let list = bind_ok _ _ _ text.2 in
      let same : (text.0, list.0) ≡ (index, indexed) = ok_is {E = LoadRefusal} _ _ list.2 in
      let Has : List ℕ × List IndexSeries → Type 0 = λ p. HasIndex told ulid p.0 p.1 in
      let here : HasIndex told ulid text.0 list.0 = record { file = file_found told (Index ulid) text.0 text.1; reads = refused_as_ok _ _ _ list.1 } in
      subst Has same here

  pub index_again : (index : List ℕ) (indexed : List IndexSeries) → HasIndex told ulid index indexed → index_in told ulid ≡ Ok (index, indexed)
  unfolding index_in
  index_again index indexed is = rw (file_again told (Index ulid) index is.file, is.reads) refl

  -- ---- the whole

  pub load_found : (files : BlockFiles) → load_at told ulid ≡ Ok (parts_of files) → IsLoaded told ulid files
  unfolding load_at
  load_found files e =
      let meta = bind_ok _ _ _ e in
      let index = bind_ok _ _ _ meta.2 in
      let segments = bind_ok _ _ _ index.2 in
      let same : record { meta = meta.0; index = index.0.0; segments = segments.0 } ≡ parts_of files = ok_is {E = LoadRefusal} _ _ segments.2 in
      let are = segments_found told ulid (last_segment index.0.1) segments.0 segments.1 in
      record {
        indexed = index.0.1;
        meta_is = subst (HasMeta told ulid) (ap (λ (p : BlockParts). p.meta) same) (meta_found meta.0 meta.1);
        index_is = subst (λ (b : List ℕ). HasIndex told ulid b index.0.1) (ap (λ (p : BlockParts). p.index) same) (index_found index.0.0 index.0.1 index.1);
        segments_are = subst (HasSegments told ulid) (ap (λ (p : BlockParts). p.segments) same) are.0;
        all = ap length (sym (ap (λ (p : BlockParts). p.segments) same)) ∙ are.1;
      }

  pub load_again : (files : BlockFiles) → IsLoaded told ulid files → load_at told ulid ≡ Ok (parts_of files)
  unfolding load_at
  load_again files is = rw (meta_again (fields_of files.meta) is.meta_is, index_again files.index is.indexed is.index_is, segments_again told ulid (last_segment is.indexed) files.segments is.segments_are is.all) refl

  -- ---- why it is refused

  of_file : (key : Key) (refusal : CheckRefusal) → Reaches told ulid key → RefusesFile told key refusal → RefusesLoad told ulid refusal
  of_file key refusal reached (inl (same, none)) = subst (RefusesLoad told ulid) (sym same) (reached, none)
  of_file key refusal reached (inr (same, large)) = subst (RefusesLoad told ulid) (sym same) (reached, inl large)

  unread : (key : Key) (refusal : CheckRefusal) → Reaches told ulid key → file_at told key ≡ Err (Refused refusal) → RefusesLoad told ulid refusal
  unread key refusal reached h =
      let why = file_refused told key (Refused refusal) h in
      of_file key refusal reached (subst (RefusesFile told key) (sym (refused_is refusal why.0 why.1)) why.2)

  meta_refused : (refusal : CheckRefusal) → meta_at told ulid ≡ Err (Refused refusal) → RefusesLoad told ulid refusal
  unfolding meta_at
  meta_refused refusal h =
      elim (bind_err _ _ _ h) [
        | inl refused ↦ unread (Meta ulid) refusal refl refused
        | inr (text, read, refused) ↦
            let why = refused_as_err _ _ _ refused in
            let said = meta_told why.0 refusal why.2 in
            let is : RefusesLoad told ulid (BadMeta why.0) = (text, file_found told (Meta ulid) text read, why.1, said.1) in
            subst (RefusesLoad told ulid) (sym said.0) is
      ]

  index_refused : (meta : MetaFields) (refusal : CheckRefusal) → HasMeta told ulid meta → index_in told ulid ≡ Err (Refused refusal) → RefusesLoad told ulid refusal
  unfolding index_in
  index_refused meta refusal has h =
      elim (bind_err _ _ _ h) [
        | inl refused ↦ unread (Index ulid) refusal (refl, (meta, has)) refused
        | inr (text, read, behind) ↦
            elim (bind_err (refused_as IsIndexRefusal (index_at text)) (λ (indexed : List IndexSeries). Ok (text, indexed)) (Refused refusal) behind) [
              | inl refused ↦
                  let why = refused_as_err _ _ _ refused in
                  let said = index_told why.0 refusal why.2 in
                  let is : RefusesLoad told ulid (BadIndex why.0) = (meta, text, has, file_found told (Index ulid) text read, why.1, said.1) in
                  subst (RefusesLoad told ulid) (sym said.0) is
              | inr (indexed, whole, last) ↦ absurd cc
            ]
      ]

  segments_stop : (meta : MetaFields) (index : List ℕ) (indexed : List IndexSeries) (refusal : CheckRefusal) → HasMeta told ulid meta → HasIndex told ulid index indexed → segments_at told ulid 1 0 (last_segment indexed) ≡ Err (Refused refusal) → RefusesLoad told ulid refusal
  segments_stop meta index indexed refusal has is h =
      let why = segments_refused told ulid (last_segment indexed) (Refused refusal) h in
      let reached : ReachesSegment told ulid why.0 = record {
        meta = meta;
        meta_is = has;
        index = index;
        indexed = indexed;
        index_is = is;
        first = let at = why.3 in omega (arith, at);
        named = why.4;
        before = why.1;
        before_are = why.2;
        all_before = why.3;
      } in
      elim (segment_refused told (Segment ulid why.0) (size_of why.1) (Refused refusal) why.5) [
        | inl refused ↦ unread (Segment ulid why.0) refusal (refl, reached) refused
        | inr (over, said) ↦
            let together : PassesTogether told ulid (Segment ulid why.0) = record {
              before = why.1;
              before_are = why.2;
              key_is = ap (λ (n : ℕ). Segment ulid n) (sym why.3);
              bytes = over.bytes;
              file = over.file;
              much = over.much;
            } in
            let is : RefusesLoad told ulid (TooLarge (Segment ulid why.0)) = ((refl, reached), inr together) in
            subst (RefusesLoad told ulid) (sym (refused_is refusal (TooLarge (Segment ulid why.0)) said)) is
      ]

  pub load_refused : (refusal : CheckRefusal) → load_at told ulid ≡ Err (Refused refusal) → RefusesLoad told ulid refusal
  unfolding load_at
  load_refused refusal h =
      elim (bind_err _ _ _ h) [
        | inl refused ↦ meta_refused refusal refused
        | inr (meta, read, behind) ↦
            let has = meta_found meta read in
            elim (bind_err _ _ _ behind) [
              | inl refused ↦ index_refused meta refusal has refused
              | inr (index, whole, others) ↦
                  let is = index_found index.0 index.1 whole in
                  elim (bind_err _ _ _ others) [
                    | inl refused ↦ segments_stop meta index.0 index.1 refusal has is refused
                    | inr (segments, all, last) ↦ absurd cc
                  ]
            ]
      ]

  -- ---- what is refused

  stops_at_index : (meta : MetaFields) (e : LoadRefusal) → HasMeta told ulid meta → index_in told ulid ≡ Err e → load_at told ulid ≡ Err e
  unfolding load_at
  stops_at_index meta e has h = rw (meta_again meta has, h) refl

  stops_at_segment : (number : ℕ) (e : LoadRefusal) → (reached : ReachesSegment told ulid number) → segment_at told (Segment ulid number) (size_of reached.before) ≡ Err e → load_at told ulid ≡ Err e
  unfolding load_at
  stops_at_segment number e reached h =
      let refused : segments_at told ulid 1 0 (last_segment reached.indexed) ≡ Err e = segments_refuses told ulid (last_segment reached.indexed) number reached.before e reached.before_are reached.all_before reached.named h in
      rw (meta_again reached.meta reached.meta_is, index_again reached.index reached.indexed reached.index_is, refused) refl

  bad_meta : (text : List ℕ) (refusal : MetaRefusal) → HasFile told (Meta ulid) text → meta_of_text text ≡ Err refusal → refusal ≢ meta.NoMemory → meta_at told ulid ≡ Err (Refused (BadMeta refusal))
  unfolding meta_at
  bad_meta text refusal is refused other = rw (file_again told (Meta ulid) text is, refused) (ap (λ (e : LoadRefusal). Err e) (meta_kept refusal other))

  bad_index : (bytes : List ℕ) (refusal : IndexRefusal) → HasFile told (Index ulid) bytes → index_at bytes ≡ Err refusal → refusal ≢ index.NoMemory → index_in told ulid ≡ Err (Refused (BadIndex refusal))
  unfolding index_in
  bad_index bytes refusal is refused other = rw (file_again told (Index ulid) bytes is, refused) (ap (λ (e : LoadRefusal). Err e) (index_kept refusal other))

  -- a file that is reached and is not read stops the loading
  stops_at : (key : Key) (e : LoadRefusal) → Reaches told ulid key → file_at told key ≡ Err e → load_at told ulid ≡ Err e
  stops_at (Meta owner) e same h = without_meta told ulid e (no_meta told ulid e (ap (λ (u : ℕ). file_at told (Meta u)) (sym same) ∙ h))
  stops_at (Index owner) e (same, (meta, has)) h = stops_at_index meta e has (no_index told ulid e (ap (λ (u : ℕ). file_at told (Index u)) (sym same) ∙ h))
  stops_at (Segment owner number) e (same, reached) h =
      stops_at_segment number e reached (segment_unread told (Segment ulid number) (size_of reached.before) e (ap (λ (u : ℕ). file_at told (Segment u number)) (sym same) ∙ h))
  stops_at (Mark owner) e never h = absurd never

  -- a segment with which all pass the limit stops it
  stops_over : (key : Key) → Reaches told ulid key → PassesTogether told ulid key → load_at told ulid ≡ Err (Refused (TooLarge key))
  stops_over (Meta owner) reached over = absurd (let is = over.key_is in cc)
  stops_over (Index owner) reached over = absurd (let is = over.key_is in cc)
  stops_over (Mark owner) never over = absurd never
  stops_over (Segment owner number) (same, reached) over =
      let is = over.key_is in
      let at : number ≡ length over.before + 1 = cc in
      let many : length reached.before ≡ length over.before = let all = reached.all_before in omega (arith, all, at) in
      let before : reached.before ≡ over.before = same_segments told ulid reached.before over.before reached.before_are over.before_are many in
      let file : HasFile told (Segment ulid number) over.bytes = subst (λ (u : ℕ). HasFile told (Segment u number) over.bytes) same over.file in
      let much = over.much in
      let passes : IsOver told (Segment ulid number) (size_of reached.before) = record { bytes = over.bytes; file = file; much = omega (arith, much, ap size_of before) } in
      stops_at_segment number (Refused (TooLarge (Segment owner number))) reached
      (segment_over told (Segment ulid number) (size_of reached.before) passes ∙ ap (λ (u : ℕ). Err (Refused (TooLarge (Segment u number)))) (sym same))

  pub load_refuses : (refusal : CheckRefusal) → RefusesLoad told ulid refusal → load_at told ulid ≡ Err (Refused refusal)
  load_refuses (NoFile key) (reached, none) = stops_at key (Refused (NoFile key)) reached (file_absent told key none)
  load_refuses (TooLarge key) (reached, inl large) = stops_at key (Refused (TooLarge key)) reached (file_large told key large)
  load_refuses (TooLarge key) (reached, inr over) = stops_over key reached over
  load_refuses (BadMeta refusal) (text, is, refused, other) = without_meta told ulid (Refused (BadMeta refusal)) (bad_meta text refusal is refused other)
  load_refuses (BadIndex refusal) (fields, bytes, has, is, refused, other) = stops_at_index fields (Refused (BadIndex refusal)) has (bad_index bytes refusal is refused other)
  load_refuses UlidDiffers never = absurd never
  load_refuses NotLevelOne never = absurd never
  load_refuses SourcesNotSelf never = absurd never
  load_refuses Downsampled never = absurd never
  load_refuses EmptyBlock never = absurd never
  load_refuses (BadChunk series chunk cause) never = absurd never
  load_refuses (OutsideRange series time) never = absurd never
  load_refuses (Repeated series) never = absurd never
  load_refuses NamesTooMuch never = absurd never
  load_refuses NoMemory never = absurd never
