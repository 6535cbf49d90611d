-- The whole: what is read is what the files hold, and a refusal is the first in its order.
use Rattle.std.proofs.Common.{◌≡◌, ℕ, List, [], ◌∷◌, Option, None, Some, Result, Ok, Err, ℤ, refl, sym, ap, subst, ◌∙◌, ◌⊎◌, inl, inr}
use Rattle.std.specs.Prelude.{◌≢◌, IfOk, IfErr}
use Rattle.std.specs.Result.{IsOkAnd}
use Rattle.index_parts.proofs.ListLaws.{found_from, only_from}
use Rattle.std.specs.List.{AllByRecursion, AllZip}
use Rattle.base.proofs.Lists.{cons_same}
use Rattle.base.specs.Lists.{joined}
use Rattle.base.specs.Reading.{◌>>◌, refused_as, Gives}
use Rattle.base.specs.Grammar.{IsBytes}
use Rattle.base.proofs.Binds.{bind_ok, bind_err, then_ok, ok_is, err_is, refused_as_ok, refused_as_err}
use Rattle.label_sets.specs.declared.sample.Sample.{Sample}
use Rattle.label_sets.specs.declared.series.Series.{Series}
use Rattle.label_sets.specs.declared.label.Label.{Label}
use Rattle.xor_chunks.specs.declared.refusal.XorRefusal.TheVariants as xor
use Rattle.index_parts.specs.declared.index_series.IndexSeries.{IndexSeries}
use Rattle.index_parts.specs.IndexFile.{IsIndex}
use Rattle.index_v2.specs.declared.refusal.IndexRefusal.{IndexRefusal}
use Rattle.index_v2.specs.declared.refusal.IndexRefusal.TheVariants as index
use Rattle.base.specs.Firsts.{IsFirstAt, each_at, first_at}
use Rattle.block_content.specs.Content.{IsChunkOf, HoldsSeries, AreWithin, IsContent}
use Rattle.block_content.specs.ContentReading.{chunk_at, chunks_at, series_of, list_of, first_outside, repeated_in, fitted, refused_index, refused_cause, refused_chunk, refused_time, refused_order, unless_found, index_at, tested_at, chunked_at, contents_at, content_at, AreFew, ListsFew}
use Rattle.block_content.specs.ContentRefusals.{RefusesChunk, IsChunk, IsFirstBadChunk, HasBadChunk, HasOutside, HasRepeated, RefusesContent}
use Rattle.block_meta.specs.declared.block_files.BlockFiles.{BlockFiles}
use Rattle.block_content.specs.declared.chunk_cause.ChunkCause.{ChunkCause}
use Rattle.block_content.specs.declared.chunk_cause.ChunkCause.TheVariants.{File, Data, NoSamples, TimesDiffer}
use Rattle.block_content.specs.declared.check_refusal.CheckRefusal.{CheckRefusal}
use Rattle.block_content.specs.declared.check_refusal.CheckRefusal.TheVariants.{NoFile, BadMeta, UlidDiffers, NotLevelOne, SourcesNotSelf, Downsampled, TooLarge, BadIndex, EmptyBlock, BadChunk, OutsideRange, Repeated, NamesTooMuch, NoMemory}
use Rattle.base.proofs.FirstLaws.{Tells, each_tells, all_good, all_pass, first_found, first_again}
use Rattle.block_content.proofs.ChunksRead.{chunk_tells}
use Rattle.block_content.proofs.TimesAndOrder.{index_found, index_again, times_find, order_finds}

-- ---- chunks of all series

-- all chunks of the series are read as these
abbrev pub AreParts : List (List ℕ) → List IndexSeries → List (List (List Sample)) → Type 0
AreParts segments indexed parts = AllZip (λ (one : IndexSeries) (first : List (List Sample)). AllZip (IsChunkOf segments) one.chunks first) indexed parts

module _ (segments : List (List ℕ)) (are : AllByRecursion IsBytes segments) where
  series_tells : Tells (chunks_at segments) (λ one first. AllZip (IsChunkOf segments) one.chunks first) (λ one (r : ℕ × ChunkCause). IsFirstAt (IsChunk segments) (λ place. RefusesChunk segments place r.1) one.chunks r.0)
  series_tells =
      let t = each_tells (chunk_at segments) (IsChunkOf segments) (RefusesChunk segments) (chunk_tells segments are) in
      record { found = λ one first e. t.found one.chunks first e; again = λ one first is. t.again one.chunks first is; refused = λ one r e. t.refused one.chunks r e; refuses = λ one r is. t.refuses one.chunks r is }

  pub block_tells : Tells (each_at (chunks_at segments)) (AreParts segments) (λ indexed (r : ℕ × (ℕ × ChunkCause)). IsFirstBadChunk segments indexed r.0 r.1.0 r.1.1)
  block_tells =
      let t = each_tells (chunks_at segments) _ _ series_tells in
      record { found = t.found; again = t.again; refused = t.refused; refuses = t.refuses }

pub held_found : (segments : List (List ℕ)) (indexed : List IndexSeries) (parts : List (List (List Sample))) → AreParts segments indexed parts → AllZip (HoldsSeries segments) indexed (list_of indexed parts)
unfolding list_of
held_found segments [] [] are = tt
held_found segments [] (first ∷ parts) are = absurd are
held_found segments (one ∷ indexed) [] are = absurd are
held_found segments (one ∷ indexed) (first ∷ parts) are =
    (record { parts = first; chunks_are = are.0; labels_are = refl; samples_are = refl }, held_found segments indexed parts are.1)

same_series : (series : Series) (one : IndexSeries) (parts : List (List Sample)) → series.labels ≡ one.labels → series.samples ≡ joined parts → series ≡ series_of one parts
same_series series one parts e f = ap (λ (t : List Label). record { labels = t; samples = series.samples }) e ∙ ap (λ (t : List Sample). record { labels = one.labels; samples = t }) f

pub held_again : (segments : List (List ℕ)) (indexed : List IndexSeries) (list : List Series) → AllZip (HoldsSeries segments) indexed list → (parts : List (List (List Sample))) × AreParts segments indexed parts × (list ≡ list_of indexed parts)
unfolding list_of
held_again segments [] [] are = ([], tt, refl)
held_again segments [] (series ∷ list) are = absurd are
held_again segments (one ∷ indexed) [] are = absurd are
held_again segments (one ∷ indexed) (series ∷ list) are =
    let others = held_again segments indexed list are.1 in
    (are.0.parts ∷ others.0, (are.0.chunks_are, others.1), cons_same _ _ _ _ (same_series series one are.0.parts are.0.labels_are are.0.samples_are) others.2)

-- ---- steps that look for something

found_nothing : {X : Type 0} (refused : X → CheckRefusal) (o : Option X) (u : Unit {0}) → unless_found refused o ≡ Ok u → o ≡ None
found_nothing refused None u e = refl
found_nothing refused (Some x) u e = absurd cc

found_parts : {X B : Type 0} (refused : X → CheckRefusal) (o : Option X) (r : Result B CheckRefusal) (e : CheckRefusal) → (unless_found refused o >> r) ≡ Err e → ((x : X) × (o ≡ Some x) × (refused x ≡ e)) ⊎ ((o ≡ None) × (r ≡ Err e))
found_parts refused None r e h = inr (refl, h)
found_parts refused (Some x) r e h = inl (x, refl, cc)

-- ---- refusals as the block's

pub index_kept : (refusal : IndexRefusal) → refusal ≢ index.NoMemory → refused_index refusal ≡ BadIndex refusal
index_kept index.BadMagic other = refl
index_kept index.BadVersion other = refl
index_kept (index.BadTocSum kept computed) other = refl
index_kept (index.BadSection section part) other = refl
index_kept (index.BadSeries number part) other = refl
index_kept (index.PostingsDiffer place) other = refl
index_kept index.NoMemory other = absurd (other refl)

pub index_cases : (refusal : IndexRefusal) → (refused_index refusal ≡ NoMemory) ⊎ ((refused_index refusal ≡ BadIndex refusal) × (refusal ≢ index.NoMemory))
index_cases index.BadMagic = inr (refl, λ h. absurd cc)
index_cases index.BadVersion = inr (refl, λ h. absurd cc)
index_cases (index.BadTocSum kept computed) = inr (refl, λ h. absurd cc)
index_cases (index.BadSection section part) = inr (refl, λ h. absurd cc)
index_cases (index.BadSeries number part) = inr (refl, λ h. absurd cc)
index_cases (index.PostingsDiffer place) = inr (refl, λ h. absurd cc)
index_cases index.NoMemory = inl refl

cause_cases : (series chunk : ℕ) (cause : ChunkCause) → (refused_cause series chunk cause ≡ NoMemory) ⊎ ((refused_cause series chunk cause ≡ BadChunk series chunk cause) × (cause ≢ Data xor.NoMemory))
cause_cases series chunk (File refusal) = inr (refl, λ h. absurd cc)
cause_cases series chunk (Data xor.Short) = inr (refl, λ h. absurd cc)
cause_cases series chunk (Data xor.Falling) = inr (refl, λ h. absurd cc)
cause_cases series chunk (Data xor.OutOfRange) = inr (refl, λ h. absurd cc)
cause_cases series chunk (Data xor.Trailing) = inr (refl, λ h. absurd cc)
cause_cases series chunk (Data xor.NoMemory) = inl refl
cause_cases series chunk NoSamples = inr (refl, λ h. absurd cc)
cause_cases series chunk TimesDiffer = inr (refl, λ h. absurd cc)

cause_kept : (series chunk : ℕ) (cause : ChunkCause) → cause ≢ Data xor.NoMemory → refused_cause series chunk cause ≡ BadChunk series chunk cause
cause_kept series chunk (File refusal) other = refl
cause_kept series chunk (Data xor.Short) other = refl
cause_kept series chunk (Data xor.Falling) other = refl
cause_kept series chunk (Data xor.OutOfRange) other = refl
cause_kept series chunk (Data xor.Trailing) other = refl
cause_kept series chunk (Data xor.NoMemory) other = absurd (other refl)
cause_kept series chunk NoSamples other = refl
cause_kept series chunk TimesDiffer other = refl

-- ---- the whole

module _ (files : BlockFiles) (bytes : IsBytes files.index) (are : AllByRecursion IsBytes files.segments) where
  pub content_found : (list : List Series) → content_at files ≡ Ok list → IsContent files list
  unfolding contents_at chunked_at tested_at
  content_found list e =
      let indexed = bind_ok _ _ _ e in
      let parts = bind_ok _ _ _ indexed.2 in
      let times = then_ok _ _ _ parts.2 in
      let order = then_ok _ _ _ times.2 in
      subst (IsContent files) (ok_is {E = CheckRefusal} _ _ order.2) (record {
        indexed = indexed.0;
        index_is = index_found files.index indexed.0 bytes (refused_as_ok _ _ _ indexed.1);
        series_are = held_found files.segments indexed.0 parts.0 ((block_tells files.segments are).found indexed.0 parts.0 (refused_as_ok _ _ _ parts.1));
        within = all_good _ _ _ (times_find files.meta) _ (found_nothing refused_time _ _ times.1);
        apart = all_good _ _ _ order_finds indexed.0 (found_nothing refused_order _ _ order.1);
      })

  pub content_again : (list : List Series) → IsContent files list → content_at files ≡ Ok list
  unfolding contents_at chunked_at tested_at
  content_again list is =
      let held = held_again files.segments is.indexed list is.series_are in
      let within : AllByRecursion (AreWithin files.meta) (list_of is.indexed held.0) = subst (AllByRecursion (AreWithin files.meta)) held.2 is.within in
      let index = index_again files.index is.indexed bytes is.index_is in
      let parts = (block_tells files.segments are).again is.indexed held.0 held.1 in
      let times = all_pass _ _ _ (times_find files.meta) (list_of is.indexed held.0) within in
      let order = all_pass _ _ _ order_finds is.indexed is.apart in
      let whole : content_at files ≡ Ok (list_of is.indexed held.0) = rw (index, parts, times, order) refl in
      whole ∙ ap Ok (sym held.2)

  -- refusals

  tested_refused : (indexed : List IndexSeries) (list : List Series) (refusal : CheckRefusal) → IsIndex files.index indexed → AllZip (HoldsSeries files.segments) indexed list → tested_at files.meta indexed list ≡ Err refusal → RefusesContent files refusal
  unfolding tested_at
  tested_refused indexed list refusal is held e =
      elim (found_parts refused_time (first_at (first_outside files.meta) list) (unless_found refused_order (first_at repeated_in indexed) >> Ok list) refusal e) [
        | inl (r, found, same) ↦
            let why : HasOutside files (fitted r.0) r.1 = record { indexed = indexed; list = list; index_is = is; series_are = held; at_series = r.0; first = first_found _ _ _ (times_find files.meta) list r found; series_is = refl } in
            subst (RefusesContent files) same why
        | inr (none, h) ↦ elim (found_parts {B = List Series} refused_order (first_at repeated_in indexed) (Ok list) refusal h) [
          | inl (r, found, same) ↦
              let why : HasRepeated files (fitted r.0) = record { indexed = indexed; list = list; index_is = is; series_are = held; within = all_good _ _ _ (times_find files.meta) list none; at_series = r.0; first = first_found _ _ _ order_finds indexed r found; series_is = refl } in
              subst (RefusesContent files) same why
          | inr (none', h') ↦ absurd cc
        ]
      ]

  chunked_refused : (indexed : List IndexSeries) (refusal : CheckRefusal) → IsIndex files.index indexed → chunked_at files.meta files.segments indexed ≡ Err refusal → (refusal ≡ NoMemory) ⊎ RefusesContent files refusal
  unfolding chunked_at
  chunked_refused indexed refusal is e =
      elim (bind_err (refused_as refused_chunk (each_at (chunks_at files.segments) indexed)) (λ (parts : List (List (List Sample))). tested_at files.meta indexed (list_of indexed parts)) refusal e) [
        | inl h ↦ let r = refused_as_err refused_chunk (each_at (chunks_at files.segments) indexed) refusal h in elim (cause_cases (fitted r.0.0) (fitted r.0.1.0) r.0.1.1) [
          | inl none ↦ inl (sym r.2 ∙ none)
          | inr (kept, other) ↦
              let bad : HasBadChunk files (fitted r.0.0) (fitted r.0.1.0) r.0.1.1 = record { indexed = indexed; index_is = is; at_series = r.0.0; at_chunk = r.0.1.0; first = (block_tells files.segments are).refused indexed r.0 r.1; series_is = refl; chunk_is = refl } in
              let why : RefusesContent files (BadChunk (fitted r.0.0) (fitted r.0.1.0) r.0.1.1) = (bad, other) in
              let same : BadChunk (fitted r.0.0) (fitted r.0.1.0) r.0.1.1 ≡ refusal = sym kept ∙ r.2 in
              inr (subst (RefusesContent files) same why)
        ]
        | inr (parts, read, h) ↦ inr (tested_refused indexed (list_of indexed parts) refusal is (held_found files.segments indexed parts ((block_tells files.segments are).found indexed parts (refused_as_ok _ _ _ read))) h)
      ]

  pub content_refused : (refusal : CheckRefusal) → content_at files ≡ Err refusal → (refusal ≡ NoMemory) ⊎ RefusesContent files refusal
  unfolding contents_at
  content_refused refusal e =
      elim (bind_err (refused_as refused_index (index_at files.index)) (λ (indexed : List IndexSeries). chunked_at files.meta files.segments indexed) refusal e) [
        | inl h ↦ let r = refused_as_err refused_index (index_at files.index) refusal h in elim (index_cases r.0) [
          | inl none ↦ inl (sym r.2 ∙ none)
          | inr (kept, other) ↦
              let why : RefusesContent files (BadIndex r.0) = (r.1, other) in
              let same : BadIndex r.0 ≡ refusal = sym kept ∙ r.2 in
              inr (subst (RefusesContent files) same why)
        ]
        | inr (indexed, read, h) ↦ chunked_refused indexed refusal (index_found files.index indexed bytes (refused_as_ok _ _ _ read)) h
      ]

  bad_chunk : (series chunk : ℕ) (cause : ChunkCause) → HasBadChunk files series chunk cause → cause ≢ Data xor.NoMemory → content_at files ≡ Err (BadChunk series chunk cause)
  unfolding contents_at chunked_at
  bad_chunk series chunk cause is other =
      let index = index_again files.index is.indexed bytes is.index_is in
      let refused = (block_tells files.segments are).refuses is.indexed (is.at_series, (is.at_chunk, cause)) is.first in
      let stopped : content_at files ≡ Err (refused_cause (fitted is.at_series) (fitted is.at_chunk) cause) = rw (index, refused) refl in
      stopped ∙ ap (λ (e : CheckRefusal). Err e) (cause_kept (fitted is.at_series) (fitted is.at_chunk) cause other ∙ ap (λ (n : ℕ). BadChunk n (fitted is.at_chunk) cause) (sym is.series_is) ∙ ap (λ (n : ℕ). BadChunk series n cause) (sym is.chunk_is))

  outside : (series : ℕ) (time : ℤ) → HasOutside files series time → content_at files ≡ Err (OutsideRange series time)
  unfolding contents_at chunked_at tested_at
  outside series time is =
      let held = held_again files.segments is.indexed is.list is.series_are in
      let index = index_again files.index is.indexed bytes is.index_is in
      let parts = (block_tells files.segments are).again is.indexed held.0 held.1 in
      let found : first_at (first_outside files.meta) (list_of is.indexed held.0) ≡ Some (is.at_series, time) = ap (first_at (first_outside files.meta)) (sym held.2) ∙ first_again _ _ _ (times_find files.meta) is.list is.at_series time is.first in
      let stopped : content_at files ≡ Err (OutsideRange (fitted is.at_series) time) = rw (index, parts, found) refl in
      stopped ∙ ap (λ (n : ℕ). Err (OutsideRange n time)) (sym is.series_is)

  repeated : (series : ℕ) → HasRepeated files series → content_at files ≡ Err (Repeated series)
  unfolding contents_at chunked_at tested_at
  repeated series is =
      let held = held_again files.segments is.indexed is.list is.series_are in
      let index = index_again files.index is.indexed bytes is.index_is in
      let parts = (block_tells files.segments are).again is.indexed held.0 held.1 in
      let none : first_at (first_outside files.meta) (list_of is.indexed held.0) ≡ None = ap (first_at (first_outside files.meta)) (sym held.2) ∙ all_pass _ _ _ (times_find files.meta) is.list is.within in
      let found = first_again _ _ _ order_finds is.indexed is.at_series tt is.first in
      let stopped : content_at files ≡ Err (Repeated (fitted is.at_series)) = rw (index, parts, none, found) refl in
      stopped ∙ ap (λ (n : ℕ). Err (Repeated n)) (sym is.series_is)

  pub content_refuses : (refusal : CheckRefusal) → RefusesContent files refusal → content_at files ≡ Err refusal
  unfolding contents_at
  content_refuses (BadIndex refusal) (e, other) = rw e (ap Err (index_kept refusal other))
  content_refuses (BadChunk series chunk cause) (is, other) = bad_chunk series chunk cause is other
  content_refuses (OutsideRange series time) is = outside series time is
  content_refuses (Repeated series) is = repeated series is
  content_refuses (NoFile key) is = absurd is
  content_refuses (BadMeta refusal) is = absurd is
  content_refuses UlidDiffers is = absurd is
  content_refuses NotLevelOne is = absurd is
  content_refuses SourcesNotSelf is = absurd is
  content_refuses Downsampled is = absurd is
  content_refuses (TooLarge key) is = absurd is
  content_refuses EmptyBlock is = absurd is
  content_refuses NamesTooMuch is = absurd is
  content_refuses NoMemory is = absurd is

-- ---- what the call says

pub refused_from : {X Y : Type 0} (Is : CheckRefusal → Type 0) (view : X → Y) (r : Result X CheckRefusal) (read : Result Y CheckRefusal) → ((e : CheckRefusal) → read ≡ Err e → (e ≡ NoMemory) ⊎ Is e) → Gives NoMemory view r read → IfErr r (λ e. (e ≡ NoMemory) ⊎ Is e)
refused_from Is view (Ok x) read one h = tt
refused_from Is view (Err e) read one (inl none) = inl none
refused_from Is view (Err e) read one (inr is) = one e is

pub refuses_from : {X Y : Type 0} (view : X → Y) (r : Result X CheckRefusal) (read : Result Y CheckRefusal) (e : CheckRefusal) → read ≡ Err e → Gives NoMemory view r read → (r ≡ Err e) ⊎ (r ≡ Err NoMemory)
refuses_from view (Ok x) read e refused h = let other = sym h ∙ refused in absurd cc
refuses_from view (Err d) read e refused (inl none) = inr (ap Err none)
refuses_from {Y = Y} view (Err d) read e refused (inr is) = inl (ap Err (err_is {A = Y} d e (sym is ∙ refused)))

module _ (files : BlockFiles) (index : List ℕ) (segments : List (List ℕ)) (index_is : index ≡ files.index) (segments_are : segments ≡ files.segments) (bytes : IsBytes index × AllByRecursion IsBytes segments) where
  same_content : contents_at files.meta index segments ≡ content_at files
  same_content = ap (λ (b : List ℕ). contents_at files.meta b segments) index_is ∙ ap (λ (s : List (List ℕ)). contents_at files.meta files.index s) segments_are

  index_bytes : IsBytes files.index
  index_bytes = subst IsBytes index_is bytes.0

  all_bytes : AllByRecursion IsBytes files.segments
  all_bytes = subst (AllByRecursion IsBytes) segments_are bytes.1

  pub call_exact : (r : Result (List Series) CheckRefusal) → Gives NoMemory (λ (xs : List Series). xs) r (contents_at files.meta index segments) → Gives NoMemory (λ (xs : List Series). xs) r (content_at files)
  call_exact r given = subst (λ (read : Result (List Series) CheckRefusal). Gives NoMemory (λ (xs : List Series). xs) r read) same_content given

  pub call_found : (r : Result (List Series) CheckRefusal) → Gives NoMemory (λ (xs : List Series). xs) r (contents_at files.meta index segments) → IfOk r (IsContent files)
  call_found r given = found_from (IsContent files) NoMemory (λ (xs : List Series). xs) r (content_at files) (λ list e. content_found files index_bytes all_bytes list e) (call_exact r given)

  pub call_only : (r : Result (List Series) CheckRefusal) → Gives NoMemory (λ (xs : List Series). xs) r (contents_at files.meta index segments) → (list : List Series) → IsContent files list → IsOkAnd r (λ found. found ≡ list) ⊎ (r ≡ Err NoMemory)
  call_only r given list is = only_from NoMemory (λ (xs : List Series). xs) r (content_at files) list (content_again files index_bytes all_bytes list is) (call_exact r given)

  pub call_refused : (r : Result (List Series) CheckRefusal) → Gives NoMemory (λ (xs : List Series). xs) r (contents_at files.meta index segments) → IfErr r (λ e. (e ≡ NoMemory) ⊎ RefusesContent files e)
  call_refused r given = refused_from (RefusesContent files) (λ (xs : List Series). xs) r (content_at files) (λ e h. content_refused files index_bytes all_bytes e h) (call_exact r given)

  pub call_refuses : (r : Result (List Series) CheckRefusal) → Gives NoMemory (λ (xs : List Series). xs) r (contents_at files.meta index segments) → (refusal : CheckRefusal) → RefusesContent files refusal → (r ≡ Err refusal) ⊎ (r ≡ Err NoMemory)
  call_refuses r given refusal is = refuses_from (λ (xs : List Series). xs) r (content_at files) refusal (content_refuses files index_bytes all_bytes refusal is) (call_exact r given)

  pub call_few : (r : Result (List Series) CheckRefusal) → IfOk r (λ list. (indexed : List IndexSeries) × (index_at index ≡ Ok indexed) × ListsFew index indexed × AreFew segments indexed list) → IfOk r (λ list. (indexed : List IndexSeries) × IsIndex files.index indexed × ListsFew files.index indexed × AreFew files.segments indexed list)
  call_few (Ok list) (indexed, read, listed, few) = (indexed, subst (λ (b : List ℕ). IsIndex b indexed) index_is (index_found index indexed bytes.0 read), subst (λ (b : List ℕ). ListsFew b indexed) index_is listed, subst (λ (s : List (List ℕ)). AreFew s indexed list) segments_are few)
  call_few (Err e) h = tt
