-- Which blocks pass: what the functions give is what the relations say.
use Rattle.std.proofs.Common.{◌≡◌, ℕ, List, [], ◌∷◌, length, Bool, true, false, Result, Ok, Err, pos, refl, sym, ap, subst, ◌∙◌, ◌⊎◌, inl, inr}
use Rattle.std.specs.Prelude.{IfOk, IfErr, IsErrAnd, ◌≢◌}
use Rattle.std.specs.List.{AllByRecursion, AllZip}
use Rattle.std.specs.Ordering.{int_eq}
use Rattle.std.proofs.lemmas.Bool.Decides.{Decides-int_eq, Decides-eqb}
use Rattle.std.proofs.lemmas.Bool.{true≢false, false_from_ne_true, cases_Bool, eq-eqb, ne_eqb}
use Rattle.base.specs.Reading.{◌>>=◌, ◌>>◌, unless, refused_as}
use Rattle.base.specs.Grammar.{IsBytes}
use Rattle.base.proofs.Binds.{bind_ok, bind_err, then_ok, ok_is, err_is, unless_is, refused_as_ok, refused_as_err, one_answer}
use Rattle.label_sets.specs.declared.series.Series.{Series}
use Rattle.label_sets.specs.Counts.{sample_count}
use Rattle.index_parts.specs.declared.index_series.IndexSeries.{IndexSeries}
use Rattle.index_parts.specs.IndexFile.{IsIndex}
use Rattle.index_v2.specs.declared.refusal.IndexRefusal.{IndexRefusal}
use Rattle.index_v2.specs.declared.refusal.IndexRefusal.TheVariants as index
use Rattle.block_meta.specs.declared.meta.Meta.{Meta}
use Rattle.base.specs.Firsts.{IsFirstAt}
use Rattle.block_content.specs.Content.{HoldsSeries, IsContent}
use Rattle.block_content.specs.ContentReading.{index_at, refused_index, chunked_at, contents_at, content_at}
use Rattle.block_content.specs.ContentRefusals.{RefusesContent}
use Rattle.block_content.specs.Named.{names_few, NamesFew}
use Rattle.block_content.specs.ReadBytes.{reads_few, ReadsFew}
use Rattle.block_content.specs.Checking.{IsOwn, Passes, HasPassed, ReadsMuch, HoldsMuch, RefusesBlock}
use Rattle.block_content.specs.CheckReading.{is_alone, own_at, has_series, some_at, files_at, check_at}
use Rattle.block_meta.specs.declared.block_files.BlockFiles.{BlockFiles}
use Rattle.block_content.specs.declared.check_refusal.CheckRefusal.{CheckRefusal}
use Rattle.block_content.specs.declared.check_refusal.CheckRefusal.TheVariants.{NoFile, BadMeta, UlidDiffers, NotLevelOne, SourcesNotSelf, Downsampled, TooLarge, BadIndex, EmptyBlock, BadChunk, OutsideRange, Repeated, NamesTooMuch, NoMemory}
use Rattle.block_content.proofs.TimesAndOrder.{index_found, index_again}
use Rattle.block_content.proofs.ContentLaws.{index_kept, index_cases, content_found, content_again, content_refused, content_refuses}
use Rattle.block_content.proofs.ContentSteps.{behind_index}
use Rattle.block_content.proofs.NamedBytes.{few_found, few_again}
use Rattle.block_content.proofs.BytesRead.{none_read, reads_found, reads_again, content_reads}
use Rattle.block_content.proofs.CheckSteps.{few_then}

-- ---- what the meta says

alone_found : (ulid : ℕ) (sources : List ℕ) → is_alone ulid sources ≡ true → sources ≡ ulid ∷ []
alone_found ulid [] e = absurd cc
alone_found ulid (source ∷ []) e = ap (λ (n : ℕ). n ∷ []) ((Decides-eqb source ulid).0 e)
alone_found ulid (source ∷ other ∷ sources) e = absurd cc

alone_again : (ulid : ℕ) (sources : List ℕ) → sources ≡ ulid ∷ [] → is_alone ulid sources ≡ true
alone_again ulid sources e = ap (is_alone ulid) e ∙ eq-eqb ulid ulid refl

-- four tests, one after another
four_tests : (a b c d : Bool) (e : CheckRefusal) → (unless a UlidDiffers >> (unless b NotLevelOne >> (unless c SourcesNotSelf >> unless d Downsampled))) ≡ Err e
    → ((a ≡ false) × (UlidDiffers ≡ e)) ⊎ (((a ≡ true) × (b ≡ false) × (NotLevelOne ≡ e)) ⊎ (((a ≡ true) × (b ≡ true) × (c ≡ false) × (SourcesNotSelf ≡ e)) ⊎ ((a ≡ true) × (b ≡ true) × (c ≡ true) × (d ≡ false) × (Downsampled ≡ e))))
four_tests false b c d e h = inl (refl, cc)
four_tests true false c d e h = inr (inl (refl, refl, cc))
four_tests true true false d e h = inr (inr (inl (refl, refl, refl, cc)))
four_tests true true true false e h = inr (inr (inr (refl, refl, refl, refl, cc)))
four_tests true true true true e h = absurd cc

unlike : (b : Bool) (P : Type 0) → (P → b ≡ true) → b ≡ false → P → ⊥
unlike true P holds e p = absurd cc
unlike false P holds e p = let t = holds p in absurd cc

module _ (ulid : ℕ) (meta : Meta) where
  pub own_found : own_at ulid meta ≡ Ok tt → IsOwn ulid meta
  unfolding own_at
  own_found e =
      let first = then_ok _ _ _ e in
      let second = then_ok _ _ _ first.2 in
      let third = then_ok _ _ _ second.2 in
      record {
        ulid_is = (Decides-eqb meta.ulid ulid).0 (unless_is _ _ first.1);
        first_level = (Decides-eqb meta.level 1).0 (unless_is _ _ second.1);
        one_source = alone_found ulid meta.sources (unless_is _ _ third.1);
        sampled = (Decides-int_eq meta.resolution (pos 0)).0 (unless_is _ _ third.2);
      }

  pub own_again : IsOwn ulid meta → own_at ulid meta ≡ Ok tt
  unfolding own_at
  own_again is = rw (eq-eqb meta.ulid ulid is.ulid_is, eq-eqb meta.level 1 is.first_level, alone_again ulid meta.sources is.one_source, (Decides-int_eq meta.resolution (pos 0)).1 is.sampled) refl

module _ (ulid : ℕ) (files : BlockFiles) where
  own_refused : (e : CheckRefusal) → own_at ulid files.meta ≡ Err e → RefusesBlock ulid files e
  unfolding own_at
  own_refused e h =
      elim (four_tests _ _ _ _ e h) [
        | inl (a, same) ↦ let why : RefusesBlock ulid files UlidDiffers = unlike _ _ (eq-eqb files.meta.ulid ulid) a in subst (RefusesBlock ulid files) same why
        | inr (inl (a, b, same)) ↦ let why : RefusesBlock ulid files NotLevelOne = ((Decides-eqb files.meta.ulid ulid).0 a, unlike _ _ (eq-eqb files.meta.level 1) b) in subst (RefusesBlock ulid files) same why
        | inr (inr (inl (a, b, c, same))) ↦ let why : RefusesBlock ulid files SourcesNotSelf = ((Decides-eqb files.meta.ulid ulid).0 a, (Decides-eqb files.meta.level 1).0 b, unlike _ _ (alone_again ulid files.meta.sources) c) in subst (RefusesBlock ulid files) same why
        | inr (inr (inr (a, b, c, d, same))) ↦
            let why : RefusesBlock ulid files Downsampled = ((Decides-eqb files.meta.ulid ulid).0 a, (Decides-eqb files.meta.level 1).0 b, alone_found ulid files.meta.sources c, unlike _ _ ((Decides-int_eq files.meta.resolution (pos 0)).1) d) in
            subst (RefusesBlock ulid files) same why
      ]

-- ---- whether there is a series

some_of : {A B : Type 0} (Has : A → B → Type 0) (xs : List A) (ys : List B) → AllZip Has xs ys → ys ≢ [] → xs ≢ []
some_of Has [] [] are some = λ e. some refl
some_of Has [] (y ∷ ys) are some = absurd are
some_of Has (x ∷ xs) ys are some = λ e. absurd cc

some_with : {A B : Type 0} (Has : A → B → Type 0) (xs : List A) (ys : List B) → AllZip Has xs ys → xs ≢ [] → ys ≢ []
some_with Has [] ys are some = absurd (some refl)
some_with Has (x ∷ xs) [] are some = absurd are
some_with Has (x ∷ xs) (y ∷ ys) are some = λ e. absurd cc

some_at_place : {A : Type 0} (Good Bad : A → Type 0) (xs : List A) (k : ℕ) → IsFirstAt Good Bad xs k → xs ≢ []
some_at_place Good Bad [] k is = let s = is.stands in absurd cc
some_at_place Good Bad (x ∷ xs) k is = λ e. absurd cc

has_some : (indexed : List IndexSeries) → indexed ≢ [] → has_series indexed ≡ true
has_some [] some = absurd (some refl)
has_some (one ∷ indexed) some = refl

are_some : (indexed : List IndexSeries) → has_series indexed ≡ true → indexed ≢ []
are_some [] e = absurd cc
are_some (one ∷ indexed) e = λ h. absurd cc

has_none : (indexed : List IndexSeries) → has_series indexed ≡ false → indexed ≡ []
has_none [] e = refl
has_none (one ∷ indexed) e = absurd cc

test_failed : {B : Type 0} (b : Bool) (d : CheckRefusal) (r : Result B CheckRefusal) (e : CheckRefusal) → (unless b d >> r) ≡ Err e → ((b ≡ false) × (d ≡ e)) ⊎ ((b ≡ true) × (r ≡ Err e))
test_failed true d r e h = inr (refl, h)
test_failed false d r e h = inl (refl, cc)

then_parts : {B : Type 0} (r : Result (Unit {0}) CheckRefusal) (s : Result B CheckRefusal) (e : CheckRefusal) → (r >> s) ≡ Err e → (r ≡ Err e) ⊎ ((r ≡ Ok tt) × (s ≡ Err e))
then_parts (Ok u) s e h = inr (refl, h)
then_parts (Err d) s e h = inl cc

-- ---- the files

module _ (files : BlockFiles) (bytes : IsBytes files.index) (are : AllByRecursion IsBytes files.segments) where
  -- where the index has a series and little is read, checking is reading the content, and then the test that it names little
  same_files : (indexed : List IndexSeries) → index_at files.index ≡ Ok indexed → has_series indexed ≡ true → reads_few files.segments indexed ≡ true → files_at files.meta files.index files.segments ≡ (content_at files >>= few_then files.index files.segments indexed)
  unfolding files_at some_at
  same_files indexed e some few =
      let as_block : refused_as refused_index (index_at files.index) ≡ Ok indexed = ap (refused_as refused_index) e in
      rw (as_block, some, few) (ap (λ (read : Result (List Series) CheckRefusal). read >>= few_then files.index files.segments indexed) (sym (behind_index files.meta files.index files.segments indexed as_block)))

  -- the content is this, and names little or not
  then_few : (indexed : List IndexSeries) (list : List Series) (b : Bool) → index_at files.index ≡ Ok indexed → has_series indexed ≡ true → reads_few files.segments indexed ≡ true → content_at files ≡ Ok list → names_few files.index files.segments indexed ≡ b
      → files_at files.meta files.index files.segments ≡ (unless b NamesTooMuch >> Ok list)
  then_few indexed list b e some few read is =
      same_files indexed e some few ∙ ap (λ (r : Result (List Series) CheckRefusal). r >>= few_then files.index files.segments indexed) read ∙ ap (λ (c : Bool). unless c NamesTooMuch >> Ok list) is

  pub files_found : (list : List Series) → files_at files.meta files.index files.segments ≡ Ok list → IsContent files list × (list ≢ []) × NamesFew files
  unfolding files_at some_at
  files_found list e =
      let indexed = bind_ok _ _ _ e in
      let some = then_ok _ _ _ indexed.2 in
      let reads = then_ok _ _ _ some.2 in
      let read = bind_ok _ _ _ reads.2 in
      let few = then_ok _ _ _ read.2 in
      let index = refused_as_ok _ _ _ indexed.1 in
      let same_list : read.0 ≡ list = ok_is {E = CheckRefusal} _ _ few.2 in
      let is = content_found files bytes are list (behind_index files.meta files.index files.segments indexed.0 indexed.1 ∙ read.1 ∙ ap (λ (l : List Series). Ok l) same_list) in
      let same = one_answer indexed.0 is.indexed (index_at files.index) index (index_again files.index is.indexed bytes is.index_is) in
      let there = are_some indexed.0 (unless_is _ _ some.1) in (
        is,
        some_with (HoldsSeries files.segments) is.indexed list is.series_are (subst (λ (xs : List IndexSeries). xs ≢ []) same there),
        few_found files bytes indexed.0 index (unless_is _ _ few.1),
      )

  pub files_again : (list : List Series) → IsContent files list → list ≢ [] → NamesFew files → files_at files.meta files.index files.segments ≡ Ok list
  files_again list is some few =
      let index = index_again files.index is.indexed bytes is.index_is in
      then_few is.indexed list true index (has_some is.indexed (some_of (HoldsSeries files.segments) is.indexed list is.series_are some)) (reads_again files bytes is.indexed index (content_reads files bytes list is few)) (content_again files bytes are list is) (few_again files bytes is.indexed index few)

  read_stop : (indexed : List IndexSeries) → index_at files.index ≡ Ok indexed → has_series indexed ≡ true → reads_few files.segments indexed ≡ false → files_at files.meta files.index files.segments ≡ Err NamesTooMuch
  unfolding files_at some_at
  read_stop indexed e some much =
      let as_block : refused_as refused_index (index_at files.index) ≡ Ok indexed = ap (refused_as refused_index) e in
      rw (as_block, some, much) refl

  holds_much : HoldsMuch files → files_at files.meta files.index files.segments ≡ Err NamesTooMuch
  holds_much is =
      let content = is.content in
      let indexed = content.indexed in
      let index = index_again files.index indexed bytes content.index_is in
      let some = has_some indexed (some_of (HoldsSeries files.segments) indexed is.list content.series_are is.some) in
      let told : names_few files.index files.segments indexed ≡ false = false_from_ne_true (names_few files.index files.segments indexed) (λ passed. is.much (few_found files bytes indexed index passed)) in
      elim (cases_Bool (reads_few files.segments indexed)) [
        | inl few ↦ then_few indexed is.list false index some few (content_again files bytes are is.list content) told
        | inr much ↦ read_stop indexed index some much
      ]

  reads_much : ReadsMuch files → files_at files.meta files.index files.segments ≡ Err NamesTooMuch
  reads_much is =
      let index = index_again files.index is.indexed bytes is.index_is in
      let some = has_some is.indexed (λ none. is.much (none_read files (subst (IsIndex files.index) none is.index_is))) in
      read_stop is.indexed index some (false_from_ne_true (reads_few files.segments is.indexed) (λ passed. is.much (reads_found files bytes is.indexed index passed)))

  names_much : ReadsMuch files ⊎ HoldsMuch files → files_at files.meta files.index files.segments ≡ Err NamesTooMuch
  names_much (inl is) = reads_much is
  names_much (inr is) = holds_much is

  module _ (ulid : ℕ) (own : IsOwn ulid files.meta) where
    of_content : ReadsFew files → (e : CheckRefusal) → RefusesContent files e → RefusesBlock ulid files e
    of_content few (BadIndex refusal) is = (own, is)
    of_content few (BadChunk series chunk cause) is = (own, few, is)
    of_content few (OutsideRange series time) is = (own, few, is)
    of_content few (Repeated series) is = (own, few, is)
    of_content few (NoFile key) is = absurd is
    of_content few (BadMeta refusal) is = absurd is
    of_content few UlidDiffers is = absurd is
    of_content few NotLevelOne is = absurd is
    of_content few SourcesNotSelf is = absurd is
    of_content few Downsampled is = absurd is
    of_content few (TooLarge key) is = absurd is
    of_content few EmptyBlock is = absurd is
    of_content few NamesTooMuch is = absurd is
    of_content few NoMemory is = absurd is

    of_either : ReadsFew files → (e : CheckRefusal) → (e ≡ NoMemory) ⊎ RefusesContent files e → (e ≡ NoMemory) ⊎ RefusesBlock ulid files e
    of_either few e (inl none) = inl none
    of_either few e (inr is) = inr (of_content few e is)

    of_index : (e : CheckRefusal) → refused_as refused_index (index_at files.index) ≡ Err e → (e ≡ NoMemory) ⊎ RefusesBlock ulid files e
    of_index e h =
        let r = refused_as_err refused_index (index_at files.index) e h in
        elim (index_cases r.0) [
          | inl none ↦ inl (sym r.2 ∙ none)
          | inr (kept, other) ↦
              let why : RefusesBlock ulid files (BadIndex r.0) = (own, (r.1, other)) in
              inr (subst (RefusesBlock ulid files) (sym kept ∙ r.2) why)
        ]

    much_refused : (indexed : List IndexSeries) (list : List Series) (e : CheckRefusal) → refused_as refused_index (index_at files.index) ≡ Ok indexed → has_series indexed ≡ true → content_at files ≡ Ok list → few_then files.index files.segments indexed list ≡ Err e → RefusesBlock ulid files e
    much_refused indexed list e read some held h =
        let index = refused_as_ok _ _ _ read in
        elim (test_failed {B = List Series} (names_few files.index files.segments indexed) NamesTooMuch (Ok list) e h) [
          | inl (much, same) ↦
              let is = content_found files bytes are list held in
              let own_index = one_answer indexed is.indexed (index_at files.index) index (index_again files.index is.indexed bytes is.index_is) in
              let there : list ≢ [] = some_with (HoldsSeries files.segments) is.indexed list is.series_are (subst (λ (xs : List IndexSeries). xs ≢ []) own_index (are_some indexed some)) in
              let holds : HoldsMuch files = record { list = list; content = is; some = there; much = λ few. true≢false (sym (few_again files bytes indexed index few) ∙ much) } in
              let why : RefusesBlock ulid files NamesTooMuch = (own, inr holds) in
              subst (RefusesBlock ulid files) same why
          | inr (few, refused) ↦ absurd cc
        ]

    chunks_refused : (indexed : List IndexSeries) (e : CheckRefusal) → refused_as refused_index (index_at files.index) ≡ Ok indexed → has_series indexed ≡ true → reads_few files.segments indexed ≡ true
        → (chunked_at files.meta files.segments indexed >>= few_then files.index files.segments indexed) ≡ Err e → (e ≡ NoMemory) ⊎ RefusesBlock ulid files e
    chunks_refused indexed e read some few h =
        let little = reads_found files bytes indexed (refused_as_ok _ _ _ read) few in
        elim (bind_err (chunked_at files.meta files.segments indexed) (few_then files.index files.segments indexed) e h) [
          | inl refused ↦ of_either little e (content_refused files bytes are e (behind_index files.meta files.index files.segments indexed read ∙ refused))
          | inr (list, held, much) ↦ inr (much_refused indexed list e read some (behind_index files.meta files.index files.segments indexed read ∙ held) much)
        ]

    few_refused : (indexed : List IndexSeries) (e : CheckRefusal) → refused_as refused_index (index_at files.index) ≡ Ok indexed → has_series indexed ≡ true
        → (unless (reads_few files.segments indexed) NamesTooMuch >> (chunked_at files.meta files.segments indexed >>= few_then files.index files.segments indexed)) ≡ Err e → (e ≡ NoMemory) ⊎ RefusesBlock ulid files e
    few_refused indexed e read some h =
        let index = refused_as_ok _ _ _ read in
        elim (test_failed (reads_few files.segments indexed) NamesTooMuch (chunked_at files.meta files.segments indexed >>= few_then files.index files.segments indexed) e h) [
          | inl (much, same) ↦
              let reads : ReadsMuch files = record { indexed = indexed; index_is = index_found files.index indexed bytes index; much = λ few. true≢false (sym (reads_again files bytes indexed index few) ∙ much) } in
              let why : RefusesBlock ulid files NamesTooMuch = (own, inl reads) in
              inr (subst (RefusesBlock ulid files) same why)
          | inr (few, behind) ↦ chunks_refused indexed e read some few behind
        ]

    some_refused : (indexed : List IndexSeries) (e : CheckRefusal) → refused_as refused_index (index_at files.index) ≡ Ok indexed → some_at files.meta files.index files.segments indexed ≡ Err e → (e ≡ NoMemory) ⊎ RefusesBlock ulid files e
    unfolding some_at
    some_refused indexed e read h =
        elim (test_failed (has_series indexed) EmptyBlock (unless (reads_few files.segments indexed) NamesTooMuch >> (chunked_at files.meta files.segments indexed >>= few_then files.index files.segments indexed)) e h) [
          | inl (none, same) ↦
              let index = index_found files.index indexed bytes (refused_as_ok _ _ _ read) in
              let why : RefusesBlock ulid files EmptyBlock = (own, subst (IsIndex files.index) (has_none indexed none) index) in
              inr (subst (RefusesBlock ulid files) same why)
          | inr (some, behind) ↦ few_refused indexed e read some behind
        ]

    pub files_refused : (e : CheckRefusal) → files_at files.meta files.index files.segments ≡ Err e → (e ≡ NoMemory) ⊎ RefusesBlock ulid files e
    unfolding files_at
    files_refused e h =
        elim (bind_err (refused_as refused_index (index_at files.index)) (λ (indexed : List IndexSeries). some_at files.meta files.index files.segments indexed) e h) [
          | inl refused ↦ of_index e refused
          | inr (indexed, read, refused) ↦ some_refused indexed e read refused
        ]

  files_stop : (e : CheckRefusal) (indexed : List IndexSeries) → IsIndex files.index indexed → indexed ≢ [] → ReadsFew files → RefusesContent files e → files_at files.meta files.index files.segments ≡ Err e
  files_stop e indexed is some few refuses =
      let index = index_again files.index indexed bytes is in
      same_files indexed index (has_some indexed some) (reads_again files bytes indexed index few) ∙ ap (λ (read : Result (List Series) CheckRefusal). read >>= few_then files.index files.segments indexed) (content_refuses files bytes are e refuses)

  index_stop : (refusal : IndexRefusal) → index_at files.index ≡ Err refusal → refusal ≢ index.NoMemory → files_at files.meta files.index files.segments ≡ Err (BadIndex refusal)
  unfolding files_at
  index_stop refusal e other = rw e (ap Err (index_kept refusal other))

  empty_stop : IsIndex files.index [] → files_at files.meta files.index files.segments ≡ Err EmptyBlock
  unfolding files_at some_at
  empty_stop is = rw (index_again files.index [] bytes is) refl

  behind_own : (ulid : ℕ) (e : CheckRefusal) → IsOwn ulid files.meta → files_at files.meta files.index files.segments ≡ Err e → check_at ulid files.meta files.index files.segments ≡ Err e
  unfolding check_at
  behind_own ulid e own refused = rw (own_again ulid files.meta own) refused

  pub check_found : (ulid : ℕ) (list : List Series) → own_at ulid files.meta ≡ Ok tt → files_at files.meta files.index files.segments ≡ Ok list → Passes ulid files list
  check_found ulid list own read = let found = files_found list read in record { own = own_found ulid files.meta own; content = found.0; some = found.1; few = found.2 }

  pub check_read : (ulid : ℕ) (list : List Series) → check_at ulid files.meta files.index files.segments ≡ Ok list → Passes ulid files list
  unfolding check_at
  check_read ulid list e = let own = then_ok _ _ _ e in check_found ulid list own.1 own.2

  pub check_refused : (ulid : ℕ) (e : CheckRefusal) → check_at ulid files.meta files.index files.segments ≡ Err e → (e ≡ NoMemory) ⊎ RefusesBlock ulid files e
  unfolding check_at
  check_refused ulid e h =
      elim (then_parts (own_at ulid files.meta) (files_at files.meta files.index files.segments) e h) [
        | inl refused ↦ inr (own_refused ulid files e refused)
        | inr (own, refused) ↦ files_refused ulid (own_found ulid files.meta own) e refused
      ]

  pub check_again : (ulid : ℕ) (list : List Series) → Passes ulid files list → check_at ulid files.meta files.index files.segments ≡ Ok list
  unfolding check_at
  check_again ulid list is = rw (own_again ulid files.meta is.own) (files_again list is.content is.some is.few)

  own_stop : (ulid : ℕ) (e : CheckRefusal) → own_at ulid files.meta ≡ Err e → check_at ulid files.meta files.index files.segments ≡ Err e
  unfolding check_at
  own_stop ulid e refused = rw refused refl

  pub check_refuses : (ulid : ℕ) (e : CheckRefusal) → RefusesBlock ulid files e → check_at ulid files.meta files.index files.segments ≡ Err e
  unfolding own_at
  check_refuses ulid UlidDiffers differ = own_stop ulid UlidDiffers (rw (ne_eqb files.meta.ulid ulid differ) refl)
  check_refuses ulid NotLevelOne (same, differ) = own_stop ulid NotLevelOne (rw (eq-eqb files.meta.ulid ulid same, ne_eqb files.meta.level 1 differ) refl)
  check_refuses ulid SourcesNotSelf (same, first, differ) =
      own_stop ulid SourcesNotSelf (rw (eq-eqb files.meta.ulid ulid same, eq-eqb files.meta.level 1 first, false_from_ne_true (is_alone ulid files.meta.sources) (λ e. differ (alone_found ulid files.meta.sources e))) refl)
  check_refuses ulid Downsampled (same, first, one, differ) =
      own_stop ulid Downsampled (rw (eq-eqb files.meta.ulid ulid same, eq-eqb files.meta.level 1 first, alone_again ulid files.meta.sources one, false_from_ne_true (int_eq files.meta.resolution (pos 0)) (λ e. differ ((Decides-int_eq files.meta.resolution (pos 0)).0 e))) refl)
  check_refuses ulid (BadIndex refusal) (own, (e, other)) = behind_own ulid (BadIndex refusal) own (index_stop refusal e other)
  check_refuses ulid EmptyBlock (own, is) = behind_own ulid EmptyBlock own (empty_stop is)
  check_refuses ulid (BadChunk series chunk cause) (own, few, (is, other)) =
      behind_own ulid (BadChunk series chunk cause) own (files_stop (BadChunk series chunk cause) is.indexed is.index_is (some_at_place _ _ is.indexed is.at_series is.first) few (is, other))
  check_refuses ulid (OutsideRange series time) (own, few, is) =
      behind_own ulid (OutsideRange series time) own (files_stop (OutsideRange series time) is.indexed is.index_is (some_of (HoldsSeries files.segments) is.indexed is.list is.series_are (some_at_place _ _ is.list is.at_series is.first)) few is)
  check_refuses ulid (Repeated series) (own, few, is) =
      behind_own ulid (Repeated series) own (files_stop (Repeated series) is.indexed is.index_is (some_at_place _ _ is.indexed is.at_series is.first) few is)
  check_refuses ulid NamesTooMuch (own, is) = behind_own ulid NamesTooMuch own (names_much is)
  check_refuses ulid (NoFile key) is = absurd is
  check_refuses ulid (BadMeta refusal) is = absurd is
  check_refuses ulid (TooLarge key) is = absurd is
  check_refuses ulid NoMemory is = absurd is

  -- ---- what the call says

  pub counts_hold : (ulid series samples : ℕ) → ((list : List Series) × (check_at ulid files.meta files.index files.segments ≡ Ok list) × (series ≡ length list) × (samples ≡ sample_count list))
      → (list : List Series) × Passes ulid files list × (series ≡ length list) × (samples ≡ sample_count list)
  counts_hold ulid series samples (list, read, many, count) = (list, check_read ulid list read, many, count)

  pub counts_only : (ulid series samples : ℕ) (list : List Series) → ((list : List Series) × (check_at ulid files.meta files.index files.segments ≡ Ok list) × (series ≡ length list) × (samples ≡ sample_count list)) → Passes ulid files list
      → (series ≡ length list) × (samples ≡ sample_count list)
  counts_only ulid series samples list (found, read, many, count) is =
      let same = one_answer found list (check_at ulid files.meta files.index files.segments) read (check_again ulid list is) in
      (many ∙ ap length same, count ∙ ap sample_count same)

  pub either_refused : (ulid : ℕ) (e : CheckRefusal) → (e ≡ NoMemory) ⊎ (check_at ulid files.meta files.index files.segments ≡ Err e) → (e ≡ NoMemory) ⊎ RefusesBlock ulid files e
  either_refused ulid e (inl none) = inl none
  either_refused ulid e (inr h) = check_refused ulid e h

  -- a block that passes is refused for want of memory alone
  pub passing_refused : (ulid : ℕ) (list : List Series) (e : CheckRefusal) → Passes ulid files list → (e ≡ NoMemory) ⊎ (check_at ulid files.meta files.index files.segments ≡ Err e) → e ≡ NoMemory
  passing_refused ulid list e is (inl none) = none
  passing_refused ulid list e is (inr h) = let both = sym (check_again ulid list is) ∙ h in absurd cc

  pub other_refused : (ulid : ℕ) (refusal e : CheckRefusal) → RefusesBlock ulid files refusal → (e ≡ NoMemory) ⊎ (check_at ulid files.meta files.index files.segments ≡ Err e) → (e ≡ refusal) ⊎ (e ≡ NoMemory)
  other_refused ulid refusal e is (inl none) = inr none
  other_refused ulid refusal e is (inr h) = inl (err_is {A = List Series} e refusal (sym h ∙ check_refuses ulid refusal is))

  pub refused_not_held : (ulid series samples : ℕ) (refusal : CheckRefusal) → ((list : List Series) × (check_at ulid files.meta files.index files.segments ≡ Ok list) × (series ≡ length list) × (samples ≡ sample_count list)) → RefusesBlock ulid files refusal → ⊥
  refused_not_held ulid series samples refusal (list, read, many, count) is = let both = sym read ∙ check_refuses ulid refusal is in absurd cc

abbrev pub HasCounts : ℕ → Meta → List ℕ → List (List ℕ) → ℕ → ℕ → Type 0
HasCounts ulid meta index segments series samples = (list : List Series) × (check_at ulid meta index segments ≡ Ok list) × (series ≡ length list) × (samples ≡ sample_count list)

module _ (files : BlockFiles) (index : List ℕ) (segments : List (List ℕ)) (index_is : index ≡ files.index) (segments_are : segments ≡ files.segments) (bytes : IsBytes index × AllByRecursion IsBytes segments) (ulid : ℕ) where
  own_bytes : IsBytes files.index
  own_bytes = subst IsBytes index_is bytes.0

  all_bytes : AllByRecursion IsBytes files.segments
  all_bytes = subst (AllByRecursion IsBytes) segments_are bytes.1

  same_check : check_at ulid files.meta index segments ≡ check_at ulid files.meta files.index files.segments
  same_check = ap (λ (b : List ℕ). check_at ulid files.meta b segments) index_is ∙ ap (λ (s : List (List ℕ)). check_at ulid files.meta files.index s) segments_are

  moved_counts : (series samples : ℕ) → HasCounts ulid files.meta index segments series samples → HasCounts ulid files.meta files.index files.segments series samples
  moved_counts series samples (list, read, many, count) = (list, sym same_check ∙ read, many, count)

  moved_refusal : (e : CheckRefusal) → (e ≡ NoMemory) ⊎ (check_at ulid files.meta index segments ≡ Err e) → (e ≡ NoMemory) ⊎ (check_at ulid files.meta files.index files.segments ≡ Err e)
  moved_refusal e (inl none) = inl none
  moved_refusal e (inr h) = inr (sym same_check ∙ h)

  held : (series samples : ℕ) → HasCounts ulid files.meta index segments series samples → (list : List Series) × Passes ulid files list × (series ≡ length list) × (samples ≡ sample_count list)
  held series samples counts = counts_hold files own_bytes all_bytes ulid series samples (moved_counts series samples counts)

  pub held_passes : (series samples : ℕ) → HasCounts ulid files.meta index segments series samples → HasPassed ulid files series samples
  held_passes series samples counts = let h = held series samples counts in record { list = h.0; passes = h.1; series_are = h.2; samples_are = h.3 }

  pub held_only : (series samples : ℕ) (list : List Series) → HasCounts ulid files.meta index segments series samples → Passes ulid files list → (series ≡ length list) × (samples ≡ sample_count list)
  held_only series samples list counts is = counts_only files own_bytes all_bytes ulid series samples list (moved_counts series samples counts) is

  pub held_not_refused : (series samples : ℕ) (refusal : CheckRefusal) → HasCounts ulid files.meta index segments series samples → RefusesBlock ulid files refusal → ⊥
  held_not_refused series samples refusal counts is = refused_not_held files own_bytes all_bytes ulid series samples refusal (moved_counts series samples counts) is

  pub refused_why : (e : CheckRefusal) → (e ≡ NoMemory) ⊎ (check_at ulid files.meta index segments ≡ Err e) → (e ≡ NoMemory) ⊎ RefusesBlock ulid files e
  refused_why e h = either_refused files own_bytes all_bytes ulid e (moved_refusal e h)

  pub refused_passing : (list : List Series) (e : CheckRefusal) → Passes ulid files list → (e ≡ NoMemory) ⊎ (check_at ulid files.meta index segments ≡ Err e) → e ≡ NoMemory
  refused_passing list e is h = passing_refused files own_bytes all_bytes ulid list e is (moved_refusal e h)

  pub refused_other : (refusal e : CheckRefusal) → RefusesBlock ulid files refusal → (e ≡ NoMemory) ⊎ (check_at ulid files.meta index segments ≡ Err e) → (e ≡ refusal) ⊎ (e ≡ NoMemory)
  refused_other refusal e is h = other_refused files own_bytes all_bytes ulid refusal e is (moved_refusal e h)

-- ---- a call that stopped with a refusal

pub stopped_with : {X : Type 0} (r : Result X CheckRefusal) (e d : CheckRefusal) → IsErrAnd r (λ x. x ≡ e) → e ≡ d → r ≡ Err d
stopped_with (Ok x) e d is same = absurd is
stopped_with (Err y) e d is same = ap (λ (x : CheckRefusal). Err x) (is ∙ same)

pub stopped_not : {X : Type 0} (Q : X → Type 0) (r : Result X CheckRefusal) (e : CheckRefusal) → IsErrAnd r (λ x. x ≡ e) → IfOk r Q
stopped_not Q (Ok x) e is = absurd is
stopped_not Q (Err y) e is = tt

pub stopped_why : {X : Type 0} (Q : CheckRefusal → Type 0) (r : Result X CheckRefusal) (e : CheckRefusal) → IsErrAnd r (λ x. x ≡ e) → Q e → IfErr r Q
stopped_why Q (Ok x) e is q = absurd is
stopped_why Q (Err y) e is q = subst Q (sym is) q

pub stopped_other : {X : Type 0} (r : Result X CheckRefusal) (e refusal : CheckRefusal) → IsErrAnd r (λ x. x ≡ e) → (e ≡ refusal) ⊎ (e ≡ NoMemory) → (r ≡ Err refusal) ⊎ (r ≡ Err NoMemory)
stopped_other r e refusal is (inl same) = inl (stopped_with r e refusal is same)
stopped_other r e refusal is (inr none) = inr (stopped_with r e NoMemory is none)

-- ---- what is inside a checked block

pub moved_passed : (ulid : ℕ) (files : BlockFiles) (series samples more_series more_samples : ℕ) → more_series ≡ series → more_samples ≡ samples → HasPassed ulid files series samples → HasPassed ulid files more_series more_samples
moved_passed ulid files series samples more_series more_samples many count is = record { list = is.list; passes = is.passes; series_are = many ∙ is.series_are; samples_are = count ∙ is.samples_are }
