-- A block whose files the shelf has, and that passes, is a whole one where it is shipped.
use Rattle.std.proofs.Common.{◌≡◌, ℕ, ◌+◌, ◌<◌, ◌≤◌, ◌^◌, true, pos, List, [], ◌∷◌, ◌++◌, map, length, codes, Some, IsUtf8, rules, refl, sym, ◌∙◌, ap, subst, arith}
use Rattle.std.specs.Prelude.{IfSome, All, option_map, ◌≤ℤ◌, ◌<ℤ◌}
use Rattle.std.specs.List.{AllByRecursion, AllZip}
use Rattle.std.specs.Str.{bytes_eq}
use Rattle.std.proofs.lemmas.List.{map-append}
use Rattle.std.proofs.lemmas.List.Elements.{All-append, All-cons, All-nil}
use Rattle.std.proofs.lemmas.Str.{IsUtf8-append}
use Rattle.label_sets.specs.declared.label.Label.{Label}
use Rattle.label_sets.specs.declared.sample.Sample.{Sample}
use Rattle.label_sets.specs.declared.series.Series.{Series}
use Rattle.label_sets.specs.Labels.{IsLabelSet}
use Rattle.label_sets.specs.SetText.{AreNamed}
use Rattle.block_keys.specs.KeyText.{name_of, six_digits}
use Rattle.block_keys.specs.declared.key.Key.TheVariants as key
use Rattle.block_keys.specs.declared.object.Object.{Object}
use Rattle.block_meta.specs.declared.file_size.FileSize.{FileSize}
use Rattle.block_meta.specs.MetaFields.{MetaFields}
use Rattle.block_meta.specs.Built.{segment_objects}
use Rattle.block_writing.proofs.Names.{IsUtf8-six_digits}
use Rattle.block_content.specs.Content.{AreWithin, HoldsSeries}
use Rattle.block_content.specs.Shipped.{names_of, segment_name, shipped_meta, size_of, sizes_of}
use Rattle.bucket_core.specs.Files.{file_limit}
use Rattle.script_core.specs.declared.block.Block.{Block}
use Rattle.script_core.specs.declared.body.Body.TheVariants.{OnShelf}
use Rattle.lifecycle_core.specs.Held.{given_by, series_from}
use Rattle.lifecycle_core.specs.Setting.{Setting}
use Rattle.lifecycle_core.specs.Shipped.{IsShelfBlock}
use Rattle.lifecycle_core.proofs.blocks.InlineBlocks.{FitsFile, NotIndex, find_behind}
use Rattle.lifecycle_core.proofs.blocks.MetasAgain.{IsReadAgain, meta_read_again}
use Rattle.lifecycle_core.proofs.blocks.Whole.{IsWholeBlock, Spans, SpansFiles, told_size}

-- ---- the sizes of its files

abbrev index_object : ℕ → List ℕ → Object
index_object ulid index = record { key = key.Index ulid; bytes = index }

sizes_parts : (ulid : ℕ) (segments : List (List ℕ)) (index : List ℕ) → sizes_of ulid segments index ≡ map size_of (segment_objects ulid 1 segments) ++ size_of (index_object ulid index) ∷ []
unfolding sizes_of
sizes_parts ulid segments index = map-append size_of (segment_objects ulid 1 segments) (index_object ulid index ∷ [])

segments_other : (ulid number : ℕ) (segments : List (List ℕ)) → AllByRecursion NotIndex (map size_of (segment_objects ulid number segments))
unfolding segment_objects name_of
segments_other ulid number [] = tt
segments_other ulid number (segment ∷ segments) = (refl, segments_other ulid (number + 1) segments)

is_index : (ulid : ℕ) (index : List ℕ) → bytes_eq (size_of (index_object ulid index)).path (codes "index") ≡ true
unfolding name_of
is_index ulid index = refl

index_told : (ulid : ℕ) (segments : List (List ℕ)) (index : List ℕ) → told_size (sizes_of ulid segments index) ≡ Some (length index)
index_told ulid segments index =
    ap told_size (sizes_parts ulid segments index)
    ∙ ap (option_map (λ (file : FileSize). file.bytes)) (find_behind (map size_of (segment_objects ulid 1 segments)) (size_of (index_object ulid index)) (segments_other ulid 1 segments) (is_index ulid index))

abbrev IsShort : List ℕ → Type 0
IsShort bytes = length bytes ≤ file_limit

fits_file : (bytes : List ℕ) → IsShort bytes → length bytes < 2 ^ 64
fits_file bytes short = omega (arith, short)

chunks_utf8 : IsUtf8 (codes "chunks/")
chunks_utf8 = search rules

index_utf8 : IsUtf8 (codes "index")
index_utf8 = search rules

sizes_fit : (ulid number : ℕ) (segments : List (List ℕ)) → AllByRecursion IsShort segments → All FitsFile (map size_of (segment_objects ulid number segments))
unfolding segment_objects name_of
sizes_fit ulid number [] short = All-nil FitsFile
sizes_fit ulid number (segment ∷ segments) short =
    All-cons FitsFile (size_of (record { key = key.Segment ulid number; bytes = segment })) (map size_of (segment_objects ulid (number + 1) segments))
    (IsUtf8-append (codes "chunks/") (six_digits number) chunks_utf8 (IsUtf8-six_digits number), fits_file segment short.0) (sizes_fit ulid (number + 1) segments short.1)

index_fits : (ulid : ℕ) (index : List ℕ) → IsShort index → FitsFile (size_of (index_object ulid index))
unfolding name_of
index_fits ulid index short = (index_utf8, fits_file index short)

all_fit : (ulid : ℕ) (segments : List (List ℕ)) (index : List ℕ) → AllByRecursion IsShort segments → IsShort index → All FitsFile (sizes_of ulid segments index)
all_fit ulid segments index short few =
    subst (All FitsFile) (sym (sizes_parts ulid segments index))
    (All-append FitsFile (map size_of (segment_objects ulid 1 segments)) (size_of (index_object ulid index) ∷ []) (sizes_fit ulid 1 segments short)
    (All-cons FitsFile (size_of (index_object ulid index)) [] (index_fits ulid index few) (All-nil FitsFile)))

segment_names_fit : (ulid number : ℕ) (segments : List (List ℕ)) → All IsUtf8 (map segment_name (segment_objects ulid number segments))
unfolding segment_objects
segment_names_fit ulid number [] = All-nil IsUtf8
segment_names_fit ulid number (segment ∷ segments) =
    All-cons IsUtf8 (six_digits number) (map segment_name (segment_objects ulid (number + 1) segments)) (IsUtf8-six_digits number) (segment_names_fit ulid (number + 1) segments)

names_fit : (ulid : ℕ) (segments : List (List ℕ)) → All IsUtf8 (names_of ulid segments)
unfolding names_of
names_fit ulid segments = segment_names_fit ulid 1 segments

-- ---- the whole

module _ (setting : Setting) (block : Block) (objects : List Object) (is : IsShelfBlock setting block objects) where
  abbrev meta : MetaFields
  meta = shipped_meta is.files.meta is.files.segments is.files.index block.labels

  module _ (small : block.ulid < 2 ^ 128) (lawful : IsLabelSet block.labels) (named : AreNamed block.labels) (values : All (λ (l : Label). IsUtf8 l.value) block.labels) where
    meta_fits : IsReadAgain meta
    unfolding shipped_meta
    meta_fits = record {
      ulid = subst (λ u. u < 2 ^ 128) (sym is.passes.own.ulid_is) small;
      times = is.files.meta.times;
      series = is.numbers.series;
      samples = is.numbers.samples;
      chunks = is.numbers.chunks;
      level = subst (λ n. n < 2 ^ 32) (sym is.passes.own.first_level) (omega arith);
      sources = subst (All (λ u. u < 2 ^ 128)) (sym is.passes.own.one_source) (All-cons (λ u. u < 2 ^ 128) block.ulid [] small (All-nil (λ u. u < 2 ^ 128)));
      distinct = is.files.meta.distinct;
      parents = is.numbers.parents;
      lawful = lawful;
      named = named;
      values = values;
      resolution = refl;
      source = search rules;
      files = all_fit is.files.meta.ulid is.files.segments is.files.index is.short.segments is.short.index;
      segment_files = names_fit is.files.meta.ulid is.files.segments;
    }

  meta_sized : IfSome (told_size meta.files) (λ size. size ≡ length is.files.index)
  unfolding shipped_meta
  meta_sized = subst (λ o. IfSome o (λ size. size ≡ length is.files.index)) (sym (index_told is.files.meta.ulid is.files.segments is.files.index)) refl

  meta_says : (meta.ulid ≡ block.ulid) × (meta.sources ≡ block.ulid ∷ []) × (meta.labels ≡ block.labels)
  unfolding shipped_meta
  meta_says = (is.passes.own.ulid_is, is.passes.own.one_source, refl)

  meta_whole : meta.resolution ≡ pos 0
  unfolding shipped_meta
  meta_whole = refl

  spans : block.body ≡ OnShelf → Spans setting block.ulid block.body meta.min_time meta.max_time
  unfolding shipped_meta
  spans body =
      subst (λ b. Spans setting block.ulid b is.files.meta.min_time is.files.meta.max_time) (sym body)
      (subst (λ r. SpansFiles r is.files.meta.min_time is.files.meta.max_time) (sym is.read) (refl, refl))

  given_is : block.body ≡ OnShelf → is.series ≡ given_by setting block.ulid block.body
  given_is body = sym (ap (given_by setting block.ulid) body ∙ ap series_from is.read)

  within : block.body ≡ OnShelf → AllByRecursion (λ (s : Series). AllByRecursion (λ (x : Sample). (meta.min_time ≤ℤ x.time) × (x.time <ℤ meta.max_time)) s.samples) (given_by setting block.ulid block.body)
  unfolding shipped_meta
  within body = subst (AllByRecursion (AreWithin is.files.meta)) (given_is body) is.passes.content.within

  pub whole_shelf : block.body ≡ OnShelf → block.ulid < 2 ^ 128 → IsLabelSet block.labels → AreNamed block.labels → All (λ (l : Label). IsUtf8 l.value) block.labels → IsWholeBlock setting block objects
  whole_shelf body small lawful named values = record {
    segments = is.files.segments;
    index = is.files.index;
    meta = meta;
    are = is.are;
    read = meta_read_again meta (meta_fits small lawful named values);
    own = meta_says.0;
    sources = meta_says.1;
    labels = meta_says.2;
    whole = meta_whole;
    times = spans body;
    sized = meta_sized;
    bytes = (is.bytes.index, is.bytes.segments);
    few = is.files.numbered;
    short = is.short.segments;
    indexed = is.passes.content.indexed;
    index_is = is.passes.content.index_is;
    apart = is.passes.content.apart;
    series_are = subst (AllZip (HoldsSeries is.files.segments) is.passes.content.indexed) (given_is body) is.passes.content.series_are;
    within = within body;
  }
