-- What a block holds whose meta was put.
use Rattle.base.proofs.Membership.{any_of_member}
use Rattle.base.proofs.Rising.{one_rises}
use Rattle.std.proofs.Common.{◌≡◌, ℕ, ◌≤◌, true, is_some, List, [], ◌∷◌, ◌++◌, length, All, Contains, Option, Some, None, refl, sym, ◌∙◌, ap, subst, append-nil}
use Rattle.std.specs.Prelude.{IfSome, IsSome}
use Rattle.std.specs.List.{AllByRecursion, IsDistinct, list_any}
use Rattle.std.specs.List.Sorted.{IsStrictlyIncreasing}
use Rattle.std.specs.Option.{option_map_or}
use Rattle.std.specs.Ordering.{is_eq}
use Rattle.std.proofs.lemmas.Cmp.{tied_itself}
use Rattle.std.proofs.lemmas.List.Elements.{All-contains_itself, All-weaker}
use Rattle.label_sets.specs.declared.series.Series.{Series}
use Rattle.label_sets.specs.Triples.{Triple, has_same_key}
use Rattle.vertical_merge.proofs.Orders.{keys_total}
use Rattle.chunk_files.specs.Layout.{greatest}
use Rattle.block_keys.specs.declared.key.Key.TheVariants as key
use Rattle.block_meta.specs.Lawful.{AreLawfulTimes}
use Rattle.block_meta.specs.MetaFields.{MetaFields, fields_of}
use Rattle.block_meta.specs.MetaReading.{meta_of_text}
use Rattle.block_meta.specs.MetaValue.{meta_text}
use Rattle.block_meta.specs.OfBlocks.{block_meta}
use Rattle.block_meta.specs.declared.meta.Meta.{Meta}
use Rattle.block_meta.specs.declared.block_files.BlockFiles.{BlockFiles}
use Rattle.block_content.specs.Content.{IsContent}
use Rattle.block_merging.specs.PutContent.{AreBytes}
use Rattle.world_core.specs.Standing.{IsHonest}
use Rattle.world_core.specs.declared.op.Op.TheVariants as op
use Rattle.world_core.specs.declared.entry.Entry.{Entry}
use Rattle.script_core.specs.Lawful.{IsLawfulScript}
use Rattle.lifecycle_core.specs.CompactionOps.{IsObjectMade}
use Rattle.lifecycle_core.specs.MergedLabels.{seen_as}
use Rattle.world_core.specs.Journals.{of_seat}
use Rattle.lifecycle_core.specs.Held.{declared, given, held, held_by}
use Rattle.lifecycle_core.specs.Setting.{Setting}
use Rattle.lifecycle_core.proofs.blocks.Declared.{declared_ulid}
use Rattle.lifecycle_core.proofs.blocks.FilesPut.{AreFilesPut, new_files, shipped_files, shipped_whole}
use Rattle.lifecycle_core.proofs.blocks.Known.{merged_again}
use Rattle.lifecycle_core.proofs.blocks.NewMetas.{meta_is_read, named_again}
use Rattle.lifecycle_core.proofs.blocks.Objects.{object, object_is}
use Rattle.lifecycle_core.proofs.blocks.OneKey.{new_is_not_declared}
use Rattle.lifecycle_core.proofs.blocks.Whole.{IsWholeBlock, told_size}
use Rattle.lifecycle_core.proofs.deeds.Sources.{IsShipping, IsSource, by_compaction, by_upload, object_source}
use Rattle.lifecycle_core.proofs.deeds.Stood.{LandsPut}
use Rattle.lifecycle_core.proofs.deeds.Words.{AreDeeds}

-- what these files have under final labels
abbrev pub seen_in : Setting → BlockFiles → List Series → List Triple
seen_in setting files list = seen_as files.meta.labels setting.script.rules.replicas list

-- The files that were put before a put of the block's meta, and what they hold.
pub record IsHeldPut (setting : Setting) (journal : List Entry) (number ulid : ℕ) (text : List ℕ) : Type 0 where
  pub files : BlockFiles
  pub read : block_meta ulid text ≡ Some (fields_of files.meta)
  pub put : AreFilesPut journal ulid number files.segments files.index
  pub bytes : AreBytes files
  pub sized : IfSome (told_size files.meta.files) (λ size. size ≡ length files.index)
  pub short : AllByRecursion (λ segment. length segment ≤ greatest) files.segments
  pub list : List Series
  pub content : IsContent files list
  pub taken : All (Contains (held setting files.meta.sources)) (seen_in setting files list)
  pub complete : All (λ t. list_any (has_same_key t) (seen_in setting files list) ≡ true) (held setting files.meta.sources)
  pub once : ¬ IsSome (declared setting.script ulid) → IsDistinct has_same_key (seen_in setting files list)
  pub gives : IsSome (declared setting.script ulid) → (files.meta.sources ≡ ulid ∷ []) × (seen_in setting files list ≡ held setting (ulid ∷ []))

abbrev meta_made : (m : MetaFields) → AreLawfulTimes m.min_time m.max_time → IsStrictlyIncreasing m.sources → Meta
meta_made m times distinct = record {
  ulid = m.ulid;
  min_time = m.min_time;
  max_time = m.max_time;
  series = m.series;
  samples = m.samples;
  chunks = m.chunks;
  level = m.level;
  sources = m.sources;
  parents = m.parents;
  labels = m.labels;
  resolution = m.resolution;
  source = m.source;
  files = m.files;
  segment_files = m.segment_files;
  times = times;
  distinct = distinct;
}

own_key : (t : Triple) → has_same_key t t ≡ true
own_key t = ap is_eq (tied_itself keys_total t)

-- what is the same list holds the same
all_same : (one other : List Triple) → one ≡ other → All (Contains other) one × All (λ t. list_any (has_same_key t) one ≡ true) other
all_same one other same = (
  subst (λ l. All (Contains l) one) same (All-contains_itself one),
  subst (All (λ t. list_any (has_same_key t) one ≡ true)) same
      (All-weaker (Contains one) (λ (t : Triple). list_any (has_same_key t) one ≡ true) (λ t among. any_of_member (has_same_key t) one t among (own_key t)) one (All-contains_itself one)),
)

-- ---- declared blocks

module _ (setting : Setting) (journal : List Entry) (lawful : IsLawfulScript setting.script) (deeds : AreDeeds setting journal) (front back : List Entry) (x : Entry) (at : journal ≡ front ++ x ∷ back) (ulid : ℕ) (text : List ℕ) (puts : x.op ≡ op.Put (key.Meta ulid) text)
    (s : IsShipping setting (of_seat x.seat front) (key.Meta ulid) text) where
  abbrev w : IsWholeBlock setting s.is.block s.is.objects
  w = shipped_whole setting journal lawful deeds front back x at ulid text puts s

  same_ulid : s.is.block.ulid ≡ ulid
  same_ulid = declared_ulid setting ulid s.is.block s.is.is

  text_is : text ≡ meta_text w.meta
  text_is = (object_is s.is.block.ulid w.segments w.index (meta_text w.meta) (key.Meta ulid) text (subst (λ os. Contains os (object (key.Meta ulid) text)) w.are s.is.among)).1

  read_is : block_meta ulid text ≡ Some w.meta
  read_is = named_again ulid (meta_of_text text) w.meta (ap meta_of_text text_is ∙ w.read) (w.own ∙ same_ulid)

  sources_are : w.meta.sources ≡ ulid ∷ []
  sources_are = w.sources ∙ ap (λ (u : ℕ). u ∷ []) same_ulid

  abbrev its_files : BlockFiles
  its_files = record {
    meta = meta_made w.meta (meta_is_read ulid text w.meta read_is).is.times (subst IsStrictlyIncreasing (sym sources_are) (one_rises ulid));
    index = w.index;
    segments = w.segments;
    numbered = w.few;
  }

  abbrev its_list : List Series
  its_list = given setting s.is.block

  seen_is : seen_in setting its_files its_list ≡ held setting (ulid ∷ [])
  unfolding held held_by
  seen_is =
      ap (λ ls. seen_as ls setting.script.rules.replicas its_list) w.labels ∙ sym (append-nil (seen_as s.is.block.labels setting.script.rules.replicas its_list))
      ∙ ap (λ o. option_map_or (held_by setting setting.script.rules.replicas) o [] ++ []) (sym s.is.is)

  seen_all : seen_in setting its_files its_list ≡ held setting w.meta.sources
  seen_all = seen_is ∙ ap (held setting) (sym sources_are)

  pub shipped_holds : IsHeldPut setting journal x.seq ulid text
  shipped_holds =
      let both = all_same (seen_in setting its_files its_list) (held setting w.meta.sources) seen_all in
      record {
        files = its_files;
        read = read_is;
        put = shipped_files setting journal lawful deeds front back x at ulid text puts s;
        bytes = record { index = w.bytes.0; segments = w.bytes.1 };
        sized = w.sized;
        short = w.short;
        list = its_list;
        content = record { indexed = w.indexed; index_is = w.index_is; series_are = w.series_are; within = w.within; apart = w.apart };
        taken = both.0;
        complete = both.1;
        once = λ new. absurd (new (ap is_some s.is.is));
        gives = λ known. (sources_are, seen_is);
      }

-- ---- the files of all blocks

-- The files that were put before a put of the block's meta.
pub record IsPutOf (setting : Setting) (journal : List Entry) (number ulid : ℕ) (text : List ℕ) : Type 0 where
  pub files : BlockFiles
  pub read : block_meta ulid text ≡ Some (fields_of files.meta)
  pub put : AreFilesPut journal ulid number files.segments files.index
  pub own : IsSome (declared setting.script ulid) → files.meta.sources ≡ ulid ∷ []

some_is : {A : Type 0} (o : Option A) → IsSome o → (a : A) × (o ≡ Some a)
some_is None some = absurd (cc (some))
some_is (Some a) some = (a, refl)

module _ (setting : Setting) (journal : List Entry) (lawful : IsLawfulScript setting.script) (deeds : AreDeeds setting journal) (honest : IsHonest journal) where
  module _ (front back : List Entry) (x : Entry) (at : journal ≡ front ++ x ∷ back) (ulid : ℕ) (text : List ℕ) (puts : LandsPut (key.Meta ulid) text x) where
    shipped_put_of : IsShipping setting (of_seat x.seat front) (key.Meta ulid) text → IsPutOf setting journal x.seq ulid text
    shipped_put_of s = let h = shipped_holds setting journal lawful deeds front back x at ulid text puts.0 s in record { files = h.files; read = h.read; put = h.put; own = λ known. (h.gives known).0 }

    pub not_declared : IsObjectMade setting.script.rules (of_seat x.seat front) (key.Meta ulid) text → IsSome (declared setting.script ulid) → ⊥
    not_declared m known = let b = some_is (declared setting.script ulid) known in new_is_not_declared setting journal lawful deeds front back x at (key.Meta ulid) text m b.0 b.1

    new_put_of : IsObjectMade setting.script.rules (of_seat x.seat front) (key.Meta ulid) text → IsPutOf setting journal x.seq ulid text
    new_put_of m = record {
      files = m.block;
      read = merged_again setting journal lawful deeds honest front back x at ulid text puts m;
      put = new_files setting journal lawful deeds front back x at ulid text puts.0 m;
      own = λ known. absurd (not_declared m known);
    }

    pub put_of : IsPutOf setting journal x.seq ulid text
    put_of = by (object_source setting journal deeds front back x at (key.Meta ulid) text puts.0 tt)
      where
        by : IsSource setting (of_seat x.seat front) (key.Meta ulid) text → IsPutOf setting journal x.seq ulid text
        by (by_upload s) = shipped_put_of s
        by (by_compaction m) = new_put_of m
