-- What the meta of a block says that was compacted from others, and that its text is read again.
use Rattle.base.proofs.Bools.{Equal-from_then, Equal-from_is_eq}
use Rattle.base.proofs.Lists.{AllByRecursion-map, cons_same}
use Rattle.base.proofs.Membership.{all_members, into_flat_map, member_passes, no_member, of_filter, of_flat_map, of_in_order, of_map, some_member}
use Rattle.std.proofs.Common.{◌≡◌, ◌≢◌, ℕ, ℤ, ◌+◌, ◌<◌, ◌≤ℤ◌, ◌^◌, Bool, true, false, cond, pos, min, eqb, List, [], ◌∷◌, map, flat_map, filter, not, All, Contains, Some, None, Result, Ok, Err, IsUtf8, IsTrue, codes, rules, refl, sym, ◌∙◌, ap, subst, arith}
use Rattle.std.specs.declared.cmp.Ordering.TheVariants.{Equal}
use Rattle.std.specs.List.{AllByRecursion, AllZip}
use Rattle.std.specs.List.Sorted.{IsStrictlyIncreasing}
use Rattle.std.specs.Ordering.{int_cmp}
use Rattle.std.proofs.lemmas.Bool.{cond-true, eq-eqb}
use Rattle.std.proofs.lemmas.List.Elements.{All-contains, All-from_recursion}
use Rattle.label_sets.specs.declared.label.Label.{Label}
use Rattle.label_sets.specs.Finals.{is_among, without}
use Rattle.label_sets.specs.Labels.{compare_sets}
use Rattle.label_sets.specs.Notation.{is_name}
use Rattle.label_sets.proofs.FinalLabels.{IsLabelSet-without}
use Rattle.label_sets.proofs.LabelValues.{same_set}
use Rattle.block_meta.specs.Bounds.{FitsParent}
use Rattle.block_meta.specs.Lawful.{AreLawfulTimes, ascending}
use Rattle.block_meta.specs.MetaFields.{MetaFields, fields_of}
use Rattle.block_meta.specs.MetaReading.{meta_of_text}
use Rattle.block_meta.specs.MetaText.{IsMetaText}
use Rattle.block_meta.specs.MetaValue.{meta_text}
use Rattle.block_meta.specs.OfBlocks.{block_meta, named_meta}
use Rattle.block_meta.specs.declared.meta.Meta.{Meta}
use Rattle.block_meta.specs.declared.refusal.MetaRefusal.{MetaRefusal}
use Rattle.block_meta.proofs.AscendingOnce.{ascending_same}
use Rattle.block_meta.proofs.FoundTexts.{meta_text_found}
use Rattle.block_meta.specs.declared.block_files.BlockFiles.{BlockFiles}
use Rattle.block_writing.specs.Put.{PlanFields}
use Rattle.block_writing.specs.Writing.{plan_fields}
use Rattle.block_writing.specs.WrittenMeta.{counts_of, meta_with}
use Rattle.block_merging.specs.MergedBlock.{IsMergeOf}
use Rattle.vertical_merge.specs.Compacted.{IsCompactedPlan, parent_of}
use Rattle.group_planner.specs.Groups.{AreGroups, compare_keys, comes_before, group_of, has_key, key_of}
use Rattle.group_planner.specs.declared.group.Group.{Group}
use Rattle.moment_core.specs.declared.rules.Rules.{Rules}
use Rattle.world_core.specs.declared.entry.Entry.{Entry}
use Rattle.meta_fetcher.specs.declared.view.View.{View}
use Rattle.compactor.specs.Inputs.{IsInput}
use Rattle.compactor.specs.Merges.{Given}
use Rattle.compactor.specs.declared.input.Input.{Input}
use Rattle.compactor.specs.Compactions.{metas_of}
use Rattle.script_core.specs.Lawful.{AreLawfulLabels}
use Rattle.lifecycle_core.specs.CompactionOps.{HasMerged, WasRead}
use Rattle.lifecycle_core.proofs.activities.CompactionGroups.{plan_among}
use Rattle.lifecycle_core.proofs.blocks.InlineBlocks.{all_fit, count_fits, names_fit, samples_fit}
use Rattle.lifecycle_core.proofs.blocks.MetasAgain.{IsReadAgain, lawful_fits, meta_read_again}

-- ---- texts

-- what is read as the block's meta names the block
pub named_again : (ulid : ℕ) (r : Result MetaFields MetaRefusal) (meta : MetaFields) → r ≡ Ok meta → meta.ulid ≡ ulid → named_meta ulid r ≡ Some meta
named_again ulid r meta read own = ap (named_meta ulid) read ∙ cond-true (eqb meta.ulid ulid) (Some meta) None (eq-eqb meta.ulid ulid own)

some_test : (m meta : MetaFields) (b : Bool) → cond b (Some m) None ≡ Some meta → ◌≡◌ {A = Result MetaFields MetaRefusal} (Ok m) (Ok meta)
some_test m meta true same = ap Ok (cc (same))
some_test m meta false same = absurd (cc (same))

pub meta_read : (ulid : ℕ) (r : Result MetaFields MetaRefusal) (meta : MetaFields) → named_meta ulid r ≡ Some meta → r ≡ Ok meta
meta_read ulid (Ok m) meta is = some_test m meta (eqb m.ulid ulid) is
meta_read ulid (Err e) meta is = absurd (cc (is))

-- a meta that is read is that of its text
pub meta_is_read : (ulid : ℕ) (bytes : List ℕ) (meta : MetaFields) → block_meta ulid bytes ≡ Some meta → IsMetaText bytes meta
meta_is_read ulid bytes meta is = (meta_text_found bytes).holds meta (meta_read ulid (meta_of_text bytes) meta is)

-- ---- metas that are merged

-- What holds of each meta of a journal's blocks.
pub record IsSound (m : MetaFields) : Type 0 where
  pub small : m.ulid < 2 ^ 128
  pub times : AreLawfulTimes m.min_time m.max_time
  pub whole : m.resolution ≡ pos 0
  pub ascend : IsStrictlyIncreasing m.sources
  pub some : m.sources ≢ []
  pub sources : All (λ u. u < 2 ^ 128) m.sources
  pub labels : AreLawfulLabels m.labels

without_lawful : (names : List (List ℕ)) (ls : List Label) → AreLawfulLabels ls → AreLawfulLabels (without names ls)
unfolding without
without_lawful names ls lawful = record {
  set = IsLabelSet-without names ls lawful.set;
  named = kept (λ (l : Label). IsTrue (is_name l.name)) lawful.named;
  texts = kept (λ (l : Label). IsUtf8 l.value) lawful.texts;
}
  where
    kept : (P : Label → Type 0) → All P ls → All P (filter (λ l. not (is_among names l.name)) ls)
    kept P all =
        All-from_recursion P (filter (λ l. not (is_among names l.name)) ls)
        (all_members P (filter (λ l. not (is_among names l.name)) ls) (λ l among. All-contains P ls l all (of_filter (λ (x : Label). not (is_among names x.name)) ls l among)))

-- the labels of a group are those of each of its members, less the replica labels
pub group_labels : (replicas : List (List ℕ)) (metas : List Meta) (groups : List Group) → AreGroups replicas metas groups → (group : Group) → Contains groups group → (m : Meta) → Contains group.members m
    → without replicas m.labels ≡ group.labels
group_labels replicas metas groups are group among m inside =
    let k = of_map (group_of replicas metas) are.keys group (subst (λ (gs : List Group). Contains gs group) are.are among) in
    let own : Contains (group_of replicas metas k.0).members m = subst (λ (g : Group). Contains g.members m) (sym k.2) inside in
    let passes : has_key replicas k.0 m ≡ true = member_passes (has_key replicas k.0) metas m (of_in_order comes_before m (filter (has_key replicas k.0) metas) own) in
    let equal : compare_keys (key_of replicas m) k.0 ≡ Equal = Equal-from_is_eq (compare_keys (key_of replicas m) k.0) passes in
    let parts = Equal-from_then (int_cmp m.resolution (k.0).resolution) (compare_sets (without replicas m.labels) (k.0).labels) equal in
    same_set (without replicas m.labels) (k.0).labels parts.1 ∙ ap (λ (g : Group). g.labels) k.2

metas_given : (own : List Entry) (metas : List Meta) (inputs : List Input) (blocks : List BlockFiles) → AllZip (WasRead own) metas inputs → AllZip IsInput inputs blocks → map (λ (b : BlockFiles). b.meta) blocks ≡ metas
metas_given own [] [] [] read are = refl
metas_given own [] [] (b ∷ blocks) read are = absurd are
metas_given own [] (i ∷ inputs) blocks read are = absurd read
metas_given own (m ∷ metas) [] blocks read are = absurd read
metas_given own (m ∷ metas) (i ∷ inputs) [] read are = absurd are
metas_given own (m ∷ metas) (i ∷ inputs) (b ∷ blocks) read are =
    cons_same b.meta m (map (λ (x : BlockFiles). x.meta) blocks) metas ((are.0).meta ∙ (read.0).meta_is) (metas_given own metas inputs blocks read.1 are.1)

next_level : (greatest level : ℕ) → level ≡ min (greatest + 1) 4294967295 → level < 2 ^ 32
next_level greatest level is = omega (arith, is)

compactor_utf8 : (source : List ℕ) → source ≡ codes "compactor" → IsUtf8 source
compactor_utf8 source is = subst IsUtf8 (sym is) (search rules)

module _ (rules : Rules) (view : View) (own : List Entry) (ulid : ℕ) (block : BlockFiles) (merged : HasMerged rules view own ulid block) where
  abbrev pub given : Given ulid (merged.group).labels merged.inputs
  given = (merged.merged).0

  abbrev pub merge : IsMergeOf given.plan rules.replicas given.blocks block
  merge = (merged.merged).1

  pub metas_are : map (λ (b : BlockFiles). b.meta) given.blocks ≡ merged.metas
  metas_are = metas_given own merged.metas merged.inputs given.blocks merged.read given.read

  pub planned : IsCompactedPlan merged.metas ulid (merged.group).labels given.plan
  planned = subst (λ (ms : List Meta). IsCompactedPlan ms ulid (merged.group).labels given.plan) (metas_given own merged.metas merged.inputs given.blocks merged.read given.read) given.planned

  abbrev written : MetaFields
  written = meta_with (plan_fields given.plan) (counts_of merge.put) block.index block.segments

  meta_is : fields_of block.meta ≡ written
  meta_is = merge.block_is.meta ∙ ap (λ (p : PlanFields). meta_with p (counts_of merge.put) block.index block.segments) merge.put_is.plan_is

  pub new_ulid_is : block.meta.ulid ≡ ulid
  unfolding meta_with
  new_ulid_is = ap (λ (m : MetaFields). m.ulid) meta_is ∙ planned.ulid_is

  new_times : (block.meta.min_time ≡ given.plan.min_time) × (block.meta.max_time ≡ given.plan.max_time)
  unfolding meta_with
  new_times = (ap (λ (m : MetaFields). m.min_time) meta_is, ap (λ (m : MetaFields). m.max_time) meta_is)

  -- an input lies within the new block's times
  pub input_times : (meta : Meta) → Contains merged.metas meta → (block.meta.min_time ≤ℤ meta.min_time) × (meta.max_time ≤ℤ block.meta.max_time)
  input_times meta among = (
    subst (λ (z : ℤ). z ≤ℤ meta.min_time) (sym new_times.0) (All-contains (λ (m : Meta). given.plan.min_time ≤ℤ m.min_time) merged.metas meta planned.begin.none_below among),
    subst (λ (z : ℤ). meta.max_time ≤ℤ z) (sym new_times.1) (All-contains (λ (m : Meta). m.max_time ≤ℤ given.plan.max_time) merged.metas meta planned.end.none_above among),
  )

  pub new_source : block.meta.source ≡ codes "compactor"
  unfolding meta_with
  new_source = ap (λ (m : MetaFields). m.source) meta_is ∙ planned.source

  pub new_whole : block.meta.resolution ≡ pos 0
  unfolding meta_with
  new_whole = ap (λ (m : MetaFields). m.resolution) meta_is

  new_labels : block.meta.labels ≡ (merged.group).labels
  unfolding meta_with
  new_labels = ap (λ (m : MetaFields). m.labels) meta_is ∙ planned.labels_are

  abbrev pub listed : List ℕ
  listed = flat_map (λ (meta : Meta). meta.sources) merged.metas

  pub new_sources : block.meta.sources ≡ ascending listed
  unfolding meta_with
  new_sources = ap (λ (m : MetaFields). m.sources) meta_is ∙ planned.sources

  -- each source is one of an input, and each of these is one
  pub source_of : (u : ℕ) → Contains block.meta.sources u → (meta : Meta) × Contains merged.metas meta × Contains meta.sources u
  source_of u among = of_flat_map (λ (meta : Meta). meta.sources) merged.metas u ((ascending_same listed u).1 (subst (λ (us : List ℕ). Contains us u) new_sources among))

  pub source_in : (u : ℕ) (meta : Meta) → Contains merged.metas meta → Contains meta.sources u → Contains block.meta.sources u
  source_in u meta among inside =
      subst (λ (us : List ℕ). Contains us u) (sym new_sources) ((ascending_same listed u).0 (into_flat_map (λ (m : Meta). m.sources) merged.metas meta u among inside))

  -- an input's labels, less the replica labels, are the new block's
  pub input_labels : (meta : Meta) → Contains merged.metas meta → without rules.replicas meta.labels ≡ (merged.group).labels
  input_labels meta among =
      group_labels rules.replicas (metas_of view.kept) merged.groups merged.grouped merged.group merged.among meta (plan_among (merged.group).members merged.metas merged.planned meta among)

  module _ (small : ulid < 2 ^ 128) (inputs : (meta : Meta) → Contains merged.metas meta → IsSound (fields_of meta)) where
    abbrev one : (meta : Meta) × Contains merged.metas meta
    one = some_member merged.metas merged.some

    some_sources : block.meta.sources ≢ []
    some_sources none =
        let u = some_member (one.0).sources (inputs one.0 one.1).some in
        no_member u.0 (subst (λ (us : List ℕ). Contains us u.0) none (source_in u.0 one.0 one.1 u.1))

    small_sources : All (λ (u : ℕ). u < 2 ^ 128) block.meta.sources
    small_sources =
        All-from_recursion (λ (u : ℕ). u < 2 ^ 128) block.meta.sources
        (all_members (λ (u : ℕ). u < 2 ^ 128) block.meta.sources (λ u among. let m = source_of u among in All-contains (λ (v : ℕ). v < 2 ^ 128) (m.0).sources u (inputs m.0 m.1).sources m.2))

    lawful_labels : AreLawfulLabels (merged.group).labels
    lawful_labels = subst AreLawfulLabels (input_labels one.0 one.1) (without_lawful rules.replicas (one.0).labels (inputs one.0 one.1).labels)

    pub new_sound : IsSound (fields_of block.meta)
    new_sound = record {
      small = subst (λ (u : ℕ). u < 2 ^ 128) (sym new_ulid_is) small;
      times = block.meta.times;
      whole = new_whole;
      ascend = block.meta.distinct;
      some = some_sources;
      sources = small_sources;
      labels = subst AreLawfulLabels (sym new_labels) lawful_labels;
    }

    parents_fit : AllByRecursion FitsParent given.plan.parents
    parents_fit =
        subst (AllByRecursion FitsParent) (sym planned.parents)
        (AllByRecursion-map (λ (meta : Meta). Contains merged.metas meta) FitsParent parent_of
        (λ meta among. let fits = lawful_fits meta.min_time meta.max_time meta.times in record { ulid = (inputs meta among).small; early = fits.0; late = fits.1 })
        merged.metas (all_members (λ (meta : Meta). Contains merged.metas meta) merged.metas (λ meta among. among)))

    plan_sources : block.meta.sources ≡ given.plan.sources
    plan_sources = new_sources ∙ sym planned.sources

    plan_labels : AreLawfulLabels given.plan.labels
    plan_labels = subst AreLawfulLabels (sym planned.labels_are) lawful_labels

    new_fits : IsReadAgain written
    unfolding meta_with
    new_fits = record {
      ulid = subst (λ (u : ℕ). u < 2 ^ 128) (sym planned.ulid_is) small;
      times = given.plan.times;
      series = count_fits _;
      samples = subst (λ (n : ℕ). n < 2 ^ 64) (sym merge.put_is.samples_are) (samples_fit merge.put_is.list);
      chunks = count_fits _;
      level = next_level planned.level.greatest given.plan.level planned.level.next;
      sources = subst (All (λ (u : ℕ). u < 2 ^ 128)) plan_sources small_sources;
      distinct = given.plan.distinct;
      parents = parents_fit;
      lawful = plan_labels.set;
      named = plan_labels.named;
      values = plan_labels.texts;
      resolution = refl;
      source = compactor_utf8 given.plan.source planned.source;
      files = all_fit block.segments block.index;
      segment_files = names_fit 1 _;
    }

    -- its text is read as it
    pub new_read : meta_of_text (meta_text (fields_of block.meta)) ≡ Ok (fields_of block.meta)
    new_read = ap (λ (m : MetaFields). meta_of_text (meta_text m)) meta_is ∙ meta_read_again written new_fits ∙ ap (λ (m : MetaFields). Ok m) (sym meta_is)
