-- What a block holds that was compacted, by what its inputs hold.
use Rattle.base.proofs.Membership.{all_members, into_flat_map, into_map, of_flat_map, of_map, place_of_member, contains_first, contains_later}
use Rattle.std.proofs.Common.{◌≡◌, ℕ, zero, suc, ◌+◌, ◌<◌, ◌≤◌, ◌^◌, true, List, [], ◌∷◌, ◌++◌, map, flat_map, length, All, Contains, Some, refl, sym, ◌∙◌, ap, subst, append_assoc, arith}
use Rattle.std.specs.Prelude.{IfSome, slice_get}
use Rattle.std.specs.List.{AllByRecursion, AllZip, list_any}
use Rattle.std.specs.Option.{option_map_or}
use Rattle.std.proofs.lemmas.List.Elements.{All-contains, All-from_recursion, Contains-append_left}
use Rattle.base.specs.Grammar.{IsBytes}
use Rattle.label_sets.specs.Labels.{IsLabelSet}
use Rattle.label_sets.specs.Finals.{without}
use Rattle.label_sets.specs.Triples.{Triple, has_same_key}
use Rattle.chunk_files.specs.Layout.{greatest}
use Rattle.block_keys.specs.Keys.{IsLawfulKey, key_ulid}
use Rattle.block_keys.specs.declared.key.Key.{Key}
use Rattle.block_keys.specs.declared.key.Key.TheVariants as key
use Rattle.block_meta.specs.MetaFields.{MetaFields, fields_of}
use Rattle.block_meta.specs.MetaReading.{meta_of_text}
use Rattle.block_meta.specs.declared.meta.Meta.{Meta}
use Rattle.block_meta.proofs.SameMetas.{same_meta}
use Rattle.block_meta.specs.declared.block_files.BlockFiles.{BlockFiles}
use Rattle.block_merging.specs.PutContent.{AreBytes}
use Rattle.block_writing.specs.Segments.{segment_text}
use Rattle.block_writing.specs.WrittenMeta.{meta_with}
use Rattle.base.proofs.Lists.{AllByRecursion-map}
use Rattle.base.proofs.Pairs.{AllZip-first}
use Rattle.world_core.specs.Operations.{IsLawful, PutsBytes}
use Rattle.world_core.specs.Standing.{IsHonest}
use Rattle.world_core.specs.Worlds.{IsOfBytes}
use Rattle.world_core.specs.declared.op.Op.TheVariants as op
use Rattle.world_core.specs.declared.reply.Reply.TheVariants as reply
use Rattle.world_core.specs.declared.entry.Entry.{Entry}
use Rattle.sync_filters.specs.declared.found.Found.{Found}
use Rattle.compactor.specs.Inputs.{IsInput}
use Rattle.compactor.specs.Named.{named_segments}
use Rattle.compactor.specs.declared.input.Input.{Input}
use Rattle.compactor.specs.declared.input.Read.{Read}
use Rattle.compactor.specs.Compactions.{metas_of}
use Rattle.script_core.specs.Lawful.{IsLawfulScript}
use Rattle.lifecycle_core.specs.CompactionOps.{HasMerged, IsObjectMade, ReadsObject, WasRead}
use Rattle.lifecycle_core.specs.MergedLabels.{AreMergedAs, Holds, seen_as}
use Rattle.lifecycle_core.specs.Sights.{IsSeen}
use Rattle.world_core.specs.Journals.{of_seat}
use Rattle.lifecycle_core.specs.Held.{declared, held, held_by}
use Rattle.lifecycle_core.specs.PutBlocks.{WasPutBefore}
use Rattle.lifecycle_core.specs.Setting.{Setting}
use Rattle.lifecycle_core.proofs.blocks.FilesPut.{AreFilesPut, new_files}
use Rattle.lifecycle_core.proofs.blocks.HeldPuts.{IsHeldPut, not_declared, seen_in, shipped_holds}
use Rattle.lifecycle_core.proofs.blocks.InlineBlocks.{index_told}
use Rattle.lifecycle_core.proofs.activities.MergedBlocks.{HoldsThese, merge_joins}
use Rattle.lifecycle_core.proofs.activities.CompactionGroups.{plan_among, named_is}
use Rattle.lifecycle_core.proofs.blocks.Known.{IsSoundPut, WasMetaPut, merged_again, read_put, sound_put}
use Rattle.lifecycle_core.proofs.blocks.NamedContent.{named_content}
use Rattle.lifecycle_core.proofs.blocks.NewMetas.{given, input_labels, merge, metas_are, source_in, source_of}
use Rattle.lifecycle_core.proofs.blocks.PlanMembers.{member_within}
use Rattle.lifecycle_core.proofs.blocks.Whole.{told_size}
use Rattle.lifecycle_core.proofs.deeds.Orders.{front_is_earlier, in_seat}
use Rattle.lifecycle_core.proofs.deeds.Sources.{IsSource, by_compaction, by_upload, object_source}
use Rattle.lifecycle_core.proofs.deeds.Stood.{LandsPut, found_stands, stood}
use Rattle.lifecycle_core.proofs.deeds.Words.{AreDeeds}
use Rattle.lifecycle_core.proofs.journals.Positions.{stands_in}
use Rattle.lifecycle_core.proofs.journals.Rising.{journal_rises}
use Rattle.lifecycle_core.proofs.journals.Standing.{parted}
use Rattle.lifecycle_core.proofs.journals.Told.{Rises}
use Rattle.lifecycle_core.proofs.marks.Reasons.{kept_seen}

-- ---- lists

zip_map : {A B : Type 0} (R : A → B → Type 0) (f : A → B) (xs : List A) → ((x : A) → Contains xs x → R x (f x)) → AllZip R xs (map f xs)
zip_map R f [] each = tt
zip_map R f (x ∷ xs) each = (each x (contains_first x xs), zip_map R f xs (λ y among. each y (contains_later x y xs among)))

-- which triples are held
held_of : (setting : Setting) (sources : List ℕ) (t : Triple) → Contains (held setting sources) t
    → (u : ℕ) × Contains sources u × Contains (option_map_or (held_by setting setting.script.rules.replicas) (declared setting.script u) []) t
unfolding held
held_of setting sources t among = of_flat_map (λ (u : ℕ). option_map_or (held_by setting setting.script.rules.replicas) (declared setting.script u) []) sources t among

into_held : (setting : Setting) (sources : List ℕ) (t : Triple) (u : ℕ) → Contains sources u → Contains (option_map_or (held_by setting setting.script.rules.replicas) (declared setting.script u) []) t → Contains (held setting sources) t
unfolding held
into_held setting sources t u among own = into_flat_map (λ (v : ℕ). option_map_or (held_by setting setting.script.rules.replicas) (declared setting.script v) []) sources u t among own

at_map : (reads : List Read) (place : ℕ) (bytes : List ℕ) → slice_get (map (λ (s : Read). s.bytes) reads) place ≡ Some bytes → (one : Read) × (slice_get reads place ≡ Some one) × (one.bytes ≡ bytes)
at_map [] place bytes is = absurd (cc (is))
at_map (s ∷ reads) zero bytes is = (s, refl, cc (is))
at_map (s ∷ reads) (suc place) bytes is = at_map reads place bytes is

count_map : (reads : List Read) → length (map (λ (s : Read). s.bytes) reads) ≡ length reads
count_map [] = refl
count_map (s ∷ reads) = ap suc (count_map reads)

module _ (setting : Setting) (journal : List Entry) (lawful : IsLawfulScript setting.script) (deeds : AreDeeds setting journal) (of_bytes : IsOfBytes journal) (honest : IsHonest journal) where
  rising : Rises journal
  rising = journal_rises setting.script.rules.tick.ms journal deeds.kept

  -- what was found was put before
  found_put : (before after : List Entry) (e : Entry) → journal ≡ before ++ e ∷ after → (k : Key) → key_ulid k < 2 ^ 128 → (bytes : List ℕ) → e.op ≡ op.Get k → e.reply ≡ reply.Found bytes → WasPutBefore journal k bytes e.seq
  found_put before after e parts k small bytes asks found =
      let written : IsLawfulKey k = subst IsLawful asks (deeds.kept.lawful before after e parts) in
      let last = stood setting journal lawful deeds before (e ∷ after) parts k small written bytes (found_stands setting journal before after e honest parts k bytes asks found) in
      let inside : Contains before last.put = subst (λ es. Contains es last.put) (sym last.parts) (stands_in last.front last.back last.put) in (
        last.put,
        subst (λ es. Contains es last.put) (sym parts) (Contains-append_left before (e ∷ after) last.put inside),
        (last.puts).0,
        (last.puts).1,
        (front_is_earlier before after e last.put (subst Rises parts rising) inside).0,
      )

  put_bytes : (k : Key) (bytes : List ℕ) (number : ℕ) → WasPutBefore journal k bytes number → IsBytes bytes
  put_bytes k bytes number put =
      let at = parted journal put.0 put.1 in subst PutsBytes put.2 (of_bytes at.0 at.1 put.0 at.2).0

  abbrev Claim : ℕ → Type 0
  Claim n = (front back : List Entry) (x : Entry) → journal ≡ front ++ x ∷ back → x.seq < n → (ulid : ℕ) (text : List ℕ) → LandsPut (key.Meta ulid) text x → IsHeldPut setting journal x.seq ulid text

  module _ (n : ℕ) (claim : Claim n) (front back : List Entry) (x : Entry) (at : journal ≡ front ++ x ∷ back) (below : x.seq < suc n) (ulid : ℕ) (text : List ℕ) (puts : LandsPut (key.Meta ulid) text x)
      (m : IsObjectMade setting.script.rules (of_seat x.seat front) (key.Meta ulid) text) where
    abbrev merged : HasMerged setting.script.rules m.view m.read m.ulid m.block
    merged = m.merged

    abbrev blocks : List BlockFiles
    blocks = (given setting.script.rules m.view m.read m.ulid m.block merged).blocks

    -- an entry of the reads, where it stands
    at_read : (e : Entry) → Contains m.read e → (before : List Entry) × (after : List Entry) × (journal ≡ before ++ e ∷ after) × (e.seq < x.seq)
    at_read e among =
        let own : Contains (of_seat x.seat front) e = subst (λ es. Contains es e) (sym m.parts) (Contains-append_left m.read (m.look ∷ m.puts) e among) in
        let inside : Contains front e = (in_seat x.seat front e own).0 in
        let p = parted front e inside in
        (p.0, p.1 ++ x ∷ back, at ∙ ap (λ es. es ++ x ∷ back) p.2 ∙ append_assoc p.0 (e ∷ p.1) (x ∷ back), (front_is_earlier front back x e (subst Rises at rising) inside).0)

    object_put : (k : Key) (one : Read) → key_ulid k < 2 ^ 128 → ReadsObject m.read k one → WasPutBefore journal k one.bytes x.seq
    object_put k one small (e, among, asks, found, number) =
        let w = at_read e among in
        let p = found_put w.0 w.1 e w.2 k small one.bytes asks found in (p.0, p.1, p.2, p.3, omega (arith, p.4, w.3))

    -- the block that an input is of
    record InputOf (b : BlockFiles) : Type 0 where
      meta : Meta
      among : Contains merged.metas meta
      input : Input
      was_read : WasRead m.read meta input
      is_input : IsInput input b
      found : Found
      kept : Contains m.view.kept found
      seen : IsSeen m.read found
      same : found.meta ≡ meta

    input_of : (b : BlockFiles) → Contains blocks b → InputOf b
    input_of b among =
        let i = AllZip-first IsInput merged.inputs blocks b (given setting.script.rules m.view m.read m.ulid m.block merged).read among in
        let t = AllZip-first (WasRead m.read) merged.metas merged.inputs i.0 merged.read i.1 in
        let member = plan_among (merged.group).members merged.metas merged.planned t.0 t.1 in
        let own = member_within setting.script.rules.replicas (metas_of m.view.kept) merged.groups merged.grouped merged.group merged.among t.0 member in
        let f = of_map (λ (g : Found). g.meta) m.view.kept t.0 own in
        record {
          meta = t.0;
          among = t.1;
          input = i.0;
          was_read = t.2;
          is_input = i.2;
          found = f.0;
          kept = f.1;
          seen = kept_seen setting.script.rules m.read m.view merged.synced f.0 f.1;
          same = f.2;
        }

    module _ (b : BlockFiles) (i : InputOf b) where
      abbrev f : Found
      f = i.found

      meta_same : b.meta ≡ f.meta
      meta_same = (i.is_input).meta ∙ (i.was_read).meta_is ∙ sym i.same

      own_name : f.meta.ulid ≡ f.ulid
      own_name = named_is f.ulid (meta_of_text (i.seen).bytes) (fields_of f.meta) (i.seen).meta_is

      name : i.meta.ulid ≡ f.ulid
      name = ap (λ (y : Meta). y.ulid) (sym i.same) ∙ own_name

      seen_at : (before : List Entry) × (after : List Entry) × (journal ≡ before ++ (i.seen).read ∷ after) × ((i.seen).read.seq < x.seq)
      seen_at =
          at_read (i.seen).read
          (subst (λ es. Contains es (i.seen).read) (sym ((i.seen).parts ∙ sym (append_assoc (i.seen).front ((i.seen).looked ∷ (i.seen).middle) ((i.seen).read ∷ (i.seen).back))))
          (stands_in ((i.seen).front ++ (i.seen).looked ∷ (i.seen).middle) (i.seen).back (i.seen).read))

      abbrev put : WasMetaPut journal f.ulid (i.seen).bytes (i.seen).read.seq
      put = read_put setting journal lawful deeds honest seen_at.0 seen_at.1 (i.seen).read seen_at.2 f.ulid (i.seen).small (i.seen).bytes (i.seen).asks_meta (i.seen).shows

      holds : IsHeldPut setting journal put.put.seq f.ulid (i.seen).bytes
      holds = claim put.front put.back put.put put.at (omega (arith, put.earlier, seen_at.3, below)) f.ulid (i.seen).bytes put.puts

      sound : IsSoundPut setting journal put.put.seq f.ulid (i.seen).bytes
      sound = sound_put setting journal lawful deeds honest put.front put.back put.put put.at f.ulid (i.seen).bytes put.puts

      files_meta : holds.files.meta ≡ f.meta
      files_meta = same_meta holds.files.meta f.meta (let both = sym holds.read ∙ (i.seen).meta_is in cc (both))

      input_set : IsLabelSet b.meta.labels
      input_set =
          let same : sound.meta ≡ fields_of f.meta = let both = sym sound.read ∙ (i.seen).meta_is in cc (both) in
          subst IsLabelSet (ap (λ (y : MetaFields). y.labels) same ∙ ap (λ (y : Meta). y.labels) (sym meta_same)) (sound.sound).labels.set

      index_same : b.index ≡ holds.files.index
      index_same =
          let p = object_put (key.Index f.ulid) (i.input).index (i.seen).small (subst (λ (u : ℕ). ReadsObject m.read (key.Index u) (i.input).index) name (i.was_read).index) in
          (i.is_input).index ∙ (holds.put).one_index (i.input).index.bytes x.seq p

      segment_same : (place : ℕ) (bytes : List ℕ) → slice_get b.segments place ≡ Some bytes → slice_get holds.files.segments place ≡ Some bytes
      segment_same place bytes is =
          let r = at_map (i.input).segments place bytes (ap (λ (ss : List (List ℕ)). slice_get ss place) (sym (i.is_input).segments) ∙ is) in
          let p = object_put (key.Segment f.ulid (place + 1)) r.0 (i.seen).small (subst (λ (u : ℕ). ReadsObject m.read (key.Segment u (place + 1)) r.0) name ((i.was_read).segments place r.0 r.1)) in
          (holds.put).one_segment place bytes x.seq (subst (λ (bs : List ℕ). WasPutBefore journal (key.Segment f.ulid (place + 1)) bs x.seq) r.2 p)

      named_same : named_segments holds.files.index ≡ Some (length b.segments)
      named_same =
          ap named_segments (sym index_same ∙ (i.is_input).index) ∙ (i.was_read).named
          ∙ ap (λ (c : ℕ). Some c) (sym (ap (λ (ss : List (List ℕ)). length ss) (i.is_input).segments ∙ count_map (i.input).segments))

      these : HoldsThese setting.script.rules.replicas b (held setting b.meta.sources)
      these =
          let metas : b.meta ≡ holds.files.meta = meta_same ∙ sym files_meta in
          record {
            list = holds.list;
            content = named_content holds.files b holds.list metas index_same holds.bytes named_same segment_same holds.content;
            taken = subst (λ (y : Meta). All (Contains (held setting y.sources)) (seen_as y.labels setting.script.rules.replicas holds.list)) (sym metas) holds.taken;
            complete = subst (λ (y : Meta). All (λ t. list_any (has_same_key t) (seen_as y.labels setting.script.rules.replicas holds.list) ≡ true) (held setting y.sources)) (sym metas) holds.complete;
          }

    -- ---- the merge

    new_put : AreFilesPut journal ulid x.seq (m.block).segments (m.block).index
    new_put = new_files setting journal lawful deeds front back x at ulid text puts.0 m

    new_bytes : AreBytes m.block
    new_bytes = record {
      index = put_bytes (key.Index ulid) (m.block).index x.seq new_put.index_put;
      segments = all_members IsBytes (m.block).segments (λ bytes among.
          let p = place_of_member (m.block).segments bytes among in put_bytes (key.Segment ulid (p.0 + 1)) bytes x.seq (new_put.segments_put p.0 bytes p.1));
    }

    merged_as : AreMergedAs setting.script.rules.replicas m.ulid (merged.group).labels blocks m.block
    merged_as = record {
      bytes = all_members AreBytes blocks (λ b among. ((input_of b among).is_input).bytes);
      own = new_bytes;
      sets = all_members (λ (b : BlockFiles). IsLabelSet b.meta.labels) blocks (λ b among. input_set b (input_of b among));
      grouped = all_members (λ (b : BlockFiles). without setting.script.rules.replicas b.meta.labels ≡ (merged.group).labels) blocks (λ b among.
          let i = input_of b among in
          ap (λ (y : Meta). without setting.script.rules.replicas y.labels) ((i.is_input).meta ∙ (i.was_read).meta_is) ∙ input_labels setting.script.rules m.view m.read m.ulid m.block merged i.meta i.among);
      plan = (given setting.script.rules m.view m.read m.ulid m.block merged).plan;
      planned = (given setting.script.rules m.view m.read m.ulid m.block merged).planned;
      merged = merge setting.script.rules m.view m.read m.ulid m.block merged;
    }

    abbrev parts : List (List Triple)
    parts = map (λ (b : BlockFiles). held setting b.meta.sources) blocks

    joined : Holds setting.script.rules.replicas m.block (flat_map (λ one. one) parts)
    joined =
        merge_joins setting.script.rules.replicas m.ulid (merged.group).labels blocks m.block parts merged_as
        (zip_map (HoldsThese setting.script.rules.replicas) (λ (b : BlockFiles). held setting b.meta.sources) blocks (λ b among. these b (input_of b among)))

    abbrev all_held : List Triple
    all_held = held setting (m.block).meta.sources

    -- the inputs' sources are those of the block
    into_all : (t : Triple) → Contains (flat_map (λ one. one) parts) t → Contains all_held t
    into_all t among =
        let p = of_flat_map (λ (one : List Triple). one) parts t among in
        let b = of_map (λ (c : BlockFiles). held setting c.meta.sources) blocks p.0 p.1 in
        let own : Contains (held setting (b.0).meta.sources) t = subst (λ ts. Contains ts t) (sym b.2) p.2 in
        let u = held_of setting (b.0).meta.sources t own in
        let i = input_of b.0 b.1 in
        let inside : Contains i.meta.sources u.0 = subst (λ (y : Meta). Contains y.sources u.0) ((i.is_input).meta ∙ (i.was_read).meta_is) u.1 in
        into_held setting (m.block).meta.sources t u.0 (source_in setting.script.rules m.view m.read m.ulid m.block merged u.0 i.meta i.among inside) u.2

    of_all : (t : Triple) → Contains all_held t → Contains (flat_map (λ one. one) parts) t
    of_all t among =
        let u = held_of setting (m.block).meta.sources t among in
        let o = source_of setting.script.rules m.view m.read m.ulid m.block merged u.0 u.1 in
        let there : Contains (map (λ (c : BlockFiles). c.meta) blocks) o.0 = subst (λ (ms : List Meta). Contains ms o.0) (sym (metas_are setting.script.rules m.view m.read m.ulid m.block merged)) o.1 in
        let b = of_map (λ (c : BlockFiles). c.meta) blocks o.0 there in
        let inside : Contains (b.0).meta.sources u.0 = subst (λ (y : Meta). Contains y.sources u.0) (sym b.2) o.2 in
        into_flat_map (λ (one : List Triple). one) parts (held setting (b.0).meta.sources) t (into_map (λ (c : BlockFiles). held setting c.meta.sources) blocks b.0 b.1) (into_held setting (b.0).meta.sources t u.0 inside u.2)

    abbrev own_seen : List Triple
    own_seen = seen_in setting m.block joined.list

    is_taken : All (Contains all_held) own_seen
    is_taken = All-from_recursion (Contains all_held) own_seen (all_members (Contains all_held) own_seen (λ t among. into_all t (All-contains (Contains (flat_map (λ one. one) parts)) own_seen t (joined.one_to_one).taken among)))

    is_complete : All (λ t. list_any (has_same_key t) own_seen ≡ true) all_held
    is_complete =
        All-from_recursion (λ t. list_any (has_same_key t) own_seen ≡ true) all_held
        (all_members (λ t. list_any (has_same_key t) own_seen ≡ true) all_held (λ t among. All-contains (λ u. list_any (has_same_key u) own_seen ≡ true) (flat_map (λ one. one) parts) t (joined.one_to_one).complete (of_all t among)))

    new_sized : IfSome (told_size (m.block).meta.files) (λ size. size ≡ length (m.block).index)
    unfolding meta_with
    new_sized =
        let is = (merge setting.script.rules m.view m.read m.ulid m.block merged).block_is in
        let told : told_size (m.block).meta.files ≡ Some (length (m.block).index) = ap (λ (y : MetaFields). told_size y.files) is.meta ∙ index_told (m.block).segments (m.block).index is.small in
        subst (λ o. IfSome o (λ size. size ≡ length (m.block).index)) (sym told) refl

    new_short : AllByRecursion (λ (segment : List ℕ). length segment ≤ greatest) (m.block).segments
    new_short =
        let own = (merge setting.script.rules m.view m.read m.ulid m.block merged).block_is.files.segments_are in
        subst (AllByRecursion (λ (segment : List ℕ). length segment ≤ greatest)) (sym own.segments_are)
        (AllByRecursion-map (λ run. length (segment_text run) ≤ greatest) (λ (segment : List ℕ). length segment ≤ greatest) segment_text (λ run fits. fits) own.runs own.runs_are.fit)

    new_holds : IsHeldPut setting journal x.seq ulid text
    new_holds = record {
      files = m.block;
      read = merged_again setting journal lawful deeds honest front back x at ulid text puts m;
      put = new_put;
      bytes = new_bytes;
      sized = new_sized;
      short = new_short;
      list = joined.list;
      content = joined.content;
      taken = is_taken;
      complete = is_complete;
      once = λ new. (joined.one_to_one).once;
      gives = λ known. absurd (not_declared setting journal lawful deeds honest front back x at ulid text puts m known);
    }

  step : (n : ℕ) → Claim n → Claim (suc n)
  step n claim front back x at below ulid text puts = by (object_source setting journal deeds front back x at (key.Meta ulid) text puts.0 tt)
    where
      by : IsSource setting (of_seat x.seat front) (key.Meta ulid) text → IsHeldPut setting journal x.seq ulid text
      by (by_upload s) = shipped_holds setting journal lawful deeds front back x at ulid text puts.0 s
      by (by_compaction m) = new_holds n claim front back x at below ulid text puts m

  claimed : (n : ℕ) → Claim n
  claimed zero = λ front back x at below ulid text puts. absurd (omega (arith, below))
  claimed (suc n) = step n (claimed n)

  pub held_put : (front back : List Entry) (x : Entry) → journal ≡ front ++ x ∷ back → (ulid : ℕ) (text : List ℕ) → LandsPut (key.Meta ulid) text x → IsHeldPut setting journal x.seq ulid text
  held_put front back x at ulid text puts = claimed (suc x.seq) front back x at (omega arith) ulid text puts
