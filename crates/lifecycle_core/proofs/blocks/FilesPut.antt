-- The files with which a block was put before its meta, and that no put of the block has others.
use Rattle.base.proofs.Lists.{nil_not_middle}
use Rattle.base.proofs.Membership.{contains_later, member_cases, no_member}
use Rattle.base.proofs.Pairs.{AllZip-first}
use Rattle.std.proofs.Common.{◌≡◌, ◌≢◌, ◌⊎◌, inl, inr, ℕ, ◌+◌, List, [], ◌∷◌, ◌++◌, Contains, Some, refl, sym, ◌∙◌, ap, subst, append_assoc, arith}
use Rattle.std.specs.Prelude.{slice_get}
use Rattle.std.proofs.lemmas.List.Elements.{Contains-append_cases, Contains-append_left, Contains-append_right}
use Rattle.block_keys.specs.declared.key.Key.TheVariants as key
use Rattle.block_keys.specs.declared.object.Object.{Object}
use Rattle.block_meta.specs.MetaFields.{fields_of}
use Rattle.block_meta.specs.MetaValue.{meta_text}
use Rattle.block_meta.specs.Built.{objects_of}
use Rattle.world_core.specs.Standing.{has_landed}
use Rattle.world_core.specs.declared.op.Op.TheVariants as op
use Rattle.world_core.specs.declared.entry.Entry.{Entry}
use Rattle.script_core.specs.Lawful.{IsLawfulScript}
use Rattle.script_core.specs.declared.block.Block.{Block as Declared}
use Rattle.lifecycle_core.specs.CompactionOps.{IsObjectMade, Stores}
use Rattle.world_core.specs.Journals.{of_seat}
use Rattle.lifecycle_core.specs.PutBlocks.{WasPutBefore}
use Rattle.lifecycle_core.specs.Setting.{Setting}
use Rattle.lifecycle_core.specs.Shipped.{IsShipped}
use Rattle.lifecycle_core.proofs.blocks.Declared.{declared_ulid}
use Rattle.lifecycle_core.proofs.blocks.Objects.{before_meta, before_other, index_among, meta_last, object, object_is, segment_among}
use Rattle.lifecycle_core.proofs.blocks.OneKey.{in_done, new_is_not_declared, one_text}
use Rattle.lifecycle_core.proofs.blocks.Readable.{is_readable}
use Rattle.lifecycle_core.proofs.blocks.Whole.{IsWholeBlock}
use Rattle.lifecycle_core.proofs.deeds.Orders.{front_is_earlier, in_seat, ordered}
use Rattle.lifecycle_core.proofs.deeds.Sources.{IsShipping, IsSource, by_compaction, by_upload, object_source}
use Rattle.lifecycle_core.proofs.deeds.Words.{AreDeeds}
use Rattle.lifecycle_core.proofs.journals.Positions.{split, stands_in}
use Rattle.lifecycle_core.proofs.journals.Rising.{journal_rises}
use Rattle.lifecycle_core.proofs.journals.Standing.{parted}
use Rattle.lifecycle_core.proofs.journals.Told.{Rises}

-- These files were put before the entry of this number, and no put of the block has others.
pub record AreFilesPut (journal : List Entry) (ulid number : ℕ) (segments : List (List ℕ)) (index : List ℕ) : Type 0 where
  pub index_put : WasPutBefore journal (key.Index ulid) index number
  pub segments_put : (place : ℕ) (bytes : List ℕ) → slice_get segments place ≡ Some bytes → WasPutBefore journal (key.Segment ulid (place + 1)) bytes number
  pub one_index : (bytes : List ℕ) (later : ℕ) → WasPutBefore journal (key.Index ulid) bytes later → bytes ≡ index
  pub one_segment : (place : ℕ) (bytes : List ℕ) (later : ℕ) → WasPutBefore journal (key.Segment ulid (place + 1)) bytes later → slice_get segments place ≡ Some bytes

-- ---- the meta is the last object

module _ (ulid : ℕ) (segments : List (List ℕ)) (index text : List ℕ) where
  abbrev all : List Object
  all = objects_of ulid segments index text

  abbrev front_of : List Object
  front_of = before_meta ulid segments index

  abbrev last_of : Object
  last_of = object (key.Meta ulid) text

  no_meta : (own : ℕ) (bytes : List ℕ) → Contains front_of (object (key.Meta own) bytes) → ⊥
  no_meta own bytes among = before_other ulid segments index (object (key.Meta own) bytes) among

  -- what stands before a meta are all the others
  others_done : (done left : List Object) (own : ℕ) (bytes : List ℕ) → all ≡ done ++ object (key.Meta own) bytes ∷ left → (o : Object) → Contains all o → o.key ≢ key.Meta ulid → Contains done o
  others_done done left own bytes are o among other = by (split front_of (last_of ∷ []) done left (object (key.Meta own) bytes) (sym (meta_last ulid segments index text) ∙ are))
    where
      by : ((rest : List Object) × (front_of ≡ done ++ object (key.Meta own) bytes ∷ rest) × (left ≡ rest ++ last_of ∷ [])) ⊎ ((more : List Object) × (done ≡ front_of ++ more) × (last_of ∷ [] ≡ more ++ object (key.Meta own) bytes ∷ left)) → Contains done o
      by (inl (rest, here, two)) = absurd (no_meta own bytes (subst (λ os. Contains os (object (key.Meta own) bytes)) (sym here) (stands_in done rest (object (key.Meta own) bytes))))
      by (inr (more, here, two)) = elim (Contains-append_cases front_of (last_of ∷ []) o (subst (λ os. Contains os o) (meta_last ulid segments index text) among)) [
        | inl first ↦ subst (λ os. Contains os o) (sym here) (Contains-append_left front_of more o first)
        | inr later ↦ elim (member_cases last_of o [] later) [
          | inl same ↦ absurd (other (ap (λ (x : Object). x.key) (sym same)))
          | inr none ↦ absurd (no_member o none)
        ]
      ]

  -- and no object stands behind it
  meta_not_before : (done left : List Object) (o : Object) (own : ℕ) (bytes : List ℕ) → all ≡ done ++ o ∷ left → Contains done (object (key.Meta own) bytes) → ⊥
  meta_not_before done left o own bytes are among =
      let at = parted done (object (key.Meta own) bytes) among in
      let whole : front_of ++ last_of ∷ [] ≡ at.0 ++ object (key.Meta own) bytes ∷ (at.1 ++ o ∷ left) =
      sym (meta_last ulid segments index text) ∙ are ∙ ap (λ os. os ++ o ∷ left) at.2 ∙ append_assoc at.0 (object (key.Meta own) bytes ∷ at.1) (o ∷ left) in
      by at.0 (at.1) (split front_of (last_of ∷ []) at.0 (at.1 ++ o ∷ left) (object (key.Meta own) bytes) whole)
    where
      by : (f g : List Object) → ((rest : List Object) × (front_of ≡ f ++ object (key.Meta own) bytes ∷ rest) × (g ++ o ∷ left ≡ rest ++ last_of ∷ [])) ⊎ ((more : List Object) × (f ≡ front_of ++ more) × (last_of ∷ [] ≡ more ++ object (key.Meta own) bytes ∷ (g ++ o ∷ left))) → ⊥
      by f g (inl (rest, here, two)) = no_meta own bytes (subst (λ os. Contains os (object (key.Meta own) bytes)) (sym here) (stands_in f rest (object (key.Meta own) bytes)))
      by f g (inr ([], here, two)) = nil_not_middle o g left (cc (two))
      by f g (inr (y ∷ more, here, two)) = nil_not_middle (object (key.Meta own) bytes) more (g ++ o ∷ left) (cc (two))

-- ---- in a journal

module _ (setting : Setting) (journal : List Entry) (lawful : IsLawfulScript setting.script) (deeds : AreDeeds setting journal) where
  rising : Rises journal
  rising = journal_rises setting.script.rules.tick.ms journal deeds.kept

  stored_before : (front back : List Entry) (x : Entry) → journal ≡ front ++ x ∷ back → (o : Object) → (e : Entry) → Contains (of_seat x.seat front) e → Stores e o → WasPutBefore journal o.key o.bytes x.seq
  stored_before front back x at o e own stores =
      let inside : Contains front e = (in_seat x.seat front e own).0 in
      (e, subst (λ es. Contains es e) (sym at) (Contains-append_left front (x ∷ back) e inside), stores.0, ap has_landed stores.1, (front_is_earlier front back x e (subst Rises at rising) inside).0)

  module _ (front back : List Entry) (x : Entry) (at : journal ≡ front ++ x ∷ back) (ulid : ℕ) (bytes : List ℕ) (puts : x.op ≡ op.Put (key.Meta ulid) bytes) (segments : List (List ℕ)) (index text : List ℕ) where
    -- each object but the meta was stored
    abbrev AllStored : Type 0
    AllStored = (o : Object) → Contains (objects_of ulid segments index text) o → o.key ≢ key.Meta ulid → WasPutBefore journal o.key o.bytes x.seq

    -- a put of a segment, at some entry, is of one of these
    abbrev AllSegments : Type 0
    AllSegments = (place : ℕ) (b : List ℕ) (e : Entry) → Contains journal e → e.op ≡ op.Put (key.Segment ulid (place + 1)) b → slice_get segments place ≡ Some b

    files_put : AllStored → AllSegments → AreFilesPut journal ulid x.seq segments index
    files_put stored each =
        let first : WasPutBefore journal (key.Index ulid) index x.seq = stored (object (key.Index ulid) index) (index_among ulid segments index text) (λ is. cc (is)) in
        record {
          index_put = first;
          segments_put = λ place b is. stored (object (key.Segment ulid (place + 1)) b) (segment_among ulid segments index text place b is) (λ no. cc (no));
          one_index = λ b later put. one_text setting journal lawful deeds put.0 first.0 put.1 first.1 (key.Index ulid) b index put.2 first.2 tt;
          one_segment = λ place b later put. each place b put.0 put.1 put.2;
        }

    segment_of : (place : ℕ) (b : List ℕ) → Contains (objects_of ulid segments index text) (object (key.Segment ulid (place + 1)) b) → slice_get segments place ≡ Some b
    segment_of place b among =
        let is = object_is ulid segments index text (key.Segment ulid (place + 1)) b among in
        let same : is.1 ≡ place = omega (arith, is.2) in
        subst (λ (n : ℕ). slice_get segments n ≡ Some b) same is.3

  -- ---- declared blocks

  module _ (front back : List Entry) (x : Entry) (at : journal ≡ front ++ x ∷ back) (ulid : ℕ) (bytes : List ℕ) (puts : x.op ≡ op.Put (key.Meta ulid) bytes) (s : IsShipping setting (of_seat x.seat front) (key.Meta ulid) bytes) where
    pub shipped_whole : IsWholeBlock setting s.is.block s.is.objects
    shipped_whole = (is_readable setting lawful).whole ulid s.is.block s.is.is s.is.objects s.is.shipped

    abbrev w : IsWholeBlock setting s.is.block s.is.objects
    w = shipped_whole

    same_ulid : s.is.block.ulid ≡ ulid
    same_ulid = declared_ulid setting ulid s.is.block s.is.is

    objects_are : s.is.objects ≡ objects_of ulid w.segments w.index (meta_text w.meta)
    objects_are = w.are ∙ ap (λ (u : ℕ). objects_of u w.segments w.index (meta_text w.meta)) same_ulid

    shipped_stored : AllStored front back x at ulid bytes puts w.segments w.index (meta_text w.meta)
    shipped_stored o among other =
        let done = others_done ulid w.segments w.index (meta_text w.meta) s.done s.left ulid bytes (sym objects_are ∙ s.objects) o among other in
        let e = s.stored o done in
        stored_before front back x at o e.0 e.1 e.2

    shipped_segments : AllSegments front back x at ulid bytes puts w.segments w.index (meta_text w.meta)
    shipped_segments place b e among asks =
        let here = parted journal e among in by here.0 here.1 here.2 (object_source setting journal deeds here.0 here.1 e here.2 (key.Segment ulid (place + 1)) b asks tt)
      where
        by : (before after : List Entry) (is : journal ≡ before ++ e ∷ after) → IsSource setting (of_seat e.seat before) (key.Segment ulid (place + 1)) b → slice_get w.segments place ≡ Some b
        by before after is (by_upload t) =
            let blocks : t.is.block ≡ s.is.block = let both = sym t.is.is ∙ s.is.is in cc (both) in
            let also : IsShipped setting s.is.block t.is.objects = subst (λ (d : Declared). IsShipped setting d t.is.objects) blocks t.is.shipped in
            let objects : t.is.objects ≡ s.is.objects = (is_readable setting lawful).once ulid s.is.block s.is.is t.is.objects s.is.objects also s.is.shipped in
            segment_of front back x at ulid bytes puts w.segments w.index (meta_text w.meta) place b (subst (λ os. Contains os (object (key.Segment ulid (place + 1)) b)) (objects ∙ objects_are) t.is.among)
        by before after is (by_compaction n) = absurd (new_is_not_declared setting journal lawful deeds before after e is (key.Segment ulid (place + 1)) b n s.is.block s.is.is)

    pub shipped_files : AreFilesPut journal ulid x.seq w.segments w.index
    shipped_files = files_put front back x at ulid bytes puts w.segments w.index (meta_text w.meta) shipped_stored shipped_segments

  -- ---- new blocks

  module _ (front back : List Entry) (x : Entry) (at : journal ≡ front ++ x ∷ back) (ulid : ℕ) (bytes : List ℕ) (puts : x.op ≡ op.Put (key.Meta ulid) bytes) (m : IsObjectMade setting.script.rules (of_seat x.seat front) (key.Meta ulid) bytes) where
    abbrev text : List ℕ
    text = meta_text (fields_of (m.block).meta)

    abbrev made : List Object
    made = objects_of m.ulid (m.block).segments (m.block).index text

    new_ulid_is : ulid ≡ m.ulid
    new_ulid_is =
        (object_is m.ulid (m.block).segments (m.block).index text (key.Meta ulid) bytes (subst (λ os. Contains os (object (key.Meta ulid) bytes)) (sym m.objects) (stands_in m.done m.left (object (key.Meta ulid) bytes)))).0

    objects_made : objects_of ulid (m.block).segments (m.block).index text ≡ made
    objects_made = ap (λ (u : ℕ). objects_of u (m.block).segments (m.block).index text) new_ulid_is

    new_stored : AllStored front back x at ulid bytes puts (m.block).segments (m.block).index text
    new_stored o among other =
        let done = others_done ulid (m.block).segments (m.block).index text m.done m.left ulid bytes (objects_made ∙ m.objects) o among other in
        let e = AllZip-first Stores m.puts m.done o m.stored done in
        let own : Contains (of_seat x.seat front) e.0 = subst (λ es. Contains es e.0) (sym m.parts) (in_puts m.read m.look m.puts e.0 e.1) in
        stored_before front back x at o e.0 own e.2
      where
        in_puts : (read : List Entry) (look : Entry) (ps : List Entry) (e : Entry) → Contains ps e → Contains (read ++ look ∷ ps) e
        in_puts read look ps e among = Contains-append_right read (look ∷ ps) e (contains_later look e ps among)

    new_segments : AllSegments front back x at ulid bytes puts (m.block).segments (m.block).index text
    new_segments place b e among asks =
        let here = parted journal e among in by here.0 here.1 here.2 (object_source setting journal deeds here.0 here.1 e here.2 (key.Segment ulid (place + 1)) b asks tt)
      where
        inside_x : Contains journal x
        inside_x = subst (λ es. Contains es x) (sym at) (stands_in front back x)

        both : (before after : List Entry) (is : journal ≡ before ++ e ∷ after) → IsObjectMade setting.script.rules (of_seat e.seat before) (key.Segment ulid (place + 1)) b → slice_get (m.block).segments place ≡ Some b
        both before after is n = elim (ordered journal rising e x among inside_x) [
          | inl (inl first) ↦
              let done = in_done setting journal lawful deeds front back x at before after e is (key.Meta ulid) (key.Segment ulid (place + 1)) bytes b refl asks m n first in
              segment_of front back x at ulid bytes puts (m.block).segments (m.block).index text place b
              (subst (λ os. Contains os (object (key.Segment ulid (place + 1)) b)) (sym (objects_made ∙ m.objects)) (Contains-append_left m.done (object (key.Meta ulid) bytes ∷ m.left) (object (key.Segment ulid (place + 1)) b) done))
          | inl (inr second) ↦
              let done = in_done setting journal lawful deeds before after e is front back x at (key.Segment ulid (place + 1)) (key.Meta ulid) b bytes refl puts n m second in
              absurd (meta_not_before n.ulid (n.block).segments (n.block).index (meta_text (fields_of (n.block).meta)) n.done n.left (object (key.Segment ulid (place + 1)) b) ulid bytes n.objects done)
          | inr same ↦ absurd (let no : op.Put (key.Segment ulid (place + 1)) b ≡ op.Put (key.Meta ulid) bytes = sym asks ∙ ap (λ (y : Entry). y.op) same ∙ puts in cc (no))
        ]

        by : (before after : List Entry) (is : journal ≡ before ++ e ∷ after) → IsSource setting (of_seat e.seat before) (key.Segment ulid (place + 1)) b → slice_get (m.block).segments place ≡ Some b
        by before after is (by_upload t) = absurd (new_is_not_declared setting journal lawful deeds front back x at (key.Meta ulid) bytes m t.is.block t.is.is)
        by before after is (by_compaction n) = both before after is n

    pub new_files : AreFilesPut journal ulid x.seq (m.block).segments (m.block).index
    new_files = files_put front back x at ulid bytes puts (m.block).segments (m.block).index text new_stored new_segments
