-- What the meta of a complete block says.
use Rattle.std.proofs.Common.{◌≡◌, ◌≢◌, ◌⊎◌, inl, inr, ℕ, zero, suc, ◌<◌, ◌^◌, true, is_some, List, [], ◌∷◌, ◌++◌, Contains, Some, sym, ◌∙◌, ap, subst, append_assoc, arith}
use Rattle.std.specs.Prelude.{pos}
use Rattle.std.specs.List.{All}
use Rattle.std.specs.List.Sorted.{IsStrictlyIncreasing}
use Rattle.std.proofs.lemmas.List.Elements.{All-cons, All-contains, All-from_recursion, All-nil}
use Rattle.base.proofs.Membership.{all_members, of_map}
use Rattle.base.proofs.Integers.{le_le, le_itself}
use Rattle.base.proofs.Rising.{one_rises}
use Rattle.block_keys.specs.declared.key.Key.TheVariants as key
use Rattle.block_meta.specs.MetaFields.{MetaFields, fields_of}
use Rattle.block_meta.specs.MetaReading.{meta_of_text}
use Rattle.block_meta.specs.MetaText.{IsMetaText}
use Rattle.block_meta.specs.MetaValue.{meta_text}
use Rattle.block_meta.specs.OfBlocks.{block_meta}
use Rattle.block_meta.specs.declared.meta.Meta.{Meta}
use Rattle.block_meta.proofs.FoundTexts.{meta_text_only}
use Rattle.sync_filters.specs.Filters.{is_late_source}
use Rattle.sync_filters.specs.declared.found.Found.{Found}
use Rattle.world_core.specs.Standing.{IsHonest}
use Rattle.world_core.specs.declared.op.Op.TheVariants as op
use Rattle.world_core.specs.declared.reply.Reply.TheVariants as reply
use Rattle.world_core.specs.declared.entry.Entry.{Entry}
use Rattle.compactor.specs.Compactions.{metas_of}
use Rattle.script_core.specs.Lawful.{AreLawfulLabels, IsLawfulScript}
use Rattle.lifecycle_core.specs.CompactionOps.{HasMerged, IsObjectMade}
use Rattle.lifecycle_core.specs.Sights.{IsSeen}
use Rattle.lifecycle_core.proofs.activities.CompactionGroups.{plan_among, named_is}
use Rattle.lifecycle_core.specs.Completed.{IsCompletedAt}
use Rattle.world_core.specs.Journals.{of_seat}
use Rattle.lifecycle_core.specs.PutBlocks.{LiesWithin, WasPutBefore}
use Rattle.lifecycle_core.specs.Setting.{Setting}
use Rattle.lifecycle_core.proofs.blocks.Declared.{declared_lawful}
use Rattle.lifecycle_core.proofs.blocks.FirstPuts.{FirstPut, complete_from, first_put}
use Rattle.lifecycle_core.proofs.blocks.NewMetas.{IsSound, input_times, meta_is_read, named_again, new_read, new_sound, new_source, new_ulid_is, source_of}
use Rattle.lifecycle_core.proofs.blocks.Objects.{object, object_is}
use Rattle.lifecycle_core.proofs.blocks.OneKey.{one_text}
use Rattle.lifecycle_core.proofs.blocks.PlanMembers.{member_within}
use Rattle.lifecycle_core.proofs.blocks.Readable.{is_readable}
use Rattle.lifecycle_core.proofs.deeds.Orders.{front_is_earlier, stands_whole}
use Rattle.lifecycle_core.proofs.deeds.Sources.{IsSource, by_compaction, by_upload, object_source, put_is_small}
use Rattle.lifecycle_core.proofs.deeds.Stood.{LandsPut, found_stands, stood}
use Rattle.lifecycle_core.proofs.deeds.Words.{AreDeeds}
use Rattle.lifecycle_core.proofs.journals.Positions.{stands_in}
use Rattle.lifecycle_core.proofs.journals.Rising.{journal_rises}
use Rattle.lifecycle_core.proofs.journals.Told.{IsShippedObject, Rises}
use Rattle.lifecycle_core.proofs.marks.Reasons.{kept_seen}
use Rattle.lifecycle_core.proofs.views.Metas.{meta_found}

pub record IsKnown (setting : Setting) (journal : List Entry) (ulid seq : ℕ) (meta : MetaFields) : Type 0 where
  pub small : ulid < 2 ^ 128
  pub own : meta.ulid ≡ ulid
  pub whole : meta.resolution ≡ pos 0
  pub ascend : IsStrictlyIncreasing meta.sources
  pub some : meta.sources ≢ []
  -- it was compacted, or is its own source
  pub origin : (is_late_source meta.source ≡ true) ⊎ (meta.sources ≡ ulid ∷ [])
  pub sources : All (LiesWithin setting journal seq meta) meta.sources
  -- each put of its meta is read as this meta
  pub read : (e : Entry) (bytes : List ℕ) → Contains journal e → e.op ≡ op.Put (key.Meta ulid) bytes → block_meta ulid bytes ≡ Some meta

-- ---- times and texts

pub one_meta : (bytes : List ℕ) (one other : MetaFields) → IsMetaText bytes one → IsMetaText bytes other → one ≡ other
one_meta bytes one other is so = let both = sym (meta_text_only bytes one is) ∙ meta_text_only bytes other so in cc (both)

-- ---- puts of metas

-- What is known of a put of a meta that landed.
pub record IsSoundPut (setting : Setting) (journal : List Entry) (number ulid : ℕ) (bytes : List ℕ) : Type 0 where
  pub meta : MetaFields
  pub read : block_meta ulid bytes ≡ Some meta
  pub sound : IsSound meta
  pub origin : (is_late_source meta.source ≡ true) ⊎ (meta.sources ≡ ulid ∷ [])
  pub sources : All (LiesWithin setting journal number meta) meta.sources

-- A put of the meta that landed before.
pub record WasMetaPut (journal : List Entry) (ulid : ℕ) (bytes : List ℕ) (number : ℕ) : Type 0 where
  pub front : List Entry
  pub put : Entry
  pub back : List Entry
  pub at : journal ≡ front ++ put ∷ back
  pub puts : LandsPut (key.Meta ulid) bytes put
  pub earlier : put.seq < number

-- What is known of an input of a merge.
record IsSoundInput (setting : Setting) (journal : List Entry) (limit : ℕ) (meta : MetaFields) : Type 0 where
  number : ℕ
  earlier : number < limit
  sound : IsSound meta
  sources : All (LiesWithin setting journal number meta) meta.sources

module _ (setting : Setting) (journal : List Entry) (lawful : IsLawfulScript setting.script) (deeds : AreDeeds setting journal) (honest : IsHonest journal) where
  rising : Rises journal
  rising = journal_rises setting.script.rules.tick.ms journal deeds.kept

  -- a meta that was found was put before
  pub read_put : (before after : List Entry) (e : Entry) → journal ≡ before ++ e ∷ after → (ulid : ℕ) → ulid < 2 ^ 128 → (bytes : List ℕ) → e.op ≡ op.Get (key.Meta ulid) → e.reply ≡ reply.Found bytes → WasMetaPut journal ulid bytes e.seq
  read_put before after e parts ulid small bytes asks found =
      let last = stood setting journal lawful deeds before (e ∷ after) parts (key.Meta ulid) small tt bytes (found_stands setting journal before after e honest parts (key.Meta ulid) bytes asks found) in
      let inside : Contains before last.put = subst (λ es. Contains es last.put) (sym last.parts) (stands_in last.front last.back last.put) in
      record {
        front = last.front;
        put = last.put;
        back = last.back ++ e ∷ after;
        at = parts ∙ ap (λ es. es ++ e ∷ after) last.parts ∙ append_assoc last.front (last.put ∷ last.back) (e ∷ after);
        puts = last.puts;
        earlier = (front_is_earlier before after e last.put (subst Rises parts rising) inside).0;
      }

  -- of each put up to a number
  abbrev Claim : ℕ → Type 0
  Claim n = (front back : List Entry) (x : Entry) → journal ≡ front ++ x ∷ back → x.seq < n → (ulid : ℕ) (bytes : List ℕ) → LandsPut (key.Meta ulid) bytes x → IsSoundPut setting journal x.seq ulid bytes

  module _ (front back : List Entry) (x : Entry) (at : journal ≡ front ++ x ∷ back) (ulid : ℕ) (bytes : List ℕ) (puts : LandsPut (key.Meta ulid) bytes x) where
    small : ulid < 2 ^ 128
    small = put_is_small setting journal deeds front back x at lawful (key.Meta ulid) bytes puts.0

    inside : Contains journal x
    inside = subst (λ es. Contains es x) (sym at) (stands_in front back x)

    -- that of a declared block
    shipped_put : IsShippedObject setting (key.Meta ulid) bytes → IsSoundPut setting journal x.seq ulid bytes
    shipped_put o =
        let found = meta_found setting (is_readable setting lawful) ulid bytes o in
        let meta : MetaFields = found.0 in
        let is = found.2 in
        let first : FirstPut journal ulid x = first_put journal rising ulid x inside (bytes, puts.0, puts.1) in
        let there : Contains journal first.entry = subst (λ es. Contains es first.entry) (sym first.parts) (stands_in first.front first.back first.entry) in
        let same : (first.puts).0 ≡ bytes = one_text setting journal lawful deeds first.entry x there inside (key.Meta ulid) (first.puts).0 bytes (first.puts).1 puts.0 tt in
        let text : IsMetaText bytes meta = meta_is_read ulid bytes meta found.1 in
        let complete : IsCompletedAt journal ulid first.entry.seq meta = complete_from journal ulid x first meta (subst (λ b. IsMetaText b meta) (sym same) text) in
        let lies : LiesWithin setting journal x.seq meta ulid = record {
          uploaded = record { is_declared = ap is_some is.is; seq = first.entry.seq; meta = meta; completed = complete; earlier = omega (arith, first.upto) };
          from = le_itself meta.min_time;
          upto = le_itself meta.max_time;
        } in
        record {
          meta = meta;
          read = found.1;
          sound = record {
            small = subst (λ (u : ℕ). u < 2 ^ 128) (sym is.own) small;
            times = text.is.times;
            whole = ap (λ (m : MetaFields). m.resolution) is.meta_is ∙ (is.whole).whole;
            ascend = subst IsStrictlyIncreasing (sym is.sources) (one_rises ulid);
            some = λ none. (let no : ulid ∷ [] ≡ [] = sym is.sources ∙ none in cc (no));
            sources = subst (All (λ (u : ℕ). u < 2 ^ 128)) (sym is.sources) (All-cons (λ (u : ℕ). u < 2 ^ 128) ulid [] small (All-nil (λ (u : ℕ). u < 2 ^ 128)));
            labels = subst AreLawfulLabels (sym is.labels) (declared_lawful setting ulid is.block is.is lawful).labels;
          };
          origin = inr is.sources;
          sources = subst (All (LiesWithin setting journal x.seq meta)) (sym is.sources) (All-cons (LiesWithin setting journal x.seq meta) ulid [] lies (All-nil (LiesWithin setting journal x.seq meta)));
        }

    -- that of a block that was compacted
    module _ (n : ℕ) (claim : Claim n) (below : x.seq < suc n) (m : IsObjectMade setting.script.rules (of_seat x.seat front) (key.Meta ulid) bytes) where
      abbrev merged : HasMerged setting.script.rules m.view m.read m.ulid m.block
      merged = m.merged

      abbrev text : List ℕ
      text = meta_text (fields_of (m.block).meta)

      own_is : (ulid ≡ m.ulid) × (bytes ≡ text)
      own_is = object_is m.ulid (m.block).segments (m.block).index text (key.Meta ulid) bytes (subst (λ os. Contains os (object (key.Meta ulid) bytes)) (sym m.objects) (stands_in m.done m.left (object (key.Meta ulid) bytes)))

      input_seen : (meta : Meta) → Contains merged.metas meta → (f : Found) × IsSeen m.read f × (f.meta ≡ meta)
      input_seen meta among =
          let member = plan_among (merged.group).members merged.metas merged.planned meta among in
          let own = member_within setting.script.rules.replicas (metas_of m.view.kept) merged.groups merged.grouped merged.group merged.among meta member in
          let f = of_map (λ (b : Found). b.meta) m.view.kept meta own in
          (f.0, kept_seen setting.script.rules m.read m.view merged.synced f.0 f.1, f.2)

      seen_sound : (f : Found) → IsSeen m.read f → IsSoundInput setting journal x.seq (fields_of f.meta)
      seen_sound f s =
          let first : List Entry = s.front ++ s.looked ∷ s.middle in
          let last : List Entry = s.back ++ m.look ∷ m.puts in
          let own_parts : of_seat x.seat front ≡ first ++ s.read ∷ last =
          m.parts ∙ ap (λ es. es ++ m.look ∷ m.puts) (s.parts ∙ sym (append_assoc s.front (s.looked ∷ s.middle) (s.read ∷ s.back))) ∙ append_assoc first (s.read ∷ s.back) (m.look ∷ m.puts) in
          let w = stands_whole x.seat front first last s.read own_parts in
          let here : journal ≡ w.before ++ s.read ∷ (w.after ++ x ∷ back) = at ∙ ap (λ es. es ++ x ∷ back) w.parts ∙ append_assoc w.before (s.read ∷ w.after) (x ∷ back) in
          let p = read_put w.before (w.after ++ x ∷ back) s.read here f.ulid s.small s.bytes s.asks_meta s.shows in
          let among : Contains front s.read = subst (λ es. Contains es s.read) (sym w.parts) (stands_in w.before w.after s.read) in
          let early : s.read.seq < x.seq = (front_is_earlier front back x s.read (subst Rises at rising) among).0 in
          let put = claim p.front p.back p.put p.at (omega (arith, p.earlier, early, below)) f.ulid s.bytes p.puts in
          let same : put.meta ≡ fields_of f.meta = let both = sym put.read ∙ s.meta_is in cc (both) in
          subst (IsSoundInput setting journal x.seq) same (record { number = p.put.seq; earlier = omega (arith, p.earlier, early); sound = put.sound; sources = put.sources })

      input : (meta : Meta) → Contains merged.metas meta → IsSoundInput setting journal x.seq (fields_of meta)
      input meta among = let f = input_seen meta among in subst (λ (y : Meta). IsSoundInput setting journal x.seq (fields_of y)) f.2 (seen_sound f.0 f.1)

      new_lies : (u : ℕ) → Contains (m.block).meta.sources u → LiesWithin setting journal x.seq (fields_of (m.block).meta) u
      new_lies u among =
          let o = source_of setting.script.rules m.view m.read m.ulid m.block merged u among in
          let i = input o.0 o.1 in
          let l = All-contains (LiesWithin setting journal i.number (fields_of o.0)) (o.0).sources u i.sources o.2 in
          let t = input_times setting.script.rules m.view m.read m.ulid m.block merged o.0 o.1 in
          record {
            uploaded = record {
              is_declared = l.uploaded.is_declared;
              seq = l.uploaded.seq;
              meta = l.uploaded.meta;
              completed = l.uploaded.completed;
              earlier = omega (arith, l.uploaded.earlier, i.earlier);
            };
            from = le_le (m.block).meta.min_time (o.0).min_time l.uploaded.meta.min_time t.0 l.from;
            upto = le_le l.uploaded.meta.max_time (o.0).max_time (m.block).meta.max_time l.upto t.1;
          }

      tiny : m.ulid < 2 ^ 128
      tiny = subst (λ (u : ℕ). u < 2 ^ 128) own_is.0 small

      inputs : (meta : Meta) → Contains merged.metas meta → IsSound (fields_of meta)
      inputs meta among = (input meta among).sound

      new_again : block_meta ulid bytes ≡ Some (fields_of (m.block).meta)
      new_again =
          named_again ulid (meta_of_text bytes) (fields_of (m.block).meta) (ap meta_of_text own_is.1 ∙ new_read setting.script.rules m.view m.read m.ulid m.block merged tiny inputs)
          (new_ulid_is setting.script.rules m.view m.read m.ulid m.block merged ∙ sym own_is.0)

      compacted_put : IsSoundPut setting journal x.seq ulid bytes
      compacted_put =
          record {
            meta = fields_of (m.block).meta;
            read = new_again;
            sound = new_sound setting.script.rules m.view m.read m.ulid m.block merged tiny inputs;
            origin = inl (ap is_late_source (new_source setting.script.rules m.view m.read m.ulid m.block merged));
            sources = All-from_recursion (LiesWithin setting journal x.seq (fields_of (m.block).meta)) (m.block).meta.sources (all_members (LiesWithin setting journal x.seq (fields_of (m.block).meta)) (m.block).meta.sources new_lies);
          }

  step : (n : ℕ) → Claim n → Claim (suc n)
  step n claim front back x at below ulid bytes puts = by (object_source setting journal deeds front back x at (key.Meta ulid) bytes puts.0 tt)
    where
      by : IsSource setting (of_seat x.seat front) (key.Meta ulid) bytes → IsSoundPut setting journal x.seq ulid bytes
      by (by_upload s) = shipped_put front back x at ulid bytes puts s.is
      by (by_compaction m) = compacted_put front back x at ulid bytes puts n claim below m

  claimed : (n : ℕ) → Claim n
  claimed zero = λ front back x at below ulid bytes puts. absurd (omega (arith, below))
  claimed (suc n) = step n (claimed n)

  pub sound_put : (front back : List Entry) (x : Entry) → journal ≡ front ++ x ∷ back → (ulid : ℕ) (bytes : List ℕ) → LandsPut (key.Meta ulid) bytes x → IsSoundPut setting journal x.seq ulid bytes
  sound_put front back x at ulid bytes puts = claimed (suc x.seq) front back x at (omega arith) ulid bytes puts

  -- the meta of a block that was compacted is read as the block's
  pub merged_again : (front back : List Entry) (x : Entry) (at : journal ≡ front ++ x ∷ back) (ulid : ℕ) (bytes : List ℕ) → LandsPut (key.Meta ulid) bytes x → (m : IsObjectMade setting.script.rules (of_seat x.seat front) (key.Meta ulid) bytes)
      → block_meta ulid bytes ≡ Some (fields_of (m.block).meta)
  merged_again front back x at ulid bytes puts m = new_again front back x at ulid bytes puts x.seq (claimed x.seq) (omega arith) m

pub complete_is_known : (setting : Setting) (journal : List Entry) → IsLawfulScript setting.script → AreDeeds setting journal → IsHonest journal → (ulid seq : ℕ) (meta : MetaFields) → IsCompletedAt journal ulid seq meta → IsKnown setting journal ulid seq meta
complete_is_known setting journal lawful deeds honest ulid seq meta c =
    let s = sound_put setting journal lawful deeds honest c.before c.after c.entry c.is ulid c.bytes (c.puts, c.landed) in
    let same : s.meta ≡ meta = one_meta c.bytes s.meta meta (meta_is_read ulid c.bytes s.meta s.read) c.text in
    let there : Contains journal c.entry = subst (λ es. Contains es c.entry) (sym c.is) (stands_in c.before c.after c.entry) in
    let known : IsKnown setting journal ulid c.entry.seq s.meta = record {
      small = put_is_small setting journal deeds c.before c.after c.entry c.is lawful (key.Meta ulid) c.bytes c.puts;
      own = named_is ulid (meta_of_text c.bytes) s.meta s.read;
      whole = (s.sound).whole;
      ascend = (s.sound).ascend;
      some = (s.sound).some;
      origin = s.origin;
      sources = s.sources;
      read = λ e bytes among puts.
          let text : c.bytes ≡ bytes = one_text setting journal lawful deeds c.entry e there among (key.Meta ulid) c.bytes bytes c.puts puts tt in
          subst (λ b. block_meta ulid b ≡ Some s.meta) text s.read;
    } in
    subst (λ (n : ℕ). IsKnown setting journal ulid n meta) c.number (subst (IsKnown setting journal ulid c.entry.seq) same known)

-- a block whose meta was put before an entry was complete before it
pub put_is_complete : (setting : Setting) (journal : List Entry) → IsLawfulScript setting.script → AreDeeds setting journal → IsHonest journal → (ulid number : ℕ) (bytes : List ℕ) → WasPutBefore journal (key.Meta ulid) bytes number
    → (seq : ℕ) × (meta : MetaFields) × IsCompletedAt journal ulid seq meta × (seq < number) × (block_meta ulid bytes ≡ Some meta)
put_is_complete setting journal lawful deeds honest ulid number bytes (e, among, puts, landed, below) =
    let first : FirstPut journal ulid e = first_put journal (rising setting journal lawful deeds honest) ulid e among (bytes, puts, landed) in
    let there : Contains journal first.entry = subst (λ es. Contains es first.entry) (sym first.parts) (stands_in first.front first.back first.entry) in
    let s = sound_put setting journal lawful deeds honest first.front first.back first.entry first.parts ulid (first.puts).0 ((first.puts).1, (first.puts).2) in
    let same : (first.puts).0 ≡ bytes = one_text setting journal lawful deeds first.entry e there among (key.Meta ulid) (first.puts).0 bytes (first.puts).1 puts tt in (
      first.entry.seq,
      s.meta,
      complete_from journal ulid e first s.meta (meta_is_read ulid (first.puts).0 s.meta s.read),
      omega (arith, first.upto, below),
      subst (λ b. block_meta ulid b ≡ Some s.meta) same s.read,
    )
