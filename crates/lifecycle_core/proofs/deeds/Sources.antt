-- By whom an object was put or deleted.
use Rattle.base.proofs.Membership.{no_member}
use Rattle.std.proofs.Common.{◌≡◌, inl, inr, ℕ, zero, suc, ◌<◌, ◌^◌, List, [], ◌∷◌, ◌++◌, length, Contains, Option, Some, None, refl, sym, ◌∙◌, ap, subst, append_assoc, arith}
use Rattle.std.proofs.lemmas.List.Elements.{All-contains, Contains-append_cases, Contains-append_left}
use Rattle.block_keys.specs.Keys.{key_ulid}
use Rattle.block_keys.specs.declared.key.Key.{Key}
use Rattle.block_keys.specs.declared.key.Key.TheVariants as key
use Rattle.block_keys.specs.declared.object.Object.{Object}
use Rattle.block_meta.specs.Built.{objects_of}
use Rattle.block_meta.specs.MetaFields.{fields_of}
use Rattle.block_meta.specs.MetaValue.{meta_text}
use Rattle.world_core.specs.Plans.{Runs, ends as comes_to}
use Rattle.world_core.specs.declared.op.Op.{Op}
use Rattle.world_core.specs.declared.op.Op.TheVariants as op
use Rattle.world_core.specs.declared.entry.Entry.{Entry}
use Rattle.world_core.proofs.PlanLaws.{AsksFor, asked_are}
use Rattle.world_core.proofs.PlanWords.{gets_ask, puts_ask}
use Rattle.shipper.specs.Uploads.{putting, upload}
use Rattle.shipper.specs.declared.upload.UploadEnd.{UploadEnd}
use Rattle.shipper.specs.declared.upload.UploadEnd.TheVariants.{Already, Fault}
use Rattle.cleaner.specs.Cleanings.{CleanRun}
use Rattle.compactor.specs.Compactions.{CompactRun}
use Rattle.compactor.specs.NewBlocks.{new_ulid}
use Rattle.moment_core.specs.declared.moment.Moment.{Moment}
use Rattle.ulid_core.specs.Limits.{ulid_time_limit}
use Rattle.script_core.specs.Lawful.{IsLawfulScript}
use Rattle.script_core.specs.declared.block.Block.{Block}
use Rattle.lifecycle_core.specs.CleaningOps.{IsCleanOp, IsDeleting}
use Rattle.lifecycle_core.specs.CompactionOps.{IsCompactOp, IsMarkMade, IsObjectMade, Stores}
use Rattle.lifecycle_core.proofs.activities.CleaningAsks.{cleaning_op, each_at}
use Rattle.lifecycle_core.specs.Acting.{IsReading}
use Rattle.world_core.specs.Journals.{of_seat}
use Rattle.lifecycle_core.specs.Held.{declared}
use Rattle.lifecycle_core.specs.Setting.{Setting}
use Rattle.lifecycle_core.specs.Shipped.{IsShipped}
use Rattle.lifecycle_core.specs.TimeRules.{IsBlockObject}
use Rattle.lifecycle_core.proofs.blocks.Declared.{declared_ulid}
use Rattle.lifecycle_core.proofs.blocks.Objects.{object_is, object_ulid}
use Rattle.lifecycle_core.proofs.blocks.OneShipped.{ends_with_meta}
use Rattle.lifecycle_core.proofs.blocks.Readable.{is_readable}
use Rattle.lifecycle_core.proofs.activities.CompactionAsks.{compaction_op}
use Rattle.lifecycle_core.proofs.deeds.Fronts.{at_seat, done_at}
use Rattle.lifecycle_core.proofs.deeds.Orders.{in_seat}
use Rattle.lifecycle_core.proofs.deeds.Words.{AreDeeds, Compacts, Deed, Done, IsClock, cleaning, cleans, clocking, clocks, compacting, compacts, reading, reads, shipping, ships}
use Rattle.lifecycle_core.proofs.journals.Positions.{stands_in}
use Rattle.lifecycle_core.proofs.journals.Standing.{parted}
use Rattle.lifecycle_core.proofs.journals.Told.{IsShippedObject}
use Rattle.lifecycle_core.proofs.marks.Reasons.{reason_seen}
use Rattle.lifecycle_core.proofs.views.Metas.{no_mark}

-- An upload puts an object of a declared block, behind the puts of those before it.
pub record IsShipping (setting : Setting) (own : List Entry) (k : Key) (bytes : List ℕ) : Type 0 where
  pub is : IsShippedObject setting k bytes
  pub done : List Object
  pub left : List Object
  pub objects : is.objects ≡ done ++ record { key = k; bytes = bytes } ∷ left
  pub stored : (o : Object) → Contains done o → (e : Entry) × Contains own e × Stores e o

-- where an object that is no mark comes from: it is a declared block's, or that of a block that was compacted
pub data IsSource (setting : Setting) (own : List Entry) (k : Key) (bytes : List ℕ) : Type 0 where
  by_upload : IsShipping setting own k bytes → IsSource setting own k bytes
  by_compaction : IsObjectMade setting.script.rules own k bytes → IsSource setting own k bytes

-- ---- what an upload asks for

abbrev AreStored : List Entry → List Object → Type 0
AreStored made done = (o : Object) → Contains done o → (e : Entry) × Contains made e × Stores e o

-- the next object to be put
abbrev IsNext : List Object → List Entry → Key → List ℕ → Type 0
IsNext objects made k bytes = (done : List Object) × (left : List Object) × (objects ≡ done ++ record { key = k; bytes = bytes } ∷ left) × AreStored made done

abbrev IsUploadOp : List Object → List Entry → Op → Type 0
IsUploadOp objects made o = ((k : Key) (bytes : List ℕ) → o ≡ op.Put k bytes → IsNext objects made k bytes) × ((k : Key) → o ≡ op.Delete k → ⊥)

stored_more : (made : List Entry) (e : Entry) (done : List Object) (o : Object) → AreStored made done → Stores e o → AreStored (made ++ e ∷ []) (done ++ o ∷ [])
stored_more made e done o stored here x among = elim (Contains-append_cases done (o ∷ []) x among) [
  | inl early ↦ let s = stored x early in (s.0, Contains-append_left made (e ∷ []) s.0 s.1, s.2)
  | inr late ↦ (e, stands_in made [] e, subst (Stores e) (only_one o x late) here)
]
  where
    only_one : (o x : Object) → Contains (o ∷ []) x → o ≡ x
    only_one o x (zero, below, is) = is
    only_one o x (suc k, below, is) = absurd (omega (arith, below))

same_object : (o : Object) (k : Key) (bytes : List ℕ) → o.key ≡ k → o.bytes ≡ bytes → o ≡ record { key = k; bytes = bytes }
same_object o k bytes keys texts = λ i. record { key = keys i; bytes = texts i }

module _ (objects : List Object) where
  puts_next : (total : ℕ) (done left : List Object) (made : List Entry) → done ++ left ≡ objects → AreStored made done → AsksFor (IsUploadOp objects) made (putting total left)
  puts_next total done [] made parts stored = tt
  puts_next total done (o ∷ os) made parts stored =
      puts_ask (IsUploadOp objects) made Fault o.key o.bytes (λ e. putting total os) (
        λ k bytes same. let key_is : o.key ≡ k = cc (same) in let bytes_are : o.bytes ≡ bytes = cc (same) in (done, os, sym parts ∙ ap (λ (x : Object). done ++ x ∷ os) (same_object o k bytes key_is bytes_are), stored),
        λ k same. cc (same),
      )
      (λ e puts stored_now. puts_next total (done ++ o ∷ []) os (made ++ e ∷ []) (append_assoc done (o ∷ []) os ∙ parts) (stored_more made e done o stored (puts, stored_now)))

  upload_asks : (ulid : ℕ) → AsksFor (IsUploadOp objects) [] (upload ulid objects)
  upload_asks ulid =
      gets_ask (IsUploadOp objects) [] Fault (key.Meta ulid) (λ e bytes. comes_to Already) (λ e. putting (length objects) objects) ((λ k bytes same. cc (same)), (λ k same. cc (same))) (λ e bytes is found. tt)
      (λ e is absent. puts_next (length objects) [] objects (e ∷ []) refl (λ o among. absurd (no_member o among)))

  pub upload_op : (ulid : ℕ) (own : List Entry) (e : Entry) (rest : List Entry) (end : Option UploadEnd) → Runs (upload ulid objects) (own ++ e ∷ rest) end → IsUploadOp objects own e.op
  upload_op ulid own e rest end run = each_at (IsUploadOp objects) [] own e rest (asked_are (IsUploadOp objects) (upload ulid objects) [] (own ++ e ∷ rest) end (upload_asks ulid) run)

-- ---- sources

next_shipped : (setting : Setting) (ulid : ℕ) (block : Block) (objects : List Object) → declared setting.script ulid ≡ Some block → IsShipped setting block objects → (own : List Entry) (k : Key) (bytes : List ℕ) → IsNext objects own k bytes → IsShipping setting own k bytes
next_shipped setting ulid block objects known shipped_is own k bytes (done, left, is, stored) =
    let among : Contains objects (record { key = k; bytes = bytes }) = subst (λ os. Contains os (record { key = k; bytes = bytes })) (sym is) (stands_in done left (record { key = k; bytes = bytes })) in
    let under : key_ulid k ≡ block.ulid = (ends_with_meta setting block block.body objects shipped_is).under (record { key = k; bytes = bytes }) among in
    record {
      is = record { block = block; is = ap (declared setting.script) (under ∙ declared_ulid setting ulid block known) ∙ known; objects = objects; shipped = shipped_is; among = among };
      done = done;
      left = left;
      objects = is;
      stored = stored;
    }

compact_object : (setting : Setting) (own : List Entry) (k : Key) (bytes : List ℕ) → IsBlockObject k → IsCompactOp setting.script.rules own (op.Put k bytes) → IsObjectMade setting.script.rules own k bytes
compact_object setting own (key.Meta ulid) bytes is asks = asks
compact_object setting own (key.Index ulid) bytes is asks = asks
compact_object setting own (key.Segment ulid number) bytes is asks = asks
compact_object setting own (key.Mark ulid) bytes is asks = absurd is

not_reading : (o : Op) (k : Key) (bytes : List ℕ) → o ≡ op.Put k bytes → IsReading o → ⊥
not_reading o k bytes is reads_it = subst IsReading is reads_it

not_clock : (o : Op) (k : Key) (bytes : List ℕ) → o ≡ op.Put k bytes → IsClock o → ⊥
not_clock o k bytes is clock = subst IsClock is clock

pub new_small : (number : ℕ) (moment : Moment) → moment.ms < ulid_time_limit → new_ulid number moment < 2 ^ 128
new_small number moment small = omega (arith, small)

module _ (setting : Setting) (journal : List Entry) (deeds : AreDeeds setting journal) (before after : List Entry) (e : Entry) (parts : journal ≡ before ++ e ∷ after) where
  abbrev own : List Entry
  own = of_seat e.seat before

  pub object_source : (k : Key) (bytes : List ℕ) → e.op ≡ op.Put k bytes → IsBlockObject k → IsSource setting own k bytes
  object_source k bytes puts object = by (done_at setting journal deeds before after e parts)
    where
      by : Done setting before e → IsSource setting own k bytes
      by (shipping ulid block objects known shipped_is run) = by_upload (next_shipped setting ulid block objects known shipped_is own k bytes ((upload_op objects ulid own e [] None run).0 k bytes puts))
      by (compacting run) = by_compaction (compact_object setting own k bytes object (subst (IsCompactOp setting.script.rules own) puts (compaction_op setting.script.rules own e [] None run)))
      by (cleaning run) = absurd (subst (IsCleanOp setting.script.rules own) puts (cleaning_op setting.script.rules own e [] None run))
      by (reading is) = absurd (not_reading e.op k bytes puts is)
      by (clocking is) = absurd (not_clock e.op k bytes puts is)

  pub mark_source : (ulid : ℕ) (bytes : List ℕ) → e.op ≡ op.Put (key.Mark ulid) bytes → Compacts (deeds.deed e.seat) × IsMarkMade setting.script.rules own ulid bytes
  mark_source ulid bytes puts = by (of_seat e.seat journal) (at_seat journal before after e parts) (deeds.deed e.seat)
    where
      by : (whole : List Entry) → whole ≡ own ++ e ∷ of_seat e.seat after → (deed : Deed setting whole) → Compacts deed × IsMarkMade setting.script.rules own ulid bytes
      by whole is (ships u block objects end known shipped_is run) =
          let next = (upload_op objects u own e (of_seat e.seat after) end (subst (λ es. Runs (upload u objects) es end) is run)).0 (key.Mark ulid) bytes puts in
          absurd (no_mark setting ulid bytes (next_shipped setting u block objects known shipped_is own (key.Mark ulid) bytes next).is)
      by whole is (compacts end run) = (tt, subst (IsCompactOp setting.script.rules own) puts (compaction_op setting.script.rules own e (of_seat e.seat after) end (subst (λ es. CompactRun setting.script.rules es end) is run)))
      by whole is (cleans end run) = absurd (subst (IsCleanOp setting.script.rules own) puts (cleaning_op setting.script.rules own e (of_seat e.seat after) end (subst (λ es. CleanRun setting.script.rules es end) is run)))
      by whole is (reads all) = absurd (not_reading e.op (key.Mark ulid) bytes puts (All-contains (λ (x : Entry). IsReading x.op) whole e all (subst (λ es. Contains es e) (sym is) (stands_in own (of_seat e.seat after) e))))
      by whole is (clocks all) = absurd (not_clock e.op (key.Mark ulid) bytes puts (All-contains (λ (x : Entry). IsClock x.op) whole e all (subst (λ es. Contains es e) (sym is) (stands_in own (of_seat e.seat after) e))))

  pub delete_source : (k : Key) → e.op ≡ op.Delete k → IsDeleting setting.script.rules own k
  delete_source k deletes = by (done_at setting journal deeds before after e parts)
    where
      by : Done setting before e → IsDeleting setting.script.rules own k
      by (shipping ulid block objects known shipped_is run) = absurd ((upload_op objects ulid own e [] None run).1 k deletes)
      by (compacting run) = absurd (subst (IsCompactOp setting.script.rules own) deletes (compaction_op setting.script.rules own e [] None run))
      by (cleaning run) = subst (IsCleanOp setting.script.rules own) deletes (cleaning_op setting.script.rules own e [] None run)
      by (reading is) = absurd (subst IsReading deletes is)
      by (clocking is) = absurd (subst IsClock deletes is)

  -- and its key can be told by its text
  made_small : (k : Key) (bytes : List ℕ) → IsObjectMade setting.script.rules own k bytes → key_ulid k < 2 ^ 128
  made_small k bytes m =
      let merged = m.merged in
      let last : Entry = merged.last in
      let among : Contains own last = subst (λ es. Contains es last) (sym m.parts) (Contains-append_left m.read (m.look ∷ m.puts) last (subst (λ es. Contains es last) (sym merged.ends) (stands_in merged.front [] last))) in
      let at = parted before last (in_seat e.seat before last among).0 in
      let here : journal ≡ at.0 ++ last ∷ (at.1 ++ e ∷ after) = parts ∙ ap (λ es. es ++ e ∷ after) at.2 ∙ append_assoc at.0 (last ∷ at.1) (e ∷ after) in
      let small : m.ulid < 2 ^ 128 = subst (λ (u : ℕ). u < 2 ^ 128) (sym merged.ulid_is) (new_small last.seq last.moment (deeds.kept.small at.0 (at.1 ++ e ∷ after) last here)) in
      let text : List ℕ = meta_text (fields_of (m.block).meta) in
      let inside : Contains (objects_of m.ulid (m.block).segments (m.block).index text) (record { key = k; bytes = bytes }) =
      subst (λ os. Contains os (record { key = k; bytes = bytes })) (sym m.objects) (stands_in m.done m.left (record { key = k; bytes = bytes })) in
      subst (λ (u : ℕ). u < 2 ^ 128) (sym (object_ulid m.ulid (m.block).segments (m.block).index text k bytes (object_is m.ulid (m.block).segments (m.block).index text k bytes inside))) small

  mark_small : (ulid : ℕ) (bytes : List ℕ) → IsMarkMade setting.script.rules own ulid bytes → ulid < 2 ^ 128
  mark_small ulid bytes m =
      let f = reason_seen setting.script.rules own m.view ulid m.synced m.reason in subst (λ (u : ℕ). u < 2 ^ 128) f.2 (f.1).small

  source_small : IsLawfulScript setting.script → (k : Key) (bytes : List ℕ) → IsSource setting own k bytes → key_ulid k < 2 ^ 128
  source_small lawful k bytes (by_upload s) = (is_readable setting lawful).small (key_ulid k) (s.is).block (s.is).is
  source_small lawful k bytes (by_compaction m) = made_small k bytes m

  pub put_is_small : IsLawfulScript setting.script → (k : Key) (bytes : List ℕ) → e.op ≡ op.Put k bytes → key_ulid k < 2 ^ 128
  put_is_small lawful (key.Meta ulid) bytes puts = source_small lawful (key.Meta ulid) bytes (object_source (key.Meta ulid) bytes puts tt)
  put_is_small lawful (key.Index ulid) bytes puts = source_small lawful (key.Index ulid) bytes (object_source (key.Index ulid) bytes puts tt)
  put_is_small lawful (key.Segment ulid number) bytes puts = source_small lawful (key.Segment ulid number) bytes (object_source (key.Segment ulid number) bytes puts tt)
  put_is_small lawful (key.Mark ulid) bytes puts = mark_small ulid bytes (mark_source ulid bytes puts).1
