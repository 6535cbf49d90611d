-- What the words of a compaction's plan ask for: marks, reads and uploads.
use Rattle.std.proofs.Common.{◌≡◌, inr, ℕ, zero, suc, ◌+◌, List, [], ◌∷◌, ◌++◌, length, Option, Some, None, refl, sym, ◌∙◌, ap, subst, append_assoc, append-nil, length-append, arith}
use Rattle.std.specs.List.{AllByRecursion, AllZip}
use Rattle.block_keys.specs.declared.key.Key.{Key}
use Rattle.block_keys.specs.declared.key.Key.TheVariants as key
use Rattle.block_keys.specs.declared.object.Object.{Object}
use Rattle.block_meta.specs.declared.meta.Meta.{Meta}
use Rattle.block_meta.specs.Built.{objects_of, segment_objects}
use Rattle.block_meta.specs.declared.block_files.BlockFiles.{BlockFiles}
use Rattle.compactor.specs.Marking.{details_of, marking}
use Rattle.compactor.specs.NewMarks.{new_mark_text}
use Rattle.compactor.specs.declared.reason.Reason.{Reason}
use Rattle.moment_core.specs.declared.rules.Rules.{Rules}
use Rattle.world_core.specs.Plans.{Plan, Runs, and_then, ends, noting}
use Rattle.world_core.specs.Plans as plan
use Rattle.world_core.specs.declared.op.Op.{Op}
use Rattle.world_core.specs.declared.op.Op.TheVariants as op
use Rattle.world_core.specs.declared.reply.Reply.TheVariants as reply
use Rattle.world_core.specs.declared.entry.Entry.{Entry}
use Rattle.world_core.proofs.PlanLaws.{AsksFor, EndsAre, end_is, nothing_given}
use Rattle.world_core.proofs.PlanWords.{gets_are, gets_ask, puts_are, puts_ask}
use Rattle.meta_fetcher.specs.declared.view.View.{View}
use Rattle.shipper.specs.Uploads.{putting, upload}
use Rattle.shipper.specs.declared.upload.UploadEnd.{UploadEnd}
use Rattle.shipper.specs.declared.upload.UploadEnd.TheVariants as uploaded
use Rattle.compactor.specs.Named.{named_segments}
use Rattle.compactor.specs.Reading.{after_index, read_at, reads, reads_block, reads_blocks, reads_segments}
use Rattle.compactor.specs.declared.input.Input.{Input}
use Rattle.compactor.specs.declared.input.Read.{Read}
use Rattle.compactor.specs.Compactions.{read_ends}
use Rattle.compactor.specs.NewBlocks.{block_objects}
use Rattle.compactor.specs.declared.compact_end.CompactEnd.{CompactEnd}
use Rattle.compactor.specs.declared.compact_end.CompactEnd.TheVariants.{Fault, Missing}
use Rattle.lifecycle_core.specs.CompactionOps.{HasMerged, IsCompactOp, IsInputRead, IsMarkMade, IsObjectMade, ReadsObject, Stores, WasRead}
use Rattle.lifecycle_core.proofs.activities.CompactionSoFar.{AreRead, IsNoMark, Reasons, SoFar, inputs_more, object_more, object_now, puts_mark_of, reads_mark_none, reasons_more, segments_and, so_far_more}
use Rattle.base.proofs.Pairs.{AllZip-push}

-- ---- plans of plans

-- what a plan that takes notes asks for
pub noting_asks : {S A : Type 0} (Is : List Entry → Op → Type 0) (note : S → Entry → S) (noted : S) (one : Plan A) (made : List Entry) → AsksFor Is made one → AsksFor Is made (noting note noted one)
noting_asks Is note noted (plan.ends last) made all = tt
noting_asks Is note noted plan.never made all = tt
noting_asks Is note noted (plan.asks op on) made all = (all.0, λ e is. noting_asks Is note (note noted e) (on e) (made ++ e ∷ []) (all.1 e is))
noting_asks Is note noted (plan.finds Such one on) made all = λ found is. noting_asks Is note noted (on found) made (all found is)

-- one plan, and then another
pub then_asks : {A E : Type 0} (Is : List Entry → Op → Type 0) (first : Plan A) (next : A → Plan E) (made : List Entry) → AsksFor Is made first
    → ((own : List Entry) (last : A) → Runs first own (Some last) → AsksFor Is (made ++ own) (next last)) → AsksFor Is made (and_then first next)
then_asks Is (plan.ends last) next made all rest = subst (λ es. AsksFor Is es (next last)) (append-nil made) (rest [] last (refl, inr refl))
then_asks Is plan.never next made all rest = tt
then_asks Is (plan.asks op on) next made all rest = (
  all.0,
  λ e is.
      then_asks Is (on e) next (made ++ e ∷ []) (all.1 e is) (λ own last run. subst (λ es. AsksFor Is es (next last)) (sym (append_assoc made (e ∷ []) own)) (rest (e ∷ own) last (is, run))),
)
then_asks Is (plan.finds Such one on) next made all rest = λ found is. then_asks Is (on found) next made (all found is) (λ own last run. rest own last (inr (found, is, run)))

-- ---- marks

module _ (rules : Rules) (view : View) (P : ℕ → Type 0) where
  abbrev Is : List Entry → Op → Type 0
  Is = IsCompactOp rules

  mark_made : (why : Reason) (ulid : ℕ) (made : List Entry) (e : Entry) → e.op ≡ op.Get (key.Mark ulid) → e.reply ≡ reply.Absent → SoFar rules view P made → (ulids : List ℕ) → Reasons rules view made (ulid ∷ ulids)
      → IsMarkMade rules (made ++ e ∷ []) ulid (new_mark_text ulid e.moment (details_of why))
  mark_made why ulid made e asks absent s ulids reasons = record {
    front = made;
    look = e;
    parts = refl;
    asks = asks;
    absent = absent;
    why = why;
    text = refl;
    view = view;
    synced = (so_far_more rules view P made e (reads_mark_none P e (key.Mark ulid) asks) s).synced;
    reason = (reasons_more rules view made e (ulid ∷ ulids) reasons).0;
  }

  pub marking_asks : (why : Reason) (next : ℕ → Plan CompactEnd) → ((put : ℕ) (made : List Entry) → SoFar rules view P made → AsksFor Is made (next put))
      → (ulids : List ℕ) (put : ℕ) (made : List Entry) → AllByRecursion P ulids → SoFar rules view P made → Reasons rules view made ulids → AsksFor Is made (marking Fault why put ulids next)
  marking_asks why next rest [] put made own s reasons = rest put made s
  marking_asks why next rest (ulid ∷ ulids) put made own s reasons =
      let looked : (e : Entry) → e.op ≡ op.Get (key.Mark ulid) → SoFar rules view P (made ++ e ∷ []) =
      λ e asks. so_far_more rules view P made e (reads_mark_none P e (key.Mark ulid) asks) s in
      gets_ask Is made Fault (key.Mark ulid)
      (λ e bytes. marking Fault why put ulids next)
      (λ e. plan.puts Fault (key.Mark ulid) (new_mark_text ulid e.moment (details_of why)) (λ stored. marking Fault why (put + 1) ulids next)) tt
      (λ e bytes asks found. marking_asks why next rest ulids put (made ++ e ∷ []) own.1 (looked e asks) (reasons_more rules view made e ulids reasons.1))
      (λ e asks absent.
      puts_ask Is (made ++ e ∷ []) Fault (key.Mark ulid) (new_mark_text ulid e.moment (details_of why)) (λ stored. marking Fault why (put + 1) ulids next)
      (mark_made why ulid made e asks absent s ulids reasons)
      (λ p is stored.
      marking_asks why next rest ulids (put + 1) ((made ++ e ∷ []) ++ p ∷ []) own.1
      (so_far_more rules view P (made ++ e ∷ []) p (puts_mark_of P p ulid (new_mark_text ulid e.moment (details_of why)) is own.0) (looked e asks))
      (reasons_more rules view (made ++ e ∷ []) p ulids (reasons_more rules view made e ulids reasons.1))))

-- ---- reads

-- it is the last of the entries
abbrev pub IsLast : List Entry → Entry → Type 0
IsLast made last = (front : List Entry) × (made ≡ front ++ last ∷ [])

-- it stays so after a read
abbrev pub StaysRead : (List Entry → Type 0) → Type 0
StaysRead K = (made : List Entry) (e : Entry) (k : Key) → e.op ≡ op.Get k → K made → K (made ++ e ∷ [])

module _ (rules : Rules) where
  abbrev IsOp : List Entry → Op → Type 0
  IsOp = IsCompactOp rules

  reads_ask : (made : List Entry) (k : Key) (next : Entry → List ℕ → Plan CompactEnd) → IsOp made (op.Get k)
      → ((e : Entry) (bytes : List ℕ) → e.op ≡ op.Get k → e.reply ≡ reply.Found bytes → AsksFor IsOp (made ++ e ∷ []) (next e bytes)) → AsksFor IsOp made (reads read_ends k next)
  reads_ask made k next this f = gets_ask IsOp made Fault k next (λ e. ends (Missing e.seq)) this f (λ e is absent. tt)

  module _ (ulid : ℕ) (K : List Entry → Type 0) (stays : StaysRead K) (may : (made : List Entry) → K made → IsInputRead rules made ulid) (all : ℕ) (next : List Read → Entry → Plan CompactEnd)
      (rest : (made : List Entry) (segments : List Read) (last : Entry) → K made → AreRead made ulid segments → length segments ≡ all → IsLast made last → AsksFor IsOp made (next segments last)) where
    segments_ask : (more : ℕ) (segments : List Read) (last : Entry) (made : List Entry) → more + length segments ≡ all → K made → AreRead made ulid segments → IsLast made last
        → AsksFor IsOp made (reads_segments read_ends ulid more segments last next)
    segments_ask zero segments last made count k were is = rest made segments last k were (omega (arith, count)) is
    segments_ask (suc more) segments last made count k were is =
        reads_ask made (key.Segment ulid (length segments + 1)) (λ e bytes. reads_segments read_ends ulid more (segments ++ read_at e bytes ∷ []) e next) (may made k)
        (λ e bytes asks found.
        segments_ask more (segments ++ read_at e bytes ∷ []) e (made ++ e ∷ []) (counted more segments (read_at e bytes) count)
        (stays made e (key.Segment ulid (length segments + 1)) asks k) (segments_and made e ulid segments bytes asks found were) (made, refl))
      where
        counted : (more : ℕ) (segments : List Read) (one : Read) → suc more + length segments ≡ all → more + length (segments ++ one ∷ []) ≡ all
        counted more segments one is = omega (arith, is, length-append segments (one ∷ []))

  module _ (meta : Meta) (K : List Entry → Type 0) (stays : StaysRead K) (may : (made : List Entry) → K made → IsInputRead rules made meta.ulid) (next : Input → Entry → Plan CompactEnd)
      (rest : (made : List Entry) (input : Input) (last : Entry) → K made → WasRead made meta input → IsLast made last → AsksFor IsOp made (next input last)) where
    -- what is known behind the index
    abbrev Behind : Entry → List ℕ → List Entry → Type 0
    Behind e bytes made = K made × ReadsObject made (key.Index meta.ulid) (read_at e bytes)

    behind_stays : (e : Entry) (bytes : List ℕ) → StaysRead (Behind e bytes)
    behind_stays e bytes made x k asks b = (stays made x k asks b.0, object_more made x (key.Index meta.ulid) (read_at e bytes) b.1)

    index_asks : (e : Entry) (bytes : List ℕ) (named : Option ℕ) (made : List Entry) → named_segments bytes ≡ named → Behind e bytes made → IsLast made e → AsksFor IsOp made (after_index read_ends meta e bytes named next)
    index_asks e bytes None made is b last = tt
    index_asks e bytes (Some count) made is b last =
        segments_ask meta.ulid (Behind e bytes) (behind_stays e bytes) (λ made b. may made b.0) count (λ segments last. next (record { meta = meta; index = read_at e bytes; segments = segments }) last)
        (λ now segments later b were long at.
        rest now (record { meta = meta; index = read_at e bytes; segments = segments }) later b.0
        (record { meta_is = refl; index = b.1; named = is ∙ ap (λ (n : ℕ). Some n) (sym long); segments = were }) at)
        count [] e made (omega arith) b (λ place one none. absurd (cc (none))) last

    pub block_asks : (made : List Entry) → K made → AsksFor IsOp made (reads_block read_ends meta next)
    block_asks made k =
        reads_ask made (key.Index meta.ulid) (λ e bytes. after_index read_ends meta e bytes (named_segments bytes) next) (may made k)
        (λ e bytes asks found.
        index_asks e bytes (named_segments bytes) (made ++ e ∷ []) refl
        (stays made e (key.Index meta.ulid) asks k, object_now made e (key.Index meta.ulid) bytes asks found) (made, refl))

  module _ (K : List Entry → Type 0) (stays : StaysRead K) (all : List Meta) (next : List Input → Entry → Plan CompactEnd)
      (rest : (made : List Entry) (inputs : List Input) (last : Entry) → K made → AllZip (WasRead made) all inputs → IsLast made last → AsksFor IsOp made (next inputs last)) where
    abbrev May : Meta → Type 0
    May meta = (made : List Entry) → K made → IsInputRead rules made meta.ulid

    -- what is known behind blocks that were read
    abbrev With : List Meta → List Input → List Entry → Type 0
    With done inputs made = K made × AllZip (WasRead made) done inputs

    with_stays : (done : List Meta) (inputs : List Input) → StaysRead (With done inputs)
    with_stays done inputs made e k asks w = (stays made e k asks w.0, inputs_more made e done inputs w.1)

    pub blocks_ask : (metas done : List Meta) (inputs : List Input) (last : Entry) (made : List Entry) → done ++ metas ≡ all → AllByRecursion May metas → With done inputs made → IsLast made last
        → AsksFor IsOp made (reads_blocks read_ends inputs last metas next)
    blocks_ask [] done inputs last made are may w at =
        rest made inputs last w.0 (subst (λ (ms : List Meta). AllZip (WasRead made) ms inputs) (sym (append-nil done) ∙ are) w.1) at
    blocks_ask (meta ∷ metas) done inputs last made are may w at =
        block_asks meta (With done inputs) (with_stays done inputs) (λ made w. may.0 made w.0) (λ input e. reads_blocks read_ends (inputs ++ input ∷ []) e metas next)
        (λ now input later w was at.
        blocks_ask metas (done ++ meta ∷ []) (inputs ++ input ∷ []) later now (append_assoc done (meta ∷ []) metas ∙ are) may.1
        (w.0, AllZip-push (WasRead now) done inputs meta input w.1 was) at)
        made w

-- ---- uploads

-- the keys are no marks'
abbrev pub AreNoMarks : List Object → Type 0
AreNoMarks objects = AllByRecursion (λ o. IsNoMark o.key) objects

segments_no_marks : (ulid number : ℕ) (segments : List (List ℕ)) (others : List Object) → AreNoMarks others → AreNoMarks (segment_objects ulid number segments ++ others)
unfolding segment_objects
segments_no_marks ulid number [] others all = all
segments_no_marks ulid number (bytes ∷ segments) others all = (tt, segments_no_marks ulid (number + 1) segments others all)

no_marks : (ulid : ℕ) (segments : List (List ℕ)) (index meta : List ℕ) → AreNoMarks (objects_of ulid segments index meta)
unfolding objects_of
no_marks ulid segments index meta = segments_no_marks ulid 1 segments (record { key = key.Index ulid; bytes = index } ∷ record { key = key.Meta ulid; bytes = meta } ∷ []) (tt, (tt, tt))

pub objects_no_marks : (ulid : ℕ) (block : BlockFiles) → AreNoMarks (block_objects ulid block)
objects_no_marks ulid block = no_marks ulid block.segments block.index _

by_key : (rules : Rules) (made : List Entry) (k : Key) (bytes : List ℕ) → IsNoMark k → IsObjectMade rules made k bytes → IsCompactOp rules made (op.Put k bytes)
by_key rules made (key.Meta ulid) bytes none is = is
by_key rules made (key.Index ulid) bytes none is = is
by_key rules made (key.Segment ulid number) bytes none is = is
by_key rules made (key.Mark ulid) bytes none is = absurd none

module _ (rules : Rules) (view : View) (read : List Entry) (ulid : ℕ) (block : BlockFiles) (merged : HasMerged rules view read ulid block) where
  abbrev objects : List Object
  objects = block_objects ulid block

  -- the entries are those of the reads, a look that found no meta, and the puts of these objects
  record HasPut (done : List Object) (made : List Entry) : Type 0 where
    look : Entry
    puts : List Entry
    parts : made ≡ read ++ look ∷ puts
    asks : look.op ≡ op.Get (key.Meta ulid)
    absent : look.reply ≡ reply.Absent
    stored : AllZip Stores puts done

  object_made : (done left : List Object) (object : Object) (made : List Entry) → objects ≡ done ++ object ∷ left → HasPut done made → IsObjectMade rules made object.key object.bytes
  object_made done left object made are h = record {
    read = read;
    look = h.look;
    puts = h.puts;
    parts = h.parts;
    ulid = ulid;
    asks = h.asks;
    absent = h.absent;
    block = block;
    view = view;
    merged = merged;
    done = done;
    left = left;
    objects = are;
    stored = h.stored;
  }

  put_more : (done : List Object) (object : Object) (made : List Entry) (e : Entry) → e.op ≡ op.Put object.key object.bytes → e.reply ≡ reply.Stored → HasPut done made → HasPut (done ++ object ∷ []) (made ++ e ∷ [])
  put_more done object made e asks stored h = record {
    look = h.look;
    puts = h.puts ++ e ∷ [];
    parts = ap (λ es. es ++ e ∷ []) h.parts ∙ append_assoc read (h.look ∷ h.puts) (e ∷ []);
    asks = h.asks;
    absent = h.absent;
    stored = AllZip-push Stores h.puts done e object h.stored (asks, stored);
  }

  putting_asks : (total : ℕ) (left done : List Object) (made : List Entry) → objects ≡ done ++ left → AreNoMarks left → HasPut done made → AsksFor (IsCompactOp rules) made (putting total left)
  putting_asks total [] done made are none h = tt
  putting_asks total (object ∷ left) done made are none h =
      puts_ask (IsCompactOp rules) made uploaded.Fault object.key object.bytes (λ e. putting total left) (by_key rules made object.key object.bytes none.0 (object_made done left object made are h))
      (λ e asks stored. putting_asks total left (done ++ object ∷ []) (made ++ e ∷ []) (are ∙ sym (append_assoc done (object ∷ []) left)) none.1 (put_more done object made e asks stored h))

  pub upload_asks : AsksFor (IsCompactOp rules) read (upload ulid objects)
  upload_asks =
      gets_ask (IsCompactOp rules) read uploaded.Fault (key.Meta ulid) (λ e bytes. ends uploaded.Already) (λ e. putting (length objects) objects) tt
      (λ e bytes asks found. tt)
      (λ e asks absent.
      putting_asks (length objects) objects [] (read ++ e ∷ []) refl (objects_no_marks ulid block)
      (record { look = e; puts = []; parts = refl; asks = asks; absent = absent; stored = tt }))

-- ---- an upload that put all

-- a look that found no meta, and the puts of these objects
pub record WasPut (ulid : ℕ) (done : List Object) (made : List Entry) : Type 0 where
  pub look : Entry
  pub puts : List Entry
  pub parts : made ≡ look ∷ puts
  pub asks : look.op ≡ op.Get (key.Meta ulid)
  pub absent : look.reply ≡ reply.Absent
  pub stored : AllZip Stores puts done

abbrev IfDone : ℕ → List Object → List Entry → UploadEnd → Type 0
IfDone ulid wanted made (uploaded.Done count) = WasPut ulid wanted made
IfDone ulid wanted made uploaded.Already = Unit {0}
IfDone ulid wanted made (uploaded.Fault number) = Unit {0}

abbrev AnyEntry : Entry → Type 0
AnyEntry e = Unit {0}

module _ (ulid : ℕ) (objects : List Object) where
  was_more : (done : List Object) (object : Object) (made : List Entry) (e : Entry) → e.op ≡ op.Put object.key object.bytes → e.reply ≡ reply.Stored → WasPut ulid done made → WasPut ulid (done ++ object ∷ []) (made ++ e ∷ [])
  was_more done object made e asks stored h = record {
    look = h.look;
    puts = h.puts ++ e ∷ [];
    parts = ap (λ es. es ++ e ∷ []) h.parts;
    asks = h.asks;
    absent = h.absent;
    stored = AllZip-push Stores h.puts done e object h.stored (asks, stored);
  }

  putting_ends : (total : ℕ) (left done : List Object) (made : List Entry) → objects ≡ done ++ left → WasPut ulid done made → EndsAre AnyEntry (IfDone ulid objects) made (putting total left)
  putting_ends total [] done made are h = subst (λ (os : List Object). WasPut ulid os made) (sym (are ∙ append-nil done)) h
  putting_ends total (object ∷ left) done made are h =
      puts_are AnyEntry (IfDone ulid objects) made uploaded.Fault object.key object.bytes (λ e. putting total left)
      (λ e asks given stored. putting_ends total left (done ++ object ∷ []) (made ++ e ∷ []) (are ∙ sym (append_assoc done (object ∷ []) left)) (was_more done object made e asks stored h))
      (λ e asks given failed. tt)

  upload_ends : EndsAre AnyEntry (IfDone ulid objects) [] (upload ulid objects)
  upload_ends =
      gets_are AnyEntry (IfDone ulid objects) [] uploaded.Fault (key.Meta ulid) (λ e bytes. ends uploaded.Already) (λ e. putting (length objects) objects)
      (λ e bytes asks given found. tt)
      (λ e asks given absent. putting_ends (length objects) objects [] (e ∷ []) refl (record { look = e; puts = []; parts = refl; asks = asks; absent = absent; stored = tt }))
      (λ e asks given failed. tt)

  pub upload_done : (own : List Entry) (count : ℕ) → Runs (upload ulid objects) own (Some (uploaded.Done count)) → WasPut ulid objects own
  upload_done own count run = end_is AnyEntry (IfDone ulid objects) (upload ulid objects) [] own (uploaded.Done count) upload_ends (nothing_given own) run
