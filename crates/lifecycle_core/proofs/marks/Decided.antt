-- Decisions to delete a block: how late they come, and what precedes them.
use Rattle.std.proofs.Common.{◌≡◌, inl, inr, ℕ, zero, suc, ◌+◌, ◌*◌, ◌<◌, ◌≤◌, ◌^◌, List, ◌∷◌, ◌++◌, length, Contains, refl, sym, ◌∙◌, ap, subst, append_assoc, arith}
use Rattle.std.specs.Prelude.{◌&&◌, nat_le}
use Rattle.std.proofs.lemmas.Bool.{and_parts, leb-true, ltb-true}
use Rattle.std.proofs.lemmas.List.{length-append}
use Rattle.std.proofs.lemmas.List.Elements.{All-contains, Contains-append_left}
use Rattle.ulid_core.specs.Times.{time_of}
use Rattle.block_keys.specs.Keys.{key_ulid}
use Rattle.block_keys.specs.declared.key.Key.{Key}
use Rattle.block_keys.specs.declared.key.Key.TheVariants as key
use Rattle.world_core.specs.Standing.{IsHonest}
use Rattle.world_core.specs.declared.op.Op.TheVariants as op
use Rattle.world_core.specs.declared.entry.Entry.{Entry}
use Rattle.script_core.specs.Lawful.{IsLawfulScript}
use Rattle.lifecycle_core.specs.CleaningOps.{IsDecision, IsOldMarkRead, IsOldPartialRead}
use Rattle.lifecycle_core.specs.Completed.{PutsMeta}
use Rattle.lifecycle_core.specs.Marked.{PutsSomeMark}
use Rattle.lifecycle_core.specs.Setting.{Setting}
use Rattle.lifecycle_core.specs.TimeRules.{IsUploadedInTime, PutsMark, PutsObject}
use Rattle.lifecycle_core.proofs.deeds.Orders.{IsEarlier, back_is_later, front_is_earlier, higher_is_in_back, lower_is_in_front, ordered, stands_whole}
use Rattle.lifecycle_core.proofs.deeds.Sources.{delete_source}
use Rattle.lifecycle_core.proofs.deeds.Stood.{WasPutLast, absent_stands, deleted_since, found_stands, stood}
use Rattle.lifecycle_core.proofs.deeds.Words.{AreDeeds}
use Rattle.lifecycle_core.proofs.journals.Positions.{stands_in}
use Rattle.lifecycle_core.proofs.journals.Rising.{journal_rises}
use Rattle.lifecycle_core.proofs.journals.Told.{Rises}
use Rattle.lifecycle_core.proofs.marks.Looks.{looked_at, mark_is_read}
use Rattle.base.proofs.Lists.{middle_not_nil}

-- a decision among entries
pub record HasDecision (setting : Setting) (ulid : ℕ) (entries : List Entry) : Type 0 where
  pub before : List Entry
  pub decision : Entry
  pub after : List Entry
  pub parts : entries ≡ before ++ decision ∷ after
  pub decides : IsDecision setting.script.rules ulid decision

module _ (setting : Setting) (journal : List Entry) (lawful : IsLawfulScript setting.script) (deeds : AreDeeds setting journal) (honest : IsHonest journal) where
  abbrev pub rising : Rises journal
  rising = journal_rises setting.script.rules.tick.ms journal deeds.kept

  -- the delays agree
  pub record AreAgreed : Type 0 where
    pub upload : setting.script.rules.upload.ms ≤ setting.script.rules.partial.ms
    pub delete : setting.script.rules.upload.ms + 1000 ≤ setting.script.rules.delete.ms
    pub ignore : setting.script.rules.ignore.ms ≤ setting.script.rules.delete.ms

  pub delays_agree : (before after : List Entry) (e : Entry) → journal ≡ before ++ e ∷ after → AreAgreed
  delays_agree before after e parts =
      let agreed = deeds.agreed (λ nil. middle_not_nil before e after (sym parts ∙ nil)) in
      let first = and_parts (nat_le setting.script.rules.upload.ms setting.script.rules.partial.ms && nat_le (setting.script.rules.upload.ms + 1000) setting.script.rules.delete.ms)
      (nat_le setting.script.rules.ignore.ms setting.script.rules.delete.ms) agreed in
      let two = and_parts (nat_le setting.script.rules.upload.ms setting.script.rules.partial.ms) (nat_le (setting.script.rules.upload.ms + 1000) setting.script.rules.delete.ms) first.0 in
      record {
        upload = leb-true setting.script.rules.upload.ms setting.script.rules.partial.ms two.0;
        delete = leb-true (setting.script.rules.upload.ms + 1000) setting.script.rules.delete.ms two.1;
        ignore = leb-true setting.script.rules.ignore.ms setting.script.rules.delete.ms first.1;
      }

  -- ---- places

  pub in_journal : (before after : List Entry) (e x : Entry) → journal ≡ before ++ e ∷ after → Contains before x → Contains journal x
  in_journal before after e x parts among = subst (λ es. Contains es x) (sym parts) (Contains-append_left before (e ∷ after) x among)

  pub itself : (before after : List Entry) (e : Entry) → journal ≡ before ++ e ∷ after → Contains journal e
  itself before after e parts = subst (λ es. Contains es e) (sym parts) (stands_in before after e)

  pub earlier : (before after : List Entry) (e x : Entry) → journal ≡ before ++ e ∷ after → Contains before x → IsEarlier x e
  earlier before after e x parts among = front_is_earlier before after e x (subst Rises parts rising) among

  pub is_before : (before after : List Entry) (e x : Entry) → journal ≡ before ++ e ∷ after → Contains journal x → x.seq < e.seq → Contains before x
  is_before before after e x parts among lower = lower_is_in_front before after e x (subst Rises parts rising) (subst (λ es. Contains es x) parts among) lower

  -- a place among the entries before one is a place in the journal
  pub deeper : (before after inner rest : List Entry) (e x : Entry) → journal ≡ before ++ e ∷ after → before ≡ inner ++ x ∷ rest → journal ≡ inner ++ x ∷ (rest ++ e ∷ after)
  deeper before after inner rest e x parts is = parts ∙ ap (λ es. es ++ e ∷ after) is ∙ append_assoc inner (x ∷ rest) (e ∷ after)

  pub shorter : (before inner rest : List Entry) (x : Entry) → before ≡ inner ++ x ∷ rest → length inner < length before
  shorter before inner rest x is = omega (arith, ap (length {A = Entry}) is, length-append inner (x ∷ rest))

  -- ---- what deletes a block was decided

  pub was_decided : (before after : List Entry) (d : Entry) (k : Key) → journal ≡ before ++ d ∷ after → d.op ≡ op.Delete k → HasDecision setting (key_ulid k) before
  was_decided before after d k parts deletes =
      let is = delete_source setting journal deeds before after d parts k deletes in
      let at = stands_whole d.seat before is.front is.later is.decision is.parts in
      record { before = at.before; decision = is.decision; after = at.after; parts = at.parts; decides = is.decides }

  -- ---- a block that was uploaded in time

  module _ (ulid : ℕ) (small : ulid < 2 ^ 128) (timely : IsUploadedInTime setting.script.rules ulid journal) where
    meta_object : (p : Entry) → PutsMeta ulid p → PutsObject ulid p
    meta_object p (bytes, puts, landed) = (key.Meta ulid, bytes, puts, refl, tt)

    in_time : (p : Entry) → Contains journal p → PutsObject ulid p → (time_of ulid ≤ p.moment.ms) × (p.moment.ms ≤ time_of ulid + setting.script.rules.upload.ms)
    in_time p among puts = All-contains (λ (e : Entry). PutsObject ulid e → (time_of ulid ≤ e.moment.ms) × (e.moment.ms ≤ time_of ulid + setting.script.rules.upload.ms)) journal p timely among puts

    -- the meta was put before the look that led to a mark
    pub meta_before_mark : (before after : List Entry) (e : Entry) (second : ℕ) (parts : journal ≡ before ++ e ∷ after) → PutsMark ulid second e → (time_of ulid < 1000 * second + 1000) × ((p : Entry) × Contains before p × PutsMeta ulid p)
    meta_before_mark before after e second parts marks =
        let w = looked_at setting journal lawful deeds before after e parts ulid second marks in
        let look_parts = deeper before after (w.at).before (w.at).after e (w.made).look parts (w.at).parts in
        let read_parts = deeper (w.at).before ((w.at).after ++ e ∷ after) (w.met).before (w.met).after (w.made).look (w.seen).read look_parts (w.met).parts in
        let own : (w.found).ulid ≡ ulid = w.is in
        let holds = found_stands setting journal (w.met).before _ (w.seen).read honest read_parts (key.Meta (w.found).ulid) (w.seen).bytes (w.seen).asks_meta (w.seen).shows in
        let last = stood setting journal lawful deeds (w.met).before _ read_parts (key.Meta (w.found).ulid) (w.seen).small tt (w.seen).bytes holds in
        let put : PutsMeta ulid last.put = ((w.seen).bytes, (last.puts).0 ∙ ap (λ (u : ℕ). op.Put (key.Meta u) (w.seen).bytes) own, (last.puts).1) in
        let among : Contains (w.met).before last.put = subst (λ es. Contains es last.put) (sym last.parts) (stands_in last.front last.back last.put) in
        let near = earlier (w.met).before _ (w.seen).read last.put read_parts among in
        let read_in : Contains (w.at).before (w.seen).read = subst (λ es. Contains es (w.seen).read) (sym (w.met).parts) (stands_in (w.met).before (w.met).after (w.seen).read) in
        let next = earlier (w.at).before _ (w.made).look (w.seen).read look_parts read_in in
        let look_in : Contains before (w.made).look = subst (λ es. Contains es (w.made).look) (sym (w.at).parts) (stands_in (w.at).before (w.at).after (w.made).look) in
        let final = earlier before after e (w.made).look parts look_in in
        let whole : Contains journal last.put = in_journal (w.met).before _ (w.seen).read last.put read_parts among in
        let time = in_time last.put whole (meta_object last.put put) in
        (omega (arith, time.0, near.1, next.1, w.upto), (last.put, is_before before after e last.put parts whole (omega (arith, near.0, next.0, final.0)), put))

    -- ---- how late a decision is

    pub old_mark : (before after : List Entry) (x : Entry) (parts : journal ≡ before ++ x ∷ after) (m : IsOldMarkRead setting.script.rules ulid x) → (last : WasPutLast before (key.Mark ulid) m.bytes) × PutsMark ulid (m.mark).deletion_time last.put
    old_mark before after x parts m =
        let holds = found_stands setting journal before after x honest parts (key.Mark ulid) m.bytes m.asks m.found in
        let last = stood setting journal lawful deeds before (x ∷ after) parts (key.Mark ulid) small tt m.bytes holds in
        (last, (m.bytes, m.mark, (last.puts).0, (last.puts).1, mark_is_read ulid m.bytes m.mark m.reads, refl))

    pub put_in : (before after : List Entry) (x : Entry) (k : Key) (bytes : List ℕ) → journal ≡ before ++ x ∷ after → (last : WasPutLast before k bytes) → journal ≡ last.front ++ last.put ∷ (last.back ++ x ∷ after)
    put_in before after x k bytes parts last = deeper before after last.front last.back x last.put parts last.parts

    pub decision_is_late : (before after : List Entry) (x : Entry) → journal ≡ before ++ x ∷ after → IsDecision setting.script.rules ulid x → time_of ulid + setting.script.rules.upload.ms < x.moment.ms
    decision_is_late before after x parts (inl m) =
        let o = old_mark before after x parts m in
        let late = (meta_before_mark (o.0).front _ (o.0).put (m.mark).deletion_time (put_in before after x (key.Mark ulid) m.bytes parts o.0) o.1).0 in
        let old : 1000 * (m.mark).deletion_time + setting.script.rules.delete.ms < x.moment.ms = ltb-true _ _ m.old in
        omega (arith, late, old, (delays_agree before after x parts).delete)
    decision_is_late before after x parts (inr m) =
        let old : time_of ulid + setting.script.rules.partial.ms < x.moment.ms = ltb-true _ _ m.old in
        omega (arith, old, (delays_agree before after x parts).upload)

    -- so nothing of the block is put behind it
    pub none_put_later : (before after : List Entry) (x e : Entry) → journal ≡ before ++ x ∷ after → IsDecision setting.script.rules ulid x → Contains journal e → x.seq < e.seq → ¬ PutsObject ulid e
    none_put_later before after x e parts decides among higher puts =
        let late = decision_is_late before after x parts decides in
        let inside = higher_is_in_back before after x e (subst Rises parts rising) (subst (λ es. Contains es e) parts among) higher in
        let later = back_is_later before after x e (subst Rises parts rising) inside in
        let time = in_time e among puts in
        absurd (omega (arith, late, later.1, time.1))

    -- ---- an earlier decision

    -- a block whose meta was put, and is not found where a partial's deletion is decided, was deleted by an earlier decision
    pub earlier_decision : (p : Entry) → Contains journal p → PutsMeta ulid p → (before after : List Entry) (x : Entry) → journal ≡ before ++ x ∷ after → IsOldPartialRead setting.script.rules ulid x → HasDecision setting ulid before
    earlier_decision p complete put before after x parts m = elim (ordered journal rising p x complete (itself before after x parts)) [
      | inl (inl first) ↦
          let none = absent_stands setting journal before after x honest parts (key.Meta ulid) m.asks m.absent in
          let gone = deleted_since setting journal lawful deeds before (x ∷ after) parts (key.Meta ulid) small tt p put.0 (is_before before after x p parts complete first.0) (put.1, put.2) none in
          let here = deeper before after gone.before gone.after x gone.delete parts gone.parts in
          let d = was_decided gone.before _ gone.delete (key.Meta ulid) here (gone.deletes).0 in
          record { before = d.before; decision = d.decision; after = d.after ++ gone.delete ∷ gone.after; parts = gone.parts ∙ ap (λ es. es ++ gone.delete ∷ gone.after) d.parts ∙ append_assoc d.before (d.decision ∷ d.after) (gone.delete ∷ gone.after); decides = d.decides }
      | inl (inr second) ↦ absurd (none_put_later before after x p parts (inr m) complete second.0 (meta_object p put))
      | inr same ↦ absurd (let e : op.Put (key.Meta ulid) put.0 ≡ op.Get (key.Meta ulid) = sym put.1 ∙ ap (λ (z : Entry). z.op) same ∙ m.asks in cc (e))
    ]

    -- each decision comes after a mark
    module _ (p : Entry) (complete : Contains journal p) (put : PutsMeta ulid p) where
      mark_by : (n : ℕ) (before after : List Entry) (x : Entry) → journal ≡ before ++ x ∷ after → length before < n → IsDecision setting.script.rules ulid x → (m : Entry) × Contains before m × PutsSomeMark ulid m
      mark_by zero before after x parts few decides = absurd (omega (arith, few))
      mark_by (suc n) before after x parts few (inl m) =
          let o = old_mark before after x parts m in
          let among : Contains before (o.0).put = subst (λ es. Contains es (o.0).put) (sym (o.0).parts) (stands_in (o.0).front (o.0).back (o.0).put) in
          ((o.0).put, among, (m.bytes, ((o.0).puts).0, ((o.0).puts).1))
      mark_by (suc n) before after x parts few (inr m) =
          let d = earlier_decision p complete put before after x parts m in
          let rest = mark_by n d.before (d.after ++ x ∷ after) d.decision (deeper before after d.before d.after x d.decision parts d.parts) (omega (arith, few, shorter before d.before d.after d.decision d.parts)) d.decides in
          (rest.0, subst (λ es. Contains es rest.0) (sym d.parts) (Contains-append_left d.before (d.decision ∷ d.after) rest.0 rest.1), rest.2)

      pub mark_before : (before after : List Entry) (x : Entry) → journal ≡ before ++ x ∷ after → IsDecision setting.script.rules ulid x → (m : Entry) × Contains before m × PutsSomeMark ulid m
      mark_before before after x parts decides = mark_by (suc (length before)) before after x parts (omega arith) decides
