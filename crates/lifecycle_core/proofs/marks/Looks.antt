-- The look that led to a mark, and what the compaction had seen by then.
use Rattle.std.proofs.Common.{◌≡◌, inl, inr, ℕ, ◌+◌, ◌*◌, ◌/◌, ◌<◌, ◌≤◌, List, [], ◌∷◌, ◌++◌, Some, None, Result, Ok, Err, Bool, true, false, cond, ◌==◌, sym, ◌∙◌, ap, subst, append_assoc, arith, rules}
use Rattle.std.specs.Str.{IsUtf8}
use Rattle.block_keys.specs.declared.key.Key.TheVariants as key
use Rattle.ulid_core.specs.Limits.{ulid_time_limit}
use Rattle.block_meta.specs.Lawful.{deletion_limit}
use Rattle.block_meta.specs.MetaFields.{MarkFields}
use Rattle.block_meta.specs.MetaReading.{mark_of_text}
use Rattle.block_meta.specs.MetaText.{IsMarkText}
use Rattle.block_meta.specs.OfBlocks.{block_mark, named_mark}
use Rattle.block_meta.specs.declared.refusal.MetaRefusal.{MetaRefusal}
use Rattle.block_meta.proofs.FoundTexts.{mark_text_found}
use Rattle.compactor.specs.Marking.{details_of}
use Rattle.compactor.specs.NewMarks.{new_mark}
use Rattle.compactor.specs.declared.reason.Reason.{Reason}
use Rattle.compactor.specs.declared.reason.Reason.TheVariants as reason_is
use Rattle.world_core.specs.declared.op.Op.TheVariants as op
use Rattle.world_core.specs.declared.entry.Entry.{Entry}
use Rattle.script_core.specs.Lawful.{IsLawfulScript}
use Rattle.sync_filters.specs.declared.found.Found.{Found}
use Rattle.lifecycle_core.specs.CompactionOps.{IsMarkMade}
use Rattle.lifecycle_core.specs.Sights.{IsSeen}
use Rattle.world_core.specs.Journals.{of_seat}
use Rattle.lifecycle_core.specs.Setting.{Setting}
use Rattle.lifecycle_core.specs.TimeRules.{PutsMark}
use Rattle.lifecycle_core.proofs.activities.MarkTexts.{mark_text_is, one_mark}
use Rattle.lifecycle_core.proofs.deeds.Orders.{StandsWhole, stands_whole}
use Rattle.lifecycle_core.proofs.deeds.Sources.{mark_source, put_is_small}
use Rattle.lifecycle_core.proofs.deeds.Words.{AreDeeds, Compacts}
use Rattle.lifecycle_core.proofs.journals.Positions.{split}
use Rattle.lifecycle_core.proofs.marks.Reasons.{reason_seen}
use Rattle.base.proofs.Lists.{middle_not_nil}

-- ---- the text of a mark

some_test : (m mark : MarkFields) (b : Bool) → cond b (Some m) None ≡ Some mark → ◌≡◌ {A = Result MarkFields MetaRefusal} (Ok m) (Ok mark)
some_test m mark true same = ap Ok (cc (same))
some_test m mark false same = absurd (cc (same))

pub mark_read : (ulid : ℕ) (r : Result MarkFields MetaRefusal) (mark : MarkFields) → named_mark ulid r ≡ Some mark → r ≡ Ok mark
mark_read ulid (Ok m) mark is = some_test m mark (m.id == ulid) is
mark_read ulid (Err e) mark is = absurd (cc (is))

-- a mark that is read is that of its text
pub mark_is_read : (ulid : ℕ) (bytes : List ℕ) (mark : MarkFields) → block_mark ulid bytes ≡ Some mark → IsMarkText bytes mark
mark_is_read ulid bytes mark is = (mark_text_found bytes).holds mark (mark_read ulid (mark_of_text bytes) mark is)

pub details_text : (why : Reason) → IsUtf8 (details_of why)
details_text reason_is.Covered = search rules
details_text reason_is.Compacted = search rules
details_text reason_is.Expired = search rules

pub second_below : (moment : ℕ) → moment < ulid_time_limit → moment / 1000 < deletion_limit
second_below moment small = omega (arith, small)

-- ---- the look

-- What led to a mark of a block that tells a second: the look before it, in that second, and before that an entry that found the meta.
pub record WasLookedAt (setting : Setting) (journal before : List Entry) (e : Entry) (ulid second : ℕ) (deeds : AreDeeds setting journal) : Type 0 where
  pub compacts : Compacts (deeds.deed e.seat)
  pub bytes : List ℕ
  pub puts : e.op ≡ op.Put (key.Mark ulid) bytes
  pub made : IsMarkMade setting.script.rules (of_seat e.seat before) ulid bytes
  -- the look, where it stands in the journal
  pub at : StandsWhole e.seat before made.front made.look
  pub from : 1000 * second ≤ (made.look).moment.ms
  pub upto : (made.look).moment.ms < 1000 * second + 1000
  pub found : Found
  pub is : found.ulid ≡ ulid
  pub seen : IsSeen (of_seat e.seat before) found
  -- it found the block's meta before the look
  pub met : StandsWhole e.seat at.before (seen.front ++ seen.looked ∷ seen.middle) seen.read

-- the read of a meta is before the look, where the look is the last entry
read_in_front : (front : List Entry) (look : Entry) (first back : List Entry) (read : Entry) (ulid own : ℕ) → front ++ look ∷ [] ≡ first ++ read ∷ back → look.op ≡ op.Get (key.Mark ulid) → read.op ≡ op.Get (key.Meta own)
    → (rest : List Entry) × (front ≡ first ++ read ∷ rest)
read_in_front front look first back read ulid own is asks reads = elim (split front (look ∷ []) first back read is) [
  | inl (rest, here, two) ↦ (rest, here)
  | inr ([], here, two) ↦
      let same : look ≡ read = cc (two) in
      let e : op.Get (key.Mark ulid) ≡ op.Get (key.Meta own) = sym asks ∙ ap (λ (x : Entry). x.op) same ∙ reads in absurd (cc (e))
  | inr (x ∷ more, here, two) ↦ absurd (middle_not_nil more read back (sym (cc (two))))
]

module _ (setting : Setting) (journal : List Entry) (lawful : IsLawfulScript setting.script) (deeds : AreDeeds setting journal) (before after : List Entry) (e : Entry) (parts : journal ≡ before ++ e ∷ after) (ulid : ℕ) (bytes : List ℕ) (puts : e.op ≡ op.Put (key.Mark ulid) bytes) where
  abbrev own : List Entry
  own = of_seat e.seat before

  source : Compacts (deeds.deed e.seat) × IsMarkMade setting.script.rules own ulid bytes
  source = mark_source setting journal deeds before after e parts ulid bytes puts

  abbrev is_made : IsMarkMade setting.script.rules own ulid bytes
  is_made = source.1

  look_at : StandsWhole e.seat before is_made.front is_made.look
  look_at = stands_whole e.seat before is_made.front [] is_made.look is_made.parts

  look_small : (is_made.look).moment.ms < ulid_time_limit
  look_small =
      let here : journal ≡ look_at.before ++ is_made.look ∷ (look_at.after ++ e ∷ after) = parts ∙ ap (λ es. es ++ e ∷ after) look_at.parts ∙ append_assoc look_at.before (is_made.look ∷ look_at.after) (e ∷ after) in
      deeds.kept.small look_at.before (look_at.after ++ e ∷ after) is_made.look here

  abbrev made_mark : MarkFields
  made_mark = new_mark ulid (is_made.look).moment (details_of is_made.why)

  -- the bytes are the text of a mark
  made_text : IsMarkText bytes made_mark
  made_text =
      let small = put_is_small setting journal deeds before after e parts lawful (key.Mark ulid) bytes puts in
      subst (λ b. IsMarkText b made_mark) (sym is_made.text) (mark_text_is made_mark small (second_below (is_made.look).moment.ms look_small) (details_text is_made.why))

  pub mark_text_of : (mark : MarkFields) × IsMarkText bytes mark
  mark_text_of = (made_mark, made_text)

module _ (setting : Setting) (journal : List Entry) (lawful : IsLawfulScript setting.script) (deeds : AreDeeds setting journal) (before after : List Entry) (e : Entry) (parts : journal ≡ before ++ e ∷ after) (ulid second : ℕ) (marks : PutsMark ulid second e) where
  abbrev its_own : List Entry
  its_own = of_seat e.seat before

  abbrev its_mark : IsMarkMade setting.script.rules its_own ulid marks.0
  its_mark = is_made setting journal lawful deeds before after e parts ulid marks.0 marks.2

  second_is : second ≡ (its_mark.look).moment.ms / 1000
  second_is =
      let same = one_mark marks.0 marks.1 (made_mark setting journal lawful deeds before after e parts ulid marks.0 marks.2) marks.4 (made_text setting journal lawful deeds before after e parts ulid marks.0 marks.2) in
      sym marks.5 ∙ ap (λ (m : MarkFields). m.deletion_time) same

  from_second : (moment : ℕ) (n : ℕ) → n ≡ moment / 1000 → 1000 * n ≤ moment
  from_second moment n is = omega (arith, is)

  upto_second : (moment : ℕ) (n : ℕ) → n ≡ moment / 1000 → moment < 1000 * n + 1000
  upto_second moment n is = omega (arith, is)

  pub looked_at : WasLookedAt setting journal before e ulid second deeds
  looked_at =
      let its_look = look_at setting journal lawful deeds before after e parts ulid marks.0 marks.2 in
      let f = reason_seen setting.script.rules its_own its_mark.view ulid its_mark.synced its_mark.reason in
      let s = f.1 in
      let first : List Entry = s.front ++ s.looked ∷ s.middle in
      let whole : its_mark.front ++ its_mark.look ∷ [] ≡ first ++ s.read ∷ s.back = sym its_mark.parts ∙ s.parts ∙ sym (append_assoc s.front (s.looked ∷ s.middle) (s.read ∷ s.back)) in
      let inside = read_in_front its_mark.front its_mark.look first s.back s.read ulid (f.0).ulid whole its_mark.asks s.asks_meta in
      record {
        compacts = (source setting journal lawful deeds before after e parts ulid marks.0 marks.2).0;
        bytes = marks.0;
        puts = marks.2;
        made = its_mark;
        at = its_look;
        from = from_second (its_mark.look).moment.ms second second_is;
        upto = upto_second (its_mark.look).moment.ms second second_is;
        found = f.0;
        is = f.2;
        seen = s;
        met = stands_whole e.seat its_look.before first inside.0 s.read (its_look.own ∙ inside.1);
      }
