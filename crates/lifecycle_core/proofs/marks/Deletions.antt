-- What becomes of a block that was complete, where it was uploaded in time: nothing of it is put once a cleaning has decided to delete
-- it; what deletes it comes after its first mark, and late; and while its meta stands nothing of it was deleted.
use Rattle.base.proofs.Membership.{contains_later, member_cases, no_member, into_filter}
use Rattle.std.proofs.Common.{◌≡◌, ◌≢◌, ◌⊎◌, inl, inr, ℕ, zero, suc, ◌+◌, ◌*◌, ◌<◌, ◌^◌, ◌==◌, Bool, true, false, List, [], ◌∷◌, ◌++◌, length, Contains, Some, IsTrue, refl, sym, ◌∙◌, ap, subst, append_assoc, arith}
use Rattle.std.specs.List.{All}
use Rattle.std.proofs.lemmas.Bool.Decides.{nat_tests}
use Rattle.std.proofs.lemmas.Bool.{ltb-true}
use Rattle.std.proofs.lemmas.List.Elements.{All-cons, All-contains, All-nil, Contains-append_cases, Contains-append_left, Contains-append_right}
use Rattle.block_meta.specs.MetaFields.{MarkFields, MetaFields}
use Rattle.block_meta.specs.MetaText.{IsMarkText}
use Rattle.block_keys.specs.Keys.{key_ulid}
use Rattle.block_keys.specs.KeyText.{key_text}
use Rattle.block_keys.specs.declared.key.Key.{Key}
use Rattle.block_keys.specs.declared.key.Key.TheVariants as key
use Rattle.world_core.specs.Standing.{IsHonest, has_landed, stands}
use Rattle.world_core.specs.declared.op.Op.{Op}
use Rattle.world_core.specs.declared.op.Op.TheVariants as op
use Rattle.world_core.specs.declared.entry.Entry.{Entry}
use Rattle.script_core.specs.Lawful.{IsLawfulScript}
use Rattle.lifecycle_core.specs.CleaningOps.{IsDecision}
use Rattle.lifecycle_core.proofs.activities.MarkTexts.{one_mark}
use Rattle.lifecycle_core.specs.Completed.{IsCompletedAt, PutsMeta}
use Rattle.world_core.specs.Journals.{of_seat}
use Rattle.lifecycle_core.specs.Decisions.{DecidesToDelete}
use Rattle.lifecycle_core.specs.Marked.{IsFirstMark, LandsDelete, PutsSomeMark}
use Rattle.lifecycle_core.specs.Setting.{Setting}
use Rattle.lifecycle_core.specs.TimeRules.{IsUploadedInTime, PutsMark, PutsObject}
use Rattle.lifecycle_core.proofs.deeds.Orders.{back_is_later, higher_is_in_back, in_seat, one_place, ordered}
use Rattle.lifecycle_core.proofs.deeds.Sources.{delete_source, mark_source, put_is_small}
use Rattle.lifecycle_core.proofs.deeds.Stood.{LandsPut, WasPutLast, absent_stands, deleted_since, stands_last, stood}
use Rattle.lifecycle_core.proofs.deeds.Words.{AreDeeds, Compacts}
use Rattle.lifecycle_core.proofs.journals.Positions.{stands_in}
use Rattle.lifecycle_core.proofs.journals.Standing.{parted}
use Rattle.lifecycle_core.proofs.journals.Told.{Rises}
use Rattle.lifecycle_core.proofs.marks.Decided.{HasDecision, deeper, earlier, earlier_decision, in_journal, is_before, mark_before, meta_before_mark, none_put_later, old_mark, put_in, rising, shorter, was_decided}
use Rattle.lifecycle_core.proofs.marks.Looks.{WasLookedAt, looked_at, mark_text_of}
use Rattle.lifecycle_core.proofs.phases.Stretches.{rises_left}

-- The block's first mark was put among these entries, and tells this second.
pub record WasMarkedFirst (entries : List Entry) (ulid second : ℕ) : Type 0 where
  pub front : List Entry
  pub mark : Entry
  pub back : List Entry
  pub parts : entries ≡ front ++ mark ∷ back
  pub is : IsFirstMark ulid second front mark

-- ---- the first mark

some_mark : (ulid : ℕ) (e : Entry) (o : Op) → e.op ≡ o → (b : Bool) → has_landed e.reply ≡ b → PutsSomeMark ulid e ⊎ (PutsSomeMark ulid e → ⊥)
some_mark ulid e (op.Put (key.Mark own) bytes) is true landed = by (own == ulid) refl
  where
    by : (b : Bool) → (own == ulid) ≡ b → PutsSomeMark ulid e ⊎ (PutsSomeMark ulid e → ⊥)
    by true test = let same : own ≡ ulid = grind (arith, nat_tests, test) in inl (bytes, is ∙ ap (λ (u : ℕ). op.Put (key.Mark u) bytes) same, landed)
    by false test = inr (λ m. let e' : op.Put (key.Mark own) bytes ≡ op.Put (key.Mark ulid) m.0 = sym is ∙ m.1 in let same : own ≡ ulid = cc (e') in absurd (grind (arith, nat_tests, test, same)))
some_mark ulid e (op.Put (key.Mark own) bytes) is false landed = inr (λ m. cc (landed, m.2))
some_mark ulid e (op.Put (key.Meta own) bytes) is b landed = inr (λ m. cc (is, m.1))
some_mark ulid e (op.Put (key.Index own) bytes) is b landed = inr (λ m. cc (is, m.1))
some_mark ulid e (op.Put (key.Segment own n) bytes) is b landed = inr (λ m. cc (is, m.1))
some_mark ulid e (op.Clock moment) is b landed = inr (λ m. cc (is, m.1))
some_mark ulid e (op.Get k) is b landed = inr (λ m. cc (is, m.1))
some_mark ulid e (op.GetRange k from len) is b landed = inr (λ m. cc (is, m.1))
some_mark ulid e (op.Delete k) is b landed = inr (λ m. cc (is, m.1))
some_mark ulid e (op.RootPage after limit) is b landed = inr (λ m. cc (is, m.1))
some_mark ulid e (op.BlockPage own after limit) is b landed = inr (λ m. cc (is, m.1))

-- the first of the entries that puts a mark
abbrev FirstSome : ℕ → List Entry → Type 0
FirstSome ulid entries = (front : List Entry) × (mark : Entry) × (back : List Entry) × (entries ≡ front ++ mark ∷ back) × PutsSomeMark ulid mark × All (λ (x : Entry). ¬ PutsSomeMark ulid x) front

first_some : (ulid : ℕ) (entries : List Entry) (m : Entry) → Contains entries m → PutsSomeMark ulid m → FirstSome ulid entries
first_some ulid [] m among marks = absurd (no_member m among)
first_some ulid (e ∷ entries) m among marks = elim (some_mark ulid e e.op refl (has_landed e.reply) refl) [
  | inl here ↦ ([], e, entries, refl, here, All-nil (λ (x : Entry). ¬ PutsSomeMark ulid x))
  | inr none ↦ elim (member_cases e m entries among) [
    | inl same ↦ absurd (none (subst (PutsSomeMark ulid) (sym same) marks))
    | inr later ↦
        let rest = first_some ulid entries m later marks in
        (e ∷ rest.0, rest.1, rest.2, ap (λ es. e ∷ es) rest.3, rest.4, All-cons (λ (x : Entry). ¬ PutsSomeMark ulid x) e rest.0 none rest.5)
  ]
]

module _ (setting : Setting) (journal : List Entry) (lawful : IsLawfulScript setting.script) (deeds : AreDeeds setting journal) (honest : IsHonest journal) where
  abbrev rises : Rises journal
  rises = rising setting journal lawful deeds honest

  -- a mark tells a second
  mark_tells : (before after : List Entry) (e : Entry) (ulid : ℕ) → journal ≡ before ++ e ∷ after → PutsSomeMark ulid e → (second : ℕ) × PutsMark ulid second e
  mark_tells before after e ulid parts marks =
      let told = mark_text_of setting journal lawful deeds before after e parts ulid marks.0 marks.1 in
      (told.0.deletion_time, (marks.0, told.0, marks.1, marks.2, told.1, refl))

  first_mark : (ulid : ℕ) (m : Entry) → Contains journal m → PutsSomeMark ulid m → (second : ℕ) × WasMarkedFirst journal ulid second
  first_mark ulid m among marks =
      let f = first_some ulid journal m among marks in
      let tells = mark_tells f.0 f.2 f.1 ulid f.3 f.4 in
      (tells.0, record { front = f.0; mark = f.1; back = f.2; parts = f.3; is = record { marks = tells.1; first = f.5 } })

  -- a member of the entries before one of them
  within : (whole inner rest : List Entry) (y z : Entry) → whole ≡ inner ++ y ∷ rest → Contains inner z → Contains whole z
  within whole inner rest y z is among = subst (λ es. Contains es z) (sym is) (Contains-append_left inner (y ∷ rest) z among)

  here : (whole inner rest : List Entry) (y : Entry) → whole ≡ inner ++ y ∷ rest → Contains whole y
  here whole inner rest y is = subst (λ es. Contains es y) (sym is) (stands_in inner rest y)

  not_get : (k own : Key) (bytes : List ℕ) (x y : Entry) → x ≡ y → x.op ≡ op.Get k → y.op ≡ op.Put own bytes → ⊥
  not_get k own bytes x y same asks puts = let e : op.Get k ≡ op.Put own bytes = sym asks ∙ ap (λ (z : Entry). z.op) same ∙ puts in cc (e)

  -- ---- late deletions

  module _ (ulid : ℕ) (small : ulid < 2 ^ 128) (timely : IsUploadedInTime setting.script.rules ulid journal) (second : ℕ) (first : WasMarkedFirst journal ulid second) where
    abbrev mark : Entry
    mark = first.mark

    mark_in : Contains journal mark
    mark_in = here journal first.front first.back mark first.parts

    mark_puts : PutsSomeMark ulid mark
    mark_puts = let m = first.is.marks in (m.0, m.2, m.3)

    mark_compacts : Compacts (deeds.deed mark.seat)
    mark_compacts = (mark_source setting journal deeds first.front first.back mark first.parts ulid mark_puts.0 mark_puts.1).0

    of_own_seat : (x : Entry) → Contains journal x → Contains (of_seat x.seat journal) x
    of_own_seat x among = let test : (x.seat == x.seat) ≡ true = grind (arith, nat_tests) in into_filter (λ (z : Entry). z.seat == x.seat) journal x among test

    -- the look of another mark does not reach over the first one
    module _ (before after : List Entry) (e : Entry) (s : ℕ) (parts : journal ≡ before ++ e ∷ after) (less : mark.seq < e.seq) (w : WasLookedAt setting journal before e ulid s deeds) where
      look_before : Contains before (w.made).look
      look_before = here before (w.at).before (w.at).after (w.made).look (w.at).parts

      look_seat : (w.made).look.seat ≡ e.seat
      look_seat = (in_seat e.seat before (w.made).look (subst (λ es. Contains es (w.made).look) (sym (w.made).parts) (stands_in (w.made).front [] (w.made).look))).1

      own_mark : mark.seat ≡ e.seat → Contains (of_seat e.seat before) mark
      own_mark same =
          let test : (mark.seat == e.seat) ≡ true = grind (arith, nat_tests, same) in
          into_filter (λ (z : Entry). z.seat == e.seat) before mark (is_before setting journal lawful deeds honest before after e mark parts mark_in less) test

      not_over : (w.made).look.seq < mark.seq → ⊥
      not_over over = by_seat (mark.seat == e.seat) refl
        where
          by_seat : (b : Bool) → (mark.seat == e.seat) ≡ b → ⊥
          by_seat true test =
              let same : mark.seat ≡ e.seat = grind (arith, nat_tests, test) in
              elim (Contains-append_cases (w.made).front ((w.made).look ∷ []) mark (subst (λ es. Contains es mark) (w.made).parts (own_mark same))) [
                | inl front ↦
                    let inside = (in_seat e.seat (w.at).before mark (subst (λ es. Contains es mark) (sym (w.at).own) front)).0 in
                    let lower = earlier setting journal lawful deeds honest (w.at).before ((w.at).after ++ e ∷ after) (w.made).look mark
                    (deeper setting journal lawful deeds honest before after (w.at).before (w.at).after e (w.made).look parts (w.at).parts) inside in
                    absurd (omega (arith, lower.0, over))
                | inr last ↦ elim (member_cases (w.made).look mark [] last) [
                  | inl same_one ↦ absurd (not_get (key.Mark ulid) (key.Mark ulid) mark_puts.0 (w.made).look mark same_one (w.made).asks mark_puts.1)
                  | inr none ↦ absurd (no_member mark none)
                ]
              ]
          by_seat false test =
              let differ : e.seat ≢ mark.seat = λ q. absurd (grind (arith, nat_tests, test, q)) in
              let whole : Contains journal (w.made).look = in_journal setting journal lawful deeds honest before after e (w.made).look parts look_before in
              let look_own : Contains (of_seat e.seat journal) (w.made).look = subst (λ n. Contains (of_seat n journal) (w.made).look) look_seat (of_own_seat (w.made).look whole) in
              let e_own = of_own_seat e (here journal before after e parts) in
              let mark_own = of_own_seat mark mark_in in
              elim (deeds.apart e.seat mark.seat differ w.compacts mark_compacts) [
                | inl e_first ↦ let lower = e_first e mark e_own mark_own in absurd (omega (arith, lower, less))
                | inr mark_first ↦ let lower = mark_first mark (w.made).look mark_own look_own in absurd (omega (arith, lower, over))
              ]

    -- what a decision that comes late has behind it
    abbrev IsLate : List Entry → Entry → Type 0
    IsLate before x = Contains before mark × (1000 * second + setting.script.rules.delete.ms < x.moment.ms)

    -- the second of the first mark is the one that was found
    same_second : (e : Entry) (s : ℕ) → mark ≡ e → PutsMark ulid s e → second ≡ s
    same_second e s same also =
        let m = first.is.marks in
        let puts : op.Put (key.Mark ulid) m.0 ≡ op.Put (key.Mark ulid) also.0 = sym m.2 ∙ ap (λ (z : Entry). z.op) same ∙ also.2 in
        let bytes : m.0 ≡ also.0 = cc (puts) in
        let one : m.1 ≡ also.1 = one_mark also.0 m.1 also.1 (subst (λ b. IsMarkText b m.1) bytes m.4) also.4 in
        sym m.5 ∙ ap (λ (x : MarkFields). x.deletion_time) one ∙ also.5

    module _ (p : Entry) (complete : Contains journal p) (put : PutsMeta ulid p) where
      -- from an earlier decision
      later_too : (before after : List Entry) (x y : Entry) → journal ≡ before ++ x ∷ after → Contains before y → (inner : List Entry) → IsLate inner y → ((z : Entry) → Contains inner z → Contains before z) → IsLate before x
      later_too before after x y parts among inner late more =
          let near = earlier setting journal lawful deeds honest before after x y parts among in (more mark late.0, omega (arith, late.1, near.1))

      late_by : (n : ℕ) (before after : List Entry) (x : Entry) → journal ≡ before ++ x ∷ after → length before < n → IsDecision setting.script.rules ulid x → IsLate before x
      late_by zero before after x parts few decides = absurd (omega (arith, few))
      late_by (suc n) before after x parts few (inr m) =
          let d = earlier_decision setting journal lawful deeds honest ulid small timely p complete put before after x parts m in
          let at = deeper setting journal lawful deeds honest before after d.before d.after x d.decision parts d.parts in
          let rest = late_by n d.before (d.after ++ x ∷ after) d.decision at (omega (arith, few, shorter setting journal lawful deeds honest before d.before d.after d.decision d.parts)) d.decides in
          later_too before after x d.decision parts (here before d.before d.after d.decision d.parts) d.before rest (λ z. within before d.before d.after d.decision z d.parts)
      late_by (suc n) before after x parts few (inl m) =
          let o = old_mark setting journal lawful deeds honest ulid small timely before after x parts m in
          let last = o.0 in
          let s : ℕ = (m.mark).deletion_time in
          let old : 1000 * s + setting.script.rules.delete.ms < x.moment.ms = ltb-true _ _ m.old in
          let at = put_in setting journal lawful deeds honest ulid small timely before after x (key.Mark ulid) m.bytes parts last in
          let among : Contains before last.put = here before last.front last.back last.put last.parts in
          elim (ordered journal rises mark last.put mark_in (here journal last.front _ last.put at)) [
            | inl (inl less) ↦
                let w = looked_at setting journal lawful deeds last.front (last.back ++ x ∷ after) last.put at ulid s o.1 in
                let look = (w.made).look in
                let look_at = deeper setting journal lawful deeds honest last.front (last.back ++ x ∷ after) (w.at).before (w.at).after last.put look at (w.at).parts in
                elim (ordered journal rises look mark (here journal (w.at).before _ look look_at) mark_in) [
                  | inl (inl over) ↦ absurd (not_over last.front (last.back ++ x ∷ after) last.put s at less.0 w over.0)
                  | inl (inr behind) ↦
                      let none = absent_stands setting journal (w.at).before _ look honest look_at (key.Mark ulid) (w.made).asks (w.made).absent in
                      let gone = deleted_since setting journal lawful deeds (w.at).before (look ∷ ((w.at).after ++ last.put ∷ (last.back ++ x ∷ after))) look_at (key.Mark ulid) small tt mark mark_puts.0
                      (is_before setting journal lawful deeds honest (w.at).before _ look mark look_at mark_in behind.0) (mark_puts.1, mark_puts.2) none in
                      let gone_at = deeper setting journal lawful deeds honest (w.at).before _ gone.before gone.after look gone.delete look_at gone.parts in
                      let d = was_decided setting journal lawful deeds honest gone.before _ gone.delete (key.Mark ulid) gone_at (gone.deletes).0 in
                      let at_d = deeper setting journal lawful deeds honest gone.before _ d.before d.after gone.delete d.decision gone_at d.parts in
                      let inward : (z : Entry) → Contains gone.before z → Contains before z = λ z own.
                      within before last.front last.back last.put z last.parts (within last.front (w.at).before (w.at).after look z (w.at).parts (within (w.at).before gone.before gone.after gone.delete z gone.parts own)) in
                      let rest = late_by n d.before _ d.decision at_d
                      (omega (
                        arith,
                        few,
                        shorter setting journal lawful deeds honest before last.front last.back last.put last.parts,
                        shorter setting journal lawful deeds honest last.front (w.at).before (w.at).after look (w.at).parts,
                        shorter setting journal lawful deeds honest (w.at).before gone.before gone.after gone.delete gone.parts,
                        shorter setting journal lawful deeds honest gone.before d.before d.after d.decision d.parts,
                      )) d.decides in
                      later_too before after x d.decision parts (inward d.decision (here gone.before d.before d.after d.decision d.parts)) d.before rest (λ z own. inward z (within gone.before d.before d.after d.decision z d.parts own))
                  | inr same ↦ absurd (not_get (key.Mark ulid) (key.Mark ulid) mark_puts.0 look mark same (w.made).asks mark_puts.1)
                ]
            | inl (inr less) ↦ absurd (All-contains (λ (z : Entry). ¬ PutsSomeMark ulid z) first.front last.put first.is.first
                (is_before setting journal lawful deeds honest first.front first.back mark last.put first.parts (here journal last.front _ last.put at) less.0) (m.bytes, (last.puts).0, (last.puts).1))
            | inr same ↦ (subst (Contains before) (sym same) among, omega (arith, old, same_second last.put s same o.1))
          ]

      late : (before after : List Entry) (x : Entry) → journal ≡ before ++ x ∷ after → IsDecision setting.script.rules ulid x → IsLate before x
      late before after x parts decides = late_by (suc (length before)) before after x parts (omega arith) decides

      -- and so is a delete
      late_delete : (before after : List Entry) (e : Entry) (k : Key) → journal ≡ before ++ e ∷ after → e.op ≡ op.Delete k → key_ulid k ≡ ulid → IsLate before e
      late_delete before after e k parts deletes own =
          let d = subst (λ (u : ℕ). HasDecision setting u before) own (was_decided setting journal lawful deeds honest before after e k parts deletes) in
          let at = deeper setting journal lawful deeds honest before after d.before d.after e d.decision parts d.parts in
          later_too before after e d.decision parts (here before d.before d.after d.decision d.parts) d.before (late d.before _ d.decision at d.decides) (λ z. within before d.before d.after d.decision z d.parts)

  -- ---- the laws

  module _ (ulid : ℕ) (timely : IsUploadedInTime setting.script.rules ulid journal) where
    put_small : (p : Entry) (bytes : List ℕ) → Contains journal p → p.op ≡ op.Put (key.Meta ulid) bytes → ulid < 2 ^ 128
    put_small p bytes among puts = let at = parted journal p among in put_is_small setting journal deeds at.0 at.1 p at.2 lawful (key.Meta ulid) bytes puts

    pub nothing_put_after : (before middle after : List Entry) (x e : Entry) → journal ≡ before ++ x ∷ (middle ++ e ∷ after) → DecidesToDelete setting before x ulid → ¬ PutsObject ulid e
    nothing_put_after before middle after x e parts decides puts =
        let among : Contains (middle ++ e ∷ after) e = stands_in middle after e in
        let whole : Contains journal e = subst (λ es. Contains es e) (sym parts) (Contains-append_right before (x ∷ (middle ++ e ∷ after)) e (contains_later x e (middle ++ e ∷ after) among)) in
        let at = parted journal e whole in
        let small : key_ulid puts.0 < 2 ^ 128 = put_is_small setting journal deeds at.0 at.1 e at.2 lawful puts.0 puts.1 puts.2 in
        let less = back_is_later before (middle ++ e ∷ after) x e (subst Rises parts rises) among in
        none_put_later setting journal lawful deeds honest ulid (subst (λ (u : ℕ). u < 2 ^ 128) puts.3 small) timely before (middle ++ e ∷ after) x e parts decides.why whole less.0 puts

    -- a delete of a block whose meta was ever put comes after its first mark, and late
    pub deletions_are_late : (p : Entry) → Contains journal p → PutsMeta ulid p → (before after : List Entry) (e : Entry) (k : Key) → journal ≡ before ++ e ∷ after → e.op ≡ op.Delete k → key_ulid k ≡ ulid
        → (second : ℕ) × (first : WasMarkedFirst journal ulid second) × Contains before first.mark × (1000 * second + setting.script.rules.delete.ms < e.moment.ms)
    deletions_are_late p complete put before after e k parts deletes own =
        let small = put_small p put.0 complete put.1 in
        let d = subst (λ (u : ℕ). HasDecision setting u before) own (was_decided setting journal lawful deeds honest before after e k parts deletes) in
        let at = deeper setting journal lawful deeds honest before after d.before d.after e d.decision parts d.parts in
        let m = mark_before setting journal lawful deeds honest ulid small timely p complete put d.before _ d.decision at d.decides in
        let f = first_mark ulid m.0 (in_journal setting journal lawful deeds honest d.before _ d.decision m.0 at m.1) m.2 in
        let late = late_delete ulid small timely f.0 f.1 p complete put before after e k parts deletes own in
        (f.0, f.1, late.0, late.1)

    -- before a delete that landed of an object, a delete of the meta landed, or it is that of the meta
    meta_goes_first : (before after : List Entry) (e : Entry) (k : Key) → journal ≡ before ++ e ∷ after → LandsDelete k e → key_ulid k ≡ ulid
        → LandsDelete (key.Meta ulid) e ⊎ ((d : Entry) × Contains before d × LandsDelete (key.Meta ulid) d)
    meta_goes_first before after e k parts (deletes, landed) own =
        let is = delete_source setting journal deeds before after e parts k deletes in
        elim is.meta_first [
          | inl same ↦ inl (deletes ∙ ap op.Delete (same ∙ ap key.Meta own), landed)
          | inr (d, among, gone, done) ↦
              let inside : Contains (of_seat e.seat before) d = subst (λ es. Contains es d) (sym is.parts) (Contains-append_right is.front (is.decision ∷ is.later) d (contains_later is.decision d is.later among)) in
              inr (d, (in_seat e.seat before d inside).0, (gone ∙ ap (λ (u : ℕ). op.Delete (key.Meta u)) own, ap has_landed done))
        ]

    pub nothing_deleted : (before after : List Entry) → journal ≡ before ++ after → (bytes : List ℕ) → stands before (key_text (key.Meta ulid)) ≡ Some bytes → (e : Entry) (k : Key) → Contains before e → key_ulid k ≡ ulid → ulid < 2 ^ 128 → ¬ LandsDelete k e
    nothing_deleted before after parts bytes is e k among own small deletes =
        let last = stood setting journal lawful deeds before after parts (key.Meta ulid) small tt bytes is in
        let at = parted before e among in
        let whole : journal ≡ at.0 ++ e ∷ (at.1 ++ after) = parts ∙ ap (λ es. es ++ after) at.2 ∙ append_assoc at.0 (e ∷ at.1) after in
        let inside : (z : Entry) → Contains before z → Contains journal z = λ z c. subst (λ es. Contains es z) (sym parts) (Contains-append_left before after z c) in
        let put_at : journal ≡ last.front ++ last.put ∷ (last.back ++ after) = parts ∙ ap (λ es. es ++ after) last.parts ∙ append_assoc last.front (last.put ∷ last.back) after in
        elim (meta_goes_first at.0 (at.1 ++ after) e k whole deletes own) [
          | inl here_too ↦ gone e among here_too last put_at inside
          | inr (d, early, gone_too) ↦ gone d (within before at.0 at.1 e d at.2 early) gone_too last put_at inside
        ]
      where
        gone : (d : Entry) → Contains before d → LandsDelete (key.Meta ulid) d → (last : WasPutLast before (key.Meta ulid) bytes) → journal ≡ last.front ++ last.put ∷ (last.back ++ after) → ((z : Entry) → Contains before z → Contains journal z) → ⊥
        gone d among (deletes, landed) last put_at inside =
            let at = parted before d among in
            let whole : journal ≡ at.0 ++ d ∷ (at.1 ++ after) = parts ∙ ap (λ es. es ++ after) at.2 ∙ append_assoc at.0 (d ∷ at.1) after in
            let x = was_decided setting journal lawful deeds honest at.0 (at.1 ++ after) d (key.Meta ulid) whole deletes in
            let x_at = deeper setting journal lawful deeds honest at.0 (at.1 ++ after) x.before x.after d x.decision whole x.parts in
            let put_in_journal = here journal last.front _ last.put put_at in
            let x_early = earlier setting journal lawful deeds honest at.0 (at.1 ++ after) d x.decision whole (here at.0 x.before x.after x.decision x.parts) in
            elim (ordered journal rises d last.put (inside d among) put_in_journal) [
              | inl (inl less) ↦
                  none_put_later setting journal lawful deeds honest ulid small timely x.before _ x.decision last.put x_at x.decides put_in_journal (omega (arith, x_early.0, less.0)) (key.Meta ulid, bytes, (last.puts).0, refl, tt)
              | inl (inr more) ↦ last.undeleted d
                  (back_part last d among more.0) (deletes, landed)
              | inr same ↦ (let e' : op.Delete (key.Meta ulid) ≡ op.Put (key.Meta ulid) bytes = sym deletes ∙ ap (λ (z : Entry). z.op) same ∙ (last.puts).0 in cc (e'))
            ]
          where
            back_part : (last : WasPutLast before (key.Meta ulid) bytes) (d : Entry) → Contains before d → last.put.seq < d.seq → Contains last.back d
            back_part last d among more =
                let front_rises : Rises (last.front ++ last.put ∷ last.back) = rises_left (last.front ++ last.put ∷ last.back) after (subst Rises (parts ∙ ap (λ es. es ++ after) last.parts) rises) in
                higher_is_in_back last.front last.back last.put d front_rises (subst (λ es. Contains es d) last.parts among) more

    -- a block that is complete had its meta put
    pub complete_put : (seq : ℕ) (meta : MetaFields) → IsCompletedAt journal ulid seq meta → (p : Entry) × Contains journal p × PutsMeta ulid p
    complete_put seq meta c = (c.entry, here journal c.before c.after c.entry c.is, (c.bytes, c.puts, c.landed))

    -- whatever deletes the block has the first mark behind it
    pub first_before : (seq : ℕ) (meta : MetaFields) → IsCompletedAt journal ulid seq meta → (before after : List Entry) (e : Entry) (k : Key) → journal ≡ before ++ e ∷ after → e.op ≡ op.Delete k → key_ulid k ≡ ulid
        → (front : List Entry) × (mark : Entry) × (back : List Entry) × (second : ℕ) × (before ≡ front ++ mark ∷ back) × IsFirstMark ulid second front mark × (1000 * second + setting.script.rules.delete.ms < e.moment.ms)
    first_before seq meta complete before after e k parts deletes own =
        let p = complete_put seq meta complete in
        let late = deletions_are_late p.0 p.1 p.2 before after e k parts deletes own in
        let first = late.1 in
        let at = parted before first.mark late.2 in
        let whole : first.front ++ first.mark ∷ first.back ≡ at.0 ++ first.mark ∷ (at.1 ++ e ∷ after) =
        sym first.parts ∙ parts ∙ ap (λ es. es ++ e ∷ after) at.2 ∙ append_assoc at.0 (first.mark ∷ at.1) (e ∷ after) in
        let same : first.front ≡ at.0 = one_place first.front first.back at.0 (at.1 ++ e ∷ after) first.mark (subst Rises first.parts rises) whole in
        (at.0, first.mark, at.1, late.0, at.2, subst (λ es. IsFirstMark ulid late.0 es first.mark) same first.is, late.3)

    -- the first mark stands until a delete of the meta lands
    pub first_mark_stands : (front middle after : List Entry) (mark : Entry) (second : ℕ) (bytes : List ℕ) → journal ≡ front ++ mark ∷ (middle ++ after) → IsFirstMark ulid second front mark → mark.op ≡ op.Put (key.Mark ulid) bytes
        → ((e : Entry) → Contains middle e → ¬ LandsDelete (key.Meta ulid) e) → stands (front ++ mark ∷ middle) (key_text (key.Mark ulid)) ≡ Some bytes
    first_mark_stands front middle after mark second bytes parts first puts kept =
        stands_last setting journal lawful deeds upto after whole (key.Mark ulid) small tt bytes
        (record { front = front; put = mark; back = middle; parts = refl; puts = (puts, landed); unput = no_other; undeleted = no_delete })
      where
        upto : List Entry
        upto = front ++ mark ∷ middle

        whole : journal ≡ upto ++ after
        whole = parts ∙ sym (append_assoc front (mark ∷ middle) after)

        landed : IsTrue (has_landed mark.reply)
        landed = (first.marks).3

        small : ulid < 2 ^ 128
        small = put_is_small setting journal deeds front (middle ++ after) mark parts lawful (key.Mark ulid) bytes puts

        was : WasMarkedFirst journal ulid second
        was = record { front = front; mark = mark; back = middle ++ after; parts = parts; is = first }

        -- the place of an entry of the middle
        at_middle : (e : Entry) (one two : List Entry) → middle ≡ one ++ e ∷ two → journal ≡ (front ++ mark ∷ one) ++ e ∷ (two ++ after)
        at_middle e one two is =
            parts ∙ ap (λ es. front ++ mark ∷ (es ++ after)) is ∙ ap (λ es. front ++ mark ∷ es) (append_assoc one (e ∷ two) after) ∙ sym (append_assoc front (mark ∷ one) (e ∷ (two ++ after)))

        -- what is behind the mark, and before an entry of the middle, is in the middle
        behind : (one two : List Entry) (e x : Entry) → middle ≡ one ++ e ∷ two → Contains (front ++ mark ∷ one) x → mark.seq < x.seq → Contains middle x
        behind one two e x is among more =
            let rising_one : Rises (front ++ mark ∷ one) = rises_left (front ++ mark ∷ one) (e ∷ (two ++ after)) (subst Rises (at_middle e one two is) rises) in
            subst (λ es. Contains es x) (sym is) (Contains-append_left one (e ∷ two) x (higher_is_in_back front one mark x rising_one among more))

        meta : (p : Entry) × Contains journal p × PutsMeta ulid p
        meta =
            let m = (meta_before_mark setting journal lawful deeds honest ulid small timely front (middle ++ after) mark second parts first.marks).1 in
            (m.0, in_journal setting journal lawful deeds honest front (middle ++ after) mark m.0 parts m.1, m.2)

        no_delete : (e : Entry) → Contains middle e → ¬ LandsDelete (key.Mark ulid) e
        no_delete e among deletes =
            let at = parted middle e among in
            let here_is = at_middle e at.0 at.1 at.2 in
            elim (meta_goes_first (front ++ mark ∷ at.0) (at.1 ++ after) e (key.Mark ulid) here_is deletes refl) [
              | inl own ↦ kept e among own
              | inr (d, early, gone) ↦
                  let d_at = parted (front ++ mark ∷ at.0) d early in
                  let d_whole = deeper setting journal lawful deeds honest (front ++ mark ∷ at.0) (at.1 ++ after) d_at.0 d_at.1 e d here_is d_at.2 in
                  let late = late_delete ulid small timely second was meta.0 meta.1 meta.2 d_at.0 _ d (key.Meta ulid) d_whole gone.0 refl in
                  let lower = earlier setting journal lawful deeds honest d_at.0 _ d mark d_whole late.0 in
                  kept d (behind at.0 at.1 e d at.2 early lower.0) gone
            ]

        no_other : (e : Entry) (other : List ℕ) → Contains middle e → ¬ LandsPut (key.Mark ulid) other e
        no_other e other among again =
            let at = parted middle e among in
            let here_is = at_middle e at.0 at.1 at.2 in
            let tells = mark_tells (front ++ mark ∷ at.0) (at.1 ++ after) e ulid here_is (other, again.0, again.1) in
            let w = looked_at setting journal lawful deeds (front ++ mark ∷ at.0) (at.1 ++ after) e here_is ulid tells.0 tells.1 in
            let look = (w.made).look in
            let look_is = deeper setting journal lawful deeds honest (front ++ mark ∷ at.0) (at.1 ++ after) (w.at).before (w.at).after e look here_is (w.at).parts in
            let mark_in_journal = here journal front (middle ++ after) mark parts in
            let less = earlier setting journal lawful deeds honest (front ++ mark ∷ at.0) (at.1 ++ after) e mark here_is (stands_in front at.0 mark) in
            elim (ordered journal rises look mark (here journal (w.at).before _ look look_is) mark_in_journal) [
              | inl (inl over) ↦ not_over ulid small timely second was (front ++ mark ∷ at.0) (at.1 ++ after) e tells.0 here_is less.0 w over.0
              | inl (inr later) ↦
                  let none = absent_stands setting journal (w.at).before _ look honest look_is (key.Mark ulid) (w.made).asks (w.made).absent in
                  let gone = deleted_since setting journal lawful deeds (w.at).before (look ∷ ((w.at).after ++ e ∷ (at.1 ++ after))) look_is (key.Mark ulid) small tt mark bytes
                  (is_before setting journal lawful deeds honest (w.at).before _ look mark look_is mark_in_journal later.0) (puts, landed) none in
                  let inside : Contains (front ++ mark ∷ at.0) gone.delete =
                  within (front ++ mark ∷ at.0) (w.at).before (w.at).after look gone.delete (w.at).parts (here (w.at).before gone.before gone.after gone.delete gone.parts) in
                  no_delete gone.delete (behind at.0 at.1 e gone.delete at.2 inside gone.since) gone.deletes
              | inr same ↦ not_get (key.Mark ulid) (key.Mark ulid) bytes look mark same (w.made).asks puts
            ]
