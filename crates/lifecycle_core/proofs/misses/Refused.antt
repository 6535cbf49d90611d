-- The first entry of a journal that a rule refuses: where none explains a miss, the rules were kept.
use Rattle.std.proofs.Common.{◌≡◌, ◌≢◌, ◌⊎◌, inl, inr, ℕ, ◌+◌, ◌*◌, ◌<◌, ◌≤◌, ◌==◌, Bool, true, false, List, [], ◌∷◌, ◌++◌, Contains, Result, Ok, Err, IsTrue, refl, sym, ◌∙◌, ap, subst, append_assoc, append-nil, arith}
use Rattle.std.specs.Prelude.{nat_le}
use Rattle.std.specs.List.{All}
use Rattle.std.proofs.lemmas.Bool.{leb-true}
use Rattle.std.proofs.lemmas.Bool.Decides.{nat_tests}
use Rattle.std.proofs.lemmas.List.Elements.{All-contains_itself, All-weaker}
use Rattle.block_keys.specs.Keys.{key_ulid}
use Rattle.block_keys.specs.declared.key.Key.{Key}
use Rattle.block_keys.specs.declared.key.Key.TheVariants as key
use Rattle.block_meta.specs.MetaFields.{MarkFields}
use Rattle.block_meta.specs.MetaReading.{mark_of_text}
use Rattle.block_meta.specs.declared.refusal.MetaRefusal.{MetaRefusal}
use Rattle.block_meta.proofs.FoundTexts.{mark_text_found, mark_text_only}
use Rattle.ulid_core.specs.Times.{time_of}
use Rattle.world_core.specs.Journals.{Each}
use Rattle.world_core.specs.Standing.{IsHonest, Tells, has_landed, stands}
use Rattle.world_core.specs.Worlds.{IsJournal, IsOfBytes}
use Rattle.world_core.specs.declared.op.Op.{Op}
use Rattle.world_core.specs.declared.op.Op.TheVariants as op
use Rattle.world_core.specs.declared.entry.Entry.{Entry}
use Rattle.lifecycle_core.specs.Breaches.{IsLie, Rule, RefusesUnder, Watch, honesty, mark_time, upload_time}
use Rattle.lifecycle_core.specs.Setting.{Setting}
use Rattle.lifecycle_core.specs.TimeRules.{IsBlockObject, IsMarkedInTime, IsUploadedInTime, PutsMark, PutsObject}
use Rattle.lifecycle_core.proofs.journals.Positions.{split}
use Rattle.lifecycle_core.proofs.journals.Standing.{parted}
use Rattle.lifecycle_core.proofs.journals.UnbrokenHonest.{tells_or_lies}
use Rattle.base.proofs.Lists.{middle_not_nil}

-- an entry that the rule refuses
pub record HasRefused (setting : Setting) (watch : Watch) (journal : List Entry) (rule : Rule) (Is : Entry → Type 0) : Type 0 where
  pub before : List Entry
  pub entry : Entry
  pub after : List Entry
  pub x : ℕ
  pub y : ℕ
  pub parts : journal ≡ before ++ entry ∷ after
  pub refused : RefusesUnder setting watch rule before entry x y
  pub is : Is entry

-- ---- the first entry of which something holds

abbrev Some_at : (List Entry → Entry → Type 0) → List Entry → Type 0
Some_at Q entries = (before : List Entry) × (e : Entry) × (after : List Entry) × (entries ≡ before ++ e ∷ after) × Q before e

module _ (P Q : List Entry → Entry → Type 0) where
  one_more : (front : List Entry) (e : Entry) → Each P front → P front e → Each P (front ++ e ∷ [])
  one_more front e each here before after x is = elim (split front (e ∷ []) before after x is) [
    | inl (rest, own, two) ↦ each before rest x own
    | inr ([], own, two) ↦
        let same : e ≡ x = cc (two) in
        let front_is : before ≡ front = own ∙ append-nil front in
        subst (λ (es : List Entry). P es x) (sym front_is) (subst (P front) same here)
    | inr (y ∷ more, own, two) ↦ absurd (middle_not_nil more x after (sym (cc (two))))
  ]

  all_or_some : (front back : List Entry) → Each (λ before e. P before e ⊎ Q before e) (front ++ back) → Each P front → Each P (front ++ back) ⊎ Some_at Q (front ++ back)
  all_or_some front [] each own = inl (subst (Each P) (sym (append-nil front)) own)
  all_or_some front (e ∷ back) each own = elim (each front back e refl) [
    | inl here ↦
        let same : (front ++ e ∷ []) ++ back ≡ front ++ e ∷ back = append_assoc front (e ∷ []) back in
        subst (λ (es : List Entry). Each P es ⊎ Some_at Q es) same (all_or_some (front ++ e ∷ []) back (subst (Each (λ before x. P before x ⊎ Q before x)) (sym same) each) (one_more front e own here))
    | inr there ↦ inr (front, e, back, refl, there)
  ]

  each_or : (entries : List Entry) → Each (λ before e. P before e ⊎ Q before e) entries → Each P entries ⊎ Some_at Q entries
  each_or entries each = all_or_some [] entries each (λ before after e is. absurd (middle_not_nil before e after (sym is)))

all_of : (P : Entry → Type 0) (entries : List Entry) → Each (λ before e. P e) entries → All P entries
all_of P entries each = All-weaker (Contains entries) P (λ e among. let at = parted entries e among in each at.0 at.1 e at.2) entries (All-contains_itself entries)

-- ---- one entry

pub within_or : (a b : ℕ) → (a ≤ b) ⊎ (b < a)
within_or a b = by (nat_le a b) refl
  where
    by : (t : Bool) → nat_le a b ≡ t → (a ≤ b) ⊎ (b < a)
    by true is = inl (leb-true a b is)
    by false is = inr (grind (arith, nat_tests, is))

module _ (setting : Setting) (watch : Watch) where
  abbrev InTime : ℕ → Entry → Type 0
  InTime ulid e = (time_of ulid ≤ e.moment.ms) × (e.moment.ms ≤ time_of ulid + setting.script.rules.upload.ms)

  abbrev Late : ℕ → List Entry → Entry → Type 0
  Late ulid before e = (x : ℕ) × (y : ℕ) × RefusesUnder setting watch upload_time before e x y × PutsObject ulid e

  object_or : (k : Key) → IsBlockObject k ⊎ (IsBlockObject k → ⊥)
  object_or (key.Meta ulid) = inl tt
  object_or (key.Index ulid) = inl tt
  object_or (key.Segment ulid number) = inl tt
  object_or (key.Mark ulid) = inr (λ is. is)

  timely_put : (ulid : ℕ) (before : List Entry) (e : Entry) → PutsObject ulid e → InTime ulid e ⊎ Late ulid before e
  timely_put ulid before e puts = elim (within_or (time_of ulid) e.moment.ms) [
    | inr early ↦ inr (time_of ulid, e.moment.ms, (ulid, puts, inl (refl, refl, early)), puts)
    | inl from ↦ elim (within_or e.moment.ms (time_of ulid + setting.script.rules.upload.ms)) [
      | inl upto ↦ inl (from, upto)
      | inr late ↦ inr (e.moment.ms, time_of ulid + setting.script.rules.upload.ms, (ulid, puts, inr (refl, refl, late)), puts)
    ]
  ]

  puts_or : (ulid : ℕ) (e : Entry) (o : Op) → e.op ≡ o → PutsObject ulid e ⊎ (PutsObject ulid e → ⊥)
  puts_or ulid e (op.Put k bytes) is = elim (object_or k) [
    | inr mark ↦ inr (λ p. let same : op.Put k bytes ≡ op.Put p.0 p.1 = sym is ∙ p.2 in let keys : k ≡ p.0 = cc (same) in mark (subst IsBlockObject (sym keys) p.4))
    | inl object ↦ by object (key_ulid k == ulid) refl
  ]
    where
      by : IsBlockObject k → (b : Bool) → (key_ulid k == ulid) ≡ b → PutsObject ulid e ⊎ (PutsObject ulid e → ⊥)
      by object true test = let own : key_ulid k ≡ ulid = grind (arith, nat_tests, test) in inl (k, bytes, is, own, object)
      by object false test = inr (λ p. let same : op.Put k bytes ≡ op.Put p.0 p.1 = sym is ∙ p.2 in let keys : k ≡ p.0 = cc (same) in let own : key_ulid k ≡ ulid = ap key_ulid keys ∙ p.3 in absurd (grind (arith, nat_tests, test, own)))
  puts_or ulid e (op.Clock moment) is = inr (λ p. cc (is, p.2))
  puts_or ulid e (op.Get k) is = inr (λ p. cc (is, p.2))
  puts_or ulid e (op.GetRange k from len) is = inr (λ p. cc (is, p.2))
  puts_or ulid e (op.Delete k) is = inr (λ p. cc (is, p.2))
  puts_or ulid e (op.RootPage after limit) is = inr (λ p. cc (is, p.2))
  puts_or ulid e (op.BlockPage own after limit) is = inr (λ p. cc (is, p.2))

  timely_here : (ulid : ℕ) (before : List Entry) (e : Entry) → (PutsObject ulid e → InTime ulid e) ⊎ Late ulid before e
  timely_here ulid before e = elim (puts_or ulid e e.op refl) [
    | inr none ↦ inl (λ p. absurd (none p))
    | inl puts ↦ elim (timely_put ulid before e puts) [ inl in_time ↦ inl (λ p. in_time) | inr late ↦ inr late ]
  ]

  -- ---- marks

  abbrev LateMark : ℕ → List Entry → Entry → Type 0
  LateMark ulid before e = (x : ℕ) × (y : ℕ) × RefusesUnder setting watch mark_time before e x y × ((second : ℕ) × PutsMark ulid second e)

  abbrev MarkInTime : ℕ → Entry → Type 0
  MarkInTime ulid e = (second : ℕ) → PutsMark ulid second e → e.moment.ms ≤ 1000 * second + setting.script.rules.ignore.ms

  one_second : (ulid : ℕ) (e : Entry) (bytes : List ℕ) (m : MarkFields) (second : ℕ) → e.op ≡ op.Put (key.Mark ulid) bytes → mark_of_text bytes ≡ Ok m → PutsMark ulid second e → second ≡ m.deletion_time
  one_second ulid e bytes m second is read p =
      let same : op.Put (key.Mark ulid) bytes ≡ op.Put (key.Mark ulid) p.0 = sym is ∙ p.2 in
      let texts : bytes ≡ p.0 = cc (same) in
      let other : mark_of_text bytes ≡ Ok p.1 = subst (λ b. mark_of_text b ≡ Ok p.1) (sym texts) (mark_text_only p.0 p.1 p.4) in
      let one : m ≡ p.1 = let both = sym read ∙ other in cc (both) in
      sym p.5 ∙ ap (λ (x : MarkFields). x.deletion_time) (sym one)

  marked_text : (ulid : ℕ) (before : List Entry) (e : Entry) (bytes : List ℕ) → e.op ≡ op.Put (key.Mark ulid) bytes → IsTrue (has_landed e.reply) → (r : Result MarkFields MetaRefusal) → mark_of_text bytes ≡ r → MarkInTime ulid e ⊎ LateMark ulid before e
  marked_text ulid before e bytes is landed (Err refusal) read = inl (λ second p.
      let same : op.Put (key.Mark ulid) bytes ≡ op.Put (key.Mark ulid) p.0 = sym is ∙ p.2 in
      let texts : bytes ≡ p.0 = cc (same) in
      let other : mark_of_text bytes ≡ Ok p.1 = subst (λ b. mark_of_text b ≡ Ok p.1) (sym texts) (mark_text_only p.0 p.1 p.4) in
      absurd (let both = sym read ∙ other in cc (both)))
  marked_text ulid before e bytes is landed (Ok m) read =
      let own : PutsMark ulid m.deletion_time e = (bytes, m, is, landed, (mark_text_found bytes).holds m read, refl) in
      elim (within_or e.moment.ms (1000 * m.deletion_time + setting.script.rules.ignore.ms)) [
        | inl in_time ↦ inl (λ second p. omega (arith, in_time, one_second ulid e bytes m second is read p))
        | inr late ↦ inr (e.moment.ms, 1000 * m.deletion_time + setting.script.rules.ignore.ms, (ulid, m.deletion_time, own, (refl, refl, late)), (m.deletion_time, own))
      ]

  not_mark : (ulid : ℕ) (e : Entry) (o : Op) → e.op ≡ o → ((bytes : List ℕ) → o ≢ op.Put (key.Mark ulid) bytes) → MarkInTime ulid e
  not_mark ulid e o is other second p = absurd (other p.0 (sym is ∙ p.2))

  marked_by : (ulid : ℕ) (before : List Entry) (e : Entry) (own : ℕ) (bytes : List ℕ) → e.op ≡ op.Put (key.Mark own) bytes → (b : Bool) → (own == ulid) ≡ b → (landed : Bool) → has_landed e.reply ≡ landed → MarkInTime ulid e ⊎ LateMark ulid before e
  marked_by ulid before e own bytes is true test true landed =
      let same : own ≡ ulid = grind (arith, nat_tests, test) in
      marked_text ulid before e bytes (is ∙ ap (λ (u : ℕ). op.Put (key.Mark u) bytes) same) landed (mark_of_text bytes) refl
  marked_by ulid before e own bytes is true test false landed = inl (λ second p. absurd (let both = sym landed ∙ p.3 in cc (both)))
  marked_by ulid before e own bytes is false test landed l =
      inl (not_mark ulid e (op.Put (key.Mark own) bytes) is (λ b same. let q : own ≡ ulid = cc (same) in absurd (grind (arith, nat_tests, test, q))))

  marked_here : (ulid : ℕ) (before : List Entry) (e : Entry) (o : Op) → e.op ≡ o → MarkInTime ulid e ⊎ LateMark ulid before e
  marked_here ulid before e (op.Put (key.Mark own) bytes) is = marked_by ulid before e own bytes is (own == ulid) refl (has_landed e.reply) refl
  marked_here ulid before e (op.Put (key.Meta own) bytes) is = inl (not_mark ulid e (op.Put (key.Meta own) bytes) is (λ b same. cc (same)))
  marked_here ulid before e (op.Put (key.Index own) bytes) is = inl (not_mark ulid e (op.Put (key.Index own) bytes) is (λ b same. cc (same)))
  marked_here ulid before e (op.Put (key.Segment own n) bytes) is = inl (not_mark ulid e (op.Put (key.Segment own n) bytes) is (λ b same. cc (same)))
  marked_here ulid before e (op.Clock moment) is = inl (not_mark ulid e (op.Clock moment) is (λ b same. cc (same)))
  marked_here ulid before e (op.Get k) is = inl (not_mark ulid e (op.Get k) is (λ b same. cc (same)))
  marked_here ulid before e (op.GetRange k from len) is = inl (not_mark ulid e (op.GetRange k from len) is (λ b same. cc (same)))
  marked_here ulid before e (op.Delete k) is = inl (not_mark ulid e (op.Delete k) is (λ b same. cc (same)))
  marked_here ulid before e (op.RootPage after limit) is = inl (not_mark ulid e (op.RootPage after limit) is (λ b same. cc (same)))
  marked_here ulid before e (op.BlockPage own after limit) is = inl (not_mark ulid e (op.BlockPage own after limit) is (λ b same. cc (same)))

module _ (setting : Setting) (watch : Watch) (journal : List Entry) where
  pub honest_or : IsJournal setting.script.rules.tick.ms journal → IsOfBytes journal → IsHonest journal ⊎ HasRefused setting watch journal honesty (λ e. Unit {0})
  honest_or kept of_bytes =
      elim (each_or (λ before e. Tells (stands before) e.op e.reply) (λ before e. (x : ℕ) × (y : ℕ) × IsLie before e x y) journal (tells_or_lies setting.script.rules.tick.ms journal kept of_bytes)) [
        | inl honest ↦ inl honest
        | inr (before, e, after, parts, (x, y, lie)) ↦ inr (record { before = before; entry = e; after = after; x = x; y = y; parts = parts; refused = lie; is = tt })
      ]

  pub timely_or : (ulid : ℕ) → IsUploadedInTime setting.script.rules ulid journal ⊎ HasRefused setting watch journal upload_time (PutsObject ulid)
  timely_or ulid =
      elim (each_or (λ before e. PutsObject ulid e → InTime setting watch ulid e) (λ before e. Late setting watch ulid before e) journal (λ before after e is. timely_here setting watch ulid before e)) [
        | inl each ↦ inl (all_of (λ e. PutsObject ulid e → InTime setting watch ulid e) journal each)
        | inr (before, e, after, parts, (x, y, late, puts)) ↦ inr (record { before = before; entry = e; after = after; x = x; y = y; parts = parts; refused = late; is = puts })
      ]

  pub marked_or : (ulid : ℕ) → IsMarkedInTime setting.script.rules ulid journal ⊎ HasRefused setting watch journal mark_time (λ e. (second : ℕ) × PutsMark ulid second e)
  marked_or ulid =
      elim (each_or (λ before e. (second : ℕ) → PutsMark ulid second e → e.moment.ms ≤ 1000 * second + setting.script.rules.ignore.ms) (λ before e. LateMark setting watch ulid before e) journal (λ before after e is. marked_here setting watch ulid before e e.op refl)) [
        | inl each ↦ inl (all_of (λ e. (second : ℕ) → PutsMark ulid second e → e.moment.ms ≤ 1000 * second + setting.script.rules.ignore.ms) journal each)
        | inr (before, e, after, parts, (x, y, late, marks)) ↦ inr (record { before = before; entry = e; after = after; x = x; y = y; parts = parts; refused = late; is = marks })
      ]
