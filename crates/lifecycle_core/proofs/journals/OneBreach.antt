-- A journal without a breach is unbroken, and one that is not has one breach alone.
use Rattle.std.proofs.Common.{◌≡◌, ◌≢◌, ◌⊎◌, inl, inr, ℕ, zero, suc, ◌+◌, ◌*◌, ◌/◌, ◌<◌, List, [], ◌∷◌, ◌++◌, length, refl, sym, ◌∙◌, ap, subst, append_assoc, append-nil, arith}
use Rattle.std.specs.Prelude.{Ok}
use Rattle.std.proofs.lemmas.List.{length-append}
use Rattle.block_keys.specs.Keys.{key_ulid}
use Rattle.block_meta.specs.MetaFields.{MarkFields}
use Rattle.block_meta.specs.MetaReading.{mark_of_text}
use Rattle.block_meta.proofs.FoundTexts.{mark_text_only}
use Rattle.ulid_core.specs.Times.{time_of}
use Rattle.world_core.specs.Journals.{Each}
use Rattle.world_core.specs.Standing.{stands}
use Rattle.world_core.specs.Worlds.{IsJournal}
use Rattle.world_core.specs.declared.entry.Entry.{Entry}
use Rattle.meta_fetcher.specs.declared.view.View.{View}
use Rattle.moment_core.specs.declared.moment.Moment.{Moment}
use Rattle.script_core.specs.Lawful.{IsLawfulScript}
use Rattle.lifecycle_core.specs.Breaches.{FirstDiffer, IsBreach, IsKept, IsLie, IsOver, IsSeatOf, IsUnbroken, IsViewAt, Refuses, Rule, honesty, mark_time, next_byte, rank, read_time, sync_time, upload_time, view_time}
use Rattle.lifecycle_core.specs.Setting.{Setting}
use Rattle.lifecycle_core.specs.TimeRules.{PutsMark, PutsObject}
use Rattle.lifecycle_core.proofs.journals.Honesty.{one_reply}
use Rattle.lifecycle_core.proofs.journals.OneSync.{one_sync, same_seat}
use Rattle.lifecycle_core.proofs.journals.OneViewAt.{one_view}
use Rattle.lifecycle_core.proofs.journals.Positions.{split}
use Rattle.lifecycle_core.proofs.journals.Rising.{journal_rises}
use Rattle.lifecycle_core.proofs.journals.Told.{Rises}
use Rattle.lifecycle_core.proofs.phases.OneSeat.{neither_less, one_gateway}

-- ---- without a breach

module _ (setting : Setting) (journal : List Entry) (none : (rule : Rule) (number x y : ℕ) → ¬ IsBreach setting journal rule number x y) where
  -- no rule below a rank refuses an entry before which all is kept
  by_rank : (n : ℕ) (before after : List Entry) (e : Entry) → journal ≡ before ++ e ∷ after → Each (IsKept setting journal) before → (rule : Rule) (x y : ℕ) → rank rule < n → ¬ Refuses setting journal rule before e x y
  by_rank zero before after e parts kept rule x y less refused = absurd (omega (arith, less))
  by_rank (suc n) before after e parts kept rule x y less refused = none rule e.seq x y (record {
    before = before;
    entry = e;
    after = after;
    parts = parts;
    is = refl;
    refused = refused;
    first = kept;
    foremost = λ other one two lower refuses. by_rank n before after e parts kept other one two (omega (arith, lower, less)) refuses;
  })

  kept_below : (n : ℕ) (before after : List Entry) (e : Entry) → journal ≡ before ++ e ∷ after → length before < n → IsKept setting journal before e
  kept_below zero before after e parts less = absurd (omega (arith, less))
  kept_below (suc n) before after e parts less = λ rule x y.
      by_rank (suc (rank rule)) before after e parts
      (λ front back own is. kept_below n front (back ++ e ∷ after) own (parts ∙ ap (λ (es : List Entry). es ++ e ∷ after) is ∙ append_assoc front (own ∷ back) (e ∷ after)) (omega (arith, less, ap (length {A = Entry}) is, length-append front (own ∷ back))))
      rule x y (omega arith)

  pub is_unbroken : IsUnbroken setting journal
  is_unbroken before after e parts = kept_below (suc (length before)) before after e parts (omega arith)

-- ---- one breach

pub same_rule : (one other : Rule) → rank one ≡ rank other → one ≡ other
same_rule honesty honesty is = refl
same_rule upload_time upload_time is = refl
same_rule mark_time mark_time is = refl
same_rule sync_time sync_time is = refl
same_rule view_time view_time is = refl
same_rule read_time read_time is = refl
same_rule one other is = absurd (omega (arith, is))

module _ (setting : Setting) (journal : List Entry) (rule also : Rule) (number seq x y one two : ℕ) (b : IsBreach setting journal rule number x y) (c : IsBreach setting journal also seq one two) where
  -- the entry of a breach is not before that of another
  at_once : (more : List Entry) → c.before ≡ b.before ++ more → b.entry ∷ b.after ≡ more ++ c.entry ∷ c.after → (c.before ≡ b.before) × (c.entry ≡ b.entry)
  at_once [] begins goes = (begins ∙ append-nil b.before, cc (goes))
  at_once (e ∷ more) begins goes =
      let same : e ≡ b.entry = cc (goes) in
      absurd (c.first b.before more b.entry (begins ∙ ap (λ (x : Entry). b.before ++ x ∷ more) same) rule x y b.refused)

  same_entry : (c.before ≡ b.before) × (c.entry ≡ b.entry)
  same_entry = elim (split b.before (b.entry ∷ b.after) c.before c.after c.entry (sym b.parts ∙ c.parts)) [
    | inl (rest, begins, goes) ↦ absurd (b.first c.before rest c.entry begins also one two c.refused)
    | inr (more, begins, goes) ↦ at_once more begins goes
  ]

  -- what refuses the one refuses the other
  refused_here : Refuses setting journal also b.before b.entry one two
  refused_here = subst (λ (e : Entry). Refuses setting journal also b.before e one two) same_entry.1 (subst (λ (es : List Entry). Refuses setting journal also es c.entry one two) same_entry.0 c.refused)

  refused_there : Refuses setting journal rule c.before c.entry x y
  refused_there = subst (λ (e : Entry). Refuses setting journal rule c.before e x y) (sym same_entry.1) (subst (λ (es : List Entry). Refuses setting journal rule es b.entry x y) (sym same_entry.0) b.refused)

  pub one_place : (rule ≡ also) × (number ≡ seq)
  one_place = (
    same_rule rule also (neither_less (rank rule) (rank also) (λ less. c.foremost rule x y less refused_there) (λ less. b.foremost also one two less refused_here)),
    sym b.is ∙ ap (λ (e : Entry). e.seq) (sym same_entry.1) ∙ c.is,
  )

-- ---- and its two numbers

differ_once : (front begin left right here there : List ℕ) → front ++ left ≡ begin ++ here → front ++ right ≡ begin ++ there → next_byte left ≢ next_byte right → next_byte here ≢ next_byte there
    → (next_byte left ≡ next_byte here) × (next_byte right ≡ next_byte there)
differ_once [] [] left right here there one other apart also = (ap next_byte one, ap next_byte other)
differ_once [] (b ∷ begin) left right here there one other apart also = absurd (apart (ap next_byte one ∙ sym (ap next_byte other)))
differ_once (a ∷ front) [] left right here there one other apart also = absurd (also (sym (ap next_byte one) ∙ ap next_byte other))
differ_once (a ∷ front) (b ∷ begin) left right here there one other apart also = differ_once front begin left right here there (cc (one)) (cc (other)) apart also

one_difference : (one other : List ℕ) (x y a b : ℕ) → FirstDiffer one other x y → FirstDiffer one other a b → (x ≡ a) × (y ≡ b)
one_difference one other x y a b (front, left, right, is, goes, first, second, apart) (begin, here, there, is', goes', first', second', apart') =
    let same = differ_once front begin left right here there (sym is ∙ is') (sym goes ∙ goes') (λ e. apart (sym first ∙ e ∙ second)) (λ e. apart' (sym first' ∙ e ∙ second')) in
    (sym first ∙ same.0 ∙ first', sym second ∙ same.1 ∙ second')

one_lie : (before : List Entry) (e : Entry) (x y a b : ℕ) → IsLie before e x y → IsLie before e a b → (x ≡ a) × (y ≡ b)
one_lie before e x y a b (reply, one, other, kind, tells, shown, owed, differ) (reply', one', other', kind', tells', shown', owed', differ') =
    let first : one' ≡ one = cc (shown, shown') in
    let second : other' ≡ other = one_reply (stands before) e.op reply' reply other' other kind' tells' kind tells owed' owed in
    one_difference one other x y a b differ (subst (λ (t : List ℕ). FirstDiffer one t a b) second (subst (λ (t : List ℕ). FirstDiffer t other' a b) first differ'))

one_over : (is most x y a b : ℕ) → IsOver is most x y → IsOver is most a b → (x ≡ a) × (y ≡ b)
one_over is most x y a b (first, second, over) (first', second', over') = (first ∙ sym first', second ∙ sym second')

one_object : (e : Entry) (ulid other : ℕ) → PutsObject ulid e → PutsObject other e → other ≡ ulid
one_object e ulid other (k, bytes, is, own, kind) (k', bytes', is', own', kind') = let same : k' ≡ k = cc (is, is') in sym own' ∙ ap key_ulid same ∙ own

one_moment : (time moment limit x y a b : ℕ) → IsOver time moment x y ⊎ IsOver moment (time + limit) x y → IsOver time moment a b ⊎ IsOver moment (time + limit) a b → (x ≡ a) × (y ≡ b)
one_moment time moment limit x y a b (inl early) (inl also) = one_over time moment x y a b early also
one_moment time moment limit x y a b (inr late) (inr also) = one_over moment (time + limit) x y a b late also
one_moment time moment limit x y a b (inl early) (inr late) = absurd (omega (arith, early.2, late.2))
one_moment time moment limit x y a b (inr late) (inl early) = absurd (omega (arith, early.2, late.2))

one_mark : (bytes : List ℕ) (mark other : MarkFields) → mark_of_text bytes ≡ Ok mark → mark_of_text bytes ≡ Ok other → other ≡ mark
one_mark bytes mark other is also = cc (is, also)

one_second : (e : Entry) (ulid other second next : ℕ) → PutsMark ulid second e → PutsMark other next e → next ≡ second
one_second e ulid other second next (bytes, mark, is, landed, text, own) (bytes', mark', is', landed', text', own') =
    let same : bytes' ≡ bytes = cc (is, is') in
    let read : mark' ≡ mark = one_mark bytes mark mark' (mark_text_only bytes mark text) (ap mark_of_text (sym same) ∙ mark_text_only bytes' mark' text') in
    sym own' ∙ ap (λ (m : MarkFields). m.deletion_time) read ∙ own

one_first : (entries others rest more : List Entry) (first start : Entry) → entries ≡ others → entries ≡ first ∷ rest → others ≡ start ∷ more → start ≡ first
one_first entries others rest more first start same begins starts = cc (same, begins, starts)

-- of an entry and a rule
one_refusal : (setting : Setting) (journal : List Entry) → IsLawfulScript setting.script → Rises journal → (rule : Rule) (before : List Entry) (e : Entry) (x y a b : ℕ) → Refuses setting journal rule before e x y → Refuses setting journal rule before e a b → (x ≡ a) × (y ≡ b)
one_refusal setting journal lawful rises honesty before e x y a b one other = one_lie before e x y a b one other
one_refusal setting journal lawful rises upload_time before e x y a b (ulid, puts, over) (ulid', puts', over') =
    let same = one_object e ulid ulid' puts puts' in
    one_moment (time_of ulid) e.moment.ms setting.script.rules.upload.ms x y a b over
    (subst (λ (u : ℕ). IsOver (time_of u) e.moment.ms a b ⊎ IsOver e.moment.ms (time_of u + setting.script.rules.upload.ms) a b) same over')
one_refusal setting journal lawful rises mark_time before e x y a b (ulid, second, puts, over) (ulid', second', puts', over') =
    let same = one_second e ulid ulid' second second' puts puts' in
    one_over e.moment.ms (1000 * second + setting.script.rules.ignore.ms) x y a b over (subst (λ (s : ℕ). IsOver e.moment.ms (1000 * s + setting.script.rules.ignore.ms) a b) same over')
one_refusal setting journal lawful rises sync_time before e x y a b (entries, end, first, others, front, (gateway, sync), begins, ends, over) (entries', end', first', others', front', (gateway', sync'), begins', ends', over') =
    let seat = same_seat setting journal rises e gateway gateway' entries entries' front front' end end' sync sync' ends ends' in
    let own : gateway' ≡ gateway = one_gateway setting lawful gateway gateway' sync'.seat (subst (IsSeatOf setting gateway) seat sync.sits) sync'.sits in
    let same = one_sync setting journal rises e gateway gateway' entries entries' front front' end end' sync sync' ends ends' (sym own) in
    let start : first' ≡ first = one_first entries entries' others others' first first' same begins begins' in
    one_over (e.moment.ms + 1000) (first.moment.ms + setting.script.rules.ignore.ms) x y a b over (subst (λ (f : Entry). IsOver (e.moment.ms + 1000) (f.moment.ms + setting.script.rules.ignore.ms) a b) start over')
one_refusal setting journal lawful rises view_time before e x y a b (view, (gateway, (sits, reads), has), over) (view', (gateway', (sits', reads'), has'), over') =
    let own : gateway' ≡ gateway = one_gateway setting lawful gateway gateway' e.seat sits sits' in
    let same : view' ≡ view = one_view setting journal rises gateway e.seq view view' has (subst (λ (g : ℕ). IsViewAt setting journal g e.seq view') own has') in
    one_over (e.moment.ms + setting.script.rules.ignore.ms) (view.begin.ms + setting.script.rules.delete.ms) x y a b over
    (subst (λ (v : View). IsOver (e.moment.ms + setting.script.rules.ignore.ms) (v.begin.ms + setting.script.rules.delete.ms) a b) same over')
one_refusal setting journal lawful rises read_time before e x y a b (begin, (sits, (own, reads, (first, others, begins, at))), over) (begin', (sits', (own', reads', (first', others', begins', at'))), over') =
    let same : first' ≡ first = cc (begins, begins') in
    let start : begin' ≡ begin = sym at' ∙ ap (λ (f : Entry). f.moment) same ∙ at in
    one_over e.moment.ms (begin.ms + setting.script.rules.delete.ms / 2) x y a b over (subst (λ (m : Moment). IsOver e.moment.ms (m.ms + setting.script.rules.delete.ms / 2) a b) start over')

pub one_pair : (setting : Setting) (tick : ℕ) (journal : List Entry) → IsLawfulScript setting.script → IsJournal tick journal → (rule : Rule) (number x y a b : ℕ) → IsBreach setting journal rule number x y → IsBreach setting journal rule number a b → (x ≡ a) × (y ≡ b)
one_pair setting tick journal lawful kept rule number x y a b one other =
    one_refusal setting journal lawful (journal_rises tick journal kept) rule one.before one.entry x y a b one.refused (refused_here setting journal rule rule number number x y a b one other)
