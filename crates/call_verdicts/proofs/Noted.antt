-- What a call says of the answers to its run's operations.
use Rattle.std.proofs.Common.{◌≡◌, ◌≢◌, ◌⊎◌, inl, inr, ℕ, Bool, true, false, IsTrue, List, [], Option, Some, None, refl, sym, ◌∙◌, ap, ap₂, subst, arith}
use Rattle.std.specs.Prelude.{IfSome, IsSomeAnd}
use Rattle.world_core.specs.Keeping.{IsFull}
use Rattle.world_core.specs.Worlds.{WorldView}
use Rattle.world_core.specs.declared.entry.Entry.{Entry}
use Rattle.report_lines.specs.lifecycle_core.specs.Setting.{Setting}
use Rattle.bucket_core.specs.Contents.{Contents}
use Rattle.bucket_core.specs.Told.{BucketTold}
use Rattle.call_verdicts.specs.Asked.{WasAskedAsShown, WasOnlyOpened}
use Rattle.call_verdicts.specs.Noted.{IsFullSaid, IsNoted}
use Rattle.call_verdicts.specs.Noted.{tells_full}
use Rattle.call_verdicts.specs.Statuses.{number_of}
use Rattle.call_verdicts.specs.Undone.{IsUndone}
use Rattle.call_verdicts.specs.Verdicts.{Around, IsChecked, IsFullRun, IsRun, IsSaid, IsUnread, IsWorked, Saying, status_of}
use Rattle.call_verdicts.proofs.BucketAsked.{none_opened}
use Rattle.run_notes.specs.Notes.{Tells}
use Rattle.run_notes.specs.declared.run_note.RunNote.{RunNote}
use Rattle.call_verdicts.specs.declared.status.Status.{Status}
use Rattle.report_lines.specs.declared.check_outcome.CheckOutcome.TheVariants.{Passed, Refused}
use Rattle.call_verdicts.specs.declared.verdict.Verdict.{Verdict}
use Rattle.call_verdicts.specs.declared.verdict.Verdict.TheVariants.{WordsRefused, SourceFault, ScriptRefused, SiteFault, NotEmpty, Full, Report, Checked, NoMemory}

-- ---- the status of a call with a note

-- a status that is not that of the full journal
other_status : (v : Verdict) (saying : Saying) (said : Status) → (number_of (status_of v) ≡ 8 → ⊥) → IsSaid v saying said → number_of said ≡ 8 → ⊥
other_status v saying said other (inl (is, added)) eight = other (sym (ap number_of is) ∙ eight)
other_status v saying said other (inr (inl (is, some, rose, part))) eight = let n : number_of said ≡ 4 = ap number_of is in absurd (omega (arith, n, eight))
other_status v saying said other (inr (inr (is, mute, kept, same))) eight = let n : number_of said ≡ 6 = ap number_of is in absurd (omega (arith, n, eight))

said_by : (v : Verdict) (saying : Saying) (said : Status) → IsSaid v saying said → IsFullSaid (tells_full v) saying (number_of said)
said_by (Full lines) saying said (inl (is, added)) = inl (ap number_of is)
said_by (Full lines) saying said (inr (inl (is, some, rose, part))) = inr (ap number_of is, rose)
said_by (Full lines) saying said (inr (inr (is, mute, kept, same))) = absurd (cc (mute))
said_by WordsRefused saying said is = other_status WordsRefused saying said (λ e. absurd (cc (e))) is
said_by SourceFault saying said is = other_status SourceFault saying said (λ e. absurd (cc (e))) is
said_by (ScriptRefused refusal) saying said is = other_status (ScriptRefused refusal) saying said (λ e. absurd (cc (e))) is
said_by SiteFault saying said is = other_status SiteFault saying said (λ e. absurd (cc (e))) is
said_by (NotEmpty name) saying said is = other_status (NotEmpty name) saying said (λ e. absurd (cc (e))) is
said_by (Report lines true) saying said is = other_status (Report lines true) saying said (λ e. absurd (cc (e))) is
said_by (Report lines false) saying said is = other_status (Report lines false) saying said (λ e. absurd (cc (e))) is
said_by (Checked block (Passed series samples)) saying said is = other_status (Checked block (Passed series samples)) saying said (λ e. absurd (cc (e))) is
said_by (Checked block (Refused number)) saying said is = other_status (Checked block (Refused number)) saying said (λ e. absurd (cc (e))) is
said_by NoMemory saying said is = other_status NoMemory saying said (λ e. absurd (cc (e))) is

pub full_said : {B : Type 0} (says : Bool → Bool → Bool) (tells : B → BucketTold) (v : Verdict) (saying : Saying) (said : Status) (journal : Option (List Entry)) (store : Option B) (told : Option (RunNote B)) → IsNoted says tells v journal store told → IsSaid v saying said → IfSome told (λ n. IsFullSaid (says n.full n.wanted) saying (number_of said))
full_said says tells v saying said journal store None noted is = tt
full_said says tells v saying said journal store (Some n) noted is = subst (λ (b : Bool). IsFullSaid b saying (number_of said)) (sym noted.full) (said_by v saying said is)

-- a run whose note is of the world that it left
pub noted_world : {B : Type 0} (says : Bool → Bool → Bool) (tells : B → BucketTold) (v : Verdict) (world : WorldView B) (full wanted : Bool) (told : Option (RunNote B)) → IsSomeAnd told (Tells full wanted world) → says full wanted ≡ tells_full v
    → (wanted ≡ true → v ≡ NoMemory) → (wanted ≡ false → WasAskedAsShown tells world.journal world.bucket) → IsNoted says tells v (Some world.journal) (Some world.bucket) told
noted_world says tells v world full wanted None some is short asks = absurd some
noted_world {B} says tells v world full wanted (Some n) some is short asks = record {
  journal_is = ap (λ (w : WorldView B). Some w.journal) (sym some.world_is);
  store_is = ap (λ (w : WorldView B). Some w.bucket) (sym some.world_is);
  full = ap₂ says some.full_is some.wanted_is ∙ is;
  short = λ so. short (sym some.wanted_is ∙ so);
  asks = λ never. subst (λ (w : WorldView B). WasAskedAsShown tells w.journal w.bucket) (sym some.world_is) (asks (sym some.wanted_is ∙ never));
}

-- memory was wanted for no operation, if that would be told
pub unwanted_by : (wanted : Bool) (v : Verdict) → v ≢ NoMemory → (IsTrue wanted → v ≡ NoMemory) → wanted ≡ false
unwanted_by false v never short = refl
unwanted_by true v never short = absurd (never (short refl))

-- a run that tells of wanted memory wherever it was wanted
pub short_by : (wanted : Bool) (v : Verdict) → (IsTrue wanted → v ≡ NoMemory) → wanted ≡ true → v ≡ NoMemory
short_by true v short is = short refl
short_by false v short is = absurd (cc (is))

-- the same verdict, journal, bucket and note
pub noted_as : {B : Type 0} (says : Bool → Bool → Bool) (tells : B → BucketTold) (v w : Verdict) (world : WorldView B) (journal : Option (List Entry)) (store : Option B) (told note : Option (RunNote B)) → w ≡ v → journal ≡ Some world.journal → store ≡ Some world.bucket → note ≡ told
    → IsNoted says tells v (Some world.journal) (Some world.bucket) told → IsNoted says tells w journal store note
noted_as {B} says tells v w world journal store told note is kept handed same noted =
    subst (λ (n : Option (RunNote B)). IsNoted says tells w journal store n) (sym same)
    (subst (λ (x : Verdict). IsNoted says tells x journal store told) (sym is)
    (subst (λ (o : Option (List Entry)). IsNoted says tells v o store told) (sym kept) (subst (λ (o : Option B). IsNoted says tells v (Some world.journal) o told) (sym handed) noted)))

-- ---- a call whose run did not begin

empty_not_full : ¬ IsFull []
empty_not_full (inl many) = absurd (omega (arith, many))
empty_not_full (inr much) = absurd (omega (arith, much))

empty_is_not_full : (entries : List Entry) → entries ≡ [] → ¬ IsFull entries
empty_is_not_full entries none full = empty_not_full (subst IsFull none full)

-- without a note
pub unnoted : {B : Type 0} (says : Bool → Bool → Bool) (tells : B → BucketTold) (v : Verdict) (journal : Option (List Entry)) (store : Option B) (told : Option (RunNote B)) → told ≡ None → IfSome journal (λ entries. entries ≡ []) → tells_full v ≡ false → IfSome store (WasOnlyOpened tells)
    → IsNoted says tells v journal store told
unnoted says tells v journal store told none empty other opened = subst (IsNoted says tells v journal store) (sym none) (empty, other, opened)

no_entries : (journal : Option (List Entry)) → journal ≡ None → IfSome journal (λ entries. entries ≡ [])
no_entries journal gone = subst (λ (o : Option (List Entry)). IfSome o (λ entries. entries ≡ [])) (sym gone) tt

pub without_bucket : {B : Type 0} (says : Bool → Bool → Bool) (tells : B → BucketTold) (v : Verdict) (journal : Option (List Entry)) (store : Option B) (told : Option (RunNote B)) → told ≡ None → journal ≡ None → store ≡ None → tells_full v ≡ false → IsNoted says tells v journal store told
without_bucket says tells v journal store told none gone nothing other = unnoted says tells v journal store told none (no_entries journal gone) other (none_opened tells store nothing)

if_first : (journal : Option (List Entry)) (P : List Entry → Type 0) → IfSome journal (λ entries. (entries ≡ []) × P entries) → IfSome journal (λ entries. entries ≡ [])
if_first None P both = tt
if_first (Some entries) P both = both.0

and_first : (journal : Option (List Entry)) (P : List Entry → Type 0) → IsSomeAnd journal (λ entries. (entries ≡ []) × P entries) → IfSome journal (λ entries. entries ≡ [])
and_first None P both = tt
and_first (Some entries) P both = both.0

and_if : (journal : Option (List Entry)) → IsSomeAnd journal (λ entries. entries ≡ []) → IfSome journal (λ entries. entries ≡ [])
and_if None some = tt
and_if (Some entries) some = some

never_full : (setting : Setting) (text : List ℕ) (journal : Option (List Entry)) → IsSomeAnd journal (λ entries. (entries ≡ []) × IsFullRun setting text entries) → ⊥
never_full setting text None run = run
never_full setting text (Some entries) run = empty_is_not_full entries run.0 run.1.full

undone_run : {B : Type 0} (says : Bool → Bool → Bool) (tells : B → BucketTold) (setting : Setting) (before : Option Contents) (failed : Type 0) (journal : Option (List Entry)) (v : Verdict) (store : Option B) (told : Option (RunNote B)) → told ≡ None → IfSome store (WasOnlyOpened tells) → IsRun IsUndone setting before failed journal v → IsNoted says tells v journal store told
undone_run says tells setting before failed journal WordsRefused store told none opened run = absurd run
undone_run says tells setting before failed journal SourceFault store told none opened run = absurd run
undone_run says tells setting before failed journal (ScriptRefused refusal) store told none opened run = absurd run
undone_run says tells setting before failed journal SiteFault store told none opened run = unnoted says tells SiteFault journal store told none run.1 refl opened
undone_run says tells setting before failed journal (NotEmpty name) store told none opened run = unnoted says tells (NotEmpty name) journal store told none (and_if journal run.1) refl opened
undone_run says tells setting before failed journal (Full lines) store told none opened run = absurd (never_full setting lines.items journal run.1)
undone_run says tells setting before failed journal (Report lines as_asked) store told none opened run = unnoted says tells (Report lines as_asked) journal store told none (and_first journal _ run.1) refl opened
undone_run says tells setting before failed journal (Checked block outcome) store told none opened run = absurd run
undone_run says tells setting before failed journal NoMemory store told none opened run = unnoted says tells NoMemory journal store told none (if_first journal _ run) refl opened

unread_tells : (told left : Option (List ℕ)) (failed : Type 0) (v : Verdict) → IsUnread told left failed v → tells_full v ≡ false
unread_tells told left failed WordsRefused is = refl
unread_tells told left failed SourceFault is = refl
unread_tells told left failed (ScriptRefused refusal) is = refl
unread_tells told left failed SiteFault is = refl
unread_tells told left failed (NotEmpty name) is = refl
unread_tells told left failed (Full lines) is = absurd is
unread_tells told left failed (Report lines as_asked) is = refl
unread_tells told left failed (Checked block outcome) is = refl
unread_tells told left failed NoMemory is = refl

-- the check of a block has no journal to be full
pub checked_tells : (files : Option Contents) (block : ℕ) (failed : Type 0) (v : Verdict) → IsChecked files block failed v → tells_full v ≡ false
checked_tells files block failed WordsRefused is = refl
checked_tells files block failed SourceFault is = refl
checked_tells files block failed (ScriptRefused refusal) is = refl
checked_tells files block failed SiteFault is = refl
checked_tells files block failed (NotEmpty name) is = refl
checked_tells files block failed (Full lines) is = absurd is
checked_tells files block failed (Report lines as_asked) is = refl
checked_tells files block failed (Checked own outcome) is = refl
checked_tells files block failed NoMemory is = refl

pub undone_noted : {B : Type 0} (says : Bool → Bool → Bool) (tells : B → BucketTold) (around : Around) (v : Verdict) (store : Option B) (told : Option (RunNote B)) → told ≡ None → IfSome store (WasOnlyOpened tells) → IsWorked (record around { is_done = IsUndone }) v → IsNoted says tells v around.journal store told
undone_noted says tells around v store told none opened (inl (unread, gone, unasked)) =
    unnoted says tells v around.journal store told none (no_entries around.journal gone) (unread_tells around.text around.left around.source_failed v unread) opened
undone_noted says tells around v store told none opened (inr work) = undone_run says tells work.setting around.before (around.site_failed ⊎ around.shelf_failed) around.journal v store told none opened work.run
