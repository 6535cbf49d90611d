-- Verdicts and their causes, from a run outwards to the whole call.
use Rattle.std.proofs.Common.{◌≡◌, ◌≢◌, ◌⊎◌, inl, inr, ℕ, ◌<◌, List, [], ◌∷◌, length, refl, sym, ◌∙◌, subst}
use Rattle.std.specs.Prelude.{Option, Some, None, IfSome, IsSome, IsSomeAnd, Ok, Err}
use Rattle.std.proofs.lemmas.Bool.{lt-ltb}
use Rattle.std.proofs.lemmas.List.Elements.{All-head}
use Rattle.bucket_core.specs.declared.site_refusal.SiteRefusal.{SiteRefusal}
use Rattle.bucket_core.specs.declared.site_refusal.SiteRefusal.TheVariants as site
use Rattle.bucket_core.specs.Contents.{Contents, nothing}
use Rattle.bucket_core.specs.Pages.{IsName, IsPage}
use Rattle.world_core.specs.declared.entry.Entry.{Entry}
use Rattle.script_core.specs.GivenUp.{HasPatternLine, IsGivenUp, IsGivenUpFor}
use Rattle.script_core.specs.Lawful.{IsLawfulScript}
use Rattle.script_core.specs.Reading.{script_of}
use Rattle.script_fields.specs.declared.cause.LineCause.{LineCause}
use Rattle.script_fields.specs.declared.cause.LineCause.TheVariants.{PatternSizeText}
use Rattle.script_core.specs.declared.script.Script.{Script}
use Rattle.script_fields.specs.declared.script_refusal.ScriptRefusal.{ScriptRefusal}
use Rattle.script_fields.specs.declared.script_refusal.ScriptRefusal.TheVariants.{BadLine, TooLong, NoMemory as NoScriptMemory}
use Rattle.script_fields.specs.Limits.{longest_text}
use Rattle.call_verdicts.specs.Kept.{HoldsNothing}
use Rattle.call_verdicts.specs.ShelfReads.{IsOfShelf}
use Rattle.call_verdicts.specs.Undone.{IsUndone}
use Rattle.call_verdicts.specs.Verdicts.{Around, BehindOpening, BehindReading, IsEarly, IsFirstOf, IsFullRun, IsRefused, IsRun, IsScriptRead, IsUnread, IsWholeRun, IsWorked}
use Rattle.call_verdicts.specs.declared.verdict.Verdict.{Verdict}
use Rattle.call_verdicts.specs.declared.verdict.Verdict.TheVariants.{WordsRefused, SourceFault, ScriptRefused, SiteFault, NotEmpty, Full, Report, Checked, NoMemory}
use Rattle.report_lines.specs.lifecycle_core.specs.Guarantees.{IsGuaranteedJournal}
use Rattle.report_lines.specs.lifecycle_core.specs.Setting.{Setting, setting_of}

-- a word that names something names it
pub is_named : (name : List ℕ) (word : Option (List ℕ)) → Some name ≡ word → IsSome word
is_named name word same = subst (λ (w : Option (List ℕ)). IsSome w) same refl

pub behind_opening : (v : Verdict) (P : Type 0) → P → BehindOpening v P
behind_opening WordsRefused P holds = tt
behind_opening SourceFault P holds = tt
behind_opening (ScriptRefused refusal) P holds = tt
behind_opening SiteFault P holds = tt
behind_opening (NotEmpty name) P holds = holds
behind_opening (Full lines) P holds = holds
behind_opening (Report lines as_asked) P holds = holds
behind_opening (Checked block outcome) P holds = holds
behind_opening NoMemory P holds = tt

-- where the site refuses to open something, no verdict comes behind it
pub before_opening : (refusal : SiteRefusal) (v : Verdict) (P : Type 0) → (refusal ≡ site.Failed → v ≡ SiteFault) → (refusal ≡ site.NoMemory → v ≡ NoMemory) → BehindOpening v P
before_opening site.Failed v P failed short = subst (λ (w : Verdict). BehindOpening w P) (sym (failed refl)) tt
before_opening site.NoMemory v P failed short = subst (λ (w : Verdict). BehindOpening w P) (sym (short refl)) tt

none_some : (journal : Option (List Entry)) → IfSome journal (λ entries. entries ≡ []) → IsSomeAnd journal (λ entries. entries ≢ []) → ⊥
none_some None none some = some
none_some (Some entries) none some = some none

pub before_reading : (v : Verdict) (journal : Option (List Entry)) (P : Type 0) → IsEarly v → IfSome journal (λ entries. entries ≡ []) → BehindReading v journal P
before_reading WordsRefused journal P early none = tt
before_reading SourceFault journal P early none = tt
before_reading (ScriptRefused refusal) journal P early none = tt
before_reading SiteFault journal P early none = tt
before_reading (NotEmpty name) journal P early none = tt
before_reading (Full lines) journal P early none = absurd early
before_reading (Report lines as_asked) journal P early none = absurd early
before_reading (Checked block outcome) journal P early none = tt
before_reading NoMemory journal P early none = λ some. absurd (none_some journal none some)

pub behind_reading : (v : Verdict) (journal : Option (List Entry)) (P : Type 0) → P → BehindReading v journal P
behind_reading WordsRefused journal P holds = tt
behind_reading SourceFault journal P holds = tt
behind_reading (ScriptRefused refusal) journal P holds = tt
behind_reading SiteFault journal P holds = tt
behind_reading (NotEmpty name) journal P holds = tt
behind_reading (Full lines) journal P holds = holds
behind_reading (Report lines as_asked) journal P holds = holds
behind_reading (Checked block outcome) journal P holds = tt
behind_reading NoMemory journal P holds = λ some. holds

pub worked : (around : Around) (setting : Setting) (v : Verdict) → IsScriptRead around.text around.left setting.script → IsLawfulScript setting.script
    → BehindOpening v around.opened → BehindReading v around.journal (IfSome around.files (IsOfShelf setting))
    → IsRun around.is_done setting around.before (around.site_failed ⊎ around.shelf_failed) around.journal v → IsFirstOf around.held v → IsWorked around v
worked around setting v read lawful opened shelf run first = inr (record { setting = setting; read = read; lawful = lawful; opened = opened; shelf = shelf; run = run; first = first })

-- no name is listed of a bucket that holds nothing
pub no_name : (name : List ℕ) → ¬ IsPage nothing [] [] 1 (name ∷ [])
no_name name page =
    let first = All-head (IsName nothing []) name [] page.stand in
    cc (first.1)

-- a run over such a bucket does not name one
first_run : (is_done : Setting → List Entry → Type 0) (setting : Setting) (failed : Type 0) (journal : Option (List Entry)) (held : Option Contents) (v : Verdict) → IsRun is_done setting (Some nothing) failed journal v → IsFirstOf held v
first_run is_done setting failed journal held WordsRefused run = tt
first_run is_done setting failed journal held SourceFault run = tt
first_run is_done setting failed journal held (ScriptRefused refusal) run = tt
first_run is_done setting failed journal held SiteFault run = tt
first_run is_done setting failed journal held (NotEmpty name) run = absurd (no_name name run.0)
first_run is_done setting failed journal held (Full lines) run = tt
first_run is_done setting failed journal held (Report lines as_asked) run = tt
first_run is_done setting failed journal held (Checked block outcome) run = tt
first_run is_done setting failed journal held NoMemory run = tt

if_fst : (journal : Option (List Entry)) (P Q : List Entry → Type 0) → IfSome journal (λ entries. P entries × Q entries) → IfSome journal P
if_fst None P Q both = tt
if_fst (Some entries) P Q both = both.0

some_if : (journal : Option (List Entry)) (P : List Entry → Type 0) → IsSomeAnd journal P → IfSome journal P
some_if None P some = absurd some
some_if (Some entries) P some = some

-- a run that ended before anything was done has no entry
undone_empty : (setting : Setting) (before : Option Contents) (failed : Type 0) (journal : Option (List Entry)) (v : Verdict) → IsEarly v → IsRun IsUndone setting before failed journal v → IfSome journal (λ entries. entries ≡ [])
undone_empty setting before failed journal WordsRefused early run = absurd run
undone_empty setting before failed journal SourceFault early run = absurd run
undone_empty setting before failed journal (ScriptRefused refusal) early run = absurd run
undone_empty setting before failed journal SiteFault early run = run.1
undone_empty setting before failed journal (NotEmpty name) early run = some_if journal (λ entries. entries ≡ []) run.1
undone_empty setting before failed journal (Full lines) early run = absurd early
undone_empty setting before failed journal (Report lines as_asked) early run = absurd early
undone_empty setting before failed journal (Checked block outcome) early run = absurd run
undone_empty setting before failed journal NoMemory early run = if_fst journal (λ entries. entries ≡ []) (IsGuaranteedJournal setting) run

pub unread : (around : Around) (v : Verdict) → IsUnread around.text around.left around.source_failed v → around.journal ≡ None → around.unasked → IsWorked around v
unread around v why none unasked = inl (why, none, unasked)

-- what holds of what is told holds of what was told before, where that is the same
pub if_told : (P : Contents → Type 0) (before told : Option Contents) → IfSome before (λ c. told ≡ Some c) → IfSome told P → IfSome before P
if_told P None told same holds = tt
if_told P (Some c) told same holds = subst (λ o. IfSome o P) same holds

pub run_told : (is_done : Setting → List Entry → Type 0) (setting : Setting) (before told : Option Contents) (failed other : Type 0) (journal : Option (List Entry)) (v : Verdict)
    → IfSome before (λ c. told ≡ Some c) → (failed → other) → IsRun is_done setting told failed journal v → IsRun is_done setting before other journal v
run_told is_done setting before told failed other journal WordsRefused same weaker run = absurd run
run_told is_done setting before told failed other journal SourceFault same weaker run = absurd run
run_told is_done setting before told failed other journal (ScriptRefused refusal) same weaker run = absurd run
run_told is_done setting before told failed other journal SiteFault same weaker run = (weaker run.0, run.1)
run_told is_done setting before told failed other journal (NotEmpty name) same weaker run = (if_told (λ c. IsPage c [] [] 1 (name ∷ [])) before told same run.0, run.1)
run_told is_done setting before told failed other journal (Full lines) same weaker run = (if_told HoldsNothing before told same run.0, run.1)
run_told is_done setting before told failed other journal (Report lines as_asked) same weaker run = (if_told HoldsNothing before told same run.0, run.1)
run_told is_done setting before told failed other journal (Checked block outcome) same weaker run = absurd run
run_told is_done setting before told failed other journal NoMemory same weaker run = run

as_told : (told : Option Contents) → IfSome told (λ c. told ≡ Some c)
as_told None = tt
as_told (Some c) = refl

-- a run's cause with a weaker one for a failure of the site
pub run_weaker : (is_done : Setting → List Entry → Type 0) (setting : Setting) (told : Option Contents) (failed other : Type 0) (journal : Option (List Entry)) (v : Verdict)
    → (failed → other) → IsRun is_done setting told failed journal v → IsRun is_done setting told other journal v
run_weaker is_done setting told failed other journal v weaker run = run_told is_done setting told told failed other journal v (as_told told) weaker run

-- a call that ended as it opened what its words name, or before its shelf was read
pub worked_early : (around : Around) (script : Script) (v : Verdict) → IsScriptRead around.text around.left script → IsLawfulScript script → BehindOpening v around.opened → IsEarly v
    → IsRun IsUndone (setting_of script) around.before around.site_failed around.journal v → IsFirstOf around.held v → IsWorked (record around { is_done = IsUndone }) v
worked_early around script v read lawful opened early run first =
    worked (record around { is_done = IsUndone }) (setting_of script) v read lawful opened
    (before_reading v around.journal (IfSome around.files (IsOfShelf (setting_of script))) early (undone_empty (setting_of script) around.before around.site_failed around.journal v early run))
    (run_weaker IsUndone (setting_of script) around.before around.site_failed (around.site_failed ⊎ around.shelf_failed) around.journal v (λ failed. inl failed) run) first

pub if_nothing : (P : Contents → Type 0) (told : Option Contents) → IfSome told (λ c. c ≡ nothing) → P nothing → IfSome told P
if_nothing P None is holds = tt
if_nothing P (Some c) is holds = subst P (sym is) holds

-- a run over a bucket that holds nothing
pub run_empty : (is_done : Setting → List Entry → Type 0) (setting : Setting) (told : Option Contents) (failed : Type 0) (journal : Option (List Entry)) (v : Verdict)
    → IfSome told (λ c. c ≡ nothing) → IsRun is_done setting (Some nothing) failed journal v → IsRun is_done setting told failed journal v
run_empty is_done setting told failed journal WordsRefused is run = absurd run
run_empty is_done setting told failed journal SourceFault is run = absurd run
run_empty is_done setting told failed journal (ScriptRefused refusal) is run = absurd run
run_empty is_done setting told failed journal SiteFault is run = run
run_empty is_done setting told failed journal (NotEmpty name) is run = (if_nothing (λ c. IsPage c [] [] 1 (name ∷ [])) told is run.0, run.1)
run_empty is_done setting told failed journal (Full lines) is run = (is, run.1)
run_empty is_done setting told failed journal (Report lines as_asked) is run = (is, run.1)
run_empty is_done setting told failed journal (Checked block outcome) is run = absurd run
run_empty is_done setting told failed journal NoMemory is run = run

-- a run that is handed on
pub run_handed : (is_done : Setting → List Entry → Type 0) (setting : Setting) (failed : Type 0) (entries : List Entry) (journal handed : Option (List Entry)) (v verdict : Verdict)
    → journal ≡ Some entries → handed ≡ journal → verdict ≡ v → IsRun is_done setting (Some nothing) failed (Some entries) v → IsRun is_done setting (Some nothing) failed handed verdict
run_handed is_done setting failed entries journal handed v verdict is same told run =
    subst (λ (j : Option (List Entry)). IsRun is_done setting (Some nothing) failed j verdict) (sym (same ∙ is)) (subst (IsRun is_done setting (Some nothing) failed (Some entries)) (sym told) run)

too_long : (text : List ℕ) → longest_text < length text → script_of text ≡ Err TooLong
unfolding script_of
too_long text long = rw (lt-ltb _ _ long) refl

-- a text that passes the limit is refused for that
told_too_long : (told : Option (List ℕ)) → IfSome told (λ text. longest_text < length text) → IfSome told (λ text. script_of text ≡ Err TooLong)
told_too_long None long = tt
told_too_long (Some text) long = too_long text long

pub refused_too_long : (told left : Option (List ℕ)) (failed : Type 0) → IfSome told (λ text. longest_text < length text) → IsUnread told left failed (ScriptRefused TooLong)
refused_too_long told left failed long = inl (refl, told_too_long told long)

-- what is given up, and not for want of memory
for_size : (text : List ℕ) (number : ℕ) (cause : LineCause) → IsGivenUpFor text number cause → (line : ℕ) × (BadLine number cause ≡ BadLine line PatternSizeText) × HasPatternLine text line
for_size text number PatternSizeText given_up = (number, refl, given_up)
for_size text number other given_up = absurd given_up

refused_by : (text : List ℕ) (refusal : ScriptRefusal) → refusal ≢ NoScriptMemory → IsGivenUp text refusal ⊎ (script_of text ≡ Err refusal) → IsRefused text refusal
refused_by text refusal some (inr refused) = inl refused
refused_by text (BadLine number cause) some (inl given_up) = inr (for_size text number cause given_up)
refused_by text NoScriptMemory some (inl given_up) = absurd (some refl)
refused_by text other some (inl given_up) = absurd given_up

pub refused_whole : (told left : Option (List ℕ)) (failed : Type 0) (text : List ℕ) (refusal : ScriptRefusal) → IfSome told (λ all. (text ≡ all) × (left ≡ Some [])) → refusal ≢ NoScriptMemory → IsGivenUp text refusal ⊎ (script_of text ≡ Err refusal)
    → IsUnread told left failed (ScriptRefused refusal)
refused_whole told left failed text refusal read some why = inr (text, read, refused_by text refusal some why)

pub read_whole : (told left : Option (List ℕ)) (text : List ℕ) (script : Script) → IfSome told (λ all. (text ≡ all) × (left ≡ Some [])) → script_of text ≡ Ok script → IsScriptRead told left script
read_whole told left text script read is = (text, read, is)

-- a run that began over a world and left these entries
pub worked_run : (around : Around) (setting : Setting) (entries : List Entry) (v verdict : Verdict) → IsScriptRead around.text around.left setting.script → IsLawfulScript setting.script → around.opened → IfSome around.before HoldsNothing
    → around.journal ≡ Some entries → verdict ≡ v → BehindReading v (Some entries) (IfSome around.files (IsOfShelf setting))
    → IsRun around.is_done setting (Some nothing) (around.site_failed ⊎ around.shelf_failed) (Some entries) v → IsWorked around verdict
worked_run around setting entries v verdict read lawful opened empty kept is shelf run =
    worked around setting verdict read lawful (behind_opening verdict around.opened opened)
    (subst (λ (x : Verdict). BehindReading x around.journal (IfSome around.files (IsOfShelf setting))) (sym is)
    (subst (λ (j : Option (List Entry)). BehindReading v j (IfSome around.files (IsOfShelf setting))) (sym kept) shelf))
    (run_empty around.is_done setting around.before (around.site_failed ⊎ around.shelf_failed) around.journal verdict empty
    (run_handed around.is_done setting (around.site_failed ⊎ around.shelf_failed) entries (Some entries) around.journal v verdict refl kept is run))
    (subst (IsFirstOf around.held) (sym is) (first_run around.is_done setting (around.site_failed ⊎ around.shelf_failed) (Some entries) around.held v run))

some_undone : (is_done : List Entry → Type 0) (P : List Entry → Type 0) (journal : Option (List Entry)) → is_done [] → IfSome journal (λ entries. (entries ≡ []) × P entries) → IfSome journal (λ entries. is_done entries × P entries)
some_undone is_done P None none run = tt
some_undone is_done P (Some entries) none run = (subst is_done (sym run.0) none, run.1)

and_undone : (is_done : List Entry → Type 0) (P : List Entry → Type 0) (journal : Option (List Entry)) → is_done [] → IsSomeAnd journal (λ entries. (entries ≡ []) × P entries) → IsSomeAnd journal (λ entries. is_done entries × P entries)
and_undone is_done P None none run = run
and_undone is_done P (Some entries) none run = (subst is_done (sym run.0) none, run.1)

run_undone : (is_done : Setting → List Entry → Type 0) (setting : Setting) (before : Option Contents) (failed : Type 0) (journal : Option (List Entry)) (v : Verdict) → is_done setting []
    → IsRun IsUndone setting before failed journal v → IsRun is_done setting before failed journal v
run_undone is_done setting before failed journal WordsRefused none run = run
run_undone is_done setting before failed journal SourceFault none run = run
run_undone is_done setting before failed journal (ScriptRefused refusal) none run = run
run_undone is_done setting before failed journal SiteFault none run = run
run_undone is_done setting before failed journal (NotEmpty name) none run = run
run_undone is_done setting before failed journal (Full lines) none run = (run.0, and_undone (is_done setting) (IsFullRun setting lines.items) journal none run.1)
run_undone is_done setting before failed journal (Report lines as_asked) none run = (run.0, and_undone (is_done setting) (IsWholeRun setting as_asked lines.items) journal none run.1)
run_undone is_done setting before failed journal (Checked block outcome) none run = run
run_undone is_done setting before failed journal NoMemory none run = some_undone (is_done setting) (IsGuaranteedJournal setting) journal none run

-- a call that ended before its run began
pub worked_undone : (around : Around) (is_done : Setting → List Entry → Type 0) (v : Verdict) → ((setting : Setting) → is_done setting [])
    → IsWorked (record around { is_done = IsUndone }) v → IsWorked (record around { is_done = is_done }) v
worked_undone around is_done v none (inl unread) = inl unread
worked_undone around is_done v none (inr work) =
    inr (record {
      setting = work.setting;
      read = work.read;
      lawful = work.lawful;
      opened = work.opened;
      shelf = work.shelf;
      run = run_undone is_done work.setting around.before (around.site_failed ⊎ around.shelf_failed) around.journal v (none work.setting) work.run;
      first = work.first;
    })
