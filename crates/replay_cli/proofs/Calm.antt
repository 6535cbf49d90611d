-- A calm call ends as asked, unless there is no memory.
use Rattle.std.proofs.Common.{◌≡◌, ◌≢◌, ◌⊎◌, inl, inr, ℕ, true, false, List, [], ◌∷◌, Option, Some, None, Err, refl, sym, ap, subst}
use Rattle.std.specs.Prelude.{IfSome, IsSomeAnd}
use Rattle.std.proofs.lemmas.Bool.{true≢false}
use Rattle.bucket_core.specs.Causes.{Rose}
use Rattle.bucket_core.specs.Contents.{Contents}
use Rattle.bucket_core.specs.Pages.{IsPage}
use Rattle.world_core.specs.Worlds.{failed_count}
use Rattle.world_core.specs.declared.entry.Entry.{Entry}
use Rattle.script_core.specs.GivenUp.{HasPatternLine}
use Rattle.script_core.specs.Reading.{script_of}
use Rattle.script_fields.specs.declared.script_refusal.ScriptRefusal.{ScriptRefusal}
use Rattle.script_fields.specs.declared.script_refusal.ScriptRefusal.TheVariants.{TooLong}
use Rattle.call_verdicts.specs.lifecycle_core.specs.Setting.{Setting}
use Rattle.call_verdicts.specs.Statuses.{number_of}
use Rattle.call_verdicts.specs.Verdicts.{Around, IsAdded, IsCaused, IsFullRun, IsSaid, IsTrusted, IsUnread, IsWholeRun, IsWorked, Saying, status_of, text_of}
use Rattle.replay_cli.specs.CalmCalls.{IsBegun, IsCalm, IsCalmJournal, MeetsLimit, TellsRefused}
use Rattle.call_verdicts.specs.declared.status.Status.{Status}
use Rattle.call_verdicts.specs.declared.verdict.Verdict.{Verdict}
use Rattle.call_verdicts.specs.declared.verdict.Verdict.TheVariants.{WordsRefused, SourceFault, ScriptRefused, SiteFault, NotEmpty, Full, Report, Checked, NoMemory}
use Rattle.call_verdicts.proofs.Verdicts.{no_name}
use Rattle.replay_cli.proofs.CalmRuns.{calm_run, well_run}

-- some query of the text asks by a lawful pattern
abbrev HasPatterns : Around → Type 0
HasPatterns around = IsSomeAnd around.text (λ text. (number : ℕ) × HasPatternLine text number)

abbrev IsGood : Around → Saying → Verdict → Status → Type 0
IsGood around saying verdict status =
    (number_of status ≡ 0) ⊎ (number_of status ≡ 6) ⊎ ((number_of status ≡ 2) × HasPatterns around)
    ⊎ ((number_of status ≡ 5) × TellsRefused around saying verdict)

said_well : (around : Around) (verdict : Verdict) (saying : Saying) (status : Status) → ¬ Rose saying.faults_before saying.faults_after
    → (IsAdded (text_of verdict) saying → IsGood around saying verdict (status_of verdict)) → IsSaid verdict saying status → IsGood around saying verdict status
said_well around verdict saying status sink good (inl (is, added)) = subst (IsGood around saying verdict) (sym is) (good added)
said_well around verdict saying status sink good (inr (inl (is, other, rose, part))) = absurd (sink rose)
said_well around verdict saying status sink good (inr (inr (is, mute, kept, same))) = inr (inl (ap number_of is))

-- what holds if there is a journal, and what there is
joined : (o : Option (List Entry)) (P Q : List Entry → Type 0) → IfSome o P → IsSomeAnd o Q → (entries : List Entry) × P entries × Q entries
joined None P Q if_any some = absurd some
joined (Some entries) P Q if_any some = (entries, if_any, some)

-- and that it is there
joined_at : (o : Option (List Entry)) (P Q : List Entry → Type 0) → IfSome o P → IsSomeAnd o Q → (entries : List Entry) × (o ≡ Some entries) × P entries
joined_at None P Q if_any some = absurd some
joined_at (Some entries) P Q if_any some = (entries, refl, if_any)

unlike : (o : Option (List Entry)) (P : List Entry → Type 0) → IsSomeAnd o (λ entries. ¬ P entries) → IsSomeAnd o P → ⊥
unlike None P other some = other
unlike (Some entries) P other some = other some

-- a run that begins has a script, which is refused for the size of a pattern alone
refused_for_size : (around : Around) (refusal : ScriptRefusal) → IsBegun around → IsUnread around.text around.left around.source_failed (ScriptRefused refusal) → around.journal ≡ None → HasPatterns around
refused_for_size around refusal (inl ready) (inl (long, told)) none =
    let read : script_of ready.text ≡ Err TooLong = subst (λ (o : Option (List ℕ)). IfSome o (λ bytes. script_of bytes ≡ Err TooLong)) ready.told told in
    absurd (cc (read, ready.spelled))
refused_for_size around refusal (inl ready) (inr (text, whole, inl refused)) none =
    let read : (text ≡ ready.text) × (around.left ≡ Some []) = subst (λ (o : Option (List ℕ)). IfSome o (λ all. (text ≡ all) × (around.left ≡ Some []))) ready.told whole in
    absurd (cc (read.0, refused, ready.spelled))
refused_for_size around refusal (inl ready) (inr (text, whole, inr (number, is, pattern))) none =
    let read : (text ≡ ready.text) × (around.left ≡ Some []) = subst (λ (o : Option (List ℕ)). IfSome o (λ all. (text ≡ all) × (around.left ≡ Some []))) ready.told whole in
    subst (λ (o : Option (List ℕ)). IsSomeAnd o (λ t. (line : ℕ) × HasPatternLine t line)) (sym ready.told) (number, subst (λ t. HasPatternLine t number) read.0 pattern)
refused_for_size around refusal (inr some) refused none = absurd (subst (λ (o : Option (List Entry)). IsSomeAnd o (λ entries. entries ≢ [])) none some)

-- and no object stood in its bucket
no_name_first : (around : Around) (name : List ℕ) → IsBegun around → IfSome around.before (λ contents. IsPage contents [] [] 1 (name ∷ [])) → IsSomeAnd around.journal (λ entries. entries ≡ []) → ⊥
no_name_first around name (inl ready) first none = no_name name (subst (λ (o : Option Contents). IfSome o (λ contents. IsPage contents [] [] 1 (name ∷ []))) ready.empty first)
no_name_first around name (inr some) first none = unlike around.journal (λ entries. entries ≡ []) some none

-- a whole run that did not end as asked met a limit
pub limit_met : (setting : Setting) (text : List ℕ) (entries : List Entry) → IsTrusted setting entries → failed_count entries ≡ 0 → IsWholeRun setting false text entries → MeetsLimit setting text entries
limit_met setting text entries trusted none whole = record {
  run = whole;
  well = well_run setting false text entries whole trusted none;
  meets = λ within. true≢false (sym (calm_run setting false text entries whole trusted none within.0 within.1));
}

calm_worked : (around : Around) (saying : Saying) (verdict : Verdict) (status : Status) → IsCalm around saying verdict → IsWorked around verdict → IsSaid verdict saying status → IsGood around saying verdict status
calm_worked around saying WordsRefused status calm (inl (unread, none, unasked)) said = absurd unread
calm_worked around saying WordsRefused status calm (inr run) said = absurd run.run
calm_worked around saying SourceFault status calm (inl (unread, none, unasked)) said = absurd (calm.source unread)
calm_worked around saying SourceFault status calm (inr run) said = absurd run.run
calm_worked around saying (ScriptRefused refusal) status calm (inl (unread, none, unasked)) said =
    said_well around (ScriptRefused refusal) saying status calm.sink (λ added. inr (inr (inl (refl, refused_for_size around refusal calm.begins unread none)))) said
calm_worked around saying (ScriptRefused refusal) status calm (inr run) said = absurd run.run
calm_worked around saying SiteFault status calm (inl (unread, none, unasked)) said = absurd unread
calm_worked around saying SiteFault status calm (inr run) said = elim run.run.0 [
  | inl site ↦ absurd (calm.site site)
  | inr shelf ↦ absurd (calm.shelf shelf)
]
calm_worked around saying (NotEmpty name) status calm (inl (unread, none, unasked)) said = absurd unread
calm_worked around saying (NotEmpty name) status calm (inr run) said = absurd (no_name_first around name calm.begins run.run.0 run.run.1)
calm_worked around saying (Full lines) status calm (inl (unread, none, unasked)) said = absurd unread
calm_worked around saying (Full lines) status calm (inr run) said =
    let both = joined around.journal (IsCalmJournal around (Full lines)) (λ entries. around.is_done run.setting entries × IsFullRun run.setting lines.items entries) calm.journal run.run.1 in
    absurd ((both.1).room (both.2).1.full)
calm_worked around saying (Report lines as_asked) status calm (inl (unread, none, unasked)) said = absurd unread
calm_worked around saying (Report lines true) status calm (inr run) said = said_well around (Report lines true) saying status calm.sink (λ added. inl refl) said
calm_worked around saying (Report lines false) status calm (inr run) said =
    let calm_at = joined_at around.journal (IsCalmJournal around (Report lines false)) (λ entries. around.is_done run.setting entries × IsWholeRun run.setting false lines.items entries) calm.journal run.run.1 in
    let entries = calm_at.0 in
    let rests = calm_at.2 in
    let setting = rests.ran.setting in
    let ran = subst (λ (o : Option (List Entry)). IsSomeAnd o (λ es. around.is_done setting es × IsWholeRun setting false lines.items es)) calm_at.1 rests.ran.run.1 in
    let limit = subst (λ (o : Option (List Entry)). IsSomeAnd o (MeetsLimit setting lines.items)) (sym calm_at.1) (limit_met setting lines.items entries rests.trusted rests.unfailed ran.1) in
    said_well around (Report lines false) saying status calm.sink
    (λ added. inr (inr (inr (refl, record { ran = rests.ran; fails = refl; limit = limit; written = added })))) said
calm_worked around saying (Checked block outcome) status calm (inl (unread, none, unasked)) said = absurd unread
calm_worked around saying (Checked block outcome) status calm (inr run) said = absurd run.run
calm_worked around saying NoMemory status calm worked said = said_well around NoMemory saying status calm.sink (λ added. inr (inl refl)) said

pub calm_end : (around : Around) (saying : Saying) (verdict : Verdict) (status : Status) → IsCalm around saying verdict → IsCaused around verdict → IsSaid verdict saying status → IsGood around saying verdict status
calm_end around saying verdict status calm (inl (run, none, worked), short) said = calm_worked around saying verdict status calm worked said
calm_end around saying verdict status calm (inr (inl (no_run, checked, opened)), short) said = absurd (no_run.none calm.accepts)
calm_end around saying verdict status calm (inr (inr (no_run, block, refused, unasked)), short) said = absurd (no_run.none calm.accepts)
