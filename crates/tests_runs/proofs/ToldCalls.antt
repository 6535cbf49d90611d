-- What a whole call of the program has asked of a bucket that tells it.
use Rattle.std.proofs.Common.{◌≡◌, ◌≢◌, inl, inr, ℕ, List, ◌∷◌, ◌++◌, refl, sym, ◌∙◌, ap, subst}
use Rattle.std.specs.Prelude.{Option, Some, None}
use Rattle.bucket_core.specs.Asking.{Call}
use Rattle.world_core.specs.Asking.{calls_of, opening}
use Rattle.world_core.specs.declared.entry.Entry.{Entry}
use Rattle.replay_cli.specs.call_verdicts.specs.Asked.{IsAskedBy, IsBucketAsked, WasAsked, calls_asked}
use Rattle.replay_cli.specs.call_verdicts.specs.Statuses.{number_of}
use Rattle.replay_cli.specs.call_verdicts.specs.Verdicts.{IsSaid, Saying, status_of}
use Rattle.replay_cli.specs.call_verdicts.specs.declared.status.Status.{Status}
use Rattle.replay_cli.specs.call_verdicts.specs.declared.status.Status.TheVariants as status
use Rattle.replay_cli.specs.call_verdicts.specs.declared.verdict.Verdict.{Verdict}
use Rattle.replay_cli.specs.call_verdicts.specs.declared.verdict.Verdict.TheVariants.{WordsRefused, SourceFault, ScriptRefused, SiteFault, NotEmpty, Full, Report, Checked, NoMemory}
use Rattle.replay_cli.specs.call_verdicts.specs.Outside.{Names, Outside}
use Rattle.replay_cli.specs.call_verdicts.specs.declared.run.Run.{Run}
use Rattle.replay_cli.specs.Promises.{ServesTool, call_of}
use Rattle.bucket_core.specs.Noted.{calls_told}
use Rattle.bucket_core.specs.Told.{BucketTold}
use Rattle.tests_runs.specs.Told.{IsAskedForAll, strange_told}
use Rattle.tests_runs.specs.declared.strange_bucket.StrangeBucket.{StrangeBucket}

ended_so : (s : Status) → 0 ≡ number_of s → s ≡ status.Done
ended_so status.Done is = refl
ended_so status.WordsRefused is = absurd (cc is)
ended_so status.ScriptRefused is = absurd (cc is)
ended_so status.SourceFault is = absurd (cc is)
ended_so status.SinkFault is = absurd (cc is)
ended_so status.ActivityFailed is = absurd (cc is)
ended_so status.NoMemory is = absurd (cc is)
ended_so status.BucketNotEmpty is = absurd (cc is)
ended_so status.JournalFull is = absurd (cc is)
ended_so status.SiteFault is = absurd (cc is)

said_done : (v : Verdict) (saying : Saying) → IsSaid v saying status.Done → status.Done ≡ status_of v
said_done v saying (inl said) = said.0
said_done v saying (inr (inl failed)) = let is : status.Done ≡ status.SinkFault = failed.0 in absurd (cc is)
said_done v saying (inr (inr short)) = let is : status.Done ≡ status.NoMemory = short.0 in absurd (cc is)

has_memory : (v : Verdict) → status.Done ≡ status_of v → v ≢ NoMemory
has_memory v done is = let other : status.Done ≡ status.NoMemory = done ∙ ap status_of is in absurd (cc other)

was_asked : (v : Verdict) (entries : List Entry) (store : StrangeBucket) → status.Done ≡ status_of v → IsAskedBy strange_told v entries store → WasAsked (calls_asked strange_told) (opening ∷ calls_of entries) store
was_asked WordsRefused entries store done was = was
was_asked SourceFault entries store done was = was
was_asked (ScriptRefused refusal) entries store done was = was
was_asked SiteFault entries store done was = absurd (cc done)
was_asked (NotEmpty name) entries store done was = was
was_asked (Full lines) entries store done was = was
was_asked (Report lines as_asked) entries store done was = was
was_asked (Checked block outcome) entries store done was = was
was_asked NoMemory entries store done was = was

all_told : (store : StrangeBucket) (since : List Call) → WasAsked (calls_asked strange_told) since store → calls_told store.told ≡ since
all_told store since (opened, fresh, asks) =
    let all : calls_told store.told ≡ calls_told opened.told ++ since = cc asks in
    all ∙ ap (λ (calls : List Call). calls ++ since) fresh

asked_by : (v : Verdict) (journal : Option (List Entry)) (store : Option StrangeBucket) → status.Done ≡ status_of v → IsBucketAsked strange_told v journal store → IsAskedForAll journal store
asked_by v (Some entries) (Some store) done was = all_told store (opening ∷ calls_of entries) (was_asked v entries store done was)
asked_by v (Some entries) None done was = tt
asked_by v None (Some store) done was = tt
asked_by v None None done was = tt

asked_whole : (v : Verdict) (s : Status) (saying : Saying) (number : ℕ) (journal : Option (List Entry)) (store : Option StrangeBucket)
    → IsSaid v saying s → number ≡ number_of s → (v ≢ NoMemory → IsBucketAsked strange_told v journal store) → number ≡ 0 → IsAskedForAll journal store
asked_whole v s saying number journal store said is asked none =
    let done = said_done v saying (subst (λ (x : Status). IsSaid v saying x) (ended_so s (sym none ∙ is)) said) in
    asked_by v journal store done (asked (has_memory v done))

-- a generated day has no bucket to hand back
none_asked : (journal : Option (List Entry)) (store : Option StrangeBucket) → store ≡ None → IsAskedForAll journal store
none_asked journal (Some store) none = absurd (cc none)
none_asked None None none = tt
none_asked (Some entries) None none = tt

-- what a call promises of it
pub asked_of : {F : Type 0} (number : Option ℕ) (of : Names) (o : Outside StrangeBucket F) (saying : Saying) (run : Run StrangeBucket F) → o.site.store ≡ strange_told → ServesTool number of (call_of o saying run) → run.status ≡ 0 → IsAskedForAll run.journal run.store
asked_of (Some number) of o saying run same day is = none_asked run.journal run.store day.no_store
asked_of None of o saying run same serves is =
    let ends = serves.ends in
    asked_whole ends.verdict ends.status saying run.status run.journal run.store ends.said ends.number
    (λ never. subst (λ (tells : StrangeBucket → BucketTold). IsBucketAsked tells ends.verdict run.journal run.store) same (ends.asked never)) is
