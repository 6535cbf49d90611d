-- What is told of a run that may have wanted memory in an operation.
use Rattle.std.proofs.Common.{◌≡◌, Bool, true, false, refl, sym, ◌∙◌, ap, subst}
use Rattle.std.specs.Prelude.{MatchBool, Result, Err}
use Rattle.call_verdicts.specs.script_running.specs.Tasks.{is_full_came}
use Rattle.call_verdicts.specs.script_running.specs.declared.came.Broken.{Broken}
use Rattle.call_verdicts.specs.script_running.specs.declared.came.Broken.TheVariants as broken
use Rattle.call_verdicts.specs.Noted.{met_alone, tells_full}
use Rattle.call_verdicts.specs.declared.verdict.Verdict.{Verdict}
use Rattle.call_verdicts.specs.declared.verdict.Verdict.TheVariants as verdict

abbrev Came : Type 0
Came = Result (Unit {0}) Broken

-- of a run that came to `came`, `now` is told: want of memory, where that was met
abbrev pub IsTold : Bool → Came → Came → Type 0
IsTold wanted came now = MatchBool wanted (now ≡ Err broken.NoMemory) (now ≡ came)

-- the same, where it is told by another name whether memory was wanted
pub told_as : (other wanted : Bool) (came now : Came) → other ≡ wanted → IsTold other came now → IsTold wanted came now
told_as other wanted came now same is = subst (λ (b : Bool). IsTold b came now) same is

-- memory was wanted, so that is told
pub short_told : (wanted : Bool) (came now : Came) (v : Verdict) → IsTold wanted came now → (now ≡ Err broken.NoMemory → v ≡ verdict.NoMemory) → wanted ≡ true → v ≡ verdict.NoMemory
short_told true came now v is short so = short is
short_told false came now v is short so = absurd (cc so)

alone_none : (full : Bool) → met_alone full true ≡ false
alone_none true = refl
alone_none false = refl

alone_same : (full : Bool) → met_alone full false ≡ full
alone_same true = refl
alone_same false = refl

-- the full journal was met alone just where the verdict tells that
pub alone_told : (full wanted : Bool) (came now : Came) (v : Verdict) → full ≡ is_full_came came → IsTold wanted came now → is_full_came now ≡ tells_full v → met_alone full wanted ≡ tells_full v
alone_told full true came now v tells is told = alone_none full ∙ ap is_full_came (sym is) ∙ told
alone_told full false came now v tells is told = alone_same full ∙ tells ∙ ap is_full_came (sym is) ∙ told
