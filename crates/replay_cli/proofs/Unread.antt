-- Runs of which the reading of the shelf was broken off.
use Rattle.std.proofs.Common.{◌≡◌, inl, inr, ◌<◌, false, List, [], Option, None, Some, sym, ap, subst, arith}
use Rattle.std.specs.Prelude.{IfSome, IsSomeAnd}
use Rattle.bucket_core.specs.Contents.{nothing}
use Rattle.world_core.specs.declared.entry.Entry.{Entry}
use Rattle.script_core.specs.declared.script.Script.{Script}
use Rattle.bucket_core.specs.Told.{ShelfTold}
use Rattle.call_verdicts.specs.lifecycle_core.specs.Guarantees.{IsGuaranteedJournal}
use Rattle.call_verdicts.specs.lifecycle_core.specs.Setting.{Setting, setting_of}
use Rattle.call_verdicts.specs.Checks.{HasFailed}
use Rattle.call_verdicts.specs.Noted.{tells_full}
use Rattle.call_verdicts.specs.ShelfReads.{IsBrokenOff}
use Rattle.call_verdicts.specs.Verdicts.{IsEarly, IsRun}
use Rattle.call_verdicts.specs.declared.verdict.Verdict.{Verdict}
use Rattle.call_verdicts.specs.lifecycle_core.proofs.Assembling.{none_guaranteed}

pub tells_none : {failed : Type 0} (v : Verdict) → IsBrokenOff failed v → tells_full v ≡ false
tells_none v (inl (is, fails)) = ap tells_full is
tells_none v (inr is) = ap tells_full is

pub is_early : {failed : Type 0} (v : Verdict) → IsBrokenOff failed v → IsEarly v
is_early v (inl (is, fails)) = subst IsEarly (sym is) tt
is_early v (inr is) = subst IsEarly (sym is) tt

pub broken_run : (is_done : Setting → List Entry → Type 0) (script : Script) (failed : Type 0) (journal : List Entry) (v : Verdict) → is_done (setting_of script) [] → journal ≡ [] → IsBrokenOff failed v → IsRun is_done (setting_of script) (Some nothing) failed (Some journal) v
broken_run is_done script failed journal v done none (inl (is, fails)) = subst (IsRun is_done (setting_of script) (Some nothing) failed (Some journal)) (sym is) (fails, none)
broken_run is_done script failed journal v done none (inr is) =
    let Holds : List Entry → Type 0 = λ entries. is_done (setting_of script) entries × IsGuaranteedJournal (setting_of script) entries in
    subst (IsRun is_done (setting_of script) (Some nothing) failed (Some journal)) (sym is) (subst Holds (sym none) (done, none_guaranteed (setting_of script)))

-- by a weaker cause
pub broken_more : (failed other : Type 0) (v : Verdict) → (failed → other) → IsBrokenOff failed v → IsBrokenOff other v
broken_more failed other v more (inl (is, fails)) = inl (is, more fails)
broken_more failed other v more (inr is) = inr is

-- the shelf failed, if it did, in this call
pub failed_since : {F : Type 0} (tells : F → ShelfTold) (old new : Option F) → IfSome old (λ s. (tells s).faults ≡ 0) → HasFailed tells old new → IsSomeAnd new (λ s. 0 < (tells s).faults)
failed_since tells (Some old) (Some new) fresh rose = omega (arith, fresh, rose)
failed_since tells (Some old) None fresh failed = absurd failed
failed_since tells None new fresh failed = absurd failed
