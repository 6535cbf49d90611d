-- Where memory was wanted, nothing failed but what the journal shows.
use Rattle.std.proofs.Common.{◌≡◌, ◌≢◌, ℕ, false, List, [], refl, sym, ◌∙◌, ap, subst}
use Rattle.std.specs.Prelude.{Option, Some, None, IfSome, Result, Ok, Err}
use Rattle.bucket_core.specs.declared.site_refusal.SiteRefusal.{SiteRefusal}
use Rattle.bucket_core.specs.Told.{BucketTold}
use Rattle.bucket_core.specs.declared.site_refusal.SiteRefusal.TheVariants as site
use Rattle.world_core.specs.Worlds.{WorldGoesOn, WorldView, failed_count}
use Rattle.world_core.specs.declared.entry.Entry.{Entry}
use Rattle.world_core.specs.declared.world.OpenRefusal.{OpenRefusal}
use Rattle.world_core.specs.declared.world.OpenRefusal.TheVariants as unopened
use Rattle.block_content.specs.declared.checked.Checked.{Checked as CheckedBlock}
use Rattle.block_loading.specs.LoadReading.{was_fault}
use Rattle.block_loading.specs.declared.load_refusal.LoadRefusal.{LoadRefusal}
use Rattle.block_loading.specs.declared.load_refusal.LoadRefusal.TheVariants as end
use Rattle.call_verdicts.specs.Checks.{cause_number}
use Rattle.call_verdicts.specs.CheckVerdicts.{refused_for, verdict_on}
use Rattle.call_verdicts.specs.Kept.{IsUnfailed}
use Rattle.call_verdicts.specs.Verdicts.{IfShort}
use Rattle.call_verdicts.specs.declared.verdict.Verdict.{Verdict}
use Rattle.call_verdicts.specs.declared.verdict.Verdict.TheVariants.{WordsRefused, SourceFault, ScriptRefused, SiteFault, NotEmpty, Full, Report, Checked, NoMemory}

-- what holds of every verdict holds of want of memory
pub short_of : (v : Verdict) (P : Type 0) → P → IfShort v P
short_of WordsRefused P holds = tt
short_of SourceFault P holds = tt
short_of (ScriptRefused refusal) P holds = tt
short_of SiteFault P holds = tt
short_of (NotEmpty name) P holds = tt
short_of (Full lines) P holds = tt
short_of (Report lines as_asked) P holds = tt
short_of (Checked block outcome) P holds = tt
short_of NoMemory P holds = holds

pub short_map : (v : Verdict) (P Q : Type 0) → (P → Q) → IfShort v P → IfShort v Q
short_map WordsRefused P Q weaker holds = tt
short_map SourceFault P Q weaker holds = tt
short_map (ScriptRefused refusal) P Q weaker holds = tt
short_map SiteFault P Q weaker holds = tt
short_map (NotEmpty name) P Q weaker holds = tt
short_map (Full lines) P Q weaker holds = tt
short_map (Report lines as_asked) P Q weaker holds = tt
short_map (Checked block outcome) P Q weaker holds = tt
short_map NoMemory P Q weaker holds = weaker holds

-- a verdict that is another one
pub not_short : (v other : Verdict) (P : Type 0) → v ≡ other → IfShort other P → IfShort v P
not_short v other P is holds = subst (λ (w : Verdict). IfShort w P) (sym is) holds

-- where the site refuses to open something
pub short_refused : (refusal : SiteRefusal) (v : Verdict) (P : Type 0) → (refusal ≡ site.Failed → v ≡ SiteFault) → (refusal ≢ site.Failed → P) → IfShort v P
short_refused site.Failed v P failed holds = not_short v SiteFault P (failed refl) tt
short_refused site.NoMemory v P failed holds = short_of v P (holds (λ is. absurd (cc is)))

-- where the bucket is not opened
pub short_unopened : (refusal : OpenRefusal) (v : Verdict) (P : Type 0) → (refusal ≡ unopened.Failed → v ≡ SiteFault) → (refusal ≢ unopened.Failed → P) → IfShort v P
short_unopened unopened.Failed v P failed holds = not_short v SiteFault P (failed refl) tt
short_unopened (unopened.NotEmpty name) v P failed holds = short_of v P (holds (λ is. absurd (cc is)))
short_unopened unopened.NoMemory v P failed holds = short_of v P (holds (λ is. absurd (cc is)))

-- ---- buckets

unfailed_by : {B : Type 0} (tells : B → BucketTold) (before : ℕ) (journal : Option (List Entry)) (store : B) → (tells store).faults ≡ before → IsUnfailed tells before journal (Some store)
unfailed_by tells before None store same = tt
unfailed_by tells before (Some entries) store same = λ none. same

-- a bucket that was not worked on
pub unfailed_at : {B : Type 0} (tells : B → BucketTold) (before : ℕ) (journal : Option (List Entry)) (back : Option B) (store : B) → back ≡ Some store → (tells store).faults ≡ before → IsUnfailed tells before journal back
unfailed_at {B} tells before journal back store is same = subst (λ (b : Option B). IsUnfailed tells before journal b) (sym is) (unfailed_by tells before journal store same)

pub unfailed_same : {B : Type 0} (tells : B → BucketTold) (journal : Option (List Entry)) (back : Option B) (store : B) → back ≡ Some store → IsUnfailed tells (tells store).faults journal back
unfailed_same tells journal back store is = unfailed_at tells (tells store).faults journal back store is refl

-- no bucket was handed out
pub unfailed_none : {B : Type 0} (tells : B → BucketTold) (before : ℕ) (journal : Option (List Entry)) (back : Option B) → journal ≡ None → IsUnfailed tells before journal back
unfailed_none tells before journal back none = subst (λ (j : Option (List Entry)). IsUnfailed tells before j back) (sym none) tt

-- a world that was worked on from its opening on
pub unfailed_run : {B : Type 0} (tells : B → BucketTold) (old new : WorldView B) → old.journal ≡ [] → WorldGoesOn tells old new → failed_count new.journal ≡ 0 → (tells new.bucket).faults ≡ (tells old.bucket).faults
unfailed_run tells old new fresh on none = on.only (none ∙ sym (ap failed_count fresh))

-- the parts of a world that was worked on
pub unfailed_world : {B : Type 0} (tells : B → BucketTold) (old new : WorldView B) (journal : Option (List Entry)) (back : Option B) (entries : List Entry) (store : B)
    → (failed_count new.journal ≡ 0 → (tells new.bucket).faults ≡ (tells old.bucket).faults) → entries ≡ new.journal → store ≡ new.bucket → journal ≡ Some entries → back ≡ Some store → IsUnfailed tells (tells old.bucket).faults journal back
unfailed_world {B} tells old new journal back entries store unfailed all its kept handed =
    subst (λ (j : Option (List Entry)). IsUnfailed tells (tells old.bucket).faults j back) (sym (kept ∙ ap (λ (l : List Entry). Some l) all))
    (subst (λ (b : Option B). IsUnfailed tells (tells old.bucket).faults (Some new.journal) b) (sym (handed ∙ ap (λ (b : B). Some b) its))
    unfailed)

-- a world over a bucket that had not failed
pub unfailed_ended : {B : Type 0} (tells : B → BucketTold) (old new : WorldView B) (journal : Option (List Entry)) (back : Option B)
    → (failed_count new.journal ≡ 0 → (tells new.bucket).faults ≡ (tells old.bucket).faults) → (tells old.bucket).faults ≡ 0 → journal ≡ Some new.journal → back ≡ Some new.bucket → IsUnfailed tells 0 journal back
unfailed_ended {B} tells old new journal back unfailed none kept handed =
    subst (λ (n : ℕ). IsUnfailed tells n journal back) none (unfailed_world tells old new journal back new.journal new.bucket unfailed refl refl kept handed)

-- ---- checks of blocks

pub if_some : {X : Type 0} (o : Option X) (x : X) (P : X → Type 0) → o ≡ Some x → IfSome o P → P x
if_some {X} o x P is holds = subst (λ (p : Option X). IfSome p P) is holds

short_number : (block : ℕ) (number : Option ℕ) (P : Type 0) → P → IfShort (refused_for block number) P
short_number block (Some number) P holds = tt
short_number block None P holds = holds

pub short_checked : (block : ℕ) (checked : Result CheckedBlock LoadRefusal) (P : Type 0) → (was_fault checked ≡ false → P) → IfShort (verdict_on block checked) P
short_checked block (Ok checked) P holds = tt
short_checked block (Err (end.Refused refusal)) P holds = short_number block (cause_number refusal) P (holds refl)
short_checked block (Err end.ShelfFault) P holds = tt
short_checked block (Err end.NoMemory) P holds = holds refl
