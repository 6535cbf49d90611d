-- Calls whose bucket or shelf was not opened.
use Rattle.std.proofs.Common.{◌≡◌, ◌<◌, ℕ, List, [], ◌∷◌, refl, sym, ◌∙◌, ap, subst}
use Rattle.std.specs.Prelude.{Option, Some, None, IfSome, IsSomeAnd}
use Rattle.bucket_core.specs.Contents.{Contents}
use Rattle.bucket_core.specs.Pages.{IsPage}
use Rattle.bucket_core.specs.Told.{BucketTold}
use Rattle.bucket_core.specs.declared.site_refusal.SiteRefusal.{SiteRefusal}
use Rattle.bucket_core.specs.declared.site_refusal.SiteRefusal.TheVariants as site
use Rattle.world_core.specs.declared.entry.Entry.{Entry}
use Rattle.world_core.specs.declared.world.OpenRefusal.{OpenRefusal}
use Rattle.world_core.specs.declared.world.OpenRefusal.TheVariants as unopened
use Rattle.report_lines.specs.lifecycle_core.specs.Setting.{Setting}
use Rattle.report_lines.specs.lifecycle_core.proofs.Assembling.{none_guaranteed}
use Rattle.call_verdicts.specs.Verdicts.{IsFirstOf, IsRun, held_in}
use Rattle.call_verdicts.specs.declared.verdict.Verdict.{Verdict}
use Rattle.call_verdicts.specs.declared.verdict.Verdict.TheVariants as verdict

-- a bucket that was not opened
opened_by : (is_done : Setting → List Entry → Type 0) (setting : Setting) → is_done setting [] → (told : Option Contents) (failed : Type 0) (refusal : OpenRefusal) (v : Verdict) → (refusal ≡ unopened.Failed → failed)
    → ((name : List ℕ) → refusal ≡ unopened.NotEmpty name → IfSome told (λ c. IsPage c [] [] 1 (name ∷ [])))
    → (refusal ≡ unopened.Failed → v ≡ verdict.SiteFault) → ((name : List ℕ) → refusal ≡ unopened.NotEmpty name → v ≡ verdict.NotEmpty name) → (refusal ≡ unopened.NoMemory → v ≡ verdict.NoMemory)
    → IsRun is_done setting told failed (Some []) v
opened_by is_done setting none_done told failed unopened.Failed v fails stands one two three = subst (IsRun is_done setting told failed (Some [])) (sym (one refl)) (fails refl, refl)
opened_by is_done setting none_done told failed (unopened.NotEmpty name) v fails stands one two three = subst (IsRun is_done setting told failed (Some [])) (sym (two name refl)) (stands name refl, refl)
opened_by is_done setting none_done told failed unopened.NoMemory v fails stands one two three = subst (IsRun is_done setting told failed (Some [])) (sym (three refl)) (none_done, none_guaranteed setting)

pub opened_told : {B : Type 0} (is_done : Setting → List Entry → Type 0) (setting : Setting) → is_done setting [] → (told : Option Contents) (tells : B → BucketTold) (store : B) (refusal : OpenRefusal) (v : Verdict) (empty : List Entry) (handed : Option (List Entry)) (back : Option B)
    → handed ≡ Some empty → empty ≡ [] → back ≡ Some store → (refusal ≡ unopened.Failed → 0 < (tells store).faults)
    → ((name : List ℕ) → refusal ≡ unopened.NotEmpty name → IfSome told (λ c. IsPage c [] [] 1 (name ∷ [])))
    → (refusal ≡ unopened.Failed → v ≡ verdict.SiteFault) → ((name : List ℕ) → refusal ≡ unopened.NotEmpty name → v ≡ verdict.NotEmpty name) → (refusal ≡ unopened.NoMemory → v ≡ verdict.NoMemory)
    → IsRun is_done setting told (IsSomeAnd back (λ b. 0 < (tells b).faults)) handed v
opened_told {B} is_done setting none_done told tells store refusal v empty handed back is none same fails stands one two three =
    subst (λ (x : Option B). IsRun is_done setting told (IsSomeAnd x (λ b. 0 < (tells b).faults)) handed v) (sym same)
    (subst (λ (h : Option (List Entry)). IsRun is_done setting told (0 < (tells store).faults) h v) (sym (is ∙ ap (λ (l : List Entry). Some l) none))
    (opened_by is_done setting none_done told (0 < (tells store).faults) refusal v fails stands one two three))

-- the name that is told is the least of what the bucket holds that is handed back
first_by : (held : Option Contents) (refusal : OpenRefusal) (v : Verdict) → ((name : List ℕ) → refusal ≡ unopened.NotEmpty name → IfSome held (λ c. IsPage c [] [] 1 (name ∷ [])))
    → (refusal ≡ unopened.Failed → v ≡ verdict.SiteFault) → ((name : List ℕ) → refusal ≡ unopened.NotEmpty name → v ≡ verdict.NotEmpty name) → (refusal ≡ unopened.NoMemory → v ≡ verdict.NoMemory) → IsFirstOf held v
first_by held unopened.Failed v stands one two three = subst (IsFirstOf held) (sym (one refl)) tt
first_by held (unopened.NotEmpty name) v stands one two three = subst (IsFirstOf held) (sym (two name refl)) (stands name refl)
first_by held unopened.NoMemory v stands one two three = subst (IsFirstOf held) (sym (three refl)) tt

pub first_told : {B : Type 0} (tells : B → BucketTold) (bucket store : B) (refusal : OpenRefusal) (v : Verdict) (back : Option B) → back ≡ Some store → (tells store).contents ≡ (tells bucket).contents
    → ((name : List ℕ) → refusal ≡ unopened.NotEmpty name → IfSome (tells bucket).contents (λ c. IsPage c [] [] 1 (name ∷ [])))
    → (refusal ≡ unopened.Failed → v ≡ verdict.SiteFault) → ((name : List ℕ) → refusal ≡ unopened.NotEmpty name → v ≡ verdict.NotEmpty name) → (refusal ≡ unopened.NoMemory → v ≡ verdict.NoMemory) → IsFirstOf (held_in tells back) v
first_told {B} tells bucket store refusal v back handed same stands one two three =
    subst (λ (b : Option B). IsFirstOf (held_in tells b) v) (sym handed)
    (first_by (tells store).contents refusal v (λ name is. subst (λ (o : Option Contents). IfSome o (λ c. IsPage c [] [] 1 (name ∷ []))) (sym same) (stands name is)) one two three)

-- where the site refused, nothing is told of what the bucket holds
pub first_none : (held : Option Contents) (refusal : SiteRefusal) (v : Verdict) → (refusal ≡ site.Failed → v ≡ verdict.SiteFault) → (refusal ≡ site.NoMemory → v ≡ verdict.NoMemory) → IsFirstOf held v
first_none held site.Failed v failed short = subst (IsFirstOf held) (sym (failed refl)) tt
first_none held site.NoMemory v failed short = subst (IsFirstOf held) (sym (short refl)) tt

-- a call whose shelf was not opened, or whose bucket was not handed out
unshelved_by : (is_done : Setting → List Entry → Type 0) (setting : Setting) → is_done setting [] → (told : Option Contents) (refusal : SiteRefusal) (v : Verdict) → (refusal ≡ site.Failed → v ≡ verdict.SiteFault) → (refusal ≡ site.NoMemory → v ≡ verdict.NoMemory)
    → IsRun is_done setting told (refusal ≡ site.Failed) (Some []) v
unshelved_by is_done setting none_done told site.Failed v failed short = subst (IsRun is_done setting told (site.Failed ≡ site.Failed) (Some [])) (sym (failed refl)) (refl, refl)
unshelved_by is_done setting none_done told site.NoMemory v failed short = subst (IsRun is_done setting told (site.NoMemory ≡ site.Failed) (Some [])) (sym (short refl)) (none_done, none_guaranteed setting)

pub unshelved_told : (is_done : Setting → List Entry → Type 0) (setting : Setting) → is_done setting [] → (told : Option Contents) (refusal : SiteRefusal) (v : Verdict) (empty : List Entry) (handed : Option (List Entry)) → handed ≡ Some empty → empty ≡ []
    → (refusal ≡ site.Failed → v ≡ verdict.SiteFault) → (refusal ≡ site.NoMemory → v ≡ verdict.NoMemory) → IsRun is_done setting told (refusal ≡ site.Failed) handed v
unshelved_told is_done setting none_done told refusal v empty handed is none failed short =
    subst (λ (h : Option (List Entry)). IsRun is_done setting told (refusal ≡ site.Failed) h v) (sym (is ∙ ap (λ (l : List Entry). Some l) none)) (unshelved_by is_done setting none_done told refusal v failed short)

unhanded_by : (is_done : Setting → List Entry → Type 0) (setting : Setting) (told : Option Contents) (failed : Type 0) (refusal : SiteRefusal) (v : Verdict) → (refusal ≡ site.Failed → failed) → (refusal ≡ site.Failed → v ≡ verdict.SiteFault) → (refusal ≡ site.NoMemory → v ≡ verdict.NoMemory)
    → IsRun is_done setting told failed None v
unhanded_by is_done setting told failed site.Failed v fails one two = subst (IsRun is_done setting told failed None) (sym (one refl)) (fails refl, tt)
unhanded_by is_done setting told failed site.NoMemory v fails one two = subst (IsRun is_done setting told failed None) (sym (two refl)) tt

pub unhanded_told : (is_done : Setting → List Entry → Type 0) (setting : Setting) (told : Option Contents) (failed : Type 0) (refusal : SiteRefusal) (v : Verdict) (handed : Option (List Entry)) → handed ≡ None → (refusal ≡ site.Failed → failed)
    → (refusal ≡ site.Failed → v ≡ verdict.SiteFault) → (refusal ≡ site.NoMemory → v ≡ verdict.NoMemory) → IsRun is_done setting told failed handed v
unhanded_told is_done setting told failed refusal v handed is fails one two =
    subst (λ (h : Option (List Entry)). IsRun is_done setting told failed h v) (sym is) (unhanded_by is_done setting told failed refusal v fails one two)
