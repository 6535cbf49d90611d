-- What was opened, from the site's answer to all that the words of a run name.
use Rattle.std.proofs.Common.{◌≡◌, ◌≢◌, ℕ, ◌+◌, List, [], refl, sym, ◌∙◌, ap, ap₂, subst}
use Rattle.std.specs.Prelude.{Option, Some, None, IfSome, IsSome, Err, is_some, if◌then◌else◌}
use Rattle.bucket_core.specs.Causes.{CountsFaults, Rose, opening_failed}
use Rattle.bucket_core.specs.Contents.{Contents}
use Rattle.bucket_core.specs.Openings.{IsShelfAsTold}
use Rattle.bucket_core.specs.Told.{BucketTold, ShelfTold, SiteTold, next_shelf}
use Rattle.bucket_core.specs.declared.site_refusal.SiteRefusal.{SiteRefusal}
use Rattle.bucket_core.specs.declared.site_refusal.SiteRefusal.TheVariants as site
use Rattle.world_core.specs.declared.entry.Entry.{Entry}
use Rattle.script_core.specs.declared.script.Script.{Script}
use Rattle.report_lines.specs.lifecycle_core.specs.Setting.{setting_of}
use Rattle.call_verdicts.specs.Kept.{IsHandedOut, IsShelfBack, IsShelfOf, IsUntouched, told_of}
use Rattle.call_verdicts.specs.Openings.{IsShelfOpen, IsUnopened}
use Rattle.call_verdicts.specs.Undone.{IsUndone}
use Rattle.call_verdicts.specs.Verdicts.{IfShort}
use Rattle.call_verdicts.specs.declared.ended.Ended.{Ended}
use Rattle.call_verdicts.specs.declared.verdict.Verdict.{Verdict}
use Rattle.call_verdicts.specs.declared.verdict.Verdict.TheVariants.{WordsRefused, SourceFault, ScriptRefused, SiteFault, NotEmpty, Full, Report, Checked, NoMemory}
use Rattle.call_verdicts.proofs.ShelfAsked.{just_opened}
use Rattle.call_verdicts.proofs.Verdicts.{if_told, run_told}

-- ---- refusals of a site

pub refusal_failed : (before now : ℕ) (refusal : SiteRefusal) → CountsFaults before now (opening_failed {X = ⊥} (Err refusal)) → refusal ≡ site.Failed → Rose before now
refusal_failed before now site.Failed counts is = counts.cause refl
refusal_failed before now site.NoMemory counts is = absurd (cc is)

pub refusal_calm : (before now : ℕ) (refusal : SiteRefusal) → CountsFaults before now (opening_failed {X = ⊥} (Err refusal)) → refusal ≢ site.Failed → now ≡ before
refusal_calm before now site.Failed counts other = absurd (other refl)
refusal_calm before now site.NoMemory counts other = counts.only refl

-- ---- the shelf of a word

-- it was opened
pub shelf_opened : {F : Type 0} (tells : F → ShelfTold) (old new : SiteTold) (name : List ℕ) (word : Option (List ℕ)) (shelf : F) → word ≡ Some name → new.shelves ≡ old.shelves + 1 → IsShelfAsTold (next_shelf old name) (tells shelf)
    → IsShelfOpen tells word old new (Some shelf)
shelf_opened tells old new name word shelf is counted told = record {
  of = record {
    handed = counted;
    back = subst (λ (w : Option (List ℕ)). IfSome (told_of (next_shelf old) w) (λ c. (tells shelf).files ≡ Some c)) (sym is) told.holds;
    closed = λ none. let never : Some name ≡ None = sym is ∙ none in absurd (cc never);
  };
  named = sym (ap (λ (w : Option (List ℕ)). is_some w) is);
  unfailed = told.fresh;
  unasked = just_opened tells shelf told.unasked;
}

-- no word names one
pub no_shelf : {F : Type 0} (tells : F → ShelfTold) (old new : SiteTold) (word : Option (List ℕ)) (shelf : Option F) → shelf ≡ None → new.shelves ≡ old.shelves → (word ≡ None → new.shelf_at ≡ old.shelf_at) → IsShelfOf tells word old new shelf
no_shelf {F} tells old new word shelf none same told = record {
  handed = same ∙ sym (ap (λ (o : Option F). if is_some o then old.shelves + 1 else old.shelves) none);
  back = subst (λ (o : Option F). IsShelfBack (told_of (next_shelf old) word) tells o) (sym none) tt;
  closed = λ gone. record { handed = same; next = told gone };
}

-- it was opened behind the bucket
pub shelf_behind : {F : Type 0} (tells : F → ShelfTold) (word : Option (List ℕ)) (old mid new : SiteTold) (shelf : Option F) → mid.shelves ≡ old.shelves → mid.shelf_at ≡ old.shelf_at → IsShelfOf tells word mid new shelf → IsShelfOf tells word old new shelf
shelf_behind {F} tells word old mid new shelf same places is = record {
  handed = is.handed ∙ ap (λ (n : ℕ). if is_some shelf then n + 1 else n) same;
  back = subst (λ (next : List ℕ → Option Contents). IsShelfBack (told_of next word) tells shelf) (ap₂ (λ (at : ℕ → List ℕ → Option Contents) (n : ℕ). at n) places same) is.back;
  closed = λ none. let n = is.closed none in record { handed = n.handed ∙ same; next = n.next ∙ places };
}

pub open_behind : {F : Type 0} (tells : F → ShelfTold) (word : Option (List ℕ)) (old mid new : SiteTold) (shelf : Option F) → mid.shelves ≡ old.shelves → mid.shelf_at ≡ old.shelf_at → IsShelfOpen tells word mid new shelf → IsShelfOpen tells word old new shelf
open_behind tells word old mid new shelf same places is = record {
  of = shelf_behind tells word old mid new shelf same places is.of;
  named = is.named;
  unfailed = is.unfailed;
  unasked = is.unasked;
}

-- the shelf of a word that is another's
pub shelf_named : {F : Type 0} (tells : F → ShelfTold) (word other : Option (List ℕ)) (old new : SiteTold) (shelf : Option F)
    → word ≡ other → IsShelfOf tells word old new shelf → IsShelfOf tells other old new shelf
shelf_named tells word other old new shelf same is = subst (λ (w : Option (List ℕ)). IsShelfOf tells w old new shelf) same is

-- ---- the bucket

-- a bucket was handed out
pub handed_one : {B : Type 0} (before now : ℕ) (back : Option B) → IsSome back → now ≡ before + 1 → IsHandedOut before now back
handed_one before now back some more = more ∙ sym (ap (λ b. if b then before + 1 else before) some)

-- a journal and a bucket are handed back, or neither
pub both_there : {A B : Type 0} (journal : Option A) (back : Option B) (a : A) (b : B) → journal ≡ Some a → back ≡ Some b → is_some journal ≡ is_some back
both_there {A} {B} journal back a b one two = ap (λ (o : Option A). is_some o) one ∙ sym (ap (λ (o : Option B). is_some o) two)

pub both_gone : {A B : Type 0} (journal : Option A) (back : Option B) → journal ≡ None → back ≡ None → is_some journal ≡ is_some back
both_gone {A} {B} journal back one two = ap (λ (o : Option A). is_some o) one ∙ sym (ap (λ (o : Option B). is_some o) two)

still_holds : (before now : Option Contents) (P : Type 0) → now ≡ before → IfSome before (λ c. P → IfSome now (λ d. d ≡ c))
still_holds None now P same = tt
still_holds (Some c) now P same = λ p. subst (λ (o : Option Contents). IfSome o (λ d. d ≡ c)) (sym same) refl

pub untouched_kept : {B : Type 0} (tells : B → BucketTold) (bucket store : B) (journal : Option (List Entry)) (back : Option B) (entries : List Entry) → journal ≡ Some entries → back ≡ Some store → (tells store).contents ≡ (tells bucket).contents
    → IfSome (tells bucket).contents (λ c. IsUntouched tells c journal back)
untouched_kept {B} tells bucket store journal back entries kept handed same =
    subst (λ (j : Option (List Entry)). IfSome (tells bucket).contents (λ c. IsUntouched tells c j back)) (sym kept)
    (subst (λ (b : Option B). IfSome (tells bucket).contents (λ c. IsUntouched tells c (Some entries) b)) (sym handed) (still_holds (tells bucket).contents (tells store).contents (entries ≡ []) same))

any_if : (before : Option Contents) (P : Type 0) → P → IfSome before (λ c. P)
any_if None P p = tt
any_if (Some c) P p = p

pub untouched_gone : {B : Type 0} (tells : B → BucketTold) (before : Option Contents) (journal : Option (List Entry)) (back : Option B) → journal ≡ None → IfSome before (λ c. IsUntouched tells c journal back)
untouched_gone tells before journal back none = subst (λ (j : Option (List Entry)). IfSome before (λ c. IsUntouched tells c j back)) (sym none) (any_if before (Unit {0}) tt)

-- the bucket of a word that is another's
pub untouched_named : {B : Type 0} (tells : B → BucketTold) (told : List ℕ → Option Contents) (word other : Option (List ℕ)) (journal : Option (List Entry)) (store : Option B)
    → word ≡ other → IfSome (told_of told word) (λ c. IsUntouched tells c journal store) → IfSome (told_of told other) (λ c. IsUntouched tells c journal store)
untouched_named tells told word other journal store same is = subst (λ (w : Option (List ℕ)). IfSome (told_of told w) (λ c. IsUntouched tells c journal store)) same is

-- what is told before it is told of the bucket itself, and a wider cause of a site fault
pub unopened_told : {B F : Type 0} (tells : B → BucketTold) (script : Script) (before told : Option Contents) (failed other : Type 0) (ended : Ended B F) → IfSome before (λ c. told ≡ Some c) → (failed → other) → IsUnopened tells script told failed ended → IsUnopened tells script before other ended
unopened_told tells script before told failed other ended same weaker is = record {
  cause = run_told IsUndone (setting_of script) before told failed other ended.journal ended.verdict same weaker is.cause;
  first = is.first;
  early = is.early;
  unfailed = is.unfailed;
  kept = is.kept;
  back = is.back;
  untouched = if_told (λ c. IsUntouched tells c ended.journal ended.store) before told same is.untouched;
  asked = is.asked;
  opened = is.opened;
}

-- ---- verdicts

pub short_both : (v : Verdict) (P Q : Type 0) → IfShort v P → IfShort v Q → IfShort v (P × Q)
short_both WordsRefused P Q one two = tt
short_both SourceFault P Q one two = tt
short_both (ScriptRefused refusal) P Q one two = tt
short_both SiteFault P Q one two = tt
short_both (NotEmpty name) P Q one two = tt
short_both (Full lines) P Q one two = tt
short_both (Report lines as_asked) P Q one two = tt
short_both (Checked block outcome) P Q one two = tt
short_both NoMemory P Q one two = (one, two)
