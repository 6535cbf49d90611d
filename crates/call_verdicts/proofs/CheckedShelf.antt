-- What the check of a block on a shelf leaves of the shelf, and why it comes to its verdict.
use Rattle.std.proofs.Common.{◌≡◌, ◌⊎◌, inr, ℕ, ◌+◌, ◌<◌, List, refl, sym, ◌∙◌, ap, subst, arith}
use Rattle.std.specs.Prelude.{Option, Some, None, IfSome, IsSomeAnd, is_some, option_map, if◌then◌else◌}
use Rattle.bucket_core.specs.Contents.{Contents, nothing}
use Rattle.bucket_core.specs.Told.{ShelfTold, SiteTold, next_shelf}
use Rattle.block_keys.specs.declared.key.Key.TheVariants.{Meta}
use Rattle.block_content.specs.declared.check_refusal.CheckRefusal.TheVariants as cause
use Rattle.call_verdicts.specs.CheckVerdicts.{refused_for}
use Rattle.call_verdicts.specs.Checks.{cause_number, files_held, files_in, files_of, HasFailed}
use Rattle.call_verdicts.specs.Kept.{IsShelfBack, IsShelfOf, told_of}
use Rattle.call_verdicts.specs.Verdicts.{IsChecked}
use Rattle.call_verdicts.specs.declared.ended.Ended.{Ended}
use Rattle.call_verdicts.specs.declared.verdict.Verdict.{Verdict}
use Rattle.call_verdicts.proofs.Checks.{absent_caused, checked_told}
use Rattle.call_verdicts.proofs.FilesTold.{files_back}

-- a failure of a shelf that had not failed before
has_failed : {F : Type 0} (tells : F → ShelfTold) (old : F) (after : Option F) → (tells old).faults ≡ 0 → HasFailed tells (Some old) after → IsSomeAnd after (λ s. 0 < (tells s).faults)
has_failed tells old None fresh failed = absurd failed
has_failed tells old (Some new) fresh failed = omega (arith, fresh, failed)

failed_since : {F : Type 0} (tells : F → ShelfTold) (shelf after : Option F) → IfSome shelf (λ s. (tells s).faults ≡ 0) → HasFailed tells shelf after → IsSomeAnd after (λ s. 0 < (tells s).faults)
failed_since tells None after fresh failed = absurd failed
failed_since tells (Some s) after fresh failed = has_failed tells s after fresh failed

pub checked_opened : {F : Type 0} (tells : F → ShelfTold) (site : SiteTold) (word : Option (List ℕ)) (shelf after : Option F) (block : ℕ) (failed : Type 0) (v : Verdict)
    → is_some shelf ≡ is_some word → IsShelfBack (told_of (next_shelf site) word) tells shelf → IfSome shelf (λ s. (tells s).faults ≡ 0) → option_map (files_held tells) after ≡ option_map (files_held tells) shelf
    → IsChecked (files_in tells shelf) block (HasFailed tells shelf after) v → IsChecked (files_of tells site word after) block (failed ⊎ IsSomeAnd after (λ s. 0 < (tells s).faults)) v
checked_opened tells site word shelf after block failed v named back fresh same is =
    checked_told (files_of tells site word after) (files_in tells shelf) block (HasFailed tells shelf after) (failed ⊎ IsSomeAnd after (λ s. 0 < (tells s).faults)) v
    (files_back tells site word shelf after named back same) (λ rose. inr (failed_since tells shelf after fresh rose)) is

-- without a shelf there is no block
pub none_opened : {F : Type 0} (tells : F → ShelfTold) (shelf : Option F) (block : ℕ) (v : Verdict) → shelf ≡ None → v ≡ refused_for block (cause_number (cause.NoFile (Meta block)))
    → IsChecked (files_in tells shelf) block (HasFailed tells shelf None) v
none_opened {F} tells shelf block v none is =
    subst (λ (o : Option F). IsChecked (files_in tells o) block (HasFailed tells o None) v) (sym none) (subst (λ (x : Verdict). IsChecked (Some nothing) block (HasFailed {F = F} tells None None) x) (sym is) (absent_caused block (HasFailed {F = F} tells None None)))

-- two shelves that both are there, or both are not, and hold the same
same_there : {F : Type 0} (tells : F → ShelfTold) (one other : Option F) → option_map (files_held tells) one ≡ option_map (files_held tells) other → is_some one ≡ is_some other
same_there tells None None same = refl
same_there tells None (Some s) same = absurd (cc same)
same_there tells (Some s) None same = absurd (cc same)
same_there tells (Some s) (Some t) same = refl

same_back : {F : Type 0} (told : Option Contents) (tells : F → ShelfTold) (one other : Option F) → option_map (files_held tells) one ≡ option_map (files_held tells) other → IsShelfBack told tells other → IsShelfBack told tells one
same_back told tells None other same back = tt
same_back told tells (Some s) None same back = absurd (cc same)
same_back told tells (Some s) (Some t) same back = let held : (tells s).files ≡ (tells t).files = cc in subst (λ (o : Option Contents). IfSome told (λ c. o ≡ Some c)) (sym held) back

pub shelf_kept : {F : Type 0} (tells : F → ShelfTold) (word : Option (List ℕ)) (old new : SiteTold) (one other : Option F)
    → option_map (files_held tells) one ≡ option_map (files_held tells) other → IsShelfOf tells word old new other → IsShelfOf tells word old new one
shelf_kept tells word old new one other same is = record {
  handed = is.handed ∙ ap (λ b. if b then old.shelves + 1 else old.shelves) (sym (same_there tells one other same));
  back = same_back (told_of (next_shelf old) word) tells one other same is.back;
  closed = is.closed;
}

pub named_kept : {F : Type 0} (tells : F → ShelfTold) (word : Option (List ℕ)) (one other : Option F) → option_map (files_held tells) one ≡ option_map (files_held tells) other → is_some other ≡ is_some word → is_some one ≡ is_some word
named_kept tells word one other same named = same_there tells one other same ∙ named

-- by the verdict and the shelf with which a call ended
pub ended_as : {B F : Type 0} (P : Option F → Verdict → Type 0) (ended : Ended B F) (shelf : Option F) (v : Verdict) → ended.shelf ≡ shelf → ended.verdict ≡ v → P shelf v → P ended.shelf ended.verdict
ended_as P ended shelf v one two holds = subst (λ s. P s ended.verdict) (sym one) (subst (P shelf) (sym two) holds)
