use Rattle.std.proofs.Common.{◌≡◌, inl, refl}
use Rattle.std.specs.Prelude.{IfSome, None, is_some}
use Rattle.bucket_core.specs.Causes.{Rose}
use Rattle.call_verdicts.specs.Asked.{IsBroken, WasChecked}
use Rattle.call_verdicts.specs.Checks.{files_of}
use Rattle.call_verdicts.specs.Kept.{IsShelfOf}
use Rattle.call_verdicts.specs.Verdicts.{BehindOpening, IfShort, IsChecked, ShelfFailed}
use Rattle.call_verdicts.specs.Words.{named_by}
use Rattle.call_verdicts.proofs.Checks.{not_named, unopened_caused}
use Rattle.call_verdicts.proofs.CheckedShelf.{checked_opened, ended_as, named_kept, shelf_kept}
use Rattle.call_verdicts.proofs.Openings.{no_shelf}
use Rattle.call_verdicts.proofs.Verdicts.{before_opening, behind_opening}
use Rattle.call_verdicts.proofs.Unfailed.{short_map, short_refused}
use Rattle.call_verdicts.proofs.ShelfAsked.{all_opened}
use Rattle.call_verdicts.proofs.check.check_block.Goals as goal

-- ---- the shelf was opened

pub returns-in-Ok-clause-cause : goal.returns-in-Ok-clause-cause
returns-in-Ok-clause-cause g c =
    ended_as (λ s v. IsChecked (files_of g.S.Files.Shelf.told (g.S.Site.told c.args.site.now) (named_by c.args.shelf.now) s) c.args.block (ShelfFailed (g.S.Site.told c.args.site.now) (g.S.Site.told c.open_shelf.new.site) g.S.Files.Shelf.told s) v) c.without_bucket.result c.check_opened-verdict.result.1 c.check_opened-verdict.result.0 c.without_bucket.ensures.shelf c.without_bucket.ensures.verdict
    (checked_opened g.S.Files.Shelf.told (g.S.Site.told c.args.site.now) (named_by c.args.shelf.now) c.in-Ok.files c.check_opened-verdict.result.1 c.args.block (Rose (g.S.Site.told c.args.site.now).faults (g.S.Site.told c.open_shelf.new.site).faults) c.check_opened-verdict.result.0 c.in-Ok.ensures.opened.named c.in-Ok.ensures.opened.of.back
    c.in-Ok.ensures.opened.unfailed c.check_opened-verdict.ensures.same c.check_opened-verdict.ensures.cause)

pub returns-in-Ok-clause-opened : goal.returns-in-Ok-clause-opened
returns-in-Ok-clause-opened g c =
    ended_as (λ s v. BehindOpening v (is_some s ≡ is_some (named_by c.args.shelf.now))) c.without_bucket.result c.check_opened-verdict.result.1 c.check_opened-verdict.result.0 c.without_bucket.ensures.shelf c.without_bucket.ensures.verdict
    (behind_opening c.check_opened-verdict.result.0 (is_some c.check_opened-verdict.result.1 ≡ is_some (named_by c.args.shelf.now)) (named_kept g.S.Files.Shelf.told (named_by c.args.shelf.now) c.check_opened-verdict.result.1 c.in-Ok.files c.check_opened-verdict.ensures.same c.in-Ok.ensures.opened.named))

pub returns-in-Ok-clause-shelf : goal.returns-in-Ok-clause-shelf
returns-in-Ok-clause-shelf g c =
    ended_as (λ s v. IsShelfOf g.S.Files.Shelf.told (named_by c.args.shelf.now) (g.S.Site.told c.args.site.now) (g.S.Site.told c.open_shelf.new.site) s) c.without_bucket.result c.check_opened-verdict.result.1 c.check_opened-verdict.result.0 c.without_bucket.ensures.shelf c.without_bucket.ensures.verdict
    (shelf_kept g.S.Files.Shelf.told (named_by c.args.shelf.now) (g.S.Site.told c.args.site.now) (g.S.Site.told c.open_shelf.new.site) c.check_opened-verdict.result.1 c.in-Ok.files c.check_opened-verdict.ensures.same c.in-Ok.ensures.opened.of)

pub returns-in-Ok-clause-short : goal.returns-in-Ok-clause-short
returns-in-Ok-clause-short g c =
    ended_as (λ s v. IfShort v (((g.S.Site.told c.open_shelf.new.site).faults ≡ (g.S.Site.told c.args.site.now).faults) × IfSome s (λ files. (g.S.Files.Shelf.told files).faults ≡ 0))) c.without_bucket.result c.check_opened-verdict.result.1 c.check_opened-verdict.result.0 c.without_bucket.ensures.shelf c.without_bucket.ensures.verdict
    (short_map c.check_opened-verdict.result.0 _ _ (λ fresh. (c.in-Ok.ensures.only, fresh)) (c.check_opened-verdict.ensures.short c.in-Ok.ensures.opened.unfailed))

pub returns-in-Ok-clause-asked : goal.returns-in-Ok-clause-asked
returns-in-Ok-clause-asked g c =
    ended_as (λ s v. IfSome s (WasChecked g.S.Files.Shelf.told (files_of g.S.Files.Shelf.told (g.S.Site.told c.args.site.now) (named_by c.args.shelf.now) s) c.args.block (IsBroken v))) c.without_bucket.result c.check_opened-verdict.result.1 c.check_opened-verdict.result.0 c.without_bucket.ensures.shelf c.without_bucket.ensures.verdict
    (all_opened g.S.Files.Shelf.told (g.S.Site.told c.args.site.now) (named_by c.args.shelf.now) c.in-Ok.files c.check_opened-verdict.result.1 c.args.block c.check_opened-verdict.result.0 c.check_opened-verdict.result.0 c.in-Ok.ensures.opened.named c.in-Ok.ensures.opened.of.back c.check_opened-verdict.ensures.same refl
    (c.check_opened-verdict.ensures.asked c.in-Ok.ensures.opened.unasked))

-- ---- it was not

pub returns-in-Err-clause-cause : goal.returns-in-Err-clause-cause
returns-in-Err-clause-cause g c =
    ended_as (λ s v. IsChecked (files_of g.S.Files.Shelf.told (g.S.Site.told c.args.site.now) (named_by c.args.shelf.now) s) c.args.block (ShelfFailed (g.S.Site.told c.args.site.now) (g.S.Site.told c.open_shelf.new.site) g.S.Files.Shelf.told s) v) c.without_bucket-in-Err.result None c.refusal_verdict.result c.without_bucket-in-Err.ensures.shelf c.without_bucket-in-Err.ensures.verdict
    (unopened_caused (files_of g.S.Files.Shelf.told (g.S.Site.told c.args.site.now) (named_by c.args.shelf.now) None) c.args.block (ShelfFailed (g.S.Site.told c.args.site.now) (g.S.Site.told c.open_shelf.new.site) g.S.Files.Shelf.told None) c.in-Err.refusal c.refusal_verdict.result (λ is. inl (c.in-Err.ensures.cause is)) c.refusal_verdict.ensures.failed c.refusal_verdict.ensures.none)

pub returns-in-Err-clause-opened : goal.returns-in-Err-clause-opened
returns-in-Err-clause-opened g c =
    ended_as (λ s v. BehindOpening v (is_some s ≡ is_some (named_by c.args.shelf.now))) c.without_bucket-in-Err.result None c.refusal_verdict.result c.without_bucket-in-Err.ensures.shelf c.without_bucket-in-Err.ensures.verdict
    (before_opening c.in-Err.refusal c.refusal_verdict.result (is_some {T = g.row.S-Files.Denot} None ≡ is_some (named_by c.args.shelf.now)) c.refusal_verdict.ensures.failed c.refusal_verdict.ensures.none)

pub returns-in-Err-clause-shelf : goal.returns-in-Err-clause-shelf
returns-in-Err-clause-shelf g c =
    ended_as (λ s v. IsShelfOf g.S.Files.Shelf.told (named_by c.args.shelf.now) (g.S.Site.told c.args.site.now) (g.S.Site.told c.open_shelf.new.site) s) c.without_bucket-in-Err.result None c.refusal_verdict.result c.without_bucket-in-Err.ensures.shelf c.without_bucket-in-Err.ensures.verdict
    (no_shelf g.S.Files.Shelf.told (g.S.Site.told c.args.site.now) (g.S.Site.told c.open_shelf.new.site) (named_by c.args.shelf.now) None refl c.in-Err.ensures.refused (λ gone. absurd (not_named (named_by c.args.shelf.now) gone c.in-Err.ensures.asked)))

pub returns-in-Err-clause-short : goal.returns-in-Err-clause-short
returns-in-Err-clause-short g c =
    ended_as (λ s v. IfShort v (((g.S.Site.told c.open_shelf.new.site).faults ≡ (g.S.Site.told c.args.site.now).faults) × IfSome s (λ files. (g.S.Files.Shelf.told files).faults ≡ 0))) c.without_bucket-in-Err.result None c.refusal_verdict.result c.without_bucket-in-Err.ensures.shelf c.without_bucket-in-Err.ensures.verdict
    (short_refused c.in-Err.refusal c.refusal_verdict.result _ c.refusal_verdict.ensures.failed (λ other. (c.in-Err.ensures.only other, tt)))

pub returns-in-Err-clause-asked : goal.returns-in-Err-clause-asked
returns-in-Err-clause-asked g c =
    ended_as (λ s v. IfSome s (WasChecked g.S.Files.Shelf.told (files_of g.S.Files.Shelf.told (g.S.Site.told c.args.site.now) (named_by c.args.shelf.now) s) c.args.block (IsBroken v))) c.without_bucket-in-Err.result None c.refusal_verdict.result c.without_bucket-in-Err.ensures.shelf c.without_bucket-in-Err.ensures.verdict
    tt
