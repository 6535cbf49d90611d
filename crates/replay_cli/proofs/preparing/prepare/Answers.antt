use Rattle.std.proofs.Common.{◌≡◌, inl, refl, subst}
use Rattle.std.specs.Prelude.{IfErr, IfSome, MatchResult, Some}
use Rattle.call_verdicts.specs.script_running.specs.Shelves.{AreAllAtHand, setting_by}
use Rattle.call_verdicts.specs.Checks.{HasFailed, files_of}
use Rattle.call_verdicts.specs.Outside.{outside, site_call}
use Rattle.call_verdicts.specs.ShelfReads.{IsBrokenOff, IsOfShelf}
use Rattle.call_verdicts.specs.Verdicts.{IfShort}
use Rattle.call_verdicts.specs.Words.{named_by}
use Rattle.call_verdicts.proofs.Noted.{undone_noted}
use Rattle.call_verdicts.proofs.ShelfReads.{ok_is, told_of_call}
use Rattle.call_verdicts.proofs.Verdicts.{is_named, worked_undone}
use Rattle.replay_cli.specs.Calls.{around_run, run_names}
use Rattle.replay_cli.specs.Ways.{is_done_by, tells_by}
use Rattle.replay_cli.proofs.Calls.{is_open, none_done, unread}
use Rattle.replay_cli.proofs.preparing.prepare.Goals as goal

-- ---- a run can begin

pub returns-in-Ok-read : goal.returns-in-Ok-read
returns-in-Ok-read g c =
    let o = outside (g.R.Source.told c.args.script.now) (g.R.Source.told c.read_and_open.new.script) (site_call (g.S.Site.told c.args.site.now) (g.S.Site.told c.read_and_open.new.site) g.S.Store.Bucket.told g.S.Files.Shelf.told) in
    let word = named_by c.args.named.now.shelf.now in
    let script = c.in-Ok.field-0.script in
    let before = c.in-Ok.field-0.shelf in
    let ready = c.in-Ok.ensures.ready in
    let opened = ready.opened in
    let read = c.read_blocks-read.result.0 in
    let after = c.read_blocks-read.result.1 in
    record {
      may = record {
        lawful = ready.lawful;
        at_hand = ok_is read _ (AreAllAtHand script) c.in-Ok-read.is c.read_blocks-read.ensures.at_hand;
        fresh = opened.new.journal;
        tick = opened.new.tick;
        asked = opened.new.asked;
      };
      opened = is_open o c.args.named.now.bucket.now word script c.in-Ok.field-0.world before after ready.read ready.source opened.site opened.buckets opened.empty opened.new.unfailed
          opened.own.named opened.own.of c.read_blocks-read.ensures.same (c.read_blocks-read.ensures.asked opened.own.unasked);
      told = ok_is read _ (λ blocks. IfSome (files_of o.site.files o.site.before word after) (IsOfShelf (setting_by script blocks))) c.in-Ok-read.is
          (told_of_call o.site.files o.site.before word before after script read opened.own.named opened.own.of.back c.read_blocks-read.ensures.same c.read_blocks-read.ensures.told);
      calm = subst (λ r. MatchResult r (λ _. IfSome after (λ s. (o.site.files s).faults ≡ 0)) (λ v. IfShort v (IfSome after (λ s. (o.site.files s).faults ≡ 0)))) c.in-Ok-read.is (c.read_blocks-read.ensures.calm opened.own.unfailed);
    }

-- ---- the call ended before

pub returns-in-Err-read : goal.returns-in-Err-read
returns-in-Err-read g c = λ way.
    let o = outside (g.R.Source.told c.args.script.now) (g.R.Source.told c.read_and_open.new.script) (site_call (g.S.Site.told c.args.site.now) (g.S.Site.told c.read_and_open.new.site) g.S.Store.Bucket.told g.S.Files.Shelf.told) in
    let word = named_by c.args.named.now.shelf.now in
    let script = c.in-Ok.field-0.script in
    let world = c.in-Ok.field-0.world in
    let before = c.in-Ok.field-0.shelf in
    let ready = c.in-Ok.ensures.ready in
    let opened = ready.opened in
    let after = c.read_blocks-read.result.1 in
    unread o c.args.named.now.bucket.now word way script world c.unbegun.result.world c.unbegun.result.note before after c.in-Err-read.verdict c.of_run.result c.unbegun.ensures.world c.unbegun.ensures.note ready.lawful
    (is_open o c.args.named.now.bucket.now word script world before after ready.read ready.source opened.site opened.buckets opened.empty opened.new.unfailed
    opened.own.named opened.own.of c.read_blocks-read.ensures.same (c.read_blocks-read.ensures.asked opened.own.unasked))
    opened.new.journal opened.new.asked opened.own.unfailed
    (subst (λ r. IfErr r (IsBrokenOff (HasFailed o.site.files before after))) c.in-Err-read.is c.read_blocks-read.ensures.broken)
    (subst (λ r. MatchResult r (λ _. IfSome after (λ s. (o.site.files s).faults ≡ 0)) (λ v. IfShort v (IfSome after (λ s. (o.site.files s).faults ≡ 0)))) c.in-Err-read.is (c.read_blocks-read.ensures.calm opened.own.unfailed))
    c.of_run.ensures

pub returns-in-Err : goal.returns-in-Err
returns-in-Err g c = λ way.
    let o = outside (g.R.Source.told c.args.script.now) (g.R.Source.told c.read_and_open.new.script) (site_call (g.S.Site.told c.args.site.now) (g.S.Site.told c.read_and_open.new.site) g.S.Store.Bucket.told g.S.Files.Shelf.told) in
    let ended = c.in-Err.ended in
    let around = around_run way o (run_names c.args.named.now.bucket.now (named_by c.args.named.now.shelf.now)) ended in
    let is = c.in-Err.ensures.ended in
    record {
      cause = (inl (is_named c.args.named.now.bucket.now (Some c.args.named.now.bucket.now) refl, refl, worked_undone around (is_done_by way) ended.verdict (none_done way) is.cause), is.short);
      handed = is.handed;
      kept = is.kept;
      back = is.back;
      untouched = is.untouched;
      closed = λ none. absurd (cc (none));
      asked_bucket = is.asked;
      noted = undone_noted (tells_by way) o.site.store around ended.verdict ended.store ended.note is.note is.opened is.cause;
      shelf = is.of;
      asked = is.read;
    }
