use Rattle.std.proofs.Common.{◌≡◌, sym, ◌∙◌, ap, refl, subst}
use Rattle.std.specs.Prelude.{Some, None, option_map}
use Rattle.call_verdicts.specs.Outside.{Names, site_call, outside}
use Rattle.call_verdicts.specs.Words.{named_by, replay_shelf, replay_word}
use Rattle.call_verdicts.specs.declared.words.Named.{Named}
use Rattle.replay_cli.specs.Calls.{Leaves}
use Rattle.replay_cli.specs.Ways.{beside}
use Rattle.replay_cli.proofs.Served.{refused, same_names}
use Rattle.replay_cli.proofs.replay.come_to.Goals as goal

-- a run
pub returns-in-Some : goal.returns-in-Some
returns-in-Some g c =
    let o = outside (g.R.Source.told c.args.script.now) (g.R.Source.told c.read_and_run.new.script) (site_call (g.S.Site.told c.args.site.now) (g.S.Site.told c.read_and_run.new.site) g.S.Store.Bucket.told g.S.Files.Shelf.told) in
    subst (λ (n : Names). Leaves beside o n c.read_and_run.result)
    (same_names (Some c.in-Some.named.bucket.now) (replay_word c.args.words.now) (named_by c.in-Some.named.shelf.now) (replay_shelf c.args.words.now) None None c.in-Some.ensures.bucket c.in-Some.ensures.shelf refl)
    c.read_and_run.ensures

-- words that are no form of a call
pub returns-in-None : goal.returns-in-None
returns-in-None g c =
    let none : replay_word c.args.words.now ≡ None = sym c.read_replay.ensures.bucket ∙ ap (option_map (λ (named : Named). named.bucket.now)) c.in-None.is in
    refused beside (g.R.Source.told c.args.script.now) (g.S.Site.told c.args.site.now) g.S.Store.Bucket.told g.S.Files.Shelf.told _ _
    (same_names None (replay_word c.args.words.now) None (replay_shelf c.args.words.now) None None (sym none) (sym (c.read_replay.ensures.none c.in-None.is)) refl)
    c.without_bucket.ensures.verdict c.without_bucket.ensures.journal c.without_bucket.ensures.store c.without_bucket.ensures.shelf c.without_bucket.ensures.note
