use Rattle.call_verdicts.specs.Outside.{outside, site_call}
use Rattle.call_verdicts.specs.Words.{named_by}
use Rattle.call_verdicts.proofs.Unopened.{ended_site, ended_source}
use Rattle.call_verdicts.proofs.opening.read_and_open.Goals as goal

pub returns-in-Ok-open_site-clause-ready : goal.returns-in-Ok-open_site-clause-ready
returns-in-Ok-open_site-clause-ready g c = record {
  read = c.in-Ok.ensures.read;
  lawful = c.in-Ok.ensures.lawful;
  source = c.in-Ok.ensures.only;
  opened = c.in-Ok-open_site.ensures.opened;
}

pub returns-in-Err-open_site-clause-ended : goal.returns-in-Err-open_site-clause-ended
returns-in-Err-open_site-clause-ended g c =
    ended_site (outside (g.R.Source.told c.args.script.now) (g.R.Source.told c.read_script.new.source) (site_call (g.S.Site.told c.args.site.now) (g.S.Site.told c.open_site.new.site) g.S.Store.Bucket.told g.S.Files.Shelf.told))
    c.args.bucket.now (named_by c.args.shelf.now) c.in-Ok.script c.in-Err-open_site.ended c.in-Ok.ensures.read c.in-Ok.ensures.lawful c.in-Ok.ensures.only c.in-Err-open_site.ensures.ended

pub returns-in-Err-clause-ended : goal.returns-in-Err-clause-ended
returns-in-Err-clause-ended g c =
    ended_source (g.R.Source.told c.args.script.now) (g.R.Source.told c.read_script.new.source) (g.S.Site.told c.args.site.now) g.S.Store.Bucket.told g.S.Files.Shelf.told c.args.bucket.now (named_by c.args.shelf.now) c.in-Err.verdict c.without_bucket.result
    c.without_bucket.ensures.verdict c.without_bucket.ensures.journal c.without_bucket.ensures.store c.without_bucket.ensures.shelf c.without_bucket.ensures.note c.in-Err.ensures.refused c.in-Err.ensures.only
