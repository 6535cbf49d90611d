use Rattle.std.proofs.Common.{refl}
use Rattle.call_verdicts.specs.Words.{named_by}
use Rattle.call_verdicts.proofs.Unopened.{opened_so, unhanded, unopened_so, unshelved_site, unused_yet}
use Rattle.call_verdicts.proofs.opening.open_site.Goals as goal

-- ---- what was just handed out was not used

pub open_world-requires-clause-unused : goal.open_world-requires-clause-unused
open_world-requires-clause-unused g c = unused_yet _ _ c.in-Ok.ensures.opened

pub without_shelf-requires : goal.without_shelf-requires
without_shelf-requires g c = unused_yet _ _ c.in-Ok.ensures.opened

-- ---- all was opened, or no world was

pub returns-in-Ok-open_shelf-clause-opened : goal.returns-in-Ok-open_shelf-clause-opened
returns-in-Ok-open_shelf-clause-opened g c =
    opened_so (g.S.Site.told c.args.site.now) (g.S.Site.told c.open_bucket.new.self) (g.S.Site.told c.open_shelf.new.site) g.S.Store.Bucket.told g.S.Files.Shelf.told c.args.bucket.now (named_by c.args.shelf.now) c.args.script.now
    c.in-Ok.store c.in-Ok.ensures.opened (c.in-Ok.ensures.faults.only refl) c.in-Ok.ensures.counted c.in-Ok.ensures.shelves c.in-Ok.ensures.files c.in-Ok-open_shelf.ensures.bucket
    c.in-Ok-open_shelf.shelf c.in-Ok-open_shelf.ensures.only c.in-Ok-open_shelf.ensures.opened
    c.open_world.result c.open_world.ensures.opened c.open_world.ensures.empty c.open_world.ensures.shelf

pub returns-in-Ok-open_shelf-clause-ended : goal.returns-in-Ok-open_shelf-clause-ended
returns-in-Ok-open_shelf-clause-ended g c =
    unopened_so (g.S.Site.told c.args.site.now) (g.S.Site.told c.open_bucket.new.self) (g.S.Site.told c.open_shelf.new.site) g.S.Store.Bucket.told g.S.Files.Shelf.told c.args.bucket.now (named_by c.args.shelf.now) c.args.script.now
    c.in-Ok.store c.in-Ok.ensures.opened (c.in-Ok.ensures.faults.only refl) c.in-Ok.ensures.counted c.in-Ok.ensures.shelves c.in-Ok.ensures.files c.in-Ok-open_shelf.ensures.bucket
    c.in-Ok-open_shelf.shelf c.in-Ok-open_shelf.ensures.only c.in-Ok-open_shelf.ensures.opened
    c.open_world.result c.open_world.ensures.ended c.open_world.ensures.store c.open_world.ensures.shelf

-- ---- no shelf, no bucket

pub returns-in-Err-open_shelf-clause-ended : goal.returns-in-Err-open_shelf-clause-ended
returns-in-Err-open_shelf-clause-ended g c =
    unshelved_site (g.S.Site.told c.args.site.now) (g.S.Site.told c.open_bucket.new.self) (g.S.Site.told c.open_shelf.new.site) g.S.Store.Bucket.told g.S.Files.Shelf.told c.args.bucket.now (named_by c.args.shelf.now) c.args.script.now
    c.in-Ok.store c.in-Ok.ensures.opened (c.in-Ok.ensures.faults.only refl) c.in-Ok.ensures.counted c.in-Ok.ensures.shelves c.in-Ok.ensures.files c.in-Err-open_shelf.ensures.bucket
    c.in-Err-open_shelf.refusal c.without_shelf.result c.in-Err-open_shelf.ensures.cause c.in-Err-open_shelf.ensures.only c.in-Err-open_shelf.ensures.refused c.in-Err-open_shelf.ensures.asked
    c.without_shelf.ensures.failed c.without_shelf.ensures.none (c.without_shelf.ensures.ended c.args.script.now) c.without_shelf.ensures.store c.without_shelf.ensures.shelf c.without_shelf.ensures.note

pub returns-in-Err-clause-ended : goal.returns-in-Err-clause-ended
returns-in-Err-clause-ended g c =
    unhanded (g.S.Site.told c.args.site.now) (g.S.Site.told c.args.site.now) (g.S.Site.told c.open_bucket.new.self) g.S.Store.Bucket.told g.S.Files.Shelf.told c.args.bucket.now (named_by c.args.shelf.now) c.args.script.now c.in-Err.refusal c.refusal_verdict.result c.without_bucket.result
    c.in-Err.ensures.faults c.in-Err.ensures.counted c.in-Err.ensures.shelves c.in-Err.ensures.files
    c.without_bucket.ensures.verdict c.without_bucket.ensures.journal c.without_bucket.ensures.store c.refusal_verdict.ensures.failed c.refusal_verdict.ensures.none c.refusal_verdict.ensures.early c.without_bucket.ensures.shelf c.without_bucket.ensures.note
