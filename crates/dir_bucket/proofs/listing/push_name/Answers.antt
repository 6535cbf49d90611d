use Rattle.std.proofs.Common.{arith}
use Rattle.dir_bucket.proofs.Listed.{listing_more}
use Rattle.dir_bucket.proofs.listing.push_name.Goals as goal

pub returns-in-Ok : goal.returns-in-Ok
returns-in-Ok c = λ listing. listing_more c.args.after.now c.args.limit c.args.page.now c.push.new.self c.args.name
    c.in-Ok.ensures.ok (omega (arith, c.len.ensures, c.if-len-limit.false)) c.requires
    (rw c.as_str.ensures at (c.is_behind.ensures c.if-not-is_behind.false)) listing
