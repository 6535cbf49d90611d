use Rattle.dir_bucket.proofs.Listed.{behind_last}
use Rattle.dir_bucket.proofs.listing.is_behind.Goals as goal

pub returns-in-Some : goal.returns-in-Some
returns-in-Some c = λ less up. behind_last c.args.after.now c.args.page.now c.in-Some.last.now c.args.name.now c.lt.result
    (rw c.members.ensures at c.in-Some.ensures.value) (rw c.as_str.ensures at c.lt.ensures) less up
