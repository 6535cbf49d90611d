use Rattle.dir_bucket.specs.Listings.{IsListing}
use Rattle.dir_bucket.proofs.listing.push_shown.Given as goal

abbrev pub invariant-loop-name : goal.invariant-loop-name
invariant-loop-name g l = IsListing l.after l.limit l.fn.page → IsListing l.after l.limit l.page
