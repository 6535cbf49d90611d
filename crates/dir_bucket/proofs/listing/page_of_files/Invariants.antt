use Rattle.dir_bucket.specs.Listings.{IsListing}
use Rattle.dir_bucket.proofs.listing.page_of_files.Given as goal

abbrev pub invariant-loop-name : goal.invariant-loop-name
invariant-loop-name g l = IsListing l.fn.after l.most l.page
