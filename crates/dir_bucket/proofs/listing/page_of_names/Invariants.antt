use Rattle.dir_bucket.specs.Listings.{IsListing}
use Rattle.dir_bucket.proofs.listing.page_of_names.Given as goal

abbrev pub invariant-pages : goal.invariant-pages
invariant-pages g l = IsListing l.fn.after l.most l.page
