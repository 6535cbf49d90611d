use Rattle.meta_fetcher.specs.declared.sync.Stage.TheVariants.{Opening, Listing, Marking, Reading}
use Rattle.meta_fetcher.proofs.Steps.{steps_on}
use Rattle.meta_fetcher.proofs.sync.SyncMachine.step.Goals as goal

pub returns-in-Opening-clause-goes_on : goal.returns-in-Opening-clause-goes_on
returns-in-Opening-clause-goes_on c = λ seat op asks.
    steps_on Opening c.args.self.now c.after_first_page.new.self seat op c.args.seen c.after_first_page.result c.in-Opening.is asks (c.after_first_page.ensures.leads seat op)

pub returns-in-Listing-clause-goes_on : goal.returns-in-Listing-clause-goes_on
returns-in-Listing-clause-goes_on c = λ seat op asks.
    steps_on Listing c.args.self.now c.after_next_page.new.self seat op c.args.seen c.after_next_page.result c.in-Listing.is asks (c.after_next_page.ensures.leads seat op)

pub returns-in-Marking-clause-goes_on : goal.returns-in-Marking-clause-goes_on
returns-in-Marking-clause-goes_on c = λ seat op asks.
    steps_on (Marking c.in-Marking.ulid) c.args.self.now c.after_mark.new.self seat op c.args.seen c.after_mark.result c.in-Marking.is asks (c.after_mark.ensures.leads seat op)

pub returns-in-Reading-clause-goes_on : goal.returns-in-Reading-clause-goes_on
returns-in-Reading-clause-goes_on c = λ seat op asks.
    steps_on (Reading c.in-Reading.ulid) c.args.self.now c.after_meta.new.self seat op c.args.seen c.after_meta.result c.in-Reading.is asks (c.after_meta.ensures.leads seat op)
