use Rattle.cleaner.specs.declared.clean.Stage.TheVariants.{Listing, Marking, Reading, Walking, Deleting}
use Rattle.cleaner.proofs.Steps.{steps_on}
use Rattle.cleaner.proofs.clean.CleanMachine.step.Goals as goal

pub returns-in-Listing-clause-goes_on : goal.returns-in-Listing-clause-goes_on
returns-in-Listing-clause-goes_on c = λ seat op asks.
    steps_on Listing c.args.self.now c.after_blocks.new.self seat op c.args.seen c.after_blocks.result c.in-Listing.is asks (c.after_blocks.ensures.leads seat op)

pub returns-in-Marking-clause-goes_on : goal.returns-in-Marking-clause-goes_on
returns-in-Marking-clause-goes_on c = λ seat op asks.
    steps_on (Marking c.in-Marking.ulid) c.args.self.now c.after_mark.new.self seat op c.args.seen c.after_mark.result c.in-Marking.is asks (c.after_mark.ensures.leads seat op)

pub returns-in-Reading-clause-goes_on : goal.returns-in-Reading-clause-goes_on
returns-in-Reading-clause-goes_on c = λ seat op asks.
    steps_on (Reading c.in-Reading.ulid) c.args.self.now c.after_meta.new.self seat op c.args.seen c.after_meta.result c.in-Reading.is asks (c.after_meta.ensures.leads seat op)

pub returns-in-Walking-clause-goes_on : goal.returns-in-Walking-clause-goes_on
returns-in-Walking-clause-goes_on c = λ seat op asks.
    steps_on (Walking c.in-Walking.ulid) c.args.self.now c.after_objects.new.self seat op c.args.seen c.after_objects.result c.in-Walking.is asks (c.after_objects.ensures.leads seat op)

pub returns-in-Deleting-clause-goes_on : goal.returns-in-Deleting-clause-goes_on
returns-in-Deleting-clause-goes_on c = λ seat op asks.
    steps_on Deleting c.args.self.now c.after_delete.new.self seat op c.args.seen c.after_delete.result c.in-Deleting.is asks (c.after_delete.ensures.leads seat op)
