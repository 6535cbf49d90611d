use Rattle.cleaner.specs.Cleanings.{deletion}
use Rattle.cleaner.specs.CleanStates.{blocks_left, goes_to}
use Rattle.cleaner.proofs.Deletions.{walk_begins}
use Rattle.cleaner.proofs.Steps.{leads_as}
use Rattle.cleaner.proofs.clean.Clean.delete_block.Goals as goal

pub returns-clause-leads : goal.returns-clause-leads
returns-clause-leads c =
    leads_as _ (goes_to c.args.self.now (deletion c.args.self.now.rules c.args.ulid (blocks_left c.args.self.now))) c.ask_objects.result c.ask_objects.new.self
    (λ entries end run. walk_begins c.args.ulid c.args.self.now c.new.result c.new-2.result.items entries end c.new.ensures.listed c.new.ensures.last c.new-2.ensures.items run)
    c.ask_objects.ensures.leads
