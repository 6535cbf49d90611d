use Rattle.std.proofs.Common.{ap, []}
use Rattle.cleaner.specs.Cleanings.{deleting}
use Rattle.cleaner.specs.CleanStates.{blocks_left, goes_to, first_delete}
use Rattle.cleaner.proofs.Deletions.{no_object}
use Rattle.cleaner.proofs.Keys.{lawful_first}
use Rattle.cleaner.proofs.Steps.{leads_as}
use Rattle.cleaner.proofs.clean.Clean.delete_next.Goals as goal

pub returns-in-Some-clause-leads : goal.returns-in-Some-clause-leads
returns-in-Some-clause-leads c = record {
  lawful = lawful_first c.args.self.now.doomed.items c.in-Some.object c.args.self.now.keys c.in-Some.ensures;
  asks = ap first_delete c.in-Some.ensures;
  onward = λ entries end run. run [] 0;
}

pub returns-in-None-clause-leads : goal.returns-in-None-clause-leads
returns-in-None-clause-leads c =
    leads_as _ (goes_to c.args.self.now (deleting c.args.self.now.doomed.items (blocks_left c.args.self.now))) c.look_next.result c.look_next.new.self
    (λ entries end run. no_object c.args.self.now entries end c.in-None.ensures run)
    c.look_next.ensures.leads
