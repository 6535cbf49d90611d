use Rattle.std.proofs.Common.{◌∙◌, ap}
use Rattle.std.proofs.Common.{◌++◌, ◌∷◌, []}
use Rattle.block_keys.specs.declared.key.Key.TheVariants as key
use Rattle.cleaner.specs.Cleanings.{deleting}
use Rattle.cleaner.specs.CleanStates.{blocks_left, goes_to}
use Rattle.cleaner.proofs.Deletions.{objects_begin}
use Rattle.cleaner.proofs.Steps.{leads_as}
use Rattle.cleaner.proofs.clean.Clean.delete_objects.Goals as goal

pub returns-clause-leads : goal.returns-clause-leads
returns-clause-leads c =
    leads_as _ (goes_to c.args.self.now (deleting (key.Meta c.args.ulid ∷ c.args.self.now.doomed.items ++ key.Mark c.args.ulid ∷ []) (blocks_left c.args.self.now))) c.delete_next.result c.delete_next.new.self
    (λ entries end run. objects_begin c.args.self.now c.args.ulid c.push_back.new.self.items entries end
    (c.in_ok-push_back.ensures.items ∙ ap (λ l. l ++ key.Mark c.args.ulid ∷ []) c.in_ok-push_front.ensures.items) run)
    c.delete_next.ensures.leads
