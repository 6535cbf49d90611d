use Rattle.std.proofs.Common.{◌∙◌, sym, ap, Ok}
use Rattle.cleaner.specs.CleanStates.{goes_by_objects}
use Rattle.cleaner.proofs.Deletions.{objects_unordered, objects_too_many, objects_last, objects_full, objects_last_falls, objects_full_falls}
use Rattle.world_core.proofs.LeadSteps.{falls_more}
use Rattle.cleaner.proofs.Steps.{leads_as}
use Rattle.cleaner.proofs.clean.Clean.take_objects.Goals as goal

pub returns-in-Unordered-clause-leads : goal.returns-in-Unordered-clause-leads
returns-in-Unordered-clause-leads c = objects_unordered c.args.self.now c.args.ulid c.args.seq c.args.names.now (sym c.in-Unordered.is ∙ c.in_ok-page.ensures.kind)

pub returns-in-TooMany-clause-leads : goal.returns-in-TooMany-clause-leads
returns-in-TooMany-clause-leads c = objects_too_many c.args.self.now c.args.ulid c.args.seq c.args.names.now (sym c.in-TooMany.is ∙ c.in_ok-page.ensures.kind)

pub returns-in_ok-add_data_keys-in-Full-clause-leads : goal.returns-in_ok-add_data_keys-in-Full-clause-leads
returns-in_ok-add_data_keys-in-Full-clause-leads c =
    leads_as _ (goes_by_objects c.args.seq c.args.ulid c.args.self.now c.args.names.now) c.ask_objects.result c.ask_objects.new.self
    (λ entries end run. objects_full c.args.self.now c.args.ulid c.args.seq c.args.names.now c.take.new.self c.add_data_keys.new.keys.items entries end (sym c.in-Full.is ∙ c.in_ok-page.ensures.kind)
    c.in_ok-add_data_keys-in-Full.ensures.added (c.in_ok-page.ensures.listed (ap Ok c.in-Full.is)) (c.in_ok-page.ensures.few (ap Ok c.in-Full.is)) (c.in_ok-page.ensures.some (ap Ok c.in-Full.is)) (c.in_ok-page.ensures.last (ap Ok c.in-Full.is)) run)
    c.ask_objects.ensures.leads

pub returns-in_ok-add_data_keys-in-Full-clause-falls : goal.returns-in_ok-add_data_keys-in-Full-clause-falls
returns-in_ok-add_data_keys-in-Full-clause-falls c =
    falls_more _ _ c.ask_objects.result _ (objects_full_falls c.args.self.now c.args.ulid c.args.seq c.args.names.now c.add_data_keys.new.keys.items c.take.new.self.listed
    c.in_ok-add_data_keys-in-Full.ensures.added (c.in_ok-page.ensures.some (ap Ok c.in-Full.is)) (c.in_ok-page.ensures.listed (ap Ok c.in-Full.is)) (c.in_ok-page.ensures.few (ap Ok c.in-Full.is))) c.ask_objects.ensures.falls

pub returns-in_ok-add_data_keys-in-Last-clause-leads : goal.returns-in_ok-add_data_keys-in-Last-clause-leads
returns-in_ok-add_data_keys-in-Last-clause-leads c =
    leads_as _ (goes_by_objects c.args.seq c.args.ulid c.args.self.now c.args.names.now) c.delete_objects.result c.delete_objects.new.self
    (λ entries end run. objects_last c.args.self.now c.args.ulid c.args.seq c.args.names.now c.add_data_keys-in-Last.new.keys.items entries end (sym c.in-Last.is ∙ c.in_ok-page.ensures.kind)
    c.in_ok-add_data_keys-in-Last.ensures.added run)
    c.delete_objects.ensures.leads

pub returns-in_ok-add_data_keys-in-Last-clause-falls : goal.returns-in_ok-add_data_keys-in-Last-clause-falls
returns-in_ok-add_data_keys-in-Last-clause-falls c =
    falls_more _ _ c.delete_objects.result _ (objects_last_falls c.args.self.now c.args.ulid c.args.seq c.args.names.now c.add_data_keys-in-Last.new.keys.items c.in_ok-add_data_keys-in-Last.ensures.added
    (c.in_ok-page.ensures.short (ap Ok c.in-Last.is))) c.delete_objects.ensures.falls
