use Rattle.std.proofs.Common.{◌∙◌, sym, ap, Ok}
use Rattle.cleaner.specs.CleanStates.{goes_by_blocks}
use Rattle.cleaner.proofs.Blocks.{blocks_unordered, blocks_too_many, blocks_last, blocks_full, blocks_last_falls, blocks_full_falls}
use Rattle.world_core.proofs.LeadSteps.{falls_more}
use Rattle.cleaner.proofs.Steps.{leads_as}
use Rattle.cleaner.proofs.clean.Clean.take_blocks.Goals as goal

pub returns-in-Unordered-clause-leads : goal.returns-in-Unordered-clause-leads
returns-in-Unordered-clause-leads c = blocks_unordered c.args.self.now c.args.seq c.args.names.now (sym c.in-Unordered.is ∙ c.in_ok-page.ensures.kind)

pub returns-in-TooMany-clause-leads : goal.returns-in-TooMany-clause-leads
returns-in-TooMany-clause-leads c = blocks_too_many c.args.self.now c.args.seq c.args.names.now (sym c.in-TooMany.is ∙ c.in_ok-page.ensures.kind)

pub returns-in_ok-add_ulids-in-Full-clause-leads : goal.returns-in_ok-add_ulids-in-Full-clause-leads
returns-in_ok-add_ulids-in-Full-clause-leads c =
    leads_as _ (goes_by_blocks c.args.seq c.args.self.now c.args.names.now) c.ask_blocks.result c.ask_blocks.new.self
    (λ entries end run. blocks_full c.args.self.now c.args.seq c.args.names.now c.take.new.self c.add_ulids.new.ulids.items entries end (sym c.in-Full.is ∙ c.in_ok-page.ensures.kind)
    c.in_ok-add_ulids-in-Full.ensures (c.in_ok-page.ensures.listed (ap Ok c.in-Full.is)) (c.in_ok-page.ensures.few (ap Ok c.in-Full.is)) (c.in_ok-page.ensures.some (ap Ok c.in-Full.is)) (c.in_ok-page.ensures.last (ap Ok c.in-Full.is)) run)
    c.ask_blocks.ensures.leads

pub returns-in_ok-add_ulids-in-Full-clause-falls : goal.returns-in_ok-add_ulids-in-Full-clause-falls
returns-in_ok-add_ulids-in-Full-clause-falls c =
    falls_more _ _ c.ask_blocks.result _ (blocks_full_falls c.args.self.now c.args.seq c.args.names.now c.add_ulids.new.ulids.items c.take.new.self.listed
    c.in_ok-add_ulids-in-Full.ensures (c.in_ok-page.ensures.some (ap Ok c.in-Full.is)) (c.in_ok-page.ensures.listed (ap Ok c.in-Full.is)) (c.in_ok-page.ensures.few (ap Ok c.in-Full.is))) c.ask_blocks.ensures.falls

pub returns-in_ok-add_ulids-in-Last-clause-leads : goal.returns-in_ok-add_ulids-in-Last-clause-leads
returns-in_ok-add_ulids-in-Last-clause-leads c =
    leads_as _ (goes_by_blocks c.args.seq c.args.self.now c.args.names.now) c.look_next.result c.look_next.new.self
    (λ entries end run. blocks_last c.args.self.now c.args.seq c.args.names.now c.add_ulids-in-Last.new.ulids.items entries end (sym c.in-Last.is ∙ c.in_ok-page.ensures.kind)
    (c.in_ok-page.ensures.short (ap Ok c.in-Last.is)) c.in_ok-add_ulids-in-Last.ensures run)
    c.look_next.ensures.leads

pub returns-in_ok-add_ulids-in-Last-clause-falls : goal.returns-in_ok-add_ulids-in-Last-clause-falls
returns-in_ok-add_ulids-in-Last-clause-falls c =
    falls_more _ _ c.look_next.result _ (blocks_last_falls c.args.self.now c.args.seq c.args.names.now c.add_ulids-in-Last.new.ulids.items c.in_ok-add_ulids-in-Last.ensures
    (c.in_ok-page.ensures.short (ap Ok c.in-Last.is))) c.look_next.ensures.falls
