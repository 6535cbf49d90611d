use Rattle.cleaner.proofs.Deletions.{deleted, delete_failed, delete_falls, waits_for}
use Rattle.world_core.proofs.LeadSteps.{falls_more}
use Rattle.cleaner.proofs.clean.Clean.after_delete.Goals as goal

pub returns-in-Deleted-clause-leads : goal.returns-in-Deleted-clause-leads
returns-in-Deleted-clause-leads c = λ seat op.
    let waits = waits_for c.args.self.now c.args.seen c.requires.stage c.requires.answer in
    deleted c.args.self.now seat op c.args.seen c.pop_front-object.new.self.items c.delete_next.result c.delete_next.new.self waits.0 waits.1 c.in-Deleted.is c.pop_front-object.ensures.rest c.delete_next.ensures.leads

pub returns-in-Deleted-clause-falls : goal.returns-in-Deleted-clause-falls
returns-in-Deleted-clause-falls c =
    let waits = waits_for c.args.self.now c.args.seen c.requires.stage c.requires.answer in
    falls_more _ _ c.delete_next.result _ (delete_falls c.args.self.now c.pop_front-object.new.self.items waits.0 waits.1 c.pop_front-object.ensures.rest) c.delete_next.ensures.falls

pub returns-in-Failed-clause-leads : goal.returns-in-Failed-clause-leads
returns-in-Failed-clause-leads c = λ seat op.
    let waits = waits_for c.args.self.now c.args.seen c.requires.stage c.requires.answer in
    delete_failed c.args.self.now seat op c.args.seen _ waits.0 waits.1 c.in-Failed.is
