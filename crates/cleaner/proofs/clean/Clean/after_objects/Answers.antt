use Rattle.std.proofs.Common.{◌∙◌, sym, ap}
use Rattle.world_core.specs.declared.reply.Reply.TheVariants as reply
use Rattle.cleaner.proofs.Deletions.{objects_came, objects_failed}
use Rattle.cleaner.proofs.clean.Clean.after_objects.Goals as goal

pub returns-in-Names-clause-leads : goal.returns-in-Names-clause-leads
returns-in-Names-clause-leads c = λ seat op.
    objects_came c.args.self.now c.args.ulid seat op c.args.seen c.members.result.now c.take_objects.result c.take_objects.new.self (c.in-Names.is ∙ ap reply.Names (sym c.members.ensures)) c.take_objects.ensures.leads

pub returns-in-Failed-clause-leads : goal.returns-in-Failed-clause-leads
returns-in-Failed-clause-leads c = λ seat op. objects_failed c.args.self.now c.args.ulid seat op c.args.seen _ c.in-Failed.is
