use Rattle.std.proofs.Common.{◌∙◌, sym, ap}
use Rattle.world_core.specs.declared.reply.Reply.TheVariants as reply
use Rattle.cleaner.proofs.Blocks.{blocks_came, blocks_failed}
use Rattle.cleaner.proofs.clean.Clean.after_blocks.Goals as goal

pub returns-in-Names-clause-leads : goal.returns-in-Names-clause-leads
returns-in-Names-clause-leads c = λ seat op.
    blocks_came c.args.self.now seat op c.args.seen c.members.result.now c.take_blocks.result c.take_blocks.new.self (c.in-Names.is ∙ ap reply.Names (sym c.members.ensures)) c.take_blocks.ensures.leads

pub returns-in-Failed-clause-leads : goal.returns-in-Failed-clause-leads
returns-in-Failed-clause-leads c = λ seat op. blocks_failed c.args.self.now seat op c.args.seen _ c.in-Failed.is
