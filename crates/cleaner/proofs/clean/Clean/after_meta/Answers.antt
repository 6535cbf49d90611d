use Rattle.std.proofs.Common.{◌∙◌, sym}
use Rattle.cleaner.proofs.Blocks.{partial_old}
use Rattle.cleaner.proofs.clean.Clean.after_meta.Goals as goal

pub returns-then-is_old_block-clause-leads : goal.returns-then-is_old_block-clause-leads
returns-then-is_old_block-clause-leads c = λ seat op.
    partial_old c.args.self.now c.args.ulid seat op c.args.seen c.saturating_add-self.result c.delete_block.result c.delete_block.new.self c.in-Absent.is
    (sym c.is_old_block.ensures ∙ c.if-is_old_block.true) c.saturating_add-self.ensures c.delete_block.ensures.leads
