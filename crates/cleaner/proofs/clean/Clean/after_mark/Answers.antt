use Rattle.std.proofs.Common.{◌∙◌, sym, ap, option_map}
use Rattle.block_meta.specs.MetaFields.{mark_fields_of}
use Rattle.block_meta.specs.OfBlocks.{block_mark}
use Rattle.cleaner.proofs.Blocks.{mark_absent, mark_old}
use Rattle.cleaner.proofs.clean.Clean.after_mark.Goals as goal

pub returns-then-is_old_mark-clause-leads : goal.returns-then-is_old_mark-clause-leads
returns-then-is_old_mark-clause-leads c = λ seat op.
    mark_old c.args.self.now c.args.ulid seat op c.args.seen c.in-Found.bytes (mark_fields_of c.in-Some.mark) c.saturating_add-self.result c.delete_block.result c.delete_block.new.self c.in-Found.is
    (sym (c.in_ok-mark-in-Found.ensures ∙ ap (block_mark c.args.ulid) c.bytes-in-Found.ensures) ∙ ap (option_map mark_fields_of) c.in-Some.is)
    (sym c.is_old_mark.ensures ∙ c.if-is_old_mark.true) c.saturating_add-self.ensures c.delete_block.ensures.leads

pub returns-in-Absent-clause-leads : goal.returns-in-Absent-clause-leads
returns-in-Absent-clause-leads c = λ seat op.
    mark_absent c.args.self.now c.args.ulid seat op c.args.seen c.ask_meta.result c.ask_meta.new.self c.in-Absent.is c.ask_meta.ensures.leads
