use Rattle.std.proofs.Common.{◌∙◌, sym, ap, option_map}
use Rattle.block_meta.specs.MetaFields.{mark_fields_of}
use Rattle.block_meta.specs.OfBlocks.{block_mark}
use Rattle.meta_fetcher.proofs.Metas.{mark_absent, mark_failed, mark_refused, mark_seen}
use Rattle.meta_fetcher.proofs.sync.Sync.after_mark.Goals as goal

pub returns-in-Some-clause-leads : goal.returns-in-Some-clause-leads
returns-in-Some-clause-leads c = λ seat op.
    mark_seen c.args.self.now c.args.ulid seat op c.args.seen c.in-Found.bytes (mark_fields_of c.in-Some.mark) _ _ c.in-Found.is
    (sym (c.in_ok-mark-in-Found.ensures ∙ ap (block_mark c.args.ulid) c.bytes-in-Found.ensures) ∙ ap (option_map mark_fields_of) c.in-Some.is) c.ask_meta.ensures.leads

pub returns-in-Found-clause-leads : goal.returns-in-Found-clause-leads
returns-in-Found-clause-leads c = λ seat op.
    mark_refused c.args.self.now c.args.ulid seat op c.args.seen c.in-Found.bytes c.in-Found.is
    (sym (c.in_ok-mark-in-Found.ensures ∙ ap (block_mark c.args.ulid) c.bytes-in-Found.ensures) ∙ ap (option_map mark_fields_of) c.in-None.is)

pub returns-in-Failed-clause-leads : goal.returns-in-Failed-clause-leads
returns-in-Failed-clause-leads c = λ seat op. mark_failed c.args.self.now c.args.ulid seat op c.args.seen _ c.in-Failed.is

pub returns-in-Absent-clause-leads : goal.returns-in-Absent-clause-leads
returns-in-Absent-clause-leads c = λ seat op.
    mark_absent c.args.self.now c.args.ulid seat op c.args.seen _ _ c.in-Absent.is c.ask_meta-in-Absent.ensures.leads
