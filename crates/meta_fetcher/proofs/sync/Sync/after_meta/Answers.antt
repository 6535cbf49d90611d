use Rattle.std.proofs.Common.{◌∙◌, sym, ap, option_map}
use Rattle.block_meta.specs.MetaFields.{fields_of}
use Rattle.sync_filters.specs.declared.found.Found.{Found}
use Rattle.block_meta.specs.OfBlocks.{block_meta}
use Rattle.meta_fetcher.proofs.Metas.{meta_failed, meta_refused, meta_seen, marked_sighting}
use Rattle.meta_fetcher.proofs.sync.Sync.after_meta.Goals as goal

pub returns-in_ok-push-in-Some-clause-leads : goal.returns-in_ok-push-in-Some-clause-leads
returns-in_ok-push-in-Some-clause-leads c = λ seat op.
    let block : Found = record { ulid = c.args.ulid; mark = c.replace-mark.result; mark_read = c.args.self.now.last; meta = c.in-Some.meta; meta_read = c.args.seen.moment } in
    meta_seen c.args.self.now c.args.ulid seat op c.args.seen c.in-Found.bytes block c.push.new.self.items _ _ c.in-Found.is
    (sym (c.in_ok-meta-in-Found.ensures ∙ ap (block_meta c.args.ulid) c.bytes-in-Found.ensures) ∙ ap (option_map fields_of) c.in-Some.is)
    (marked_sighting block c.args.self.now.mark c.replace-mark.ensures.value) c.in_ok-push-in-Some.ensures.items c.read_next.ensures.leads

pub returns-in-None-clause-leads : goal.returns-in-None-clause-leads
returns-in-None-clause-leads c = λ seat op.
    meta_refused c.args.self.now c.args.ulid seat op c.args.seen c.in-Found.bytes c.in-Found.is
    (sym (c.in_ok-meta-in-Found.ensures ∙ ap (block_meta c.args.ulid) c.bytes-in-Found.ensures) ∙ ap (option_map fields_of) c.in-None.is)

pub returns-in-Failed-clause-leads : goal.returns-in-Failed-clause-leads
returns-in-Failed-clause-leads c = λ seat op. meta_failed c.args.self.now c.args.ulid seat op c.args.seen _ c.in-Failed.is
