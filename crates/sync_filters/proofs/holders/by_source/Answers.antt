use Rattle.std.proofs.Common.{Some, sym, ap, ◌∙◌}
use Rattle.std.proofs.lemmas.Option.{slice_get-get_or}
use Rattle.sync_filters.specs.Holders.{each_source}
use Rattle.sync_filters.proofs.HolderLaws.{holders_more, holders_sorted}
use Rattle.sync_filters.proofs.holders.by_source.Goals as goal

pub loop-place-preserved : goal.loop-place-preserved
loop-place-preserved c = holders_more each_source c.args.listed.now c.loop-place.place c.index-listed-place.result c.loop-place.made.items c.add_sources.new.made.items
    (slice_get-get_or c.args.listed.now c.loop-place.place c.index-listed-place.result c.loop-place-test.true ∙ ap Some (sym c.index-listed-place.is))
    c.in_ok-add_sources.ensures c.loop-place.invariant

pub returns-clause-complete : goal.returns-clause-complete
returns-clause-complete c = holders_sorted each_source c.args.listed.now c.loop-place.place c.loop-place.made.items c.sort.new.made.items
    c.loop-place-test.false c.loop-place.invariant c.in_ok-sort.ensures.same
