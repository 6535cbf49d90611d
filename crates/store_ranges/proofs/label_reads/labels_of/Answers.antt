use Rattle.std.proofs.Common.{[], rules, refl}
use Rattle.label_sets.specs.declared.label.Label.{Label}
use Rattle.store_ranges.proofs.LabelsAdded.{named_begin, named_end, named_refused, named_step, has_room}
use Rattle.store_ranges.proofs.label_reads.labels_of.Goals as goal

pub loop-place-init : goal.loop-place-init
loop-place-init c = (named_begin c.args.symbols.now c.args.names.now c.args.values.now [] c.empty-set.result refl c.empty-set.ensures, search rules)

pub returns-in-None : goal.returns-in-None
returns-in-None c = named_refused c.args.symbols.now c.args.names.now c.args.values.now c.loop-place.before.now c.loop-place.place c.loop-place.set c.loop-place.invariant.0 _ _ c.loop-place-test.true c.requires refl refl c.in-None.ensures

pub add_label-requires : goal.add_label-requires
add_label-requires c =
    let label : Label = record { name = c.in-Some.name.now; value = c.in-Some.value.now } in
    has_room c.args.symbols.now c.args.names.now c.args.values.now c.loop-place.before.now c.loop-place.place c.loop-place.set c.loop-place.invariant.0 _ _ c.loop-place-test.true c.requires refl refl label c.in-Some.ensures

pub loop-place-preserved : goal.loop-place-preserved
loop-place-preserved c =
    let label : Label = record { name = c.in-Some.name.now; value = c.in-Some.value.now } in (
      named_step c.args.symbols.now c.args.names.now c.args.values.now c.loop-place.before.now c.loop-place.place c.loop-place.set c.loop-place.invariant.0 _ _ c.loop-place-test.true c.requires refl refl label c.in-Some.ensures c.add_label.new.set _ c.in_ok-add_label-in-Some.ensures refl,
      search rules,
    )

pub returns : goal.returns
returns c = named_end c.args.symbols.now c.args.names.now c.args.values.now c.loop-place.before.now c.loop-place.place c.loop-place.set c.loop-place.invariant.0 c.loop-place-test.false
