use Rattle.std.proofs.Common.{subst, sym, ◌∙◌, ap, length}
use Rattle.std.specs.List.{AllZip}
use Rattle.std.proofs.lemmas.Slice.Zip.{AllZip-long}
use Rattle.call_verdicts.specs.Stages.{IsLoadedFor}
use Rattle.call_verdicts.proofs.ShelfReads.{ok_is}
use Rattle.call_verdicts.proofs.Stages.{all_ended, all_untold}
use Rattle.call_verdicts.proofs.shelf_reading.read_group.Goals as goal

pub keep_group-requires-clause-many : goal.keep_group-requires-clause-many
keep_group-requires-clause-many g c =
    let told = (g.F.Shelf.told c.args.shelf).files in
    let loaded = ok_is c.load_group-loaded.result.0 c.in-Ok.stages (λ stages. AllZip (IsLoadedFor told) c.args.group.now stages.items) c.in-Ok.is c.load_group-loaded.ensures.loaded in
    c.check_all.auto.stages ∙ (ap length c.as_mut_slice-all.ensures.value ∙ AllZip-long (IsLoadedFor told) c.args.group.now c.in-Ok.stages.items loaded)

pub keep_group-requires-clause-ended : goal.keep_group-requires-clause-ended
keep_group-requires-clause-ended g c =
    let told = (g.F.Shelf.told c.args.shelf).files in
    let loaded = ok_is c.load_group-loaded.result.0 c.in-Ok.stages (λ stages. AllZip (IsLoadedFor told) c.args.group.now stages.items) c.in-Ok.is c.load_group-loaded.ensures.loaded in
    let now = subst (AllZip (IsLoadedFor told) c.args.group.now) (sym c.as_mut_slice-all.ensures.value) loaded in
    all_untold told c.args.group.now c.check_all.new.stages (all_ended told c.args.group.now c.as_mut_slice-all.result.now c.check_all.new.stages now c.check_all.auto.stages c.check_all.ensures)

pub returns-in-Ok-clause-read : goal.returns-in-Ok-clause-read
returns-in-Ok-clause-read g c = λ before are.
    let told = (g.F.Shelf.told c.args.shelf).files in
    let loaded = ok_is c.load_group-loaded.result.0 c.in-Ok.stages (λ stages. AllZip (IsLoadedFor told) c.args.group.now stages.items) c.in-Ok.is c.load_group-loaded.ensures.loaded in
    let now = subst (AllZip (IsLoadedFor told) c.args.group.now) (sym c.as_mut_slice-all.ensures.value) loaded in
    c.keep_group.ensures.read told before (all_ended told c.args.group.now c.as_mut_slice-all.result.now c.check_all.new.stages now c.check_all.auto.stages c.check_all.ensures) are
