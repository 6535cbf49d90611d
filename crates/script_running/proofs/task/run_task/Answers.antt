use Rattle.std.proofs.Common.{true, false, List, length, sym, subst}
use Rattle.std.specs.Prelude.{Err, FitsSigned, IfSome, Ok, Option}
use Rattle.std.specs.Int.{w64}
use Rattle.std.proofs.lemmas.Int.{to_z-of_z}
use Rattle.querier.specs.declared.asking.Ask.{Ask}
use Rattle.script_core.specs.Lawful.{IsLawfulWork}
use Rattle.script_workers.specs.declared.work.Work.{Work}
use Rattle.lifecycle_core.specs.Tasks.{TaskRun}
use Rattle.script_running.specs.Outcomes.{IsPart}
use Rattle.script_running.specs.Lending.{setting_in}
use Rattle.script_running.specs.Shelves.{Knows}
use Rattle.script_running.specs.Tasks.{HasDone}
use Rattle.script_running.specs.declared.came.Broken.TheVariants as broken
use Rattle.script_running.specs.declared.came.Came.TheVariants as part
use Rattle.script_running.specs.declared.outcome.QueryPart.TheVariants as given
use Rattle.script_running.specs.declared.shelf.ShelfBlock.{ShelfBlock}
use Rattle.world_core.proofs.Turning.{none_turned}
use Rattle.script_running.proofs.TaskSteps.{asked_done, asked_where, clean_done, compact_done, fits_range, from_range, short_done, sync_done, unasked_done, upload_done, upto_range}
use Rattle.script_running.proofs.task.run_task.Goals as goal
use Rattle.base.proofs.Lists.{slice_get-below}

pub upload-requires-clause-known : goal.upload-requires-clause-known
upload-requires-clause-known g c =
    (setting_in c.args.means.now, subst (λ (s : List ShelfBlock). Knows (setting_in c.args.means.now) s c.block.result.now) (sym c.shelf.ensures) c.block.ensures.known)

pub returns-in-Upload-clause-done : goal.returns-in-Upload-clause-done
returns-in-Upload-clause-done g c = λ who place held by sees.
    let setting = setting_in c.args.means.now in
    upload_done setting who place held (g.H.Hand.told c.args.hand.now).seat (g.H.Hand.told c.args.hand.now).entries (g.H.Hand.told c.upload.new.hand).entries c.upload.result c.args.work.now c.args.sight.now
    c.in-Upload.ulid c.in-Upload.stop c.block.result.now c.in-Upload.is c.block.ensures.found
    (c.upload.ensures.ran setting c.in-Upload.ulid (subst (λ (s : List ShelfBlock). Knows setting s c.block.result.now) (sym c.shelf.ensures) c.block.ensures.known)) sees

pub returns-in-Sync-clause-done : goal.returns-in-Sync-clause-done
returns-in-Sync-clause-done g c = λ who place held by sees.
    sync_done (setting_in c.args.means.now) who place held (g.H.Hand.told c.args.hand.now).seat (g.H.Hand.told c.args.hand.now).entries (g.H.Hand.told c.sync.new.hand).entries c.sync.result c.args.work.now c.args.sight.now c.sync.new.view
    c.in-Sync.place c.in-Sync.is c.sync.ensures.ran sees

pub compact-requires : goal.compact-requires
compact-requires g c = c.rules.ensures.lawful.page_limit_low

pub returns-in-Compact-clause-done : goal.returns-in-Compact-clause-done
returns-in-Compact-clause-done g c = λ who place held by sees.
    compact_done (setting_in c.args.means.now) who place held (g.H.Hand.told c.args.hand.now).seat (g.H.Hand.told c.args.hand.now).entries (g.H.Hand.told c.compact.new.hand).entries c.compact.result c.args.work.now c.args.sight.now
    c.in-Compact.stop c.rules.result.now c.in-Compact.is c.rules.ensures.are c.compact.ensures.ran sees

pub clean-requires : goal.clean-requires
clean-requires g c = c.rules-in-Clean.ensures.lawful.page_limit_low

pub returns-in-Clean-clause-done : goal.returns-in-Clean-clause-done
returns-in-Clean-clause-done g c = λ who place held by sees.
    clean_done (setting_in c.args.means.now) who place held (g.H.Hand.told c.args.hand.now).seat (g.H.Hand.told c.args.hand.now).entries (g.H.Hand.told c.clean.new.hand).entries c.clean.result c.args.work.now c.args.sight.now
    c.in-Clean.stop c.rules-in-Clean.result.now c.in-Clean.is c.rules-in-Clean.ensures.are c.clean.ensures.ran sees

pub returns-in-Some-clause-done : goal.returns-in-Some-clause-done
returns-in-Some-clause-done g c = λ who place held by sees.
    let setting = setting_in c.args.means.now in
    let script = setting.script in
    let low = c.in-Query.low in
    let high = c.in-Query.high in
    let lawful = subst (λ (w : Work). IsLawfulWork script.gateways script.blocks (length script.selectors) w) c.in-Query.is c.requires in
    let from = to_z-of_z w64 low (fits_range low lawful.0 (upto_range low high lawful.1 lawful.2)) in
    let upto = to_z-of_z w64 high (fits_range high (from_range low high lawful.0 lawful.1) lawful.2) in
    let s = slice_get-below script.selectors c.in-Query.selector lawful.3 in
    let asked = asked_where setting c.args.gateway _ low _ high c.in-Ok.asked _ from upto c.in-Ok.ensures.asked c.in-Some.is in
    let done =
    asked_done setting who place held (g.H.Hand.told c.args.hand.now).seat (g.H.Hand.told c.args.hand.now).entries (g.H.Hand.told c.ask_view.new.hand).entries c.ask_view.result c.ask_view.new.sight low high c.in-Query.selector c.args.gateway c.in-Some.ask s.0
    by asked s.1 (c.ask_view.ensures.asked held s.0 sees s.1) in
    subst (λ (w : Work). HasDone (TaskRun setting who place w held) (IsPart w) (g.H.Hand.told c.args.hand.now).seat (g.H.Hand.told c.args.hand.now).entries (g.H.Hand.told c.ask_view.new.hand).entries c.ask_view.new.sight c.ask_view.result) (sym c.in-Query.is) done

pub ask_view-requires-clause-fits : goal.ask_view-requires-clause-fits
ask_view-requires-clause-fits g c = subst (λ (o : Option Ask). IfSome o (λ (a : Ask). FitsSigned w64 a.low × FitsSigned w64 a.high)) c.in-Some.is c.in-Ok.ensures.fits

pub returns-in-None-clause-done : goal.returns-in-None-clause-done
returns-in-None-clause-done g c = λ who place held by sees.
    let setting = setting_in c.args.means.now in
    let script = setting.script in
    let low = c.in-Query.low in
    let high = c.in-Query.high in
    let lawful = subst (λ (w : Work). IsLawfulWork script.gateways script.blocks (length script.selectors) w) c.in-Query.is c.requires in
    let from = to_z-of_z w64 low (fits_range low lawful.0 (upto_range low high lawful.1 lawful.2)) in
    let upto = to_z-of_z w64 high (fits_range high (from_range low high lawful.0 lawful.1) lawful.2) in
    let done =
    unasked_done setting who place held (g.H.Hand.told c.args.hand.now).seat (g.H.Hand.told c.args.hand.now).entries c.args.sight.now low high c.in-Query.selector c.args.gateway by
    (asked_where setting c.args.gateway _ low _ high c.in-Ok.asked _ from upto c.in-Ok.ensures.asked c.in-None.is) sees in
    subst (λ (w : Work). HasDone (TaskRun setting who place w held) (IsPart w) (g.H.Hand.told c.args.hand.now).seat (g.H.Hand.told c.args.hand.now).entries (g.H.Hand.told c.args.hand.now).entries c.args.sight.now (Ok (part.Query given.NotAsked))) (sym c.in-Query.is) done

pub returns-in_default-clause-done : goal.returns-in_default-clause-done
returns-in_default-clause-done g c = λ who place held by sees.
    let setting = setting_in c.args.means.now in
    let script = setting.script in
    let lawful = subst (λ (w : Work). IsLawfulWork script.gateways script.blocks (length script.selectors) w) c.in-Query.is c.requires in
    let s = slice_get-below script.selectors c.in-Query.selector lawful.3 in
    subst (λ (w : Work). HasDone (TaskRun setting who place w held) (IsPart w) (g.H.Hand.told c.args.hand.now).seat (g.H.Hand.told c.args.hand.now).entries (g.H.Hand.told c.args.hand.now).entries c.args.sight.now (Err broken.NoMemory)) (sym c.in-Query.is)
    (short_done setting who place held (g.H.Hand.told c.args.hand.now).seat (g.H.Hand.told c.args.hand.now).entries c.args.sight.now c.in-Query.low c.in-Query.high c.in-Query.selector s.0 s.1)

pub returns-in-None-clause-hand : goal.returns-in-None-clause-hand
returns-in-None-clause-hand g c = none_turned g.H.Hand.told g.H.Hand.keeps g.met.H.Hand.keeps_none _ false

pub returns-in_default-clause-hand : goal.returns-in_default-clause-hand
returns-in_default-clause-hand g c = none_turned g.H.Hand.told g.H.Hand.keeps g.met.H.Hand.keeps_none _ true
