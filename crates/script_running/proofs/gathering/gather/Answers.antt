use Rattle.std.proofs.Common.{◌<◌, List, length, map, subst}
use Rattle.std.specs.Prelude.{IfSome, Ok}
use Rattle.std.specs.List.{All}
use Rattle.script_workers.specs.declared.worker.Worker.{Worker}
use Rattle.script_running.specs.Gathering.{HaveCome, back_of}
use Rattle.script_running.specs.declared.worker.WorkerEnd.{WorkerEnd}
use Rattle.script_running.proofs.Gathers.{came_whole}
use Rattle.script_running.proofs.Turns.{all_back}
use Rattle.script_running.proofs.gathering.gather.Goals as goal

pub take_in-requires-clause-gateways : goal.take_in-requires-clause-gateways
take_in-requires-clause-gateways g c = all_back (λ (w : Worker). IfSome w.gateway (λ gateway. gateway < length c.args.progress.now.sights.items)) c.args.phase.now.workers.now c.args.ends.items c.in-Ok.backs.items c.in-Ok.ensures.same c.requires.gateways

pub take_in-requires-clause-places : goal.take_in-requires-clause-places
take_in-requires-clause-places g c = all_back (λ (w : Worker). All (λ place. place < length c.args.phase.now.tasks.now) w.tasks) c.args.phase.now.workers.now c.args.ends.items c.in-Ok.backs.items c.in-Ok.ensures.same c.requires.places

pub returns-in-Ok-tell-clause-gathers : goal.returns-in-Ok-tell-clause-gathers
returns-in-Ok-tell-clause-gathers g c = λ setting one joined.
    came_whole g.P.Report.tells setting c.args.phase.now c.args.ends.items c.args.progress.now one joined (record { sights = c.take_in.new.sights; report = c.tell.new.report }) (map back_of c.in-Ok.backs.items) c.in-Ok-take_in.lists.items
    (subst (λ (es : List WorkerEnd). HaveCome es (Ok tt)) c.deref.ensures.value c.in_ok-broken_off.ensures) c.in-Ok.ensures c.in-Ok-take_in.ensures.taken c.in-Ok-tell.ensures
