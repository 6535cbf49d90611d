use Rattle.std.proofs.Common.{◌+◌, ◌∷◌, [], List, Some, length, ap, sym, ◌∙◌, refl, subst, arith, length-append}
use Rattle.std.proofs.lemmas.List.{take_all}
use Rattle.script_workers.specs.declared.worker.Worker.{Worker}
use Rattle.script_running.proofs.Sending.{AreSent, one_sent, seen_beside}
use Rattle.script_running.proofs.Taking.{found}
use Rattle.script_running.proofs.gathering.jobs_of.Goals as goal

pub loop-worker-preserved : goal.loop-worker-preserved
loop-worker-preserved c =
    let i = c.loop-worker.invariant in
    let w = c.worker-item.result in
    let at = found c.args.workers.now c.loop-worker.worker-index c.loop-worker.worker-index w refl c.loop-worker-test.true c.worker-item.is in
    record {
      each = c.take_sight-sight.ensures.each ∙ i.each;
      count = ap length c.push_reserved.ensures.items ∙ length-append c.loop-worker.jobs.items (c.new.result ∷ []) ∙ ap (λ n. n + 1) i.count;
      room = (let a = i.room in let b = c.push_reserved.ensures.capacity in omega arith);
      sent = one_sent c.args.means.now c.args.place c.loop-worker.worker-index c.args.workers.now w c.args.sights.now.items c.loop-worker.sights.items c.take_sight-sight.new.sights.items c.loop-worker.jobs.items c.push_reserved.new.self.items c.new.result c.requires.apart at i.sent
          c.new.ensures.0 c.new.ensures.1 (c.new.ensures.2 ∙ c.in_ok-own.ensures) (let t = c.take_sight-sight.ensures in record { each = t.each; named = λ place is. t.named place is ∙ ap (λ v. Some v) (sym c.new.ensures.3); none = λ is. c.new.ensures.3 ∙ t.none is; left = t.left }) c.push_reserved.ensures.items;
    }

pub returns-clause-left : goal.returns-clause-left
returns-clause-left c = λ held seen.
    let i = c.loop-worker.invariant in
    seen_beside c.args.means.now c.args.place c.args.workers.now c.args.sights.now.items c.loop-worker.sights.items c.loop-worker.jobs.items
    (subst (λ (ws : List Worker). AreSent c.args.means.now c.args.place ws c.args.sights.now.items c.loop-worker.sights.items c.loop-worker.jobs.items) (take_all c.loop-worker.worker-index c.args.workers.now (omega (arith, c.loop-worker-test.false))) i.sent) held seen
