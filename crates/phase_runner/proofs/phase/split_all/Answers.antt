use Rattle.std.proofs.Common.{ℕ, ◌++◌, ◌∷◌, [], map, drop, length, length-append, sym, ap, ◌∙◌, subst, arith}
use Rattle.std.proofs.lemmas.Iterator.Adapters.{YieldsList-from_vec}
use Rattle.std.proofs.lemmas.Iterator.Consumers.{YieldsList-end, YieldsList-turn}
use mathlib.Core.List.{map-append}
use Rattle.base.proofs.Lists.{drop_none}
use Rattle.phase_runner.proofs.Seating.{HasSeated, all_seated, left_more, left_none, none_seated, one_seated}
use Rattle.phase_runner.specs.Phases.{HasSplit}
use Rattle.phase_runner.proofs.phase.split_all.Goals as goal

pub loop-job-init : goal.loop-job-init
loop-job-init g c =
    let room = c.requires.room in
    let table = c.args.shared.now.table.shared.table_id in
    let jobs = c.args.jobs.items in (
      subst (λ js. HasSeated table c.args.root c.args.root jobs js (map (λ w. (w.job, w.pass)) c.args.works.now.items)) (sym (drop_none jobs))
          (subst (λ ws. HasSeated table c.args.root c.args.root jobs jobs (map (λ w. (w.job, w.pass)) ws)) (sym room.0) (none_seated table c.args.root jobs c.requires.own.1)),
      (let a = c.args.works.now.ok in omega (arith, ap length room.0)),
      room.1,
    )

pub loop-job-preserved : goal.loop-job-preserved
loop-job-preserved g c =
    let i = c.loop-job.invariant in
    let s = c.split_pass-rest.ensures in
    let p = c.push_reserved.ensures in
    let job = c.in-Some.job in
    let jobs = c.args.jobs.items in
    let road = YieldsList-from_vec jobs c.into_iter-job-iterator.ensures.into_iter_gives.0 (omega (arith, c.into_iter-job-iterator.ensures.into_iter_gives.1, c.args.jobs.ok)) in
    let turn = YieldsList-turn road c.loop-job.yielded c.loop-job.job-iterator c.loop-job.yielded_by c.next.result c.next.new.self job c.in-Some.is c.next.ensures.steps in
    let is = left_more jobs c.loop-job.yielded job turn.0 turn.1 in
    let h = one_seated c.args.shared.now.table.shared.table_id c.args.root c.loop-job.root c.split_pass-rest.result.0 c.split_pass-rest.result.1 jobs (drop (length c.loop-job.yielded) jobs) (drop (length (c.loop-job.yielded ++ job ∷ [])) jobs) job
    (map (λ w. (w.job, w.pass)) c.loop-job.works.items) i.0 is (i.0.split.table ∙ c.requires.own.0) s.root.0 s.root.1 s.root.2 s.root.3 s.new.0 s.new.1 s.new.2 in
    let ws = ap (map (λ w. (w.job, w.pass))) p.items ∙ map-append (λ w. (w.job, w.pass)) c.loop-job.works.items _ in (
      subst (λ l. HasSeated c.args.shared.now.table.shared.table_id c.args.root c.split_pass-rest.result.0 jobs (drop (length (c.loop-job.yielded ++ job ∷ [])) jobs) l) (sym ws) h,
      omega (arith, i.1, p.len, length-append c.loop-job.yielded (job ∷ [])),
      (let a = i.2 in let e = p.capacity in omega arith),
    )

pub returns-clause-root : goal.returns-clause-root
returns-clause-root g c =
    let jobs = c.args.jobs.items in
    let road = YieldsList-from_vec jobs c.into_iter-job-iterator.ensures.into_iter_gives.0 (omega (arith, c.into_iter-job-iterator.ensures.into_iter_gives.1, c.args.jobs.ok)) in
    let end = YieldsList-end road c.loop-job.yielded c.loop-job.job-iterator c.loop-job.yielded_by c.next.result c.next.new.self c.in-None.is c.next.ensures.steps in
    let none = left_none jobs c.loop-job.yielded end.1 in
    let all = all_seated c.args.shared.now.table.shared.table_id c.args.root c.loop-job.root jobs (map (λ w. (w.job, w.pass)) c.loop-job.works.items)
    (subst (λ js. HasSeated c.args.shared.now.table.shared.table_id c.args.root c.loop-job.root jobs js (map (λ w. (w.job, w.pass)) c.loop-job.works.items)) none c.loop-job.invariant.0) in
    subst (λ (n : ℕ). HasSplit c.args.root c.loop-job.root n) (let a = c.args.jobs.ok in omega arith) all.0

pub returns-clause-works : goal.returns-clause-works
returns-clause-works g c =
    let jobs = c.args.jobs.items in
    let road = YieldsList-from_vec jobs c.into_iter-job-iterator.ensures.into_iter_gives.0 (omega (arith, c.into_iter-job-iterator.ensures.into_iter_gives.1, c.args.jobs.ok)) in
    let end = YieldsList-end road c.loop-job.yielded c.loop-job.job-iterator c.loop-job.yielded_by c.next.result c.next.new.self c.in-None.is c.next.ensures.steps in
    let none = left_none jobs c.loop-job.yielded end.1 in
    let all = all_seated c.args.shared.now.table.shared.table_id c.args.root c.loop-job.root jobs (map (λ w. (w.job, w.pass)) c.loop-job.works.items)
    (subst (λ js. HasSeated c.args.shared.now.table.shared.table_id c.args.root c.loop-job.root jobs js (map (λ w. (w.job, w.pass)) c.loop-job.works.items)) none c.loop-job.invariant.0) in
    all.1
