use Rattle.std.proofs.Common.{ℕ, ◌+◌, ◌++◌, ◌∷◌, [], map, drop, length, length-append, Option, sym, ap, ◌∙◌, subst, arith}
use Rattle.std.proofs.lemmas.Iterator.Adapters.{YieldsList-from_vec}
use Rattle.std.proofs.lemmas.Iterator.Consumers.{YieldsList-end, YieldsList-turn}
use Rattle.base.proofs.Lists.{drop_none}
use Rattle.world_turn.specs.Passes.{view_of}
use Rattle.world_turn.specs.declared.pass.Pass.{Pass}
use Rattle.phase_runner.specs.Phases.{AreEnded}
use Rattle.phase_runner.specs.Hands.{IsThere}
use Rattle.phase_runner.proofs.Seating.{left_more, left_none}
use Rattle.phase_runner.proofs.Taking.{HasTaken, opened, none_taken, one_taken, all_taken}
use Rattle.phase_runner.proofs.phase.join_all.Goals as goal

pub loop-work-init : goal.loop-work-init
loop-work-init g c =
    let room = c.requires.room in
    let works = c.args.works.items in (
      subst (λ ws. HasTaken g.J.Job.may (record { full = g.J.Job.met_full; wanted = g.J.Job.wanted }) c.args.shared.now.table.shared.table_id (view_of c.args.first.now.value) (c.args.first.now.value.splits + 1) c.args.jobs.now.value.items c.args.root c.args.root (map (λ w. (w.pass, w.end)) ws) c.args.ends.now.items) (sym (drop_none works))
          (subst (λ es. HasTaken g.J.Job.may (record { full = g.J.Job.met_full; wanted = g.J.Job.wanted }) c.args.shared.now.table.shared.table_id (view_of c.args.first.now.value) (c.args.first.now.value.splits + 1) c.args.jobs.now.value.items c.args.root c.args.root (map (λ w. (w.pass, w.end)) works) es) (sym room.0)
          (none_taken g.J.Job.may (record { full = g.J.Job.met_full; wanted = g.J.Job.wanted }) _ _ _ _ c.args.root _ c.requires.own.1 c.requires.ended)),
      (let b = c.args.ends.now.ok in omega (arith, ap length room.0)),
      room.1,
    )

pub parts-pass-requires : goal.parts-pass-requires
parts-pass-requires g c =
    let works = c.args.works.items in
    let road = YieldsList-from_vec works c.into_iter-work-iterator.ensures.into_iter_gives.0 (omega (arith, c.into_iter-work-iterator.ensures.into_iter_gives.1, c.args.works.ok)) in
    let w = c.in-Some.work in
    let turn = YieldsList-turn road c.loop-work.yielded c.loop-work.work-iterator c.loop-work.yielded_by c.next.result c.next.new.self w c.in-Some.is c.next.ensures.steps in
    let is = left_more works c.loop-work.yielded w turn.0 turn.1 in
    let later = drop (length (c.loop-work.yielded ++ w ∷ [])) works in
    let i = c.loop-work.invariant.0 in
    let left = subst (λ l. AreEnded g.J.Job.may (record { full = g.J.Job.met_full; wanted = g.J.Job.wanted }) c.args.shared.now.table.shared.table_id (view_of c.args.first.now.value) ((c.args.first.now.value.splits + 1) + length i.done) i.rest (map (λ w. (w.pass, w.end)) l)) is i.left in
    let o = opened g.J.Job.may (record { full = g.J.Job.met_full; wanted = g.J.Job.wanted }) c.args.shared.now.table.shared.table_id (view_of c.args.first.now.value) ((c.args.first.now.value.splits + 1) + length i.done) i.rest w.pass w.end (map (λ w. (w.pass, w.end)) later) left in
    (o.p, o.e, o.pass_is, o.end_is)

pub join_pass-root-requires-clause-own : goal.join_pass-root-requires-clause-own
join_pass-root-requires-clause-own g c =
    let i = c.loop-work.invariant.0 in (i.joined.table ∙ c.requires.own.0, i.joined.root)

pub join_pass-root-requires-clause-worker : goal.join_pass-root-requires-clause-worker
join_pass-root-requires-clause-worker g c =
    let works = c.args.works.items in
    let road = YieldsList-from_vec works c.into_iter-work-iterator.ensures.into_iter_gives.0 (omega (arith, c.into_iter-work-iterator.ensures.into_iter_gives.1, c.args.works.ok)) in
    let w = c.in-Some.work in
    let turn = YieldsList-turn road c.loop-work.yielded c.loop-work.work-iterator c.loop-work.yielded_by c.next.result c.next.new.self w c.in-Some.is c.next.ensures.steps in
    let is = left_more works c.loop-work.yielded w turn.0 turn.1 in
    let later = drop (length (c.loop-work.yielded ++ w ∷ [])) works in
    let i = c.loop-work.invariant.0 in
    let left = subst (λ l. AreEnded g.J.Job.may (record { full = g.J.Job.met_full; wanted = g.J.Job.wanted }) c.args.shared.now.table.shared.table_id (view_of c.args.first.now.value) ((c.args.first.now.value.splits + 1) + length i.done) i.rest (map (λ w. (w.pass, w.end)) l)) is i.left in
    let o = opened g.J.Job.may (record { full = g.J.Job.met_full; wanted = g.J.Job.wanted }) c.args.shared.now.table.shared.table_id (view_of c.args.first.now.value) ((c.args.first.now.value.splits + 1) + length i.done) i.rest w.pass w.end (map (λ w. (w.pass, w.end)) later) left in
    subst (IsThere c.args.shared.now.table.shared.table_id) (sym o.pass_is ∙ c.parts-pass.ensures.0) o.table_is

pub loop-work-preserved : goal.loop-work-preserved
loop-work-preserved g c =
    let works = c.args.works.items in
    let road = YieldsList-from_vec works c.into_iter-work-iterator.ensures.into_iter_gives.0 (omega (arith, c.into_iter-work-iterator.ensures.into_iter_gives.1, c.args.works.ok)) in
    let w = c.in-Some.work in
    let turn = YieldsList-turn road c.loop-work.yielded c.loop-work.work-iterator c.loop-work.yielded_by c.next.result c.next.new.self w c.in-Some.is c.next.ensures.steps in
    let is = left_more works c.loop-work.yielded w turn.0 turn.1 in
    let later = drop (length (c.loop-work.yielded ++ w ∷ [])) works in
    let p = c.push_reserved.ensures in
    let table = c.args.shared.now.table.shared.table_id in
    let v = view_of c.args.first.now.value in
    let seat : ℕ = c.args.first.now.value.splits + 1 in
    let rest = map (λ w. (w.pass, w.end)) later in
    let h = subst (λ l. HasTaken g.J.Job.may (record { full = g.J.Job.met_full; wanted = g.J.Job.wanted }) table v seat c.args.jobs.now.value.items c.args.root c.loop-work.root (map (λ w. (w.pass, w.end)) l) c.loop-work.ends.items) is c.loop-work.invariant.0 in
    let q = c.parts-pass.ensures in
    let h' = subst (λ (x : Option Pass × Option _). HasTaken g.J.Job.may (record { full = g.J.Job.met_full; wanted = g.J.Job.wanted }) table v seat c.args.jobs.now.value.items c.args.root c.loop-work.root (x ∷ rest) c.loop-work.ends.items) (λ k. (q.0 k, q.1 k)) h in
    let j = c.join_pass-root.ensures in
    let t = one_taken g.J.Job.may (record { full = g.J.Job.met_full; wanted = g.J.Job.wanted }) table v seat c.args.jobs.now.value.items c.args.root c.loop-work.root c.join_pass-root.result c.parts-pass.result.0 c.parts-pass.result.1 rest c.loop-work.ends.items h' j.pass.0 j.pass.1 j.pass.2 j.joined in (
      subst (λ es. HasTaken g.J.Job.may (record { full = g.J.Job.met_full; wanted = g.J.Job.wanted }) table v seat c.args.jobs.now.value.items c.args.root c.join_pass-root.result rest es) (sym p.items) t,
      omega (arith, c.loop-work.invariant.1, p.len, length-append c.loop-work.yielded (w ∷ [])),
      (let a = c.loop-work.invariant.2 in let e = p.capacity in omega arith),
    )

pub returns-clause-joined : goal.returns-clause-joined
returns-clause-joined g c =
    let works = c.args.works.items in
    let road = YieldsList-from_vec works c.into_iter-work-iterator.ensures.into_iter_gives.0 (omega (arith, c.into_iter-work-iterator.ensures.into_iter_gives.1, c.args.works.ok)) in
    let end = YieldsList-end road c.loop-work.yielded c.loop-work.work-iterator c.loop-work.yielded_by c.next.result c.next.new.self c.in-None.is c.next.ensures.steps in
    all_taken g.J.Job.may (record { full = g.J.Job.met_full; wanted = g.J.Job.wanted }) _ _ _ _ _ _ _ _ c.loop-work.invariant.0 (ap (map (λ w. (w.pass, w.end))) (left_none works c.loop-work.yielded end.1))

pub returns-clause-refused : goal.returns-clause-refused
returns-clause-refused g c = c.loop-work.invariant.0.refused

pub returns-clause-wanted : goal.returns-clause-wanted
returns-clause-wanted g c = c.loop-work.invariant.0.wanted
