use Rattle.std.proofs.Common.{◌≡◌, ◌+◌, map, drop, length, vec_len, sym, ap, ◌∙◌, subst, arith}
use Rattle.std.proofs.lemmas.List.{take-append-le, take_all}
use Rattle.world_turn.specs.Closing.{AllJoined}
use Rattle.world_turn.specs.Passes.{view_of}
use Rattle.phase_runner.specs.Phases.{AreSeated, AreEnded, Runs}
use Rattle.world_turn.specs.declared.pass.Pass.{Pass}
use Rattle.phase_runner.proofs.Ready.{ready, as_many}
use Rattle.phase_runner.proofs.Joined.{all_joined}
use Rattle.phase_runner.proofs.Ending.{all_ended}
use Rattle.phase_runner.proofs.phase.run_phase.Goals as goal

pub run_all-requires-after_bounds : goal.run_all-requires-after_bounds
run_all-requires-after_bounds g c κs within =
    let v = c.as_mut_slice.ensures.value in
    let s = c.split_all-root.ensures in
    λ k d l. ready c.args.shared.now.table.shared.table_id (view_of c.args.root) (c.args.root.splits + 1) c.args.jobs.items c.as_mut_slice.result.now
    (subst (λ ws. AreSeated c.args.shared.now.table.shared.table_id (view_of c.args.root) (c.args.root.splits + 1) c.args.jobs.items (map (λ w. (w.job, w.pass)) ws)) (sym v) s.works) k d l

pub join_all-root-requires-clause-ended : goal.join_all-root-requires-clause-ended
join_all-root-requires-clause-ended g c =
    let len = c.run_all.auto.works in
    let v = c.as_mut_slice.ensures.value in
    let s = c.split_all-root.ensures in
    let table = c.args.shared.now.table.shared.table_id in
    let before = c.as_mut_slice.result.now in
    let after = c.run_all.new.works in
    let items = c.split_all-root.new.works.items in
    let same : length items ≡ length after = ap length (sym v) ∙ sym len in
    let long : length after ≡ c.split_all-root.new.works.len = (let b = c.split_all-root.new.works.ok in omega (arith, same)) in
    let seated = subst (λ ws. AreSeated table (view_of c.args.root) (c.args.root.splits + 1) c.args.jobs.items (map (λ w. (w.job, w.pass)) ws)) (sym v) s.works in
    let ended = all_ended g.J.Job.may (record { full = g.J.Job.met_full; wanted = g.J.Job.wanted }) table (view_of c.args.root) (c.args.root.splits + 1) c.args.jobs.items before after (sym len) seated c.run_all.ensures in
    let whole = take-append-le c.split_all-root.new.works.len after (drop (length after) items) (omega (arith, long)) ∙ take_all c.split_all-root.new.works.len after (omega (arith, long)) in
    subst (λ l. AreEnded g.J.Job.may (record { full = g.J.Job.met_full; wanted = g.J.Job.wanted }) table (view_of c.of-first.result.value) (c.of-first.result.value.splits + 1) c.of-all.result.value.items (map (λ w. (w.pass, w.end)) l)) (sym whole)
    (subst (λ (p : Pass). AreEnded g.J.Job.may (record { full = g.J.Job.met_full; wanted = g.J.Job.wanted }) table (view_of p) (p.splits + 1) c.of-all.result.value.items (map (λ w. (w.pass, w.end)) after)) (sym c.of-first.ensures)
    (subst (λ js. AreEnded g.J.Job.may (record { full = g.J.Job.met_full; wanted = g.J.Job.wanted }) table (view_of c.args.root) (c.args.root.splits + 1) js (map (λ w. (w.pass, w.end)) after)) (ap (λ j. j.items) (sym c.of-all.ensures)) ended))

pub join_all-root-requires-clause-room : goal.join_all-root-requires-clause-room
join_all-root-requires-clause-room g c =
    let n = as_many c.args.shared.now.table.shared.table_id (view_of c.args.root) (c.args.root.splits + 1) c.args.jobs.items c.split_all-root.new.works.items c.split_all-root.ensures.works in
    (c.in-Ok-with_capacity.ensures.items, (let a = c.split_all-root.new.works.ok in let b = c.args.jobs.ok in let d = c.in-Ok-with_capacity.ensures.capacity in let e = c.len-count.ensures in omega arith))

pub returns-clause-all : goal.returns-clause-all
returns-clause-all g c =
    let j = c.join_all-root.ensures.joined in
    let kept = j.0 in
    let runs = subst (λ (p : Pass). Runs g.J.Job.may (view_of p).known (view_of c.join_all-root.result).front (p.splits + 1) c.of-all.result.value.items c.join_all-root.new.ends.items kept) c.of-first.ensures j.2 in
    let runs' = subst (λ js. Runs g.J.Job.may (view_of c.args.root).known (view_of c.join_all-root.result).front (c.args.root.splits + 1) js c.join_all-root.new.ends.items kept) (ap (λ v. v.items) c.of-all.ensures) runs in
    all_joined g.J.Job.may (view_of c.args.root).known (view_of c.join_all-root.result).front c.args.root c.split_all-root.result c.join_all-root.result (vec_len c.args.jobs) c.args.jobs.items c.join_all-root.new.ends.items kept c.requires.own.1 (let b = c.args.jobs.ok in omega arith) c.split_all-root.ensures.root j.1 runs'

-- for want of memory the root is as it was
pub returns-in_default-clause-all : goal.returns-in_default-clause-all
returns-in_default-clause-all g c all = subst (λ (p : Pass). AllJoined (view_of p)) (sym c.unbegun_phase.ensures.0) all

pub returns-in_default-with_capacity-clause-all : goal.returns-in_default-with_capacity-clause-all
returns-in_default-with_capacity-clause-all g c all = subst (λ (p : Pass). AllJoined (view_of p)) (sym c.unbegun_phase-in_default-with_capacity.ensures.0) all
