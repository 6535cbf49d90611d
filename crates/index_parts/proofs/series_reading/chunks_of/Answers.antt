use Rattle.std.proofs.Common.{◌<◌, ◌≤◌, rules, [], ◌∷◌, ◌++◌, ◌∙◌, ap, arith}
use Rattle.std.proofs.lemmas.Bool.Decides.{nat_tests}
use Rattle.base.proofs.Counted.{loop_start, loop_step, members_more}
use Rattle.index_parts.specs.SeriesReading.{chunk_at}
use Rattle.index_parts.specs.ListReading.{turns_at}
use Rattle.index_parts.proofs.Loops.{turns_exit, turns_end}
use Rattle.index_parts.proofs.series_reading.chunks_of.Goals as goal

pub returns-then-count-eq0 : goal.returns-then-count-eq0
unfolding turns_at
returns-then-count-eq0 c =
    let none = c.clear.ensures.items in
    rw none (turns_end _ 0 _ _ _ _ (loop_start chunk_at _) (omega arith) (omega arith))

pub returns-in_err-last : goal.returns-in_err-last
unfolding turns_at
returns-in_err-last c =
    let some : 0 < c.args.count = grind (arith, nat_tests, c.if-count-eq0.false) in
    turns_exit _ _ _ _ 0 _ _ _ _ _ (loop_start chunk_at _) c.from_residual.ensures.1 c.in_err-last.ensures some

pub loop-init : goal.loop-init
loop-init c =
    let first = c.in_ok-last.last ∷ [] in
    let items = c.in_ok-push.ensures.items ∙ ap (λ l. l ++ first) c.clear.ensures.items in
    rw items (members_more chunk_at 0 _ _ _ _ _ (loop_start chunk_at _) c.in_ok-last.ensures)

pub returns-in_err-last-2 : goal.returns-in_err-last-2
unfolding turns_at
returns-in_err-last-2 c = turns_exit _ _ _ _ _ _ _ _ _ _ c.loop.invariant c.from_residual-in_err-last-2.ensures.1 c.in_err-last-2.ensures c.loop-test.true

pub loop-preserved : goal.loop-preserved
loop-preserved c = search (rules, loop_step)

pub returns : goal.returns
unfolding turns_at
returns c =
    let some : 1 ≤ c.args.count = grind (arith, nat_tests, c.if-count-eq0.false) in
    turns_end _ _ _ _ _ _ c.loop.invariant c.loop-test.false (c.loop.auto.counter-end some)
