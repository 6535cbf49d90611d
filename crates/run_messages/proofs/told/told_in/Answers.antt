use Rattle.std.proofs.Common.{sym}
use Rattle.run_messages.proofs.ToldLines.{tells_on, told_whole}
use Rattle.run_messages.proofs.told.told_in.Goals as goal

pub loop-left-preserved : goal.loop-left-preserved
loop-left-preserved c =
    tells_on c.loop-left.tasks c.tasks_with-tasks.result c.loop-left.left.now c.cut_line.result.0.now c.cut_line.result.1.now _ c.loop-left.told c.add_told.new.told _
    c.cut_line.ensures.line c.cut_line.ensures.rest c.spoken-line.ensures c.tasks_with-tasks.ensures c.in_ok-add_told.ensures c.loop-left.invariant

pub returns : goal.returns
returns c = told_whole c.loop-left.tasks c.loop-left.left.now c.loop-left.told _ (sym c.loop-left-test.ensures) c.loop-left.invariant
