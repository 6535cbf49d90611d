use Rattle.std.proofs.Common.{ℕ, ◌+◌, List, ◌++◌, refl, sym, ap, arith}
use Rattle.script_fields.specs.Fields.{lines_of}
use Rattle.run_messages.specs.ScriptLines.{task_lines}
use Rattle.run_messages.proofs.TaskLines.{tasks_go_on, tasks_whole}
use Rattle.run_messages.proofs.script_lines.task_lines.Goals as goal

pub loop-left-init : goal.loop-left-init
loop-left-init c = (omega arith, ap (λ (tasks : List ℕ). tasks ++ task_lines 1 (lines_of c.args.script.now)) c.new-lines.ensures.items)

pub loop-left-preserved : goal.loop-left-preserved
loop-left-preserved c = (
  omega arith,
  tasks_go_on (c.loop-left.number + 1) c.loop-left.left.now c.cut_line.result.0.now c.cut_line.result.1.now _ c.loop-left.lines.items c.add_line.new.lines.items _
      c.cut_line.ensures.line c.cut_line.ensures.rest refl c.in_ok-add_line.ensures c.loop-left.invariant.1,
)

pub returns : goal.returns
returns c = tasks_whole (c.loop-left.number + 1) c.loop-left.left.now c.loop-left.lines.items _ (sym c.loop-left-test.ensures) c.loop-left.invariant.1
