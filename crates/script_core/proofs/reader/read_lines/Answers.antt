use Rattle.std.proofs.Common.{◌+◌, sym, refl, arith}
use Rattle.std.proofs.lemmas.Result.{err_from_is_err_and}
use Rattle.script_core.specs.View.{state_of}
use Rattle.script_core.proofs.LineLists.{lines_go_on, lines_end}
use Rattle.script_core.proofs.LinesSoFar.{none_read, one_read, refused_there}
use Rattle.script_core.proofs.reader.read_lines.Goals as goal

pub loop-left-init : goal.loop-left-init
loop-left-init c = (omega arith, refl, none_read c.args.text.now (state_of c.args.draft.now))

pub loop-left-preserved : goal.loop-left-preserved
loop-left-preserved c = (
  omega arith,
  lines_go_on (state_of c.loop-left.draft) (state_of c.read_line.new.draft) (c.loop-left.number + 1) c.loop-left.left.now c.cut_line.result.0.now c.cut_line.result.1.now _ c.cut_line.ensures.line c.cut_line.ensures.rest c.in_ok-read_line.ensures c.loop-left.invariant.1,
  one_read (state_of c.args.draft.now) c.args.text.now c.loop-left.left.now c.cut_line.result.0.now c.cut_line.result.1.now c.loop-left.number (state_of c.loop-left.draft) c.loop-left.invariant.2 (omega arith) c.cut_line.ensures.line (state_of c.read_line.new.draft) c.cut_line.ensures.rest c.in_ok-read_line.ensures,
)

pub returns-in_err-read_line : goal.returns-in_err-read_line
returns-in_err-read_line c =
    let p = err_from_is_err_and c.from_residual.result c.from_residual.ensures.1 in
    rw (p.1, p.2) (refused_there (state_of c.args.draft.now) c.args.text.now c.loop-left.left.now c.cut_line.result.0.now c.cut_line.result.1.now c.loop-left.number (state_of c.loop-left.draft) c.loop-left.invariant.2 (omega arith) c.cut_line.ensures.line c.in_err-read_line.field-0.0 _ c.in_err-read_line.ensures c.loop-left.invariant.1)

pub returns : goal.returns
returns c =
    lines_end (state_of c.loop-left.draft) (c.loop-left.number + 1) c.loop-left.left.now _ (sym c.loop-left-test.ensures) c.loop-left.invariant.1
