use Rattle.std.proofs.Common.{inr, sym, ◌∙◌, arith}
use Rattle.script_core.specs.Reading.{line_at}
use Rattle.script_core.specs.View.{state_of}
use Rattle.std.proofs.lemmas.Result.{err_from_is_err_and}
use Rattle.script_core.proofs.PartRefusals.{count_refused, last_ended, text_refused}
use Rattle.script_core.proofs.PartLaws.{no_front, front_more, whole_front, shorter_by}
use Rattle.script_core.proofs.part_reader.PartReader.read_lines.Goals as goal

pub loop-left-init : goal.loop-left-init
loop-left-init c = no_front c.args.self.now c.args.text.now

pub loop-left-preserved : goal.loop-left-preserved
loop-left-preserved c =
    let line = c.cut_line.result.0.now in
    let left = c.loop-left.left.now in
    front_more c.args.self.now c.loop-left.self _ c.args.text.now left line c.cut_line.result.1.now c.loop-left.invariant c.cut_line.ensures.line c.cut_line.ensures.rest (shorter_by left line c.cut_line.ensures.line c.if-line-left.false) c.in_ok-count.ensures.bytes ((λ i. line_at (state_of (sym c.count.ensures.draft i)) (sym c.in_ok-count.ensures.lines i) line) ∙ c.in_ok-read_line.ensures) c.in_ok-count.ensures.lines

pub returns-clause-read : goal.returns-clause-read
returns-clause-read c =
    whole_front c.args.self.now c.loop-left.self c.args.text.now c.loop-left.left.now c.loop-left.invariant (sym c.loop-left-test.ensures)

pub returns-in_err-count-clause-refused : goal.returns-in_err-count-clause-refused
returns-in_err-count-clause-refused c = λ ended.
    let p = err_from_is_err_and c.from_residual.result c.from_residual.ensures.1 in
    rw (p.1, p.2) (inr (count_refused c.args.self.now c.loop-left.self c.args.text.now c.loop-left.left.now c.cut_line.result.0.now c.cut_line.result.1.now c.loop-left.invariant c.cut_line.ensures.line c.cut_line.ensures.rest (omega arith) c.in_err-count.field-0.0 c.in_err-count.ensures.refused.0 c.in_err-count.ensures.refused.1))

pub returns-in_err-read_line-clause-refused : goal.returns-in_err-read_line-clause-refused
returns-in_err-read_line-clause-refused c = λ ended.
    let p = err_from_is_err_and c.from_residual-in_err-read_line.result c.from_residual-in_err-read_line.ensures.1 in
    rw (p.1, p.2) (text_refused c.args.self.now c.loop-left.self c.args.text.now c.loop-left.left.now c.cut_line.result.0.now c.cut_line.result.1.now c.loop-left.invariant c.cut_line.ensures.line c.cut_line.ensures.rest (omega arith) (shorter_by c.loop-left.left.now c.cut_line.result.0.now c.cut_line.ensures.line c.if-line-left.false) c.count.new.self.draft c.count.new.self.lines c.in_err-read_line.field-0.0 c.count.ensures.draft c.in_ok-count.ensures.lines c.in_err-read_line.ensures)

pub returns-then-line-left-clause-refused : goal.returns-then-line-left-clause-refused
returns-then-line-left-clause-refused c = λ ended.
    absurd (last_ended c.args.self.now c.loop-left.self c.args.text.now c.loop-left.left.now c.cut_line.result.0.now c.loop-left.invariant c.cut_line.ensures.line (omega arith) c.if-line-left.true ended)
