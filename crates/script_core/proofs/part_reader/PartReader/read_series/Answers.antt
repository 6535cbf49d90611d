use Rattle.std.proofs.Common.{inr, sym, ◌∙◌, arith}
use Rattle.script_core.specs.Parts.{series_front, series_text}
use Rattle.script_core.specs.Reading.{line_at}
use Rattle.script_core.specs.View.{state_of}
use Rattle.std.proofs.lemmas.Result.{err_from_is_err_and}
use Rattle.script_core.proofs.PartLaws.{line_reads}
use Rattle.script_core.proofs.PartRefusals.{put_refused, room_refused, size_refused}
use Rattle.script_core.proofs.SeriesParts.{series_least}
use Rattle.script_core.proofs.part_reader.PartReader.read_series.Goals as goal

pub returns-in-Ok-clause-read : goal.returns-in-Ok-clause-read
unfolding series_text
returns-in-Ok-clause-read c =
    let line = series_front c.args.labels.now c.args.samples in
    line_reads c.args.self.now _ line c.in_ok-line_size.field-0 c.in-Ok.ensures.line ((λ i. line_at (state_of (sym c.count.ensures.draft i)) (sym c.in_ok-count.ensures.lines i) line) ∙ c.in-Ok.ensures.read c.count.new.self.lines) c.in_ok-count.ensures.lines c.in_ok-count.ensures.bytes (omega (arith, c.in-Ok.ensures.size, c.in_ok-line_size.ensures.size)) (omega (arith, c.in_ok-line_size.ensures.size, series_least c.args.labels.now c.args.samples))

pub returns-in_err-line_size-clause-refused : goal.returns-in_err-line_size-clause-refused
returns-in_err-line_size-clause-refused c = λ set are.
    let p = err_from_is_err_and c.from_residual.result c.from_residual.ensures.1 in
    rw (p.1, p.2) (inr (size_refused c.args.self.now c.args.labels.now set c.args.samples are c.in_err-line_size.field-0.0 c.in_err-line_size.ensures.refused.0 (omega (arith, c.in_err-line_size.ensures.refused.1, c.len.ensures))))

pub returns-in_err-count-clause-refused : goal.returns-in_err-count-clause-refused
returns-in_err-count-clause-refused c = λ set are.
    let p = err_from_is_err_and c.from_residual-in_err-count.result c.from_residual-in_err-count.ensures.1 in
    rw (p.1, p.2) (inr (room_refused c.args.self.now c.args.labels.now set c.args.samples are c.in_err-count.field-0.0 c.in_ok-line_size.field-0 c.in_err-count.ensures.refused.0 c.in_err-count.ensures.refused.1 (omega (arith, c.in_ok-line_size.ensures.size, c.len.ensures))))

pub returns-in-Err-clause-refused : goal.returns-in-Err-clause-refused
returns-in-Err-clause-refused c = λ set are.
    rw c.of_line.ensures (put_refused c.args.self.now c.args.labels.now set c.args.samples are c.count.new.self.draft c.count.new.self.lines c.in-Err.refusal c.count.ensures.draft c.in_ok-count.ensures.lines (c.in-Err.ensures.refused set are))
