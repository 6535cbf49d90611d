use Rattle.std.proofs.Common.{subst, ◌∙◌}
use Rattle.std.proofs.lemmas.Result.{err_from_is_err_and}
use Rattle.script_core.specs.Parts.{Reads}
use Rattle.generated_day.specs.Day.{block_line, all_series_text, block_text}
use Rattle.generated_day.proofs.Parts.{from_none}
use Rattle.generated_day.proofs.PlainTexts.{block_plain, block_ended}
use Rattle.generated_day.proofs.Readings.{text_wants}
use Rattle.generated_day.proofs.Wanting.{both_end, first_wants}
use Rattle.generated_day.proofs.lines.read_block.Goals as goal

pub returns-in_err-read_lines : goal.returns-in_err-read_lines
unfolding block_text
returns-in_err-read_lines c =
    let p = err_from_is_err_and c.from_residual-in_err-read_lines.result c.from_residual-in_err-read_lines.ensures.1 in
    let line = block_line c.args.block c.args.replica in
    let series = all_series_text c.args.number c.args.block c.args.replica in
    let e = c.in_err-read_lines.field-0.0 in
    let written = c.as_slice.ensures.value ∙ from_none _ _ line c.new-line.ensures.items c.in_ok-put_block_line.ensures in
    rw (p.1, p.2) (first_wants c.args.reader.now line e series (text_wants c.args.reader.now c.read_lines.new.self _ line written (block_plain 0 c.args.block c.args.replica c.requires.block c.requires.replica) (block_ended 0 c.args.block c.args.replica c.requires.block c.requires.replica) e c.in_err-read_lines.ensures.refused))

pub returns : goal.returns
unfolding block_text
returns c =
    let line = block_line c.args.block c.args.replica in
    let series = all_series_text c.args.number c.args.block c.args.replica in
    let written = c.as_slice.ensures.value ∙ from_none _ _ line c.new-line.ensures.items c.in_ok-put_block_line.ensures in
    let first = subst (Reads c.args.reader.now c.read_lines.new.self) written c.in_ok-read_lines.ensures.read in
    both_end c.read_lines.new.self c.read_all_series.new.reader series c.read_all_series.result c.args.reader.now line first c.read_all_series.ensures
