use Rattle.std.proofs.Common.{◌++◌, refl, ◌∙◌}
use Rattle.std.proofs.lemmas.Result.{err_from_is_err_and}
use Rattle.script_core.proofs.PartLaws.{reads_both}
use Rattle.generated_day.specs.Day.{setup_text, all_blocks_text, phases_text, day_text}
use Rattle.generated_day.proofs.Parts.{from_none}
use Rattle.generated_day.proofs.PlainTexts.{phases_ended, phases_plain, setup_ended, setup_plain}
use Rattle.generated_day.proofs.Readings.{text_end, text_wants}
use Rattle.generated_day.proofs.Wanting.{both_end, first_wants, then_wants}
use Rattle.generated_day.proofs.day.read_day.Goals as goal

pub returns-in_err-read_lines : goal.returns-in_err-read_lines
unfolding day_text setup_text
returns-in_err-read_lines c =
    let p = err_from_is_err_and c.from_residual.result c.from_residual.ensures.1 in
    let e = c.in_err-read_lines.field-0.0 in
    let first = text_wants c.args.reader.now c.read_lines.new.self setup_text setup_text refl setup_plain setup_ended e c.in_err-read_lines.ensures.refused in
    rw (p.1, p.2) (first_wants c.args.reader.now (setup_text ++ all_blocks_text c.args.number) e phases_text (first_wants c.args.reader.now setup_text e (all_blocks_text c.args.number) first))

pub returns-in_err-read_all_blocks : goal.returns-in_err-read_all_blocks
unfolding day_text setup_text
returns-in_err-read_all_blocks c =
    let p = err_from_is_err_and c.from_residual-in_err-read_all_blocks.result c.from_residual-in_err-read_all_blocks.ensures.1 in
    let e = c.in_err-read_all_blocks.field-0.0 in
    let blocks = all_blocks_text c.args.number in
    rw (p.1, p.2) (first_wants c.args.reader.now (setup_text ++ blocks) e phases_text (then_wants c.read_lines.new.self blocks e c.args.reader.now setup_text c.in_ok-read_lines.ensures.read c.in_err-read_all_blocks.ensures))

pub returns : goal.returns
unfolding day_text setup_text
returns c =
    let blocks = all_blocks_text c.args.number in
    let first = reads_both c.args.reader.now c.read_lines.new.self c.read_all_blocks.new.reader setup_text blocks c.in_ok-read_lines.ensures.read c.in_ok-read_all_blocks.ensures in
    let written = c.as_slice.ensures.value ∙ from_none _ _ phases_text c.new-phases.ensures.items c.in_ok-put_phases.ensures in
    let last = text_end c.read_all_blocks.new.reader c.read_lines-2.new.self _ phases_text written phases_plain phases_ended c.read_lines-2.result c.read_lines-2.ensures.read c.read_lines-2.ensures.refused in
    both_end c.read_all_blocks.new.reader c.read_lines-2.new.self phases_text c.read_lines-2.result c.args.reader.now (setup_text ++ blocks) first last
