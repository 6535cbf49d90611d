use Rattle.std.proofs.Common.{◌-◌, ◌++◌, ◌∙◌, ap, arith, drop, set, to_z-of_z}
use Rattle.std.specs.Fmt.{signed_decimal}
use Rattle.label_sets.proofs.Signs.{spaced}
use Rattle.label_sets.proofs.sample_text.write_timed.Goals as goal

pub returns-clause-written : goal.returns-clause-written
returns-clause-written c =
    let made = c.write_pattern.new.field in
    let before = c.args.end - 16 - 1 in
    let written = c.write_time-start.ensures.written ∙ ap (λ t. signed_decimal t ++ drop before (set made before 58)) (to_z-of_z c.ranges.time) in
    spaced _ _ c.args.end c.args.field.now made c.write_time-start.new.field c.write_time-start.result (omega arith) (omega arith) (omega arith) (omega arith) c.write_pattern.ensures written c.ranges.time
