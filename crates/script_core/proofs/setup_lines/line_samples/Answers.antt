use Rattle.std.proofs.Common.{◌≡◌, true}
use Rattle.script_fields.specs.Samples.{are_whole, have_small_numbers}
use Rattle.script_core.proofs.ReadFields.{read_pass, tests_passed, left_to_test, ends_read, ends_refused}
use Rattle.script_core.proofs.SpelledValues.{ascend_told}
use Rattle.script_core.proofs.setup_lines.line_samples.Goals.{then-not-are_fields+in_ok-unless+in_ok-unless-2, else-not-are_fields}
use Rattle.script_core.proofs.setup_lines.line_samples.Goals as goal

pub returns-in_err-unless-3 : goal.returns-in_err-unless-3
returns-in_err-unless-3 c =
    let passed : (are_whole c.args.texts.now ≡ true) × (have_small_numbers c.args.texts.now ≡ true) = elim c.if-not-are_fields.branch [
      | then-not-are_fields+in_ok-unless+in_ok-unless-2 w ↦ tests_passed c.args.texts.now _ _ _ _ _ _ w.are_whole.ensures w.have_small_numbers.ensures w.in_ok-unless.ensures w.in_ok-unless-2.ensures
      | else-not-are_fields w ↦ read_pass c.args.texts.now c.read_samples-read.result c.read_samples-read.ensures.gives (c.are_fields.ensures.0 w.if-not-are_fields.false)
    ] in
    let left = left_to_test c.args.texts.now _ _ passed c.read_samples-read.ensures.gives c.in_ok-samples.was in
    ends_refused c.args.texts.now _ _ _ c.in_err-unless-3.field-0.0 c.from_residual-in_err-unless-3.result left c.members.ensures (ascend_told _ _ c.times_ascend.ensures) c.in_err-unless-3.ensures c.from_residual-in_err-unless-3.ensures.1

pub returns : goal.returns
returns c =
    let passed : (are_whole c.args.texts.now ≡ true) × (have_small_numbers c.args.texts.now ≡ true) = elim c.if-not-are_fields.branch [
      | then-not-are_fields+in_ok-unless+in_ok-unless-2 w ↦ tests_passed c.args.texts.now _ _ _ _ _ _ w.are_whole.ensures w.have_small_numbers.ensures w.in_ok-unless.ensures w.in_ok-unless-2.ensures
      | else-not-are_fields w ↦ read_pass c.args.texts.now c.read_samples-read.result c.read_samples-read.ensures.gives (c.are_fields.ensures.0 w.if-not-are_fields.false)
    ] in
    let left = left_to_test c.args.texts.now _ _ passed c.read_samples-read.ensures.gives c.in_ok-samples.was in
    ends_read c.args.texts.now _ _ _ _ left c.members.ensures (ascend_told _ _ c.times_ascend.ensures) c.in_ok-unless-3.ensures
