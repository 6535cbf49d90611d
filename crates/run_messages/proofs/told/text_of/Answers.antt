use Rattle.std.proofs.Common.{refl}
use Rattle.std.specs.Str.{is_utf8}
use Rattle.std.proofs.lemmas.Bool.{false_from_ne_true}
use Rattle.std.proofs.lemmas.Str.{IsUtf8-from_is_utf8, is_utf8-from_IsUtf8}
use Rattle.run_messages.proofs.told.text_of.Goals as goal

pub returns-in-Ok : goal.returns-in-Ok
returns-in-Ok c =
    let is = is_utf8-from_IsUtf8 c.args.line.now c.in-Ok.ensures.cases.1 in rw (is, c.in-Ok.ensures.cases.0) refl

pub returns-in-Err : goal.returns-in-Err
returns-in-Err c =
    let is_not = false_from_ne_true (is_utf8 c.args.line.now) (λ is. c.in-Err.ensures.cases.0 (IsUtf8-from_is_utf8 c.args.line.now is)) in
    rw is_not refl
