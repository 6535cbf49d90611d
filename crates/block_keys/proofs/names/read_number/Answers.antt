use Rattle.std.proofs.Common.{◌≡◌, Some, sym, ap, ◌∙◌, true, length, arith}
use Rattle.std.specs.Char.{is_ascii_digit}
use Rattle.std.specs.List.{list_all}
use Rattle.std.specs.Result.{result_ok}
use Rattle.std.specs.Str.Parse.{digits_value}
use Rattle.std.proofs.lemmas.Option.{none-some}
use Rattle.block_keys.proofs.NameText.{parse_six}
use Rattle.block_keys.proofs.names.read_number.Goals as goal

pub returns-in_err-number : goal.returns-in_err-number
returns-in_err-number c =
    let all : list_all is_ascii_digit c.args.digits.now ≡ true =
    ap (list_all is_ascii_digit) (sym c.as_bytes.ensures.value) ∙ sym c.all_digits.ensures ∙ c.if-not-all_digits.false in
    let six : length c.args.digits.now ≡ 6 = omega arith in
    let parsed = parse_six c.args.digits.now c.parse.result c.parse.ensures.value.0 all six in
    let some : c.ok.result ≡ Some (digits_value 10 c.args.digits.now) = c.ok.ensures.value ∙ ap result_ok parsed in
    absurd (none-some _ (sym c.in_err-number.was ∙ some))
