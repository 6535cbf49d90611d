use Rattle.std.proofs.Common.{◌≡◌, ℕ, ◌+◌, ◌<◌, List, length, get_or, true, ltb, ◌∙◌, arith}
use Rattle.std.specs.Str.{IsUtf8, IsCharBoundary}
use Rattle.std.proofs.lemmas.Bool.Decides.{nat_tests}
use Rattle.std.proofs.lemmas.List.{get_or_default}
use Rattle.std.proofs.lemmas.Str.{IsCharBoundary-after_ascii}
use Rattle.script_fields.proofs.fields.after_space.Goals as goal

-- a text can be cut behind a space
cut_behind : (text bytes : List ℕ) (place byte : ℕ) → IsUtf8 text → bytes ≡ text → true ≡ ltb place (length bytes) → byte ≡ get_or bytes place byte → byte ≡ 32 → IsCharBoundary text (place + 1)
cut_behind text bytes place byte utf8 same inside is space =
    let within : place < length text = grind (arith, nat_tests) in
    let found : get_or text place 0 ≡ 32 = get_or_default text place 0 byte within ∙ grind arith in
    IsCharBoundary-after_ascii text place utf8 within (omega (arith, found))

pub range_from-requires : goal.range_from-requires
range_from-requires c =
    let at = c.in-Some-eq32.ensures in
    λ _. cut_behind c.args.text.now c.as_bytes.result.now c.args.place c.in-Some-eq32.field-0.now c.utf8.text c.as_bytes.ensures.value at.lookup.0 at.lookup.1 c.in-Some-eq32.field-0-test
