use Rattle.std.proofs.Common.{◌≡◌, rules, subst, sym}
use Rattle.std.specs.Str.{IsUtf8}
use Rattle.block_keys.specs.KeyText.{six_digits}
use Rattle.block_writing.proofs.Names.{IsUtf8-six_digits}
use Rattle.block_writing.proofs.written_meta.segment_name.Goals as goal

pub unwrap-requires : goal.unwrap-requires
unwrap-requires c =
    let digits : c.in_ok-digits.digits.items ≡ six_digits c.args.number = search rules in
    c.from_utf8.ensures.succeeds (subst IsUtf8 (sym digits) (IsUtf8-six_digits c.args.number))
