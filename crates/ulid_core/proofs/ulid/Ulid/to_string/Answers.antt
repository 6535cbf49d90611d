use Rattle.std.proofs.Common.{subst, sym, ◌∙◌}
use Rattle.std.specs.Str.{IsUtf8}
use Rattle.ulid_core.proofs.AsciiTexts.{IsUtf8-text_of}
use Rattle.ulid_core.proofs.ulid.Ulid.to_string.Goals as goal

pub unwrap-requires : goal.unwrap-requires
unwrap-requires c =
    c.from_utf8.ensures.succeeds (subst IsUtf8 (sym (c.in_ok-bytes.ensures.items ∙ c.text.ensures.value)) (IsUtf8-text_of c.args.self))
