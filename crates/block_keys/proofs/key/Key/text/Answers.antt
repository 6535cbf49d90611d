use Rattle.std.proofs.Common.{◌≡◌, rules}
use Rattle.block_keys.specs.KeyText.{key_text}
use Rattle.block_keys.proofs.KeyLaws.{IsUtf8-key_text_of, IsKeyText-written}
use Rattle.block_keys.proofs.key.Key.text.Goals as goal

pub unwrap-requires : goal.unwrap-requires
unwrap-requires c = c.from_utf8.ensures.succeeds (IsUtf8-key_text_of _ c.args.self c.requires c.in_ok-bytes.ensures.block c.in_ok-bytes.ensures.value)

pub returns-clause-written : goal.returns-clause-written
returns-clause-written c =
    let value : c.from_string.result ≡ key_text c.args.self = search rules in
    IsKeyText-written c.from_string.result c.args.self c.requires c.in_ok-bytes.ensures.block value
