use Rattle.ulid_core.proofs.UlidLaws.{ulid_of-found}
use Rattle.block_keys.proofs.KeyLaws.{IsKeyText-key_text, key_text-distinct}
use Rattle.block_keys.proofs.key.Key.texts_differ.Goals as goal

pub returns : goal.returns
returns c =
    let block = rw c.ulid.ensures at c.text_is_read.ensures in
    let other = rw c.ulid-2.ensures at c.text_is_read-2.ensures in
    key_text-distinct c.args.self c.args.other
    (IsKeyText-key_text c.args.self c.requires.lawful (ulid_of-found _ _ block))
    (IsKeyText-key_text c.args.other c.requires.other_lawful (ulid_of-found _ _ other))
