use Rattle.block_keys.proofs.KeyLaws.{slice_cmp-key_text}
use Rattle.block_keys.proofs.key.Key.texts_are_ordered.Goals as goal

pub returns : goal.returns
returns c =
    slice_cmp-key_text c.args.self c.args.other c.requires.lawful c.requires.other_lawful
    (rw (c.ulid.ensures, c.ulid-2.ensures) at c.texts_are_ordered.ensures)
