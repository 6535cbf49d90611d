use Rattle.std.proofs.Common.{◌∙◌, List, ℕ, subst, sym}
use Rattle.ulid_core.specs.UlidText.{text_of}
use Rattle.block_keys.specs.Keys.{key_ulid}
use Rattle.block_keys.specs.KeyText.{IsKeyText, name_of}
use Rattle.block_content.proofs.SlashNames.{key_behind, moved_name}
use Rattle.block_content.proofs.shipping.name_within.Goals as goal

pub returns : goal.returns
returns c =
    let behind = key_behind c.as_str.result.now c.args.key (c.as_str.ensures ∙ c.in_ok-text.ensures.value) (subst (λ (t : List ℕ). IsKeyText t c.args.key) (sym c.as_str.ensures) c.in_ok-text.ensures.written) in
    moved_name c.from_str.result c.behind_slash.result.now (name_of c.args.key) c.from_str.ensures (c.behind_slash.ensures (text_of (key_ulid c.args.key)) (name_of c.args.key) behind)
