use Rattle.std.proofs.Common.{◌∙◌, codes}
use Rattle.block_keys.specs.KeyText.{six_digits}
use Rattle.block_content.proofs.SlashNames.{segment_behind, moved_name}
use Rattle.block_content.proofs.shipping.segment_name.Goals as goal

pub returns : goal.returns
returns c =
    let behind = segment_behind c.as_str.result.now c.args.ulid c.args.number (c.as_str.ensures ∙ c.in_ok-name.ensures) in
    moved_name c.from_str.result c.behind_slash.result.now (six_digits c.args.number) c.from_str.ensures (c.behind_slash.ensures (codes "chunks") (six_digits c.args.number) behind)
