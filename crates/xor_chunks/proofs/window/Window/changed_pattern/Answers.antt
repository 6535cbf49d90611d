use Rattle.std.proofs.Common.{◌*◌, ◌^◌, bit_xor, ap, ◌∙◌}
use Rattle.std.proofs.lemmas.Nat.{shl_whole}
use Rattle.xor_chunks.proofs.window.Window.changed_pattern.Goals as goal

pub returns : goal.returns
returns c =
    ap (bit_xor c.args.pattern) (shl_whole _ _ _ _ c.requires c.trail.ensures.within ∙ ap (λ t. c.args.field * 2 ^ t) c.trail.ensures.trail)
