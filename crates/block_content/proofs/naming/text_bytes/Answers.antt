use Rattle.std.proofs.Common.{get_or, refl, arith}
use Rattle.block_content.specs.Named.{lent_bytes}
use Rattle.block_content.proofs.ChunkWalks.{sum_end}
use Rattle.block_content.proofs.NamedBytes.{texts_more}
use Rattle.block_content.proofs.naming.text_bytes.Goals as goal

pub loop-label-init : goal.loop-label-init
loop-label-init c = refl

pub loop-label-preserved : goal.loop-label-preserved
loop-label-preserved c =
    texts_more c.args.labels.now c.loop-label.label-index c.loop-label.bytes c.saturating_add-bytes.result c.label_bytes.result (get_or c.args.labels.now c.loop-label.label-index _) _ c.loop-label.invariant c.loop-label-test.true refl c.label_bytes.ensures (omega (arith, c.saturating_add-bytes.ensures))

pub returns : goal.returns
returns c = sum_end lent_bytes c.args.labels.now c.loop-label.label-index c.loop-label.bytes c.loop-label.invariant (omega arith)
