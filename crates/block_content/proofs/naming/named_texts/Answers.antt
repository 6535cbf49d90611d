use Rattle.std.proofs.Common.{refl, arith}
use Rattle.block_content.specs.Named.{text_bytes}
use Rattle.block_content.proofs.ChunkWalks.{sum_more, sum_end}
use Rattle.block_content.proofs.NamedBytes.{series_texts}
use Rattle.block_content.proofs.naming.named_texts.Goals as goal

pub loop-one-init : goal.loop-one-init
loop-one-init c = refl

pub loop-one-preserved : goal.loop-one-preserved
loop-one-preserved c =
    sum_more text_bytes c.args.indexed.now c.loop-one.one-index c.one-item.result _ c.loop-one.bytes c.saturating_add-bytes.result c.text_bytes.result c.loop-one.invariant c.loop-one-test.true c.one-item.is (omega (arith, c.saturating_add-bytes.ensures))
    (omega (arith, c.text_bytes.ensures, series_texts c.one-item.result c.labels.result.now c.labels.ensures.value))

pub returns : goal.returns
returns c = sum_end text_bytes c.args.indexed.now c.loop-one.one-index c.loop-one.bytes c.loop-one.invariant (omega arith)
