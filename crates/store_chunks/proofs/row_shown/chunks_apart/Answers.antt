use Rattle.std.proofs.Common.{◌∙◌, ap}
use Rattle.std.proofs.lemmas.List.{take_all}
use Rattle.store_chunks.specs.ChunksRead.{reads_of, reads_apart}
use Rattle.store_chunks.proofs.RowsApart.{rows_more}
use Rattle.store_chunks.proofs.row_shown.chunks_apart.Goals as goal

pub loop-row-init : goal.loop-row-init
loop-row-init c = ap reads_apart c.new-apart.ensures.items

pub loop-row-preserved : goal.loop-row-preserved
loop-row-preserved c = rows_more c.args.rows.now c.loop-row.row-index _ _ c.loop-row.apart.items c.add_row.new.apart.items c.loop-row-test.true c.row-item.is c.loop-row.invariant c.in_ok-add_row.ensures

pub returns : goal.returns
returns c = c.loop-row.invariant ∙ ap reads_of (take_all c.loop-row.row-index c.args.rows.now c.loop-row-test.false)
