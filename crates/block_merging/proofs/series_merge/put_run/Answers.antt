use Rattle.std.proofs.Common.{◌≡◌, List, [], ◌∷◌, length, subst, rules}
use Rattle.std.specs.Prelude.{OnOk}
use Rattle.label_sets.specs.declared.label.Label.{Label}
use Rattle.block_merging.specs.declared.placed_chunk.PlacedChunk.{PlacedChunk}
use Rattle.block_merging.specs.Placed.{placed_chunk}
use Rattle.block_merging.specs.Steps.{HasRun}
use Rattle.block_merging.proofs.Merged.{alone_told}
use Rattle.block_merging.proofs.series_merge.put_run.Goals as goal

pub returns-then-run-eq1 : goal.returns-then-run-eq1
returns-then-run-eq1 c =
    let one : length c.args.run.now ≡ 1 = search rules in
    alone_told c.put_alone.result c.args.writer.now c.put_alone.new.writer c.args.labels.now c.args.run.now c.index-run-0.result one
    (subst (λ (x : PlacedChunk). (l : List Label) → OnOk c.put_alone.result (HasRun c.args.writer.now l (placed_chunk x ∷ []) c.put_alone.new.writer)) c.index-run-0.is c.put_alone.ensures)
