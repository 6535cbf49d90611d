use Rattle.std.proofs.Common.{◌≡◌, ◌++◌, List, take}
use Rattle.std.specs.List.{AllZip}
use Rattle.script_core.specs.declared.block.Block.{Block}
use Rattle.call_verdicts.specs.Asked.{WasRead, shelf_ulids}
use Rattle.call_verdicts.specs.Stages.{IsLoadedFor}
use Rattle.call_verdicts.proofs.shelf_loading.load_group.Given as goal

-- the blocks so far are loaded
abbrev pub invariant-loop-block : goal.invariant-loop-block
invariant-loop-block g l = record {
  loaded : AllZip (IsLoadedFor (g.F.Shelf.told l.initial.shelf).files) (take l.block-index l.group) l.stages.items;
  calm : (g.F.Shelf.told l.shelf).faults ≡ (g.F.Shelf.told l.initial.shelf).faults;
  asked : (front : List Block) → WasRead g.F.Shelf.told (shelf_ulids front) l.initial.shelf → WasRead g.F.Shelf.told (shelf_ulids (front ++ take l.block-index l.group)) l.shelf;
  same : (g.F.Shelf.told l.shelf).files ≡ (g.F.Shelf.told l.initial.shelf).files;
}
