use Rattle.std.proofs.Common.{◌≡◌, ◌≤◌, ◌-◌, [], length, take}
use Rattle.call_verdicts.specs.Asked.{names_asked, WasAsked, WasRead, shelf_ulids}
use Rattle.call_verdicts.specs.ShelfReads.{AreRead}
use Rattle.call_verdicts.proofs.shelf_reading.read_each.Given as goal

-- the blocks so far are read
abbrev pub invariant-loop-start : goal.invariant-loop-start
invariant-loop-start g l = record {
  within : l.start ≤ length l.blocks;
  read : AreRead (g.F.Shelf.told l.initial.shelf).files (take l.start l.blocks) l.read;
  calm : (g.F.Shelf.told l.shelf).faults ≡ (g.F.Shelf.told l.initial.shelf).faults;
  asked : WasAsked (names_asked g.F.Shelf.told) [] l.initial.shelf → WasRead g.F.Shelf.told (shelf_ulids (take l.start l.blocks)) l.shelf;
  same : (g.F.Shelf.told l.shelf).files ≡ (g.F.Shelf.told l.initial.shelf).files;
}

abbrev pub decreases-loop-start : goal.decreases-loop-start
decreases-loop-start g l = length l.blocks - l.start
