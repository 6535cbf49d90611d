use Rattle.std.proofs.Common.{◌≡◌, ◌++◌, ℕ, ◌≤◌, List, Option, slice_index_or, take}
use Rattle.std.specs.List.{AllZip}
use Rattle.bucket_core.specs.Contents.{Contents}
use Rattle.script_core.specs.declared.block.Block.{Block}
use Rattle.call_verdicts.specs.ShelfReads.{AreRead}
use Rattle.call_verdicts.specs.Stages.{IsEndedFor}
use Rattle.call_verdicts.specs.declared.check_way.Stage.{Stage}
use Rattle.call_verdicts.proofs.shelf_reading.keep_group.Given as goal

-- those before the place are kept, and the others are as they were
abbrev pub invariant-loop-place : goal.invariant-loop-place
invariant-loop-place l =
    ((j : ℕ) (d : Stage) → l.place ≤ j → slice_index_or l.stages j d ≡ slice_index_or l.initial.stages j d)
    × ((told : Option Contents) (before : List Block) → AllZip (IsEndedFor told) l.group l.initial.stages → AreRead told before l.initial.read → AreRead told (before ++ take l.place l.group) l.read)
