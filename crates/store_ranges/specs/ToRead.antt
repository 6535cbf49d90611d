-- The ranges that are to be read, as the code has them.
use Rattle.std.specs.Prelude.{◌≡◌, ℕ, List, map}
use Rattle.index_parts.specs.declared.toc_reading.Toc.{Toc}
use Rattle.store_ranges.specs.Stretches.{Stretch}
use Rattle.store_ranges.specs.IndexRanges.{AreRuns, Run, run_of}
use Rattle.store_ranges.specs.ChunkRanges.{AreGroups, Group, group_of}
use Rattle.store_ranges.specs.Asking.{piece_of}
use Rattle.store_ranges.specs.declared.group_read.GroupRead.{GroupRead}
use Rattle.store_ranges.specs.declared.run_read.RunRead.{RunRead}

abbrev pub group_read : GroupRead → Group
group_read group = record { segment = group.segment; first = group.first; piece = piece_of group.range; references = group.references }

-- They are the groups of these references.
abbrev pub AreGroupsToRead : List ℕ → List GroupRead → Type 0
AreGroupsToRead references groups =
    (cut : List (Stretch ℕ)) × AreGroups references cut × (map group_read groups ≡ map group_of cut)

abbrev pub run_read : RunRead → Run
run_read run = record { piece = piece_of run.range; numbers = run.numbers }

-- They are the runs of these series, in an index of so many bytes.
abbrev pub AreRunsToRead : Toc → ℕ → List ℕ → List ℕ → List RunRead → Type 0
AreRunsToRead toc size all numbers runs =
    (cut : List (Stretch ℕ)) × AreRuns all numbers cut × (map run_read runs ≡ map (run_of toc size all) cut)
