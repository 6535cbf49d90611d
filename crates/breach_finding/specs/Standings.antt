-- What stands, as it is kept.
use Rattle.std.specs.Prelude.{List}
use Rattle.bucket_core.specs.Contents.{Contents}
use Rattle.world_core.specs.declared.entry.Entry.{Entry}
use Rattle.breach_finding.specs.Held.{Holds}
use Rattle.breach_finding.specs.declared.standing.Standing.{Standing}

-- this is what stands, where the bytes are put by these entries
abbrev pub IsStanding : List Entry → Standing → Contents → Type 0
IsStanding entries standing contents = Holds entries standing.places contents
