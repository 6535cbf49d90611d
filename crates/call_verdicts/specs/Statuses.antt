-- Statuses of a call of the program.
use Rattle.std.specs.Prelude.{ℕ}
use Rattle.call_verdicts.specs.declared.status.Status.{Status}
use Rattle.call_verdicts.specs.declared.status.Status.TheVariants.{Done, WordsRefused, ScriptRefused, SourceFault, SinkFault, ActivityFailed, NoMemory, BucketNotEmpty, JournalFull, SiteFault}

-- the number with which the program ends
abbrev pub number_of : Status → ℕ
number_of Done = 0
number_of WordsRefused = 1
number_of ScriptRefused = 2
number_of SourceFault = 3
number_of SinkFault = 4
number_of ActivityFailed = 5
number_of NoMemory = 6
number_of BucketNotEmpty = 7
number_of JournalFull = 8
number_of SiteFault = 9
