-- What a source in memory shows.
use Rattle.std.specs.Prelude.{ℕ, List, drop, Option, Some}
use Rattle.bucket_core.specs.Told.{SourceTold}
use Rattle.bucket_core.specs.declared.memory_source.MemorySource.{MemorySource}

abbrev pub bytes_left : MemorySource → List ℕ
bytes_left source = drop source.place source.bytes

abbrev pub calls_made : MemorySource → ℕ
calls_made source = source.calls

abbrev pub failing_call : MemorySource → Option ℕ
failing_call source = source.fail_at

abbrev pub faults_counted : MemorySource → ℕ
faults_counted source = source.faults

-- what is told of it
abbrev pub source_told : MemorySource → SourceTold
source_told source = record { left = Some (bytes_left source); faults = faults_counted source }
