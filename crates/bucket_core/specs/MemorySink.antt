-- What a sink in memory shows.
use Rattle.std.specs.Prelude.{ℕ, ◌++◌, List, [], Option, Some, None}
use Rattle.bucket_core.specs.Spelled.{text_noted}
use Rattle.bucket_core.specs.Told.{SinkTold}
use Rattle.bucket_core.specs.declared.notes.TextNotes.{TextNotes}
use Rattle.bucket_core.specs.declared.memory_sink.MemorySink.{MemorySink}

-- what was written of which nothing is kept, since there was no memory
abbrev pub lost_of : Option TextNotes → List ℕ
lost_of None = []
lost_of (Some notes) = text_noted notes

abbrev pub bytes_written : MemorySink → List ℕ
bytes_written sink = sink.bytes.items ++ lost_of sink.lost

abbrev pub calls_made : MemorySink → ℕ
calls_made sink = sink.calls

abbrev pub failing_call : MemorySink → Option ℕ
failing_call sink = sink.fail_at

abbrev pub faults_counted : MemorySink → ℕ
faults_counted sink = sink.faults

-- what is told of it
abbrev pub sink_told : MemorySink → SinkTold
sink_told sink = record { written = Some (bytes_written sink); faults = faults_counted sink }
