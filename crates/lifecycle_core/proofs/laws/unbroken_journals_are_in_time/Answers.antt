use Rattle.lifecycle_core.proofs.journals.Unbroken.{compaction_read, marked, read, synced, uploaded}
use Rattle.lifecycle_core.proofs.laws.unbroken_journals_are_in_time.Goals as goal

pub returns : goal.returns
returns c = record { uploaded = uploaded; marked = marked; synced = synced; read = read; compacted = compaction_read }
