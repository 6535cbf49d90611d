use Rattle.journal_records.proofs.RecordTied.{call_finds, call_reads}
use Rattle.journal_records.proofs.FewMembers.{call_bounds}
use Rattle.journal_records.proofs.Writables.{call_writable}
use Rattle.journal_records.proofs.reading.read_record.Goals as goal

pub returns-clause-found : goal.returns-clause-found
returns-clause-found c = call_finds _ _ c.record_of.ensures.bytes c.record_of.ensures.exact

pub returns-clause-only : goal.returns-clause-only
returns-clause-only c = call_reads _ _ c.record_of.ensures.exact

pub returns-clause-few : goal.returns-clause-few
returns-clause-few c = call_bounds _ _ (call_finds _ _ c.record_of.ensures.bytes c.record_of.ensures.exact)

pub returns-clause-writable : goal.returns-clause-writable
returns-clause-writable c = call_writable _ _ (call_finds _ _ c.record_of.ensures.bytes c.record_of.ensures.exact)
