use Rattle.std.proofs.Common.{◌+◌}
use Rattle.journal_records.proofs.EntryNumbers.{read_numbered}
use Rattle.journal_records.proofs.entries.next_entries.Goals as goal

pub returns-clause-numbered : goal.returns-clause-numbered
returns-clause-numbered c = read_numbered c.args.count c.args.reader.now (c.in_ok-entries.entries, (c.entries_of.new.reader, c.args.count + 1)) c.in_ok-entries.ensures
