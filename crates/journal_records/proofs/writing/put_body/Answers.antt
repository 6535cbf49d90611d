use Rattle.std.proofs.Common.{length}
use Rattle.std.specs.Int.{w64, to_be_bytes}
use Rattle.std.specs.List.{flat_map}
use Rattle.journal_records.specs.Limits.{magic}
use Rattle.journal_records.specs.RecordWritten.{counted, entry_text, body_text}
use Rattle.journal_records.proofs.FourParts.{four_put}
use Rattle.journal_records.proofs.writing.put_body.Goals as goal

pub returns-clause-ok : goal.returns-clause-ok
unfolding body_text
returns-clause-ok c =
    four_put c.put_entries.result c.args.made.now.items (to_be_bytes w64 magic) (counted c.args.script.now) (to_be_bytes w64 (length c.args.entries.now)) (flat_map entry_text c.args.entries.now)
    _ _ _ _ c.in_ok-put_u64.ensures.ok c.in_ok-put_counted.ensures c.in_ok-put_u64-2.ensures.ok c.put_entries.ensures.ok
