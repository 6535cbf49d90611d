use Rattle.std.proofs.Common.{ℕ, List, ◌++◌, ◌^◌, ◌<◌, ◌∙◌, ap, subst}
use Rattle.std.specs.Int.{w32, to_be_bytes}
use Rattle.wire_bytes.specs.Crc.{crc}
use Rattle.journal_records.specs.RecordWritten.{record_text}
use Rattle.journal_records.specs.Writable.{HasLawfulKey}
use Rattle.journal_records.proofs.RecordTied.{record_again}
use Rattle.journal_records.proofs.Writables.{All-from_Each}
use Rattle.journal_records.proofs.WrittenTied.{writable_written}
use Rattle.journal_records.proofs.writing.made_of.Goals as goal

pub body_of-requires : goal.body_of-requires
body_of-requires c = All-from_Each (λ e. HasLawfulKey e.op) _ c.requires.writable.keys

pub returns-clause-lawful : goal.returns-clause-lawful
returns-clause-lawful c =
    writable_written _ _ c.requires.writable c.in_ok-made.ensures.typed (subst (λ (t : List ℕ). crc t < 2 ^ 32) c.in_ok-made.ensures.text c.put_sum.ensures.sum) c.requires.few

pub returns-clause-again : goal.returns-clause-again
returns-clause-again c = record_again _ _ (returns-clause-lawful c) c.requires.few

pub returns-clause-text : goal.returns-clause-text
unfolding record_text
returns-clause-text c = c.in_ok-put_sum.ensures.text ∙ ap (λ (t : List ℕ). t ++ to_be_bytes w32 (crc t)) c.in_ok-made.ensures.text
