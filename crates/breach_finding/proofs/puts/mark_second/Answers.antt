use Rattle.std.proofs.Common.{sym, ap, ◌∙◌}
use Rattle.std.specs.Prelude.{option_map}
use Rattle.block_meta.specs.MetaFields.{mark_fields_of}
use Rattle.breach_finding.proofs.PutTimes.{no_mark}
use Rattle.breach_finding.proofs.puts.mark_second.Goals as goal

pub returns-in-None : goal.returns-in-None
returns-in-None c = no_mark c.args.bytes.now (ap (option_map mark_fields_of) (sym c.in-None.is) ∙ c.in_ok-mark.ensures.reads)
