use Rattle.std.proofs.Common.{ap}
use Rattle.std.specs.Prelude.{option_copied}
use Rattle.index_v2.specs.LentLabels.{as_label}
use Rattle.block_merging.proofs.LentOrder.{has_value, has_none}
use Rattle.block_merging.proofs.lent_labels.is_kept.Goals as goal

pub returns-in-Some : goal.returns-in-Some
returns-in-Some c = has_value c.args.external.now (as_label c.args.label.now) c.args.replicas.now (option_copied c.value.result) c.in-Some.field-0.now c.value.ensures (ap option_copied c.in-Some.is)

pub returns-in-None : goal.returns-in-None
returns-in-None c = has_none c.args.external.now (as_label c.args.label.now) c.args.replicas.now c.members.result.now (option_copied c.value.result) c.is_among.result c.value.ensures (ap option_copied c.in-None.is) c.members.ensures c.is_among.ensures
