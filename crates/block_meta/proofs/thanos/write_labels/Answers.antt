use Rattle.block_meta.proofs.LabelMembers.{labels_again}
use Rattle.block_meta.proofs.thanos.write_labels.Goals as goal

pub returns-clause-again : goal.returns-clause-again
returns-clause-again c = labels_again _ c.labels.ensures.lawful
