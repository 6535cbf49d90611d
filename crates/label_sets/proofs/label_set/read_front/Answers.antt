use Rattle.label_sets.proofs.SetLaws.{read_set-lawful}
use Rattle.label_sets.proofs.SetsFound.{set_cut}
use Rattle.label_sets.proofs.label_set.read_front.Goals as goal

pub invariant_of-result : goal.invariant_of-result
invariant_of-result c = read_set-lawful _ _ _ c.in_ok-labels.ensures

pub returns-clause-cut : goal.returns-clause-cut
returns-clause-cut c = set_cut _ _ _ _ c.utf8.text c.as_bytes.ensures.value c.in_ok-labels.ensures
