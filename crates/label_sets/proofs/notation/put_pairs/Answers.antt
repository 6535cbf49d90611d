use Rattle.label_sets.proofs.ReadValues.{kept_through}
use Rattle.label_sets.proofs.notation.put_pairs.Goals as goal

pub returns-in_err-put_comma_pair-clause-kept : goal.returns-in_err-put_comma_pair-clause-kept
returns-in_err-put_comma_pair-clause-kept c = kept_through _ _ _ _ _ _ c.in_ok-put_pair.ensures.ok c.loop-label.invariant c.put_comma_pair.ensures.kept
