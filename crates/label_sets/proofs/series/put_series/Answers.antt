use Rattle.std.proofs.Common.{sym, append-nil}
use Rattle.label_sets.proofs.ReadValues.{kept_through}
use Rattle.label_sets.proofs.series.put_series.Goals as goal

pub returns-clause-kept : goal.returns-clause-kept
returns-clause-kept c = kept_through _ _ _ _ _ _ c.in_ok-write.ensures.ok (sym (append-nil _)) c.put_samples.ensures.kept
