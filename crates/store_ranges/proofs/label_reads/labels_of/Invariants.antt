use denote.Shadow.{shadow}
use denote.Text.{Utf8}
use Rattle.store_ranges.proofs.LabelsAdded.{AreNamed}
use Rattle.store_ranges.proofs.label_reads.labels_of.Given as goal

abbrev pub invariant-loop-place : goal.invariant-loop-place
invariant-loop-place l = AreNamed l.symbols l.names l.values l.before l.place l.set × shadow (Utf8 l.before)
