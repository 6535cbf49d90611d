use Rattle.std.proofs.Common.{◌≡◌, drop}
use Rattle.matchers.specs.Stages.{read_whole, read_from}
use Rattle.matchers.proofs.draft.read_draft.Given as goal

abbrev pub invariant-loop-place : goal.invariant-loop-place
invariant-loop-place l = read_whole l.text ≡ read_from l.draft l.place (drop l.place l.text)
