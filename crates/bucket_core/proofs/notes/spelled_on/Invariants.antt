use Rattle.std.proofs.Common.{◌≡◌, ◌++◌, take}
use Rattle.bucket_core.specs.Spelled.{text_told}
use Rattle.bucket_core.proofs.notes.spelled_on.Given as goal

-- the text up to here
abbrev pub invariant-loop-place : goal.invariant-loop-place
invariant-loop-place l = text_told l.before ≡ text_told l.fn.text ++ take l.place l.bytes
