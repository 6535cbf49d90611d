use Rattle.std.proofs.Common.{sym, ◌∙◌, arith}
use Rattle.xor_chunks.proofs.Takes.{no_change}
use Rattle.xor_chunks.proofs.passing.change_in.Goals as goal

pub returns-then-word-eq0-clause-told : goal.returns-then-word-eq0-clause-told
returns-then-word-eq0-clause-told c = λ bits shows. no_change bits (sym (shows.first 1 (omega arith)) ∙ c.if-word-eq0.true)
