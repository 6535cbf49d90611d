use Rattle.std.proofs.Common.{sym, ◌∙◌, arith}
use Rattle.xor_chunks.proofs.Takes.{row_10, row_110, row_1110}
use Rattle.xor_chunks.proofs.Peeks.{row_told}
use Rattle.xor_chunks.proofs.step.short_change.Goals as goal

pub returns-then-word-eq2-clause-told : goal.returns-then-word-eq2-clause-told
returns-then-word-eq2-clause-told c = λ bits shows.
    row_told 2 14 c.args.word c.row_in.result.1 _ bits (row_10 _ (sym (shows.first 2 (omega arith)) ∙ c.if-word-eq2.true)) shows (omega arith) c.row_in.ensures.change c.row_in.ensures.length

pub returns-then-word-eq6-clause-told : goal.returns-then-word-eq6-clause-told
returns-then-word-eq6-clause-told c = λ bits shows.
    row_told 3 17 c.args.word c.row_in-then-word-eq6.result.1 _ bits (row_110 _ (sym (shows.first 3 (omega arith)) ∙ c.if-word-eq6.true)) shows (omega arith) c.row_in-then-word-eq6.ensures.change c.row_in-then-word-eq6.ensures.length

pub returns-then-word-eq14-clause-told : goal.returns-then-word-eq14-clause-told
returns-then-word-eq14-clause-told c = λ bits shows.
    row_told 4 20 c.args.word c.row_in-then-word-eq14.result.1 _ bits (row_1110 _ (sym (shows.first 4 (omega arith)) ∙ c.if-word-eq14.true)) shows (omega arith) c.row_in-then-word-eq14.ensures.change c.row_in-then-word-eq14.ensures.length
