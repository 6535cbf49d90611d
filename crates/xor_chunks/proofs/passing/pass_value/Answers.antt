use Rattle.std.proofs.Common.{◌+◌, refl, sym, ◌∙◌, arith}
use Rattle.xor_chunks.proofs.Peeks.{head_is, eleven}
use Rattle.xor_chunks.proofs.BitPlaces.{pass_same, pass_within, pass_told}
use Rattle.xor_chunks.proofs.passing.pass_value.Goals as goal

pub returns-then-head-eq0-clause-passed : goal.returns-then-head-eq0-clause-passed
returns-then-head-eq0-clause-passed c = λ bits pattern shows long.
    let head = head_is _ _ 1 _ (omega arith) (shows.first (c.args.known + 1) (omega arith)) in
    pass_same _ _ _ _ _ (sym head ∙ c.if-head-eq0.true) refl (omega arith)

pub returns-then-head-eq2-clause-passed : goal.returns-then-head-eq2-clause-passed
returns-then-head-eq2-clause-passed c = λ bits pattern shows long.
    let head = head_is _ _ 2 _ (omega arith) (shows.first (c.args.known + 2) (omega arith)) in
    pass_within _ _ _ _ _ (sym head ∙ c.if-head-eq2.true) (omega arith) (omega arith)

pub returns-clause-passed : goal.returns-clause-passed
returns-clause-passed c = λ bits pattern shows long.
    let head = head_is _ _ 2 _ (omega arith) (shows.first (c.args.known + 2) (omega arith)) in
    pass_told _ _ _ _ _ _ _ (eleven _ _ (omega arith) head c.if-head-eq0.false c.if-head-eq2.false) (shows.first (c.args.known + 13) (omega arith)) c.told_by-told.ensures
    (omega arith) (omega arith)
