use Rattle.std.proofs.Common.{◌+◌, ap, sym, ◌∙◌, arith}
use Rattle.std.proofs.lemmas.Result.{err_from_is_err_and}
use Rattle.xor_chunks.specs.Steps.{within_at}
use Rattle.xor_chunks.proofs.Takes.{reads_same}
use Rattle.xor_chunks.proofs.Peeks.{head_is, same_behind, same_lacks, within_behind, within_lacks, opened_behind, opened_lacks, eleven}
use Rattle.xor_chunks.proofs.step.take_value.Goals as goal

pub returns-in_err-take_peeked : goal.returns-in_err-take_peeked
returns-in_err-take_peeked c =
    let p = err_from_is_err_and c.from_residual.result c.from_residual.ensures.1 in
    let head = head_is c.args.word c.args.known 1 c.args.reader.now (omega (arith, c.requires.known)) (c.requires.word.first (c.args.known + 1) (omega arith)) in
    rw (p.1, p.2) (same_lacks c.args.pattern c.args.window c.args.known c.args.reader.now c.in_err-take_peeked.field-0.0 (sym head ∙ c.if-head-eq0.true) c.in_err-take_peeked.ensures.read)

pub returns-then-head-eq0 : goal.returns-then-head-eq0
returns-then-head-eq0 c =
    let head = head_is _ _ 1 _ (omega arith) (c.requires.word.first (c.args.known + 1) (omega arith)) in
    same_behind _ _ _ _ _ _ (sym head ∙ c.if-head-eq0.true) c.in_ok-take_peeked.ensures.read

pub returns-in_err-take_peeked-2 : goal.returns-in_err-take_peeked-2
returns-in_err-take_peeked-2 c =
    let p = err_from_is_err_and c.from_residual-in_err-take_peeked-2.result c.from_residual-in_err-take_peeked-2.ensures.1 in
    let head = head_is c.args.word c.args.known 2 c.args.reader.now (omega (arith, c.requires.known)) (c.requires.word.first (c.args.known + 2) (omega arith)) in
    rw (p.1, p.2) (within_lacks c.args.pattern c.args.window c.args.known c.args.reader.now c.in_err-take_peeked-2.field-0.0 (sym head ∙ c.if-head-eq2.true) c.in_err-take_peeked-2.ensures.read)

pub returns-then-head-eq2 : goal.returns-then-head-eq2
returns-then-head-eq2 c =
    let head = head_is _ _ 2 _ (omega arith) (c.requires.word.first (c.args.known + 2) (omega arith)) in
    reads_same _ _ _ _ _ c.take_within.ensures (sym (within_behind _ _ _ _ _ _ (sym head ∙ c.if-head-eq2.true) c.in_ok-take_peeked-2.ensures.read))

pub returns-in_err-told : goal.returns-in_err-told
returns-in_err-told c =
    let p = err_from_is_err_and c.from_residual-in_err-told.result c.from_residual-in_err-told.ensures.1 in
    let head = head_is c.args.word c.args.known 2 c.args.reader.now (omega (arith, c.requires.known)) (c.requires.word.first (c.args.known + 2) (omega arith)) in
    rw (p.1, p.2) (opened_lacks c.args.pattern c.args.window c.args.known c.args.reader.now c.in_err-told.field-0.0 (eleven _ _ (omega arith) head c.if-head-eq0.false c.if-head-eq2.false) c.in_err-told.ensures.read)

pub returns : goal.returns
returns c =
    let head = head_is _ _ 2 _ (omega arith) (c.requires.word.first (c.args.known + 2) (omega arith)) in
    reads_same _ _ _ _ _ c.take_within-2.ensures
    (ap (λ w. within_at c.args.pattern w c.take_peeked-2.new.reader) c.told_by.ensures
    ∙ sym (opened_behind _ _ _ _ _ _ (eleven _ _ (omega arith) head c.if-head-eq0.false c.if-head-eq2.false) c.in_ok-told.ensures.read))
