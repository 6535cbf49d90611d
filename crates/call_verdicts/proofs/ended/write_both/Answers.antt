use Rattle.call_verdicts.proofs.Pieces.{first_part}
use Rattle.call_verdicts.proofs.Saying.{both_part, on_any_err}
use Rattle.call_verdicts.proofs.ended.write_both.Goals as goal

pub returns-in_err-write_all-clause-part : goal.returns-in_err-write_all-clause-part
returns-in_err-write_all-clause-part g c =
    on_any_err c.from_residual.result (first_part c.args.first.now c.args.last.now (g.K.Sink.told c.args.out.now).written (g.K.Sink.told c.write_all.new.out).written c.in_err-write_all.ensures.part)

pub returns-clause-part : goal.returns-clause-part
returns-clause-part g c =
    both_part c.args.first.now c.args.last.now (g.K.Sink.told c.args.out.now).written (g.K.Sink.told c.write_all.new.out).written (g.K.Sink.told c.write_all-2.new.out).written c.write_all-2.result c.in_ok-write_all.ensures.whole c.write_all-2.ensures.part
