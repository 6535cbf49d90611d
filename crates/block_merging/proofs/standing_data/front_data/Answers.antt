use Rattle.std.proofs.Common.{sym, ap, ◌∙◌}
use Rattle.wire_bytes.specs.Fields.{uvarint_at}
use Rattle.block_merging.proofs.StandingData.{front_lent, front_summed, front_has_length}
use Rattle.block_merging.proofs.standing_data.front_data.Goals as goal

pub returns-in-Ok-clause-data : goal.returns-in-Ok-clause-data
returns-in-Ok-clause-data c = λ content h.
    front_lent c.args.part.now content c.rest-framed.result.now c.behind_encoding.result.now c.in-Ok.size c.take_uvarint.new.self (sym (ap uvarint_at c.new-cursor.ensures) ∙ c.in-Ok.ensures.exact) c.rest-framed.ensures c.behind_encoding.ensures h

pub returns-in-Ok-clause-sum : goal.returns-in-Ok-clause-sum
returns-in-Ok-clause-sum c = λ content h.
    front_summed c.args.part.now content c.rest-framed.result.now c.sum_behind.result c.in-Ok.size c.take_uvarint.new.self (sym (ap uvarint_at c.new-cursor.ensures) ∙ c.in-Ok.ensures.exact) c.rest-framed.ensures c.sum_behind.ensures h

pub returns-in-Err-clause-data : goal.returns-in-Err-clause-data
returns-in-Err-clause-data c = λ content h. absurd (front_has_length c.args.part.now content c.in-Err.field-0 (sym (ap uvarint_at c.new-cursor.ensures) ∙ c.in-Err.ensures.exact.0) h)

pub returns-in-Err-clause-sum : goal.returns-in-Err-clause-sum
returns-in-Err-clause-sum c = λ content h. absurd (front_has_length c.args.part.now content c.in-Err.field-0 (sym (ap uvarint_at c.new-cursor.ensures) ∙ c.in-Err.ensures.exact.0) h)
