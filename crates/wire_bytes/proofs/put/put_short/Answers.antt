use Rattle.std.proofs.Common.{◌++◌, ap, sym, arith, ◌∙◌}
use Rattle.std.proofs.lemmas.Result.{on_ok_weaker}
use Rattle.wire_bytes.proofs.GroupTexts.{one_put, two_put, three_put, two_groups, three_groups}
use Rattle.wire_bytes.proofs.put.put_short.Goals as goal

pub returns-then-n-lt-BASE-clause-ok : goal.returns-then-n-lt-BASE-clause-ok
returns-then-n-lt-BASE-clause-ok c = on_ok_weaker c.put_bytes.result (λ put. put ∙ ap (λ text. c.args.out.now.items ++ text) (sym (one_put _ c.if-n-lt-BASE.true))) c.put_bytes.ensures.ok

pub returns-then-n-lt-TWO_GROUPS-clause-ok : goal.returns-then-n-lt-TWO_GROUPS-clause-ok
returns-then-n-lt-TWO_GROUPS-clause-ok c =
    on_ok_weaker c.put_bytes-then-n-lt-TWO_GROUPS.result (λ put. put ∙ ap (λ text. c.args.out.now.items ++ text) (two_groups _ _ c.low_group.ensures ∙ sym (two_put _ (omega arith) c.if-n-lt-TWO_GROUPS.true))) c.put_bytes-then-n-lt-TWO_GROUPS.ensures.ok

pub returns-else-n-lt-TWO_GROUPS-clause-ok : goal.returns-else-n-lt-TWO_GROUPS-clause-ok
returns-else-n-lt-TWO_GROUPS-clause-ok c =
    on_ok_weaker c.put_bytes-else-n-lt-TWO_GROUPS.result (λ put. put ∙ ap (λ text. c.args.out.now.items ++ text) (three_groups _ _ _ c.low_group-else-n-lt-TWO_GROUPS.ensures c.low_group-else-n-lt-TWO_GROUPS-2.ensures ∙ sym (three_put _ (omega arith) c.requires))) c.put_bytes-else-n-lt-TWO_GROUPS.ensures.ok
