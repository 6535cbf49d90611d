use Rattle.std.proofs.Common.{◌^◌, ◌<◌, sym, subst, rules}
use Rattle.std.proofs.lemmas.List.Elements.{All-cons}
use Rattle.std.proofs.lemmas.Result.{IfOk-weaker}
use Rattle.xor_chunks.specs.Written.{AreToCome}
use Rattle.xor_chunks.proofs.PutTexts.{second_put, gap_text, rest_put}
use Rattle.xor_chunks.proofs.encoding.put_from_second.Goals as goal

pub put_others-requires : goal.put_others-requires
put_others-requires c = subst (λ p. AreToCome p c.args.others.now) (sym (second_put _ _ _ (search rules) (search rules) c.requires.next c.in_ok-window.ensures.window)) c.requires.others

pub returns-clause-bits : goal.returns-clause-bits
returns-clause-bits c =
    IfOk-weaker c.put_others.result _ _ (λ w h. rest_put c.args.first c.args.second c.args.others.now _ c.args.bytes.items c.put_uvarint.new.out.items _ c.none.result c.from_bytes-writer.result c.put_value.new.writer w
    (second_put _ _ _ (search rules) (search rules) c.requires.next c.in_ok-window.ensures.window)
    c.in_ok-put_uvarint.ensures.ok (gap_text _ c.args.second.time c.abs_diff.result (search rules) (search rules) c.abs_diff.ensures) c.from_bytes-writer.ensures c.none.ensures c.in_ok-window.ensures.bits h)
    c.put_others.ensures.bits

pub returns-clause-patterns : goal.returns-clause-patterns
returns-clause-patterns c = IfOk-weaker c.put_others.result _ _ (λ _ ps. All-cons (λ s. s.pattern < 2 ^ 64) c.args.second c.args.others.now (search rules) ps) c.put_others.ensures.patterns
