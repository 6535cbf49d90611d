use Rattle.std.proofs.Common.{sym, ◌∙◌, ◌++◌, ap, arith}
use Rattle.replay_cli.proofs.TextParts.{joined_more}
use Rattle.replay_cli.proofs.text_parts.join.Goals as goal

pub loop-part-preserved : goal.loop-part-preserved
loop-part-preserved c =
    let is = c.part-item.is in
    joined_more c.args.parts.now c.loop-part.part-index c.part-item.result c.args.out.now.items c.loop-part.out.items c.give.new.out.items (omega arith)
    (sym (ap (λ part. part.came) is) ∙ c.in_ok-give.ensures.came) (c.in_ok-give.ensures.text ∙ ap (λ part. c.loop-part.out.items ++ part.text.items) is) c.loop-part.invariant
