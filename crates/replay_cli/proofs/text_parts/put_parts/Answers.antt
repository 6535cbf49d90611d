use Rattle.std.proofs.Common.{◌∙◌, ap}
use Rattle.replay_cli.proofs.TextParts.{joined_on}
use Rattle.replay_cli.proofs.text_parts.put_parts.Goals as goal

pub returns : goal.returns
returns g c =
    joined_on c.join.result c.args.parts.now c.put_each.new.parts c.index-parts-0.result c.index-parts-0-2.result c.trade.new.self c.trade-2.new.self c.args.out.now.items c.trade-2.new.text.items c.join.new.out.items
    c.requires.some c.put_each.auto.parts c.put_each.ensures c.requires.empty
    c.trade.ensures.series (ap (λ v. v.items) c.trade.ensures.taken)
    (ap (λ v. v.items) (c.trade-2.ensures.taken ∙ c.trade.ensures.given)) c.trade-2.ensures.came
    (ap (λ v. v.items) c.trade-2.ensures.given) c.join.ensures.came c.join.ensures.text
