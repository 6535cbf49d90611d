use Rattle.std.proofs.Common.{◌++◌, ap, ◌∙◌, arith, take, drop}
use Rattle.call_verdicts.proofs.Stages.{parts_joined}
use Rattle.call_verdicts.proofs.shelf_reading.part_of.Goals as goal

pub returns : goal.returns
returns c = ap (λ n. take c.args.start c.args.blocks.now ++ take n (drop c.args.start c.args.blocks.now)) (omega arith) ∙ parts_joined c.args.blocks.now c.args.start c.args.count
