use Rattle.std.proofs.Common.{◌++◌}
use Rattle.std.specs.Prelude.{codes}
use Rattle.base.specs.Decimal.{decimal_text}
use Rattle.base.specs.Lines.{newline}
use Rattle.run_messages.specs.Messages.{count_words}
use Rattle.run_messages.proofs.Counts.{three_put}
use Rattle.run_messages.proofs.telling.put_count.Goals as goal

pub returns : goal.returns
unfolding count_words
returns c =
    three_put c.put_text-2.new.out.items c.put_text.new.out.items c.put_unsigned.new.out.items c.args.out.now.items (codes "Failures not told: ") (decimal_text c.args.count) (codes "." ++ newline) c.put_text-2.result
    c.in_ok-put_text.ensures c.in_ok-put_unsigned.ensures.ok c.put_text-2.ensures
