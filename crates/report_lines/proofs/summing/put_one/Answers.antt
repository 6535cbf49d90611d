use Rattle.report_lines.proofs.Once.{more_each}
use Rattle.report_lines.proofs.summing.put_one.Goals as goal

pub returns : goal.returns
returns c = λ sets has.
    more_each c.args.seen.now.keys c.insert.new.self.keys sets c.args.labels c.in_ok-insert.field-0 has c.in_ok-insert.ensures.added c.in_ok-insert.ensures.len (λ q. c.in_ok-insert.ensures.updates.0 q)
