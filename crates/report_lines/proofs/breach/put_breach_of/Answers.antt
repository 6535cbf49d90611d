use Rattle.std.proofs.Common.{◌≡◌, ◌++◌}
use Rattle.report_lines.specs.BreachLines.{breach_text}
use Rattle.report_lines.proofs.Breaches.{on_map}
use Rattle.report_lines.proofs.breach.put_breach_of.Goals as goal

pub returns : goal.returns
returns c =
    on_map c.put_breach.result (c.put_breach.new.out.items ≡ c.args.out.now.items ++ breach_text c.in_ok-breach.breach) _
    (λ is. (c.in_ok-breach.breach, (λ shelf. c.in_ok-breach.ensures shelf c.requires.lawful c.requires.kept c.requires.bytes), is)) c.put_breach.ensures
