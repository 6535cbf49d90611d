use Rattle.std.proofs.Common.{None, refl}
use Rattle.breach_finding.proofs.Changes.{one_changed}
use Rattle.breach_finding.proofs.standing.Standing.delete.Goals as goal

pub returns : goal.returns
returns c entries contents holds =
    one_changed entries c.args.self.now.places c.remove.new.self contents c.args.key None None c.has_text.ensures (λ q. c.remove.ensures.updates.0 q) refl (λ some. some) holds
