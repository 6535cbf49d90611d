use Rattle.compactor.proofs.CompactBegins.{starts}
use Rattle.compactor.proofs.compact.Compact.start.Goals as goal

pub returns-clause-run : goal.returns-clause-run
returns-clause-run c = λ entries end last may.
    starts c.args.rules.now c.sync_rules.result c.in_ok-replicas.replicas c.in_ok-sync.sync c.sync_rules.ensures c.in_ok-replicas.ensures c.in_ok-sync.ensures.run entries end may
