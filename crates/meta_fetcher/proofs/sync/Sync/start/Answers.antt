use Rattle.std.proofs.Common.{refl, sym, [], arith}
use Rattle.meta_fetcher.proofs.Begin.{begins}
use Rattle.meta_fetcher.proofs.sync.Sync.start.Goals as goal

pub returns-clause-run : goal.returns-clause-run
returns-clause-run c = λ entries end last run.
    begins c.args.rules entries end
    (run [] 999_999 (record { many = refl; ends = refl; blocks = sym c.new.ensures.items; unread = c.new-2.ensures.items; enough = omega arith }))
