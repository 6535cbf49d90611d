use Rattle.std.proofs.Common.{refl, sym, subst, [], arith}
use Rattle.world_core.specs.Plans.{Runs}
use Rattle.cleaner.specs.Cleanings.{listing}
use Rattle.cleaner.proofs.clean.Clean.start.Goals as goal

pub returns-clause-run : goal.returns-clause-run
returns-clause-run c = λ entries end last run.
    subst (λ r. Runs (listing r 1_000_000 []) entries end) c.rules_of.ensures
    (run [] 999_999 (refl, record { many = sym c.new.ensures.listed; ends = sym c.new.ensures.last; reads = sym c.new-2.ensures.items; few = omega arith; enough = omega arith }))
