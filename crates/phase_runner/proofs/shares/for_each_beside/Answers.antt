use Rattle.std.proofs.Common.{refl, ◌∙◌, arith}
use Rattle.std.proofs.lemmas.List.{get_or_default}
use Rattle.phase_runner.proofs.Sharing.{all_accept, all_changed}
use Rattle.phase_runner.proofs.shares.for_each_beside.Goals as goal

pub shares_from-requires-clause-accepts : goal.shares_from-requires-clause-accepts
shares_from-requires-clause-accepts g c κs within =
    all_accept g.F.Fn c.args.f.now c.min.result (omega (arith, c.min.ensures, c.max.ensures, c.requires.threads)) c.args.s.now (omega (arith, c.max.auto, c.max.ensures)) (λ k d below p is. c.requires.accepts k p below (is ∙ get_or_default c.args.s.now k d p.now below))

pub returns : goal.returns
returns g c i d l =
    (refl, all_changed g.F.Fn c.args.f.now c.min.result (omega (arith, c.min.ensures, c.max.ensures, c.requires.threads)) c.args.s.now c.shares_from.new.s c.shares_from.ensures i d l)
