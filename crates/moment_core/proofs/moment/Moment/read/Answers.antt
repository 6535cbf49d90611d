use Rattle.std.proofs.Common.{refl, sym}
use Rattle.std.proofs.lemmas.Bool.{true≢false}
use Rattle.moment_core.proofs.MomentLaws.{moment_of-found, moment_of-same, moment_of-none}
use Rattle.moment_core.proofs.moment.Moment.read.Goals as goal

pub returns-in-Some-clause-found : goal.returns-in-Some-clause-found
returns-in-Some-clause-found c = moment_of-found c.args.text.now c.in-Some.ms (sym c.in-Some.ensures)

pub returns-in-Some-clause-only : goal.returns-in-Some-clause-only
returns-in-Some-clause-only c = λ ms is. moment_of-same c.args.text.now c.in-Some.ms ms c.in-Some.ensures is

pub returns-in-None-clause-only : goal.returns-in-None-clause-only
returns-in-None-clause-only c = λ ms is. moment_of-none c.args.text.now ms c.in-None.ensures is

pub returns-in-Some-clause-none : goal.returns-in-Some-clause-none
returns-in-Some-clause-none c = (λ e. absurd (true≢false (sym e)), λ h. absurd (h c.in-Some.ms (moment_of-found c.args.text.now c.in-Some.ms (sym c.in-Some.ensures))))

pub returns-in-None-clause-none : goal.returns-in-None-clause-none
returns-in-None-clause-none c = (λ e ms is. moment_of-none c.args.text.now ms c.in-None.ensures is, λ h. refl)
