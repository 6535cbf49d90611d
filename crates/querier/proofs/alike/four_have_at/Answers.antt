use Rattle.std.proofs.Common.{sym, ap, ◌∙◌, arith}
use Rattle.std.specs.Option.{option_copied}
use Rattle.querier.proofs.AllAlike.{four_have}
use Rattle.querier.proofs.alike.four_have_at.Goals as goal

pub returns : goal.returns
returns c e = four_have c.args.place c.args.answers.now c.args.series.now c.in-Some.one.now c.in-Some-get.two.now c.in-Some-get-2.three.now c.in-Some-get-3.four.now c.args.start
    c.index-answers-start.result c.index-answers-start-2.result c.index-answers-start-3.result c.index-answers-start-4.result
    (omega (arith, c.if-answers-start-lt4.false))
    (sym (ap option_copied c.in-Some.is) ∙ c.get.ensures) (sym (ap option_copied c.in-Some-get.is) ∙ c.get-2.ensures) (sym (ap option_copied c.in-Some-get-2.is) ∙ c.get-3.ensures) (sym (ap option_copied c.in-Some-get-3.is) ∙ c.get-4.ensures)
    (c.are_four.ensures e)
