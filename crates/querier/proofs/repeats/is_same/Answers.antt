use Rattle.std.proofs.Common.{◌∙◌, sym}
use Rattle.querier.proofs.ToldOnce.{same_series}
use Rattle.querier.proofs.repeats.is_same.Goals as goal

pub returns-then-eq : goal.returns-then-eq
returns-then-eq c same = same_series c.args.series.now c.args.other.now (sym c.eq.ensures ∙ c.if-eq.true) (sym c.members.ensures ∙ (c.have_same.ensures same ∙ c.members-then-eq.ensures))
