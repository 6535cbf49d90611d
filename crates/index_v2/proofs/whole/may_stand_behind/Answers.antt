use Rattle.std.proofs.Common.{sym, ap, is_lt, ◌∙◌}
use Rattle.std.specs.Cmp.Lexicographic.{slice_cmp}
use Rattle.index_v2.specs.Ranks.{compare_ranks}
use Rattle.index_v2.proofs.RankedSeries.{behind_none, behind_some}
use Rattle.index_v2.proofs.whole.may_stand_behind.Goals as goal

pub returns-in-None : goal.returns-in-None
returns-in-None c = λ symbols made series known are is. behind_none symbols made _ series are (sym c.in-None.ensures.value)

pub returns-in-Some : goal.returns-in-Some
returns-in-Some c =
    λ symbols made series known are is. behind_some symbols made _ series _ _ _ known are is (sym c.in-Some.ensures.value) (c.is_lt.ensures ∙ ap is_lt (c.compare_lists.ensures ∙ ap (λ l. slice_cmp compare_ranks l c.args.ranks.now) c.members.ensures))
