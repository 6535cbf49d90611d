use Rattle.std.proofs.Common.{◌∙◌, ◌-◌, length, sym}
use Rattle.base.proofs.Membership.{contains_place}
use Rattle.querier.proofs.repeats.repeats_last.Goals as goal

pub returns-in-Some : goal.returns-in-Some
returns-in-Some c same = (
  c.in-Some.last.now,
  contains_place c.args.told.now (length c.args.told.now - 1) c.in-Some.last.now (sym c.in-Some.ensures.value),
  sym c.members.ensures ∙ (c.are_same.ensures same ∙ c.members-in-Some.ensures),
)
