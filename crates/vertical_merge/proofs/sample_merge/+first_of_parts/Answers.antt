use Rattle.std.proofs.Common.{◌∙◌}
use Rattle.vertical_merge.proofs.FirstsJoined.{ascends_first, halves_joined}
use Rattle.vertical_merge.proofs.sample_merge.+first_of_parts.Goals as goal

pub merge-requires-clause-ascend : goal.merge-requires-clause-ascend
merge-requires-clause-ascend t c = ascends_first _ _ _ c.in_ok-first.ensures c.into_vec.ensures

pub merge-requires-clause-others : goal.merge-requires-clause-others
merge-requires-clause-others t c = ascends_first _ _ _ c.in_ok-second.ensures c.members.ensures

pub returns : goal.returns
returns t c = c.from_vec.ensures ∙ halves_joined _ _ _ _ _ _ _ _ _
    c.in_ok-back.ensures.items c.in_ok-back.ensures.tail c.in_ok-first.ensures c.in_ok-second.ensures c.into_vec.ensures c.members.ensures c.in_ok-made.ensures
