use Rattle.std.proofs.Common.{◌≡◌, ◌++◌, drop, map}
use Rattle.index_writing.specs.LabelGroups.{with_first, grouped}
use Rattle.index_writing.proofs.label_groups.grouped.Given as goal

-- the groups that are done, the one that is being made and what is left make the whole
abbrev pub invariant-loop-member : goal.invariant-loop-member
invariant-loop-member g l =
    l.groups.items ++ with_first g.G.Group.same g.G.Group.join l.group (grouped g.G.Group.same g.G.Group.join (map g.G.Group.of (drop l.member-index l.others))) ≡ grouped g.G.Group.same g.G.Group.join (map g.G.Group.of l.members)
