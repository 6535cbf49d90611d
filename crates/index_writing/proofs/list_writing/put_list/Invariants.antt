use Rattle.std.proofs.Common.{◌≡◌, ◌++◌, take}
use Rattle.std.specs.List.{flat_map, AllByRecursion}
use Rattle.index_writing.proofs.list_writing.put_list.Given as goal

abbrev pub invariant-loop-member : goal.invariant-loop-member
invariant-loop-member g l =
    let member = g.T.Member in
    (l.content.items ≡ l.initial.content.items ++ flat_map member.text (take l.member-index l.members)) × AllByRecursion member.fits (take l.member-index l.members)
