use Rattle.std.proofs.Common.{◌≡◌, None, Ok, map}
use Rattle.std.specs.Prelude.{option_map}
use Rattle.base.specs.Members.{members_at}
use Rattle.index_parts.proofs.list_reading.members_of.Given as goal

abbrev pub invariant-loop : goal.invariant-loop
invariant-loop g l =
    let member = g.M.Member in
    members_at member.reads l.counter (None, l.fn.cursor) ≡ Ok (map member.said l.members.items, (option_map member.said l.before, l.cursor))
