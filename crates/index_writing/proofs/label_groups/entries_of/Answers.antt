use Rattle.std.proofs.lemmas.Slice.Zip.{Zip-more, either_empty_from_Zip}
use Rattle.index_writing.proofs.PairLists.{two_more, two_all}
use Rattle.index_writing.specs.LabelGroups.{entries_of, all_entries}
use Rattle.index_writing.proofs.Entries.{all_law, none_law, no_numbers, entries_added}
use Rattle.index_writing.proofs.label_groups.entries_of.Goals as goal

pub loop-one-preserved : goal.loop-one-preserved
loop-one-preserved c =
    let more = Zip-more c.loop-one.one-iterator c.next.new.self _ _ c.in-Some.is c.next.ensures.steps in
    two_more all_entries entries_of all_law _ _ _ _ _ _ _ _ _ more.0 more.1 c.loop-one.invariant
    (entries_added _ _ _ _ c.loop-one.entries.items _ c.members.ensures c.members-in-loop-one.ensures c.in_ok-add_entries.ensures)

pub returns : goal.returns
returns c = two_all all_entries none_law no_numbers _ _ _ _ (either_empty_from_Zip c.loop-one.one-iterator c.next.new.self _ c.in-None.is c.next.ensures.steps) c.loop-one.invariant
