use Rattle.std.proofs.lemmas.Slice.Zip.{Zip-more, either_empty_from_Zip}
use Rattle.index_writing.proofs.PairLists.{two_more, two_all}
use Rattle.index_writing.proofs.Entries.{labels_with, entry_with, labels_law, no_labels, no_values}
use Rattle.index_writing.proofs.label_groups.add_entries.Goals as goal

pub loop-name-preserved : goal.loop-name-preserved
loop-name-preserved c =
    let more = Zip-more c.loop-name.name-iterator c.next.new.self _ _ c.in-Some.is c.next.ensures.steps in
    two_more (labels_with c.args.series) (entry_with c.args.series) (labels_law _) _ _ _ _ _ _ _ _ _ more.0 more.1 c.loop-name.invariant c.in_ok-push.ensures.items

pub returns : goal.returns
returns c = two_all (labels_with c.args.series) (no_labels c.args.series) (no_values c.args.series) _ _ _ _ (either_empty_from_Zip c.loop-name.name-iterator c.next.new.self _ c.in-None.is c.next.ensures.steps) c.loop-name.invariant
