use Rattle.std.proofs.Common.{◌≡◌, []}
use Rattle.serde_json.specs.View.{members_view}
use Rattle.block_meta.specs.MetaReading.{labels_from}
use Rattle.block_meta.proofs.thanos.add_labels.Given as goal

-- what is read and what is still to read is the whole
abbrev pub invariant-loop-name : goal.invariant-loop-name
invariant-loop-name l =
    labels_from [] (members_view l.members.entries) ≡ labels_from l.found (members_view l.name-iterator)
