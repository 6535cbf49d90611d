use Rattle.std.proofs.Common.{◌≡◌, take}
use Rattle.serde_json.specs.View.{members_view}
use Rattle.block_meta.specs.MetaValue.{label_members}
use Rattle.block_meta.proofs.thanos.write_members.Given as goal

abbrev pub invariant-loop-label : goal.invariant-loop-label
invariant-loop-label l = members_view l.members.entries ≡ label_members (take l.label-index l.labels)
