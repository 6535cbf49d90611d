use Rattle.std.proofs.Common.{◌≡◌, take, Ok}
use Rattle.serde_json.specs.View.{items_view}
use Rattle.block_meta.specs.Members.{each}
use Rattle.block_meta.proofs.item.read_items.Given as goal

abbrev pub invariant-loop-value : goal.invariant-loop-value
invariant-loop-value g l = each (g.T.Item.reads l.list) (items_view (take l.value-index l.values.items)) ≡ Ok l.found
