use Rattle.std.proofs.Common.{◌≡◌, ℕ, List, take, Ok, All}
use Rattle.serde_json.specs.View.{items_view}
use Rattle.block_meta.specs.MetaValue.{items_value}
use Rattle.block_meta.proofs.item.write_items.Given as goal

abbrev pub invariant-loop-item : goal.invariant-loop-item
invariant-loop-item g l = record {
  written : items_view l.made.items ≡ items_value g.T.Item.written (take l.item-index l.items);
  again : All (λ x. (name : List ℕ) → g.T.Item.reads name (g.T.Item.written x) ≡ Ok x) (take l.item-index l.items);
  fits : All g.T.Item.fits (take l.item-index l.items);
}
