use Rattle.std.proofs.Common.{◌≡◌, drop}
use Rattle.std.specs.Option.{option_copied}
use Rattle.base.specs.Order.{are_in_order_after, comes_after}
use Rattle.label_sets.specs.Labels.{compare_texts}
use Rattle.world_core.proofs.page_names.ascends.Given as goal

abbrev pub invariant-loop-name : goal.invariant-loop-name
invariant-loop-name l = are_in_order_after (comes_after compare_texts) (option_copied l.last) (drop l.name-index l.names) ≡ are_in_order_after (comes_after compare_texts) (option_copied l.fn.before) l.names
