-- The laws of stable sorting stand in base.
pub use Rattle.base.proofs.StableSorts.{NoneLess, Rises, Rises-from_sorted, Rises-in_order, filter-in_order, same_in_order, in_order-from_sort}
pub use Rattle.base.proofs.Lists.{filter_hit, filter_miss}
