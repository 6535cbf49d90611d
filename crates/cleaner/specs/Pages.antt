-- What a page of names is to a walk that has listed so many names.
use Rattle.std.specs.Prelude.{ℕ, ◌+◌, Bool, true, false, nat_lt, nat_le, List, length, Option}
use Rattle.base.specs.Order.{are_in_order_after, comes_after}
use Rattle.label_sets.specs.Labels.{compare_texts}
use Rattle.world_core.specs.Limits.{most_listed}
use Rattle.cleaner.specs.declared.walk.Page.{Page}
use Rattle.cleaner.specs.declared.walk.Page.TheVariants.{Unordered, Last, TooMany, Full}

-- by three tests: whether its names ascend, whether it is a short one, and whether so many names were listed as may be
abbrev pub page_by : Bool → Bool → Bool → Page
page_by false short many = Unordered
page_by true true many = Last
page_by true false true = TooMany
page_by true false false = Full

-- the page that comes where so many names were listed, and this one last
abbrev pub page_of : ℕ → ℕ → Option (List ℕ) → List (List ℕ) → Page
page_of limit listed last page = page_by (are_in_order_after (comes_after compare_texts) last page) (nat_lt (length page) limit) (nat_le most_listed (listed + length page))
