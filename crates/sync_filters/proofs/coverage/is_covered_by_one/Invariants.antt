use Rattle.std.proofs.Common.{◌≡◌, false, take}
use Rattle.std.specs.List.{list_any}
use Rattle.sync_filters.specs.Holders.{covers_at}
use Rattle.sync_filters.proofs.coverage.is_covered_by_one.Given as goal

abbrev pub invariant-loop-holder : goal.invariant-loop-holder
invariant-loop-holder l = list_any (λ h. covers_at l.listed l.block h.place) (take l.holder-index l.few) ≡ false
