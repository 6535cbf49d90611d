use Rattle.std.proofs.Common.{◌≡◌, ◌++◌, map, drop}
use Rattle.std.specs.Prelude.{not}
use Rattle.std.specs.List.{filter}
use Rattle.sync_filters.specs.Filters.{is_covered}
use Rattle.sync_filters.proofs.coverage.split.Given as goal

abbrev pub invariant-loop-is_left : goal.invariant-loop-is_left
invariant-loop-is_left l = record {
  tested : drop l.is_left-index l.covered ≡ map (is_covered l.fn.listed.items) l.rest.items;
  kept : l.kept ++ filter (λ block. not (is_covered l.fn.listed.items block)) l.rest.items ≡ filter (λ block. not (is_covered l.fn.listed.items block)) l.fn.listed.items;
  left : l.left ++ filter (is_covered l.fn.listed.items) l.rest.items ≡ filter (is_covered l.fn.listed.items) l.fn.listed.items;
}
