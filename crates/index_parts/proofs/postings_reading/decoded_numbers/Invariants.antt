use Rattle.std.proofs.Common.{◌≡◌, ◌≤◌, length, map, take, drop, true, vec_len, vec_capacity}
use Rattle.std.specs.Int.{w32, from_be_bytes}
use Rattle.std.specs.Ordering.{nat_cmp}
use Rattle.base.specs.Order.{ComesAfter}
use Rattle.index_parts.specs.Turns.{InOrder, InOrderAfter}
use Rattle.index_parts.proofs.Decoding.{below_least}
use Rattle.index_parts.proofs.postings_reading.decoded_numbers.Given as goal

abbrev pub invariant-loop-front : goal.invariant-loop-front
invariant-loop-front l = record {
  count : vec_len l.numbers ≡ l.front-index;
  room : length l.fronts ≤ vec_capacity l.numbers;
  items : l.numbers.items ≡ map (from_be_bytes w32) (take l.front-index l.fronts);
  rise : l.ascend ≡ true → InOrderAfter (ComesAfter nat_cmp) (below_least l.least) (map (from_be_bytes w32) (drop l.front-index l.fronts)) → InOrder (ComesAfter nat_cmp) (map (from_be_bytes w32) l.fronts);
}
