use Rattle.std.proofs.Common.{arith, ◌∙◌, []}
use Rattle.std.specs.Int.{w32, from_be_bytes}
use Rattle.index_parts.proofs.Decoding.{taken_more, risen_more, all_risen}
use Rattle.index_parts.proofs.postings_reading.decoded_numbers.Goals as goal

pub loop-front-init : goal.loop-front-init
loop-front-init c = record {
  count = c.in_ok-numbers.ensures.len;
  room = c.in_ok-numbers.ensures.capacity;
  items = c.in_ok-numbers.ensures.items;
  rise = λ _ h. h;
}

pub push_reserved-requires : goal.push_reserved-requires
push_reserved-requires c = let so_far = c.loop-front.invariant in omega arith

pub loop-front-preserved : goal.loop-front-preserved
loop-front-preserved c =
    let so_far = c.loop-front.invariant in
    let number = c.from-number.ensures ∙ c.from_be_bytes.ensures in
    record {
      count = omega (arith, c.push_reserved.ensures.len, so_far.count);
      room = omega (arith, c.push_reserved.ensures.capacity, so_far.room);
      items = taken_more (from_be_bytes w32) c.args.fronts.now c.loop-front.front-index [] c.from-number.result _ _ c.loop-front-test.true so_far.items number c.push_reserved.ensures.items;
      rise = risen_more (from_be_bytes w32) c.args.fronts.now c.loop-front.front-index [] c.loop-front.ascend c.loop-front.least c.from-number.result _ c.loop-front-test.true number so_far.rise;
    }

pub returns-then-ascend-clause-decoded : goal.returns-then-ascend-clause-decoded
returns-then-ascend-clause-decoded c =
    let so_far = c.loop-front.invariant in
    all_risen _ _ _ _ _ _ c.loop-front-test.false so_far.items so_far.rise c.if-ascend.true
