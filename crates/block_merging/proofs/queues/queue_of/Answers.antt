use Rattle.std.proofs.Common.{ℕ, List, refl, sym, subst}
use Rattle.index_parts.specs.IndexFile.{IsIndex}
use Rattle.std.specs.List.{AllByRecursion}
use Rattle.block_merging.specs.Queues.{IsRead}
use Rattle.block_merging.proofs.InputWalks.{test_stopped, test_short, test_passed}
use Rattle.block_merging.proofs.QueueSteps.{numbers_small, numbers_many, each_read, next_again, queue_begins}
use Rattle.block_merging.proofs.WholeListing.{index_ascends}
use Rattle.block_merging.proofs.queues.queue_of.Goals as goal

pub returns-in_err-indexed-clause-tested : goal.returns-in_err-indexed-clause-tested
returns-in_err-indexed-clause-tested c = test_stopped c.args.block.now c.from_residual.result c.in_err-indexed.field-0.0 c.from_residual.ensures.1 c.in_err-indexed.ensures.refused c.in_err-indexed.ensures.only c.in_err-indexed.ensures.refuses

pub returns-in_err-reader-clause-tested : goal.returns-in_err-reader-clause-tested
returns-in_err-reader-clause-tested c = test_short c.args.block.now c.from_residual-in_err-reader.result c.from_residual-in_err-reader.ensures.1

pub returns-in_err-places-clause-tested : goal.returns-in_err-places-clause-tested
returns-in_err-places-clause-tested c = test_short c.args.block.now c.from_residual-in_err-places.result c.from_residual-in_err-places.ensures.1

pub returns-in_err-chunks-clause-tested : goal.returns-in_err-chunks-clause-tested
returns-in_err-chunks-clause-tested c = test_short c.args.block.now c.from_residual-in_err-chunks.result c.from_residual-in_err-chunks.ensures.1

pub reader_and_numbers-requires : goal.reader_and_numbers-requires
reader_and_numbers-requires c = (c.in_ok-indexed.indexed, subst (λ (b : List ℕ). IsIndex b c.in_ok-indexed.indexed) (sym c.bytes.ensures) c.in_ok-indexed.ensures.found.0)

pub ordered_places-requires-clause-small : goal.ordered_places-requires-clause-small
ordered_places-requires-clause-small c =
    let is = c.in_ok-indexed.ensures.found.0 in
    numbers_small c.args.block.now.index c.in_ok-indexed.indexed is c.in_ok-reader.reader c.in_ok-reader.numbers c.members-listed.result.now (c.in_ok-reader.ensures c.args.block.now.index c.in_ok-indexed.indexed is (sym c.bytes.ensures)) c.members-listed.ensures

pub ordered_places-requires-clause-as_many : goal.ordered_places-requires-clause-as_many
ordered_places-requires-clause-as_many c =
    let is = c.in_ok-indexed.ensures.found.0 in
    numbers_many c.args.block.now.index c.in_ok-indexed.indexed c.members-members.result.now is c.in_ok-reader.reader c.in_ok-reader.numbers c.members-listed.result.now (c.in_ok-reader.ensures c.args.block.now.index c.in_ok-indexed.indexed is (sym c.bytes.ensures)) c.members-listed.ensures c.members-members.ensures

pub ordered_places-requires-clause-ascend : goal.ordered_places-requires-clause-ascend
ordered_places-requires-clause-ascend c = index_ascends c.args.block.now.index c.in_ok-indexed.indexed c.members-members.result.now c.in_ok-indexed.ensures.found.0 c.members-members.ensures

pub next_of-requires : goal.next_of-requires
next_of-requires c =
    let is = c.in_ok-indexed.ensures.found.0 in
    subst (AllByRecursion (IsRead c.in_ok-reader.reader)) (sym c.as_slice.ensures.value)
    (each_read c.args.external.now c.args.replicas.now c.args.block.now c.in_ok-indexed.indexed is c.in_ok-reader.reader c.in_ok-reader.numbers c.members-listed.result.now c.members-members.result.now c.in_ok-places.places.items
    (c.in_ok-reader.ensures c.args.block.now.index c.in_ok-indexed.indexed is (sym c.bytes.ensures)) c.members-listed.ensures c.members-members.ensures c.in_ok-places.ensures)

pub returns : goal.returns
returns c =
    let is = c.in_ok-indexed.ensures.found.0 in
    record {
      tested = test_passed c.args.block.now c.in_ok-indexed.indexed _ c.in_ok-indexed.ensures.found.1 c.in_ok-indexed.ensures.refuses;
      has = queue_begins c.args.external.now c.args.replicas.now c.args.block.now c.in_ok-indexed.indexed is c.in_ok-reader.reader c.in_ok-reader.numbers c.members-listed.result.now c.members-members.result.now c.in_ok-places.places.items
          (c.in_ok-reader.ensures c.args.block.now.index c.in_ok-indexed.indexed is (sym c.bytes.ensures)) c.members-listed.ensures c.members-members.ensures c.in_ok-places.ensures _ c.in_ok-indexed.ensures.bytes c.in_ok-indexed.ensures.found.1 refl refl refl refl
          (next_again c.args.external.now c.args.replicas.now c.as_slice.result.now c.in_ok-places.places.items 0 _ _ c.as_slice.ensures.value c.in_ok-chunks.ensures);
    }
