use Rattle.std.proofs.Common.{◌++◌, length, ◌<◌, ◌^◌}
use Rattle.std.specs.Int.{w32, to_be_bytes}
use Rattle.std.specs.Ordering.{nat_cmp}
use Rattle.base.specs.Order.{ComesAfter}
use Rattle.index_parts.specs.Postings.{IsNextPosting}
use Rattle.index_writing.proofs.Sizes.{postings_small}
use Rattle.index_writing.proofs.Writing.{count_fits, list_written, posting_writing}
use Rattle.index_writing.proofs.list_writing.write_postings.Goals as goal

pub write_list-requires-clause-count : goal.write_list-requires-clause-count
write_list-requires-clause-count c = rw c.members.ensures (count_fits (to_be_bytes w32) posting_writing.some _ (postings_small _ c.requires.count))

pub write_list-requires-clause-size : goal.write_list-requires-clause-size
write_list-requires-clause-size c = rw c.members.ensures (postings_small _ c.requires.count)

pub returns-clause-stands : goal.returns-clause-stands
returns-clause-stands c = λ order after. list_written IsNextPosting (ComesAfter nat_cmp) (λ n. n < 2 ^ 32) (to_be_bytes w32) posting_writing c.write_list.result (c.write_list.new.out.items ++ after) (length c.args.out.now.items) _ _ c.members.ensures (postings_small _ c.requires.count) c.write_list.ensures.fit order (c.write_list.ensures.stands after)
