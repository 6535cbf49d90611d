use Rattle.std.proofs.Common.{◌++◌, length}
use Rattle.index_parts.specs.Rows.{MayComeAfter, IsNextRow, IsWritable, row_text}
use Rattle.index_writing.proofs.Writing.{count_fits, list_written, row_writing}
use Rattle.index_writing.proofs.list_writing.write_postings_table.Goals as goal

pub write_list-requires-clause-count : goal.write_list-requires-clause-count
write_list-requires-clause-count c = rw c.members.ensures (count_fits row_text row_writing.some _ c.requires)

pub returns-clause-stands : goal.returns-clause-stands
returns-clause-stands c = λ order after. list_written IsNextRow MayComeAfter IsWritable row_text row_writing c.write_list.result (c.write_list.new.out.items ++ after) (length c.args.out.now.items) _ _ c.members.ensures c.requires c.write_list.ensures.fit order (c.write_list.ensures.stands after)
