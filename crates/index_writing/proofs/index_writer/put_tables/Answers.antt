use Rattle.std.proofs.Common.{length, ◌+◌, sym, ap, ◌∙◌}
use Rattle.index_writing.proofs.PartsLaws.{as_many_indices, as_many_lists}
use Rattle.index_writing.proofs.index_writer.put_tables.Goals as goal

pub put_label_offsets-requires : goal.put_label_offsets-requires
put_label_offsets-requires c = ap length c.members.ensures ∙ sym (ap length c.requires.label_indices ∙ as_many_indices _)

pub put_table-requires : goal.put_table-requires
put_table-requires c = ap length c.members-3.ensures ∙ ap length c.requires.lists ∙ as_many_lists _ ∙ sym (ap (λ l. length l + 1) c.members-2.ensures)
