use Rattle.std.proofs.Common.{◌++◌, length}
use Rattle.index_parts.specs.LabelIndices.{label_index_content}
use Rattle.index_writing.proofs.Writing.{same_content, values_few, values_stand}
use Rattle.std.proofs.lemmas.Result.{on_ok_weaker}
use Rattle.index_writing.proofs.Sizes.{values_small}
use Rattle.index_writing.proofs.list_writing.write_label_index.Goals as goal

pub values_content-requires-clause-count : goal.values_content-requires-clause-count
values_content-requires-clause-count c = rw c.members.ensures (values_few _ (values_small _ c.requires.count))

pub returns-clause-stands : goal.returns-clause-stands
returns-clause-stands c = λ after. on_ok_weaker c.append_section.result (λ section. values_stand (c.append_section.new.out.items ++ after) (length c.args.out.now.items) c.args.values.now (values_small _ c.requires.count) c.requires.numbers (same_content (λ x. label_index_content x) _ _ _ _ _ _ section c.as_slice.ensures.value c.in_ok-content.ensures c.members.ensures)) (c.append_section.ensures.stands after)

pub append_section-requires : goal.append_section-requires
append_section-requires c = rw (c.as_slice.ensures.value, c.in_ok-content.ensures, c.members.ensures) (values_small _ c.requires.count)
