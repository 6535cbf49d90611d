use Rattle.label_sets.proofs.ReadPairs.{pair_shape, shape_name, shape_value, shape_last, shape_shorter}
use Rattle.label_sets.proofs.notation.read_pair.Goals as goal

pub name_text-requires : goal.name_text-requires
name_text-requires c = shape_name _ _ _ _ (pair_shape _ _ _ _ _ _ _ _ _ c.name_length.ensures.value c.split_at.ensures.front c.split_at.ensures.back c.in_ok-after.ensures.answers c.in_ok-inside.ensures.answers c.in_ok-value.ensures) c.requires

pub value_text-requires : goal.value_text-requires
value_text-requires c = shape_value _ _ _ _ (pair_shape _ _ _ _ _ _ _ _ _ c.name_length.ensures.value c.split_at.ensures.front c.split_at.ensures.back c.in_ok-after.ensures.answers c.in_ok-inside.ensures.answers c.in_ok-value.ensures) c.requires

pub returns-clause-shorter : goal.returns-clause-shorter
returns-clause-shorter c = shape_shorter _ _ _ _ (pair_shape _ _ _ _ _ _ _ _ _ c.name_length.ensures.value c.split_at.ensures.front c.split_at.ensures.back c.in_ok-after.ensures.answers c.in_ok-inside.ensures.answers c.in_ok-value.ensures)

pub returns-clause-utf8 : goal.returns-clause-utf8
returns-clause-utf8 c = shape_last _ _ _ _ (pair_shape _ _ _ _ _ _ _ _ _ c.name_length.ensures.value c.split_at.ensures.front c.split_at.ensures.back c.in_ok-after.ensures.answers c.in_ok-inside.ensures.answers c.in_ok-value.ensures) c.requires
