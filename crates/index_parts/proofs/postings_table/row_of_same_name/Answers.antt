use Rattle.std.proofs.Common.{◌∙◌, Err, ap, refl, sym}
use Rattle.index_parts.specs.Lent.{row_of}
use Rattle.index_parts.proofs.SameNames.{same_row, same_text, same_order}
use Rattle.index_parts.proofs.postings_table.row_of_same_name.Goals as goal
use Rattle.index_parts.proofs.postings_table.row_of_same_name.Goals.{in_default-via-in-Ok+else-lt, in_default-via-in-Err+else-is_lt}

pub returns-in-Ok : goal.returns-in-Ok
returns-in-Ok c = same_row (row_of c.args.before) _ _ _ _ _ _ c.requires.same c.requires.name _ _ c.in-Ok.ensures.1 c.lt.ensures c.if-lt.true c.in-Ok.ensures.0

pub returns-in-Err : goal.returns-in-Err
returns-in-Err c = same_text (row_of c.args.before) _ _ _ _ _ _ c.requires.same c.requires.name _ (rw (c.cmp.ensures, c.as_bytes.ensures.value) at c.is_lt.ensures) c.if-is_lt.true c.in-Err.ensures.0 ∙ ap Err (sym c.in-Err.ensures.1)

pub returns-in_default : goal.returns-in_default
returns-in_default c = elim c.in_default.branch [
  | in_default-via-in-Ok+else-lt w ↦ same_order (row_of c.args.before) _ _ _ _ _ _ c.requires.same c.requires.name _ _ w.in-Ok.ensures.1 w.lt.ensures w.if-lt.false
  | in_default-via-in-Err+else-is_lt w ↦ same_order (row_of c.args.before) _ _ c.args.fields.name_end c.args.fields.value.now c.args.fields.value_end c.args.fields.offset c.requires.same c.requires.name _ _ refl (rw (w.cmp.ensures, w.as_bytes.ensures.value) at w.is_lt.ensures) w.if-is_lt.false
]
