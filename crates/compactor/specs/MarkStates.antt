-- The plan at which a marking stands in each of its states, and what it waits for. The machine's steps alone speak of this.
use Rattle.std.specs.Prelude.{ℕ, ◌+◌, ◌*◌, List, ◌∷◌, length, Option, Some, None}
use Rattle.block_keys.specs.declared.key.Key.TheVariants as key
use Rattle.world_core.specs.Plans.{Plan, puts}
use Rattle.world_core.specs.declared.op.Op.{Op}
use Rattle.world_core.specs.declared.op.Op.TheVariants as op
use Rattle.compactor.specs.NewMarks.{new_mark_text}
use Rattle.compactor.specs.Marking.{details_of, marks_of}
use Rattle.compactor.specs.declared.reason.Reason.{Reason}
use Rattle.compactor.specs.declared.marks.MarkStage.{MarkStage}
use Rattle.compactor.specs.declared.marks.MarkStage.TheVariants.{Fresh, Looking, Putting}
use Rattle.compactor.specs.declared.marks.Marks.{Marks}
use Rattle.compactor.specs.declared.marks.MarksEnd.{MarksEnd}
use Rattle.compactor.specs.declared.marks.MarksEnd.TheVariants.{Fault}

abbrev pub left_at : MarkStage → Reason → ℕ → List ℕ → Plan MarksEnd
left_at Fresh reason put waiting = marks_of reason put waiting
left_at (Looking ulid) reason put waiting = marks_of reason put (ulid ∷ waiting)
left_at (Putting ulid looked) reason put waiting =
    puts Fault (key.Mark ulid) (new_mark_text ulid looked (details_of reason)) (λ stored. marks_of reason (put + 1) waiting)

abbrev pub left_of : Marks → Plan MarksEnd
left_of marks = left_at marks.stage marks.reason marks.put marks.waiting.items

abbrev pub asked_at : MarkStage → Reason → Option Op
asked_at Fresh reason = None
asked_at (Looking ulid) reason = Some (op.Get (key.Mark ulid))
asked_at (Putting ulid looked) reason = Some (op.Put (key.Mark ulid) (new_mark_text ulid looked (details_of reason)))

abbrev pub asked_mark : Marks → Option Op
asked_mark marks = asked_at marks.stage marks.reason

-- at most so many operations are still asked for, and one more
abbrev pub count_at : MarkStage → ℕ → ℕ
count_at Fresh waiting = 2 * waiting + 1
count_at (Looking ulid) waiting = 2 * waiting + 2
count_at (Putting ulid looked) waiting = 2 * waiting + 1

abbrev pub count_of : Marks → ℕ
count_of marks = count_at marks.stage (length marks.waiting.items)
