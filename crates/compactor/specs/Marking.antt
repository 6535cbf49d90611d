-- Deletion marks that are put one after another.
use Rattle.std.specs.Prelude.{ℕ, ◌+◌, List, [], ◌∷◌, codes}
use Rattle.block_keys.specs.declared.key.Key.TheVariants as key
use Rattle.world_core.specs.Plans.{Plan, ends, gets, puts}
use Rattle.compactor.specs.NewMarks.{new_mark_text}
use Rattle.compactor.specs.declared.marks.MarksEnd.{MarksEnd}
use Rattle.compactor.specs.declared.marks.MarksEnd.TheVariants.{Done, Fault}
use Rattle.compactor.specs.declared.reason.Reason.{Reason}
use Rattle.compactor.specs.declared.reason.Reason.TheVariants.{Covered, Compacted, Expired}

-- what a mark tells of its reason
abbrev pub details_of : Reason → List ℕ
details_of Covered = codes "covered"
details_of Compacted = codes "compacted"
details_of Expired = codes "expired"

-- A look at the mark of each of these blocks, one after another, and where a block has none the put of one; a call that fails is the
-- end. What follows takes the number of marks that were put.
abbrev pub marking : {E : Type 0} → (ℕ → E) → Reason → ℕ → List ℕ → (ℕ → Plan E) → Plan E
marking fault reason put [] next = next put
marking fault reason put (ulid ∷ ulids) next =
    gets fault (key.Mark ulid)
    (λ e bytes. marking fault reason put ulids next)
    (λ e. puts fault (key.Mark ulid) (new_mark_text ulid e.moment (details_of reason)) (λ stored. marking fault reason (put + 1) ulids next))

-- the same by itself, after so many marks
abbrev pub marks_of : Reason → ℕ → List ℕ → Plan MarksEnd
marks_of reason put ulids = marking Fault reason put ulids (λ all. ends (Done all))
