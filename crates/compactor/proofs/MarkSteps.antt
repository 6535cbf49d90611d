-- A marking is a run of its plan, and then of what follows.
use Rattle.std.proofs.Common.{◌≡◌, ℕ, ◌+◌, List, [], ◌∷◌, refl, sym, subst, Some, None, Result}
use Rattle.base.specs.declared.memory.NoMemory.{NoMemory}
use Rattle.block_keys.specs.declared.key.Key.TheVariants as key
use Rattle.world_core.specs.Plans.{Plan, Keeps, ends, puts, and_then, asked}
use Rattle.world_core.specs.Machines.{GoesOn}
use Rattle.world_core.specs.Operations.{entry_of}
use Rattle.world_core.specs.declared.op.Op.{Op}
use Rattle.world_core.specs.declared.seen.Seen.{Seen}
use Rattle.world_core.specs.declared.act.Act.{Act}
use Rattle.world_core.specs.Leads.{after_entry, does, LeadsBy}
use Rattle.compactor.specs.NewMarks.{new_mark_text}
use Rattle.compactor.specs.Marking.{details_of, marking, marks_of}
use Rattle.compactor.specs.MarkStates.{left_at, left_of, asked_at, asked_mark}
use Rattle.compactor.specs.contracts.marks.MarksMachine.TheImpl.{ghosts}
use Rattle.compactor.specs.declared.reason.Reason.{Reason}
use Rattle.compactor.specs.declared.marks.MarkStage.{MarkStage}
use Rattle.compactor.specs.declared.marks.MarkStage.TheVariants.{Fresh, Looking, Putting}
use Rattle.compactor.specs.declared.marks.Marks.{Marks}
use Rattle.compactor.specs.declared.marks.MarksEnd.{MarksEnd}
use Rattle.compactor.specs.declared.marks.MarksEnd.TheVariants as marked
use Rattle.world_core.proofs.LeadSteps.{opens_by, steps_by}
use Rattle.world_core.proofs.PlanLaws.{answered, breaks_off}
use Rattle.world_core.proofs.PlanWords.{gets_then, puts_then, gets_keeps, puts_keeps}

-- what is left begins with the operation that is waited for
asked_as : (stage : MarkStage) (reason : Reason) (put : ℕ) (waiting : List ℕ) (o : Op) → asked_at stage reason ≡ Some o → asked (left_at stage reason put waiting) ≡ Some o
asked_as Fresh reason put waiting o is = absurd (cc (is))
asked_as (Looking ulid) reason put waiting o is = is
asked_as (Putting ulid looked) reason put waiting o is = is

pub asked_left : (marks : Marks) (o : Op) → asked_mark marks ≡ Some o → asked (left_of marks) ≡ Some o
asked_left marks o is = asked_as marks.stage marks.reason marks.put marks.waiting.items o is

-- it may be stopped wherever it stands, and as soon as its operation is answered
pub rests : (m : Marks) → ghosts.may m [] None m
rests m = breaks_off (left_of m)

pub answers : (m : Marks) (seat : ℕ) (o : Op) (seen : Seen) → ghosts.asked m ≡ Some o → ghosts.may m (entry_of seat o seen ∷ []) None m
answers m seat o seen is = answered (left_of m) (entry_of seat o seen) (asked_left m o is)

module _ (old new : Marks) (r : Result (Act MarksEnd) NoMemory) (stage : MarkStage) (is : old.stage ≡ stage) where
  -- a first call goes on
  pub mark_opens : LeadsBy left_of asked_mark (left_at stage old.reason old.put old.waiting.items) r new → GoesOn (does left_of) asked_mark old [] r new
  mark_opens leads = opens_by left_of asked_mark asked_left old new r (subst (λ s. LeadsBy left_of asked_mark (left_at s old.reason old.put old.waiting.items) r new) (sym is) leads)

  -- a step goes on
  pub mark_steps : (seat : ℕ) (o : Op) (seen : Seen) → asked_mark old ≡ Some o
      → LeadsBy left_of asked_mark (after_entry (left_at stage old.reason old.put old.waiting.items) (entry_of seat o seen)) r new
      → GoesOn (does left_of) asked_mark old (entry_of seat o seen ∷ []) r new
  mark_steps seat o seen waits leads =
      steps_by left_of asked_mark asked_left old new seat o seen r waits
      (subst (λ s. LeadsBy left_of asked_mark (after_entry (left_at s old.reason old.put old.waiting.items) (entry_of seat o seen)) r new) (sym is) leads)

-- the marking and then what follows its end is the marking with what follows it
pub marks_then : {E : Type 0} (fault : ℕ → E) (next : MarksEnd → Plan E) (reason : Reason) (put : ℕ) (ulids : List ℕ) → ((n : ℕ) → next (marked.Fault n) ≡ ends (fault n))
    → and_then (marks_of reason put ulids) next ≡ marking fault reason put ulids (λ all. next (marked.Done all))
marks_then fault next reason put [] fails = refl
marks_then fault next reason put (ulid ∷ ulids) fails =
    gets_then marked.Fault fault next fails (key.Mark ulid)
    (λ e bytes. marks_of reason put ulids)
    (λ e. puts marked.Fault (key.Mark ulid) (new_mark_text ulid e.moment (details_of reason)) (λ stored. marks_of reason (put + 1) ulids))
    (λ e bytes. marking fault reason put ulids (λ all. next (marked.Done all)))
    (λ e. puts fault (key.Mark ulid) (new_mark_text ulid e.moment (details_of reason)) (λ stored. marking fault reason (put + 1) ulids (λ all. next (marked.Done all))))
    (λ e bytes. marks_then fault next reason put ulids fails)
    (λ e. puts_then marked.Fault fault next fails (key.Mark ulid) (new_mark_text ulid e.moment (details_of reason)) (λ stored. marks_of reason (put + 1) ulids)
    (λ stored. marking fault reason (put + 1) ulids (λ all. next (marked.Done all)))
    (λ stored. marks_then fault next reason (put + 1) ulids fails))

-- a marking keeps of what follows it
pub marks_keep : {E : Type 0} (fault : ℕ → E) (reason : Reason) (put : ℕ) (ulids : List ℕ) (next next' : ℕ → Plan E) → ((all : ℕ) → Keeps (next all) (next' all))
    → Keeps (marking fault reason put ulids next) (marking fault reason put ulids next')
marks_keep fault reason put [] next next' keeps = keeps put
marks_keep fault reason put (ulid ∷ ulids) next next' keeps =
    gets_keeps fault (key.Mark ulid)
    (λ e bytes. marking fault reason put ulids next)
    (λ e bytes. marking fault reason put ulids next')
    (λ e. puts fault (key.Mark ulid) (new_mark_text ulid e.moment (details_of reason)) (λ stored. marking fault reason (put + 1) ulids next))
    (λ e. puts fault (key.Mark ulid) (new_mark_text ulid e.moment (details_of reason)) (λ stored. marking fault reason (put + 1) ulids next'))
    (λ e bytes. marks_keep fault reason put ulids next next' keeps)
    (λ e. puts_keeps fault (key.Mark ulid) (new_mark_text ulid e.moment (details_of reason)) (λ stored. marking fault reason (put + 1) ulids next)
    (λ stored. marking fault reason (put + 1) ulids next')
    (λ stored. marks_keep fault reason (put + 1) ulids next next' keeps))
