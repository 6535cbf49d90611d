-- What a pass knows of the journal's length after an operation, and after it looked.
use Rattle.std.proofs.Common.{◌≡◌, ℕ, ◌<◌, ◌≤◌, [], sym, ◌∙◌, subst, arith, append-nil}
use mathlib.Core.List.{IsPrefix}
use Rattle.world_core.specs.Machines.{IfDone}
use Rattle.world_core.specs.declared.act.Acted.{Acted}
use Rattle.world_core.specs.declared.act.Acted.TheVariants.{Done, Full, NoMemory}
use Rattle.world_core.specs.declared.op.Op.{Op}
use Rattle.world_turn.specs.Turns.{Acts, IsLater, Looks}
use Rattle.world_turn.specs.declared.view.View.{View}
use Rattle.world_turn.proofs.Fronts.{front_whole}

pub acts_above : (v : View) (op : Op) (acted : Acted) (w : View) → Acts v op acted w → IfDone acted (λ seen. v.known < seen.seq)
acts_above v op (Done seen) w a = let number = a.number in let known = a.finds.known in omega (arith, number, known)
acts_above v op Full w a = tt
acts_above v op NoMemory w a = tt

pub acts_within : (v : View) (op : Op) (acted : Acted) (w : View) → Acts v op acted w → IfDone acted (λ seen. seen.seq ≤ w.known)
acts_within v op (Done seen) w a = let number = a.number in let known = a.known in omega (arith, number, known)
acts_within v op Full w a = tt
acts_within v op NoMemory w a = tt

pub looks_later : (v : View) (count : ℕ) (w : View) → Looks v count w → IsLater v w
looks_later v count w l = record {
  known = subst (λ n. v.known ≤ n) (sym l.known) l.later;
  front = subst (IsPrefix v.front) (sym l.front) (front_whole v.front);
  made = ([], l.own ∙ sym (append-nil v.own), tt);
}
