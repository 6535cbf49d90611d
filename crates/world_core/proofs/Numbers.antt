-- The numbers of the entries that are added by a hand that sees all of a journal.
use Rattle.std.proofs.Common.{◌≡◌, ℕ, ◌+◌, ◌<◌, ◌≤◌, List, [], ◌∷◌, ◌++◌, length, ap, ◌∙◌, arith, length-append}
use Rattle.world_core.specs.Operations.{entry_of}
use Rattle.world_core.specs.Machines.{IfDone, gained}
use Rattle.world_core.specs.declared.act.Acted.{Acted}
use Rattle.world_core.specs.declared.act.Acted.TheVariants.{Done, Full, NoMemory}
use Rattle.world_core.specs.declared.entry.Entry.{Entry}
use Rattle.world_core.specs.declared.op.Op.{Op}

pub above : (old : List Entry) (acted : Acted) → IfDone acted (λ seen. seen.seq ≡ length old + 1) → IfDone acted (λ seen. length old < seen.seq)
above old (Done seen) number = omega (arith, number)
above old Full number = tt
above old NoMemory number = tt

pub within : (old new : List Entry) (seat : ℕ) (op : Op) (acted : Acted) → new ≡ old ++ gained seat op acted → IfDone acted (λ seen. seen.seq ≡ length old + 1) → IfDone acted (λ seen. seen.seq ≤ length new)
within old new seat op (Done seen) added number =
    let longer = ap length added ∙ length-append old (entry_of seat op seen ∷ []) in omega (arith, longer, number)
within old new seat op Full added number = tt
within old new seat op NoMemory added number = tt

pub later : (old new : List Entry) (seat : ℕ) (op : Op) (acted : Acted) → new ≡ old ++ gained seat op acted → length old ≤ length new
later old new seat op acted added = let longer = ap length added ∙ length-append old (gained seat op acted) in omega (arith, longer)
