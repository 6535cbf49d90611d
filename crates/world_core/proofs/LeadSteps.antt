-- Steps of machines that wait at a state.
use Rattle.std.proofs.Common.{◌≡◌, ℕ, ◌≤◌, List, [], ◌∷◌, refl, inr, Option, Some, None, Result, Ok, Err, arith}
use Rattle.base.specs.declared.memory.NoMemory.{NoMemory}
use Rattle.world_core.specs.Leads.{Leads, LeadsBy, after_entry, does}
use Rattle.world_core.specs.Machines.{GoesOn, Falls}
use Rattle.world_core.specs.Operations.{entry_of}
use Rattle.world_core.specs.Plans.{Plan, Runs, Keeps, ends, never, asks, finds, asked}
use Rattle.world_core.specs.declared.op.Op.{Op}
use Rattle.world_core.specs.declared.seen.Seen.{Seen}
use Rattle.world_core.specs.declared.entry.Entry.{Entry}
use Rattle.world_core.specs.declared.act.Act.{Act}
use Rattle.world_core.specs.declared.act.Act.TheVariants.{Do, Done}
use Rattle.world_core.proofs.PlanLaws.{breaks_off, answered}

-- ---- machines of all kinds

-- a call that goes on as may follow goes on as whatever that is part of
pub leads_kept : {M E : Type 0} (may : M → List Entry → Option E → M → Type 0) (waits : M → Option Op) (one other : List Entry → Option E → Type 0) (r : Result (Act E) NoMemory) (new : M)
    → ((entries : List Entry) (end : Option E) → one entries end → other entries end) → Leads may waits one r new → Leads may waits other r new
leads_kept may waits one other (Ok (Do op)) new keeps leads =
    record { lawful = leads.lawful; asks = leads.asks; onward = λ entries end run. keeps entries end (leads.onward entries end run) }
leads_kept may waits one other (Ok (Done end)) new keeps leads = keeps [] (Some end) leads
leads_kept may waits one other (Err none) new keeps leads = tt

-- What may come from a state is known of the state alone; it may be stopped there, and as soon as its operation is answered.
module _ {M E : Type 0} (now : M → List Entry → Option E → Type 0) (waits : M → Option Op)
    (stops : (m : M) → now m [] None)
    (answers : (m : M) (seat : ℕ) (o : Op) (seen : Seen) → waits m ≡ Some o → now m (entry_of seat o seen ∷ []) None) where
  abbrev may : M → List Entry → Option E → M → Type 0
  may m entries end last = now m entries end

  -- a machine goes on after its first call
  pub opens : (old new : M) (r : Result (Act E) NoMemory) → Leads may waits (now old) r new → GoesOn may waits old [] r new
  opens old new (Ok (Do op)) leads = record {
    lawful = leads.lawful;
    waits = leads.asks;
    onward = λ entries end last run. leads.onward entries end run;
    stopped = stops new;
    answered = λ seat seen answer. answers new seat op seen leads.asks;
  }
  opens old new (Ok (Done end)) leads = leads
  opens old new (Err none) leads = stops old

  -- and after an entry
  pub steps : (old new : M) (seat : ℕ) (o : Op) (seen : Seen) (r : Result (Act E) NoMemory) → waits old ≡ Some o
      → Leads may waits (λ entries end. now old (entry_of seat o seen ∷ entries) end) r new → GoesOn may waits old (entry_of seat o seen ∷ []) r new
  steps old new seat o seen (Ok (Do op)) is leads = record {
    lawful = leads.lawful;
    waits = leads.asks;
    onward = λ entries end last run. leads.onward entries end run;
    stopped = stops new;
    answered = λ later reply answer. answers new later op reply leads.asks;
  }
  steps old new seat o seen (Ok (Done end)) is leads = leads
  steps old new seat o seen (Err none) is leads = answers old seat o seen is

-- ---- machines whose states say which plan is left

-- the end that a plan has come to
pub ended : {E : Type 0} (end : E) → Runs (ends end) [] (Some end)
ended end = (refl, inr refl)

-- the entry that a plan asks for, and what follows it
pub on_entry : {E : Type 0} (plan : Plan E) (e : Entry) (entries : List Entry) (end : Option E) → asked plan ≡ Some e.op
    → Runs (after_entry plan e) entries end → Runs plan (e ∷ entries) end
on_entry (ends told) e entries end is run = absurd (cc (is))
on_entry never e entries end is run = absurd (cc (is))
on_entry (finds Such one next) e entries end is run = absurd (cc (is))
on_entry (asks o next) e entries end is run = (cc (is), run)

-- a call that goes on by a plan goes on by each that keeps its runs
pub leads_as : {M E : Type 0} (left : M → Plan E) (waits : M → Option Op) (one other : Plan E) (r : Result (Act E) NoMemory) (new : M) → Keeps one other → LeadsBy left waits one r new → LeadsBy left waits other r new
leads_as left waits one other r new keeps leads = leads_kept (does left) waits (Runs one) (Runs other) r new keeps leads

module _ {M E : Type 0} (left : M → Plan E) (waits : M → Option Op) (asks_as : (m : M) (o : Op) → waits m ≡ Some o → asked (left m) ≡ Some o) where
  answers_by : (m : M) (seat : ℕ) (o : Op) (seen : Seen) → waits m ≡ Some o → Runs (left m) (entry_of seat o seen ∷ []) None
  answers_by m seat o seen is = answered (left m) (entry_of seat o seen) (asks_as m o is)

  pub opens_by : (old new : M) (r : Result (Act E) NoMemory) → LeadsBy left waits (left old) r new → GoesOn (does left) waits old [] r new
  opens_by old new r leads = opens (λ m. Runs (left m)) waits (λ m. breaks_off (left m)) answers_by old new r leads

  pub steps_by : (old new : M) (seat : ℕ) (o : Op) (seen : Seen) (r : Result (Act E) NoMemory) → waits old ≡ Some o
      → LeadsBy left waits (after_entry (left old) (entry_of seat o seen)) r new → GoesOn (does left) waits old (entry_of seat o seen ∷ []) r new
  steps_by old new seat o seen r is leads =
      let e : Entry = entry_of seat o seen in
      steps (λ m. Runs (left m)) waits (λ m. breaks_off (left m)) answers_by old new seat o seen r is
      (leads_kept (does left) waits (Runs (after_entry (left old) e)) (λ entries end. Runs (left old) (e ∷ entries) end) r new
      (λ entries end run. on_entry (left old) e entries end (asks_as old o is) run) leads)

-- ---- the measure

pub falls_more : {E : Type 0} (less more : ℕ) (r : Result (Act E) NoMemory) (new : ℕ) → less ≤ more → Falls less r new → Falls more r new
falls_more less more (Ok (Do o)) new le falls = omega arith
falls_more less more (Ok (Done end)) new le falls = tt
falls_more less more (Err e) new le falls = tt
