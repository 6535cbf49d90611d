-- What a call of a machine means that waits at a state, from which what is left is known.
use Rattle.std.specs.Prelude.{◌≡◌, List, [], Option, Some, Result, Ok, Err}
use Rattle.base.specs.declared.memory.NoMemory.{NoMemory}
use Rattle.world_core.specs.Operations.{IsLawful}
use Rattle.world_core.specs.Plans.{Plan, Runs, ends, never, asks, finds}
use Rattle.world_core.specs.declared.op.Op.{Op}
use Rattle.world_core.specs.declared.entry.Entry.{Entry}
use Rattle.world_core.specs.declared.act.Act.{Act}
use Rattle.world_core.specs.declared.act.Act.TheVariants.{Do, Done}

-- where a plan stands after an entry
abbrev pub after_entry : {E : Type 0} → Plan E → Entry → Plan E
after_entry (asks op next) e = next e
after_entry (ends last) e = never
after_entry never e = never
after_entry (finds Is one next) e = never

-- A call asks for an operation and waits in the state `new`, from which what may come is what may follow.
pub record Waits {M E : Type 0} (may : M → List Entry → Option E → M → Type 0) (asked : M → Option Op) (follows : List Entry → Option E → Type 0) (op : Op) (new : M) : Type 0 where
  pub lawful : IsLawful op
  pub asks : asked new ≡ Some op
  pub onward : (entries : List Entry) (end : Option E) → may new entries end new → follows entries end

-- a call goes on as may follow
abbrev pub Leads : {M E : Type 0} → (M → List Entry → Option E → M → Type 0) → (M → Option Op) → (List Entry → Option E → Type 0) → Result (Act E) NoMemory → M → Type 0
Leads may asked follows (Ok (Do op)) new = Waits may asked follows op new
Leads may asked follows (Ok (Done end)) new = follows [] (Some end)
Leads may asked follows (Err none) new = Unit {0}

-- a machine whose state says which plan is left does that
abbrev pub does : {M E : Type 0} → (M → Plan E) → M → List Entry → Option E → M → Type 0
does left machine entries end last = Runs (left machine) entries end

-- a call of such a machine goes on by a plan
abbrev pub LeadsBy : {M E : Type 0} → (M → Plan E) → (M → Option Op) → Plan E → Result (Act E) NoMemory → M → Type 0
LeadsBy left asked plan result new = Leads (does left) asked (Runs plan) result new
