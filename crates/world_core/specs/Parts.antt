-- A machine as a part of another: its run, and then a run of what follows its end.
use Rattle.std.specs.Prelude.{◌≡◌, ◌⊎◌, List, ◌++◌, Option, Some, None}
use Rattle.world_core.specs.Plans.{Plan, Runs}
use Rattle.world_core.specs.declared.entry.Entry.{Entry}

-- The part came to its end, and what follows the end and the entries that led to it goes on.
pub record HandsOn {M A E : Type 0} (may : M → List Entry → Option A → M → Type 0) (part : M) (next : List Entry → A → Plan E) (entries : List Entry) (end : Option E) : Type 0 where
  pub own : List Entry
  pub others : List Entry
  pub are : entries ≡ own ++ others
  pub came : A
  pub last : M
  pub first : may part own (Some came) last
  pub rest : Runs (next own came) others end

-- Or the part was broken off.
abbrev pub PartThen : {M A E : Type 0} → (M → List Entry → Option A → M → Type 0) → M → (List Entry → A → Plan E) → List Entry → Option E → Type 0
PartThen {M} may part next entries end = (((last : M) × may part entries None last) × (end ≡ None)) ⊎ HandsOn may part next entries end

-- what follows where these entries led to the part's state
abbrev pub after_entries : {A E : Type 0} → List Entry → (List Entry → A → Plan E) → List Entry → A → Plan E
after_entries made next own came = next (made ++ own) came
