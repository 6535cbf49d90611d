-- What is told of an entry: by the rules that ask nothing of seats, and then by the others.
use Rattle.std.specs.Prelude.{◌≡◌, ◌⊎◌, ◌/◌, ℕ, List, Option, Some, None}
use Rattle.std.specs.BTreeMap.{get}
use Rattle.std.specs.BTreeSet.{contains}
use Rattle.std.specs.Ordering.{nat_cmp}
use Rattle.world_core.specs.Standing.{stands}
use Rattle.world_core.specs.declared.entry.Entry.{Entry}
use Rattle.breach_finding.specs.Standings.{IsStanding}
use Rattle.breach_finding.specs.declared.standing.Standing.{Standing}
use Rattle.script_core.specs.declared.script.Script.{Script}
use Rattle.lifecycle_core.specs.Breaches.{Refuses}
use Rattle.lifecycle_core.specs.Setting.{Setting}
use Rattle.breach_finding.specs.Judging.{IsJudged, IsLateTold, first_of, refusal_of}
use Rattle.breach_finding.specs.Tables.{Numbers}
use Rattle.breach_finding.specs.Views.{IsCompactionAnswer}
use Rattle.breach_finding.specs.declared.followed.Followed.{Followed}
use Rattle.breach_finding.specs.declared.found.BreachRule.TheVariants as found
use Rattle.breach_finding.specs.declared.found.Refusal.{Refusal}
use Rattle.breach_finding.specs.declared.tables.Tables.{Tables}

-- by the rules on what the bucket shows and on puts
abbrev pub IsEarlyTold : Script → List Entry → Standing → Entry → Option Refusal → Type 0
IsEarlyTold script journal standing e told =
    (setting : Setting) (all before : List Entry) → setting.script.rules ≡ script.rules → IsStanding journal standing (stands before)
    → IsJudged (λ rule. Refuses setting all rule before e) 3 told

-- one of these rules refuses it
pub record IsRefusedEarly (script : Script) (journal : List Entry) (standing : Standing) (e : Entry) (told : Option Refusal) : Type 0 where
  pub refusal : Refusal
  pub is : told ≡ Some refusal
  pub early : IsEarlyTold script journal standing e (Some refusal)

-- Its seat is no gateway's, so by the syncs and views nothing is told.
pub record IsPast (gateways : Numbers) (old new : Followed) (e : Entry) (told : Option Refusal) : Type 0 where
  pub nobody : get nat_cmp gateways e.seat ≡ None
  pub same : new ≡ old
  pub none : told ≡ None

-- its seat is a gateway's
pub record IsAtGateway (script : Script) (tables : Tables) (old new : Followed) (e : Entry) (told : Option Refusal) : Type 0 where
  pub gateway : ℕ
  pub whose : get nat_cmp tables.gateways e.seat ≡ Some gateway
  pub late : IsLateTold script tables.lasts old new gateway e told

-- by the rules on syncs and views
abbrev pub IsWatchedTold : Script → Tables → Followed → Followed → Entry → Option Refusal → Type 0
IsWatchedTold script tables old new e told =
    IsPast tables.gateways old new e told ⊎ IsAtGateway script tables old new e told

-- None of the first rules refuses it, and the others are asked: those on syncs and views, and then the one on compactions.
pub record IsAskedOn (script : Script) (journal : List Entry) (tables : Tables) (old new : Followed) (e : Entry) (told : Option Refusal) : Type 0 where
  pub early : IsEarlyTold script journal old.standing e None
  pub late : Option Refusal
  pub watched : IsWatchedTold script tables old new e late
  pub slow : Option (ℕ × ℕ)
  pub slow_is : IsCompactionAnswer (contains nat_cmp tables.compactors e.seat) (get nat_cmp tables.begins e.seat) e (script.rules.delete.ms / 2) slow
  pub answer : told ≡ first_of late (refusal_of found.ReadTime slow)

-- what is told of an entry, and what goes on along with the walk
abbrev pub IsEntryTold : Script → List Entry → Tables → Followed → Followed → Entry → Option Refusal → Type 0
IsEntryTold script journal tables old new e told =
    IsRefusedEarly script journal old.standing e told ⊎ IsAskedOn script journal tables old new e told
