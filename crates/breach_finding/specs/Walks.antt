-- A walk along a journal.
use Rattle.std.specs.Prelude.{◌+◌, ℕ, List, length, Option, Some, None}
use Rattle.std.specs.BTreeMap.{BTreeMap, get}
use Rattle.std.specs.Ordering.{nat_cmp}
use Rattle.world_core.specs.Journals.{Each, of_seat}
use Rattle.world_core.specs.Standing.{stands}
use Rattle.world_core.specs.declared.entry.Entry.{Entry}
use Rattle.script_core.specs.declared.script.Script.{Script}
use Rattle.breach_finding.specs.Standings.{IsStanding}
use Rattle.breach_finding.specs.declared.standing.Standing.{Standing}
use Rattle.lifecycle_core.specs.Breaches.{IsBreach, IsKept, IsSeatOf, IsUnbroken, Rule, honesty, mark_time, read_time, sync_time, upload_time, view_time}
use Rattle.lifecycle_core.specs.Setting.{FromShelf, Setting}
use Rattle.lifecycle_core.specs.Tasks.{sync_rules}
use Rattle.breach_finding.specs.Seats.{IsWatched}
use Rattle.breach_finding.specs.Views.{IsLastView}
use Rattle.breach_finding.specs.Watching.{IsWaiting}
use Rattle.breach_finding.specs.declared.found.Breach.{Breach}
use Rattle.breach_finding.specs.declared.found.BreachRule.{BreachRule}
use Rattle.breach_finding.specs.declared.found.BreachRule.TheVariants as found
use Rattle.breach_finding.specs.declared.watching.UnderWay.{UnderWay}

-- the syncs that are under way, by seats
abbrev pub UnderWays : Type 0
UnderWays = BTreeMap ℕ UnderWay

-- What is known after these first entries of a journal, none of which a rule refuses.
pub record IsWalked (setting : Setting) (journal before : List Entry) (standing : Standing) (unders : UnderWays) (views : BTreeMap ℕ ℕ) : Type 0 where
  pub held : IsStanding journal standing (stands before)
  pub watched : (gateway seat : ℕ) → IsSeatOf setting gateway seat → IsWatched (sync_rules setting gateway) (of_seat seat before) (get nat_cmp unders seat)
  pub waits : (seat : ℕ) → IsWaiting (get nat_cmp unders seat)
  pub seen : (gateway : ℕ) → IsLastView setting journal gateway (length before + 1) (get nat_cmp views gateway)
  pub kept : Each (IsKept setting journal) before

-- the rule that a breach names
abbrev pub rule_of : BreachRule → Rule
rule_of found.Bucket = honesty
rule_of found.UploadTime = upload_time
rule_of found.MarkTime = mark_time
rule_of found.SyncTime = sync_time
rule_of found.ViewTime = view_time
rule_of found.ReadTime = read_time

-- a script, with whatever files on a shelf
abbrev pub setting_with : Script → (ℕ → FromShelf) → Setting
setting_with script shelf = record { script = script; shelf = shelf }

-- the breach is the journal's
abbrev pub IsFound : Setting → List Entry → Breach → Type 0
IsFound setting journal breach = IsBreach setting journal (rule_of breach.rule) breach.entry breach.found breach.allowed

-- what is answered of a journal: its breach, or none where none of its entries is refused
abbrev pub IsAnswer : Setting → List Entry → Option Breach → Type 0
IsAnswer setting journal None = IsUnbroken setting journal
IsAnswer setting journal (Some breach) = IsFound setting journal breach
