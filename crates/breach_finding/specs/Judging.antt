-- An entry is judged rule by rule, in their order.
use Rattle.std.specs.Prelude.{◌≡◌, ◌↔◌, ◌+◌, ◌<◌, ℕ, Bool, true, Option, Some, None, if◌then◌else◌}
use Rattle.std.specs.BTreeMap.{get}
use Rattle.std.specs.Ordering.{is_eq, nat_cmp}
use Rattle.world_core.specs.declared.entry.Entry.{Entry}
use Rattle.meta_fetcher.specs.declared.rules.SyncRules.{SyncRules}
use Rattle.script_core.specs.declared.script.Script.{Script}
use Rattle.lifecycle_core.specs.Breaches.{ReadsSamples, Rule, rank}
use Rattle.lifecycle_core.specs.Setting.{setting_of}
use Rattle.lifecycle_core.specs.Tasks.{sync_rules}
use Rattle.breach_finding.specs.Asked.{IsSyncAnswer}
use Rattle.breach_finding.specs.Tables.{Numbers, gateway_or}
use Rattle.breach_finding.specs.Views.{IsViewAnswer}
use Rattle.breach_finding.specs.Walks.{UnderWays, rule_of}
use Rattle.breach_finding.specs.Watching.{IsTurn, IsWaiting}
use Rattle.breach_finding.specs.declared.followed.Followed.{Followed}
use Rattle.breach_finding.specs.declared.found.BreachRule.{BreachRule}
use Rattle.breach_finding.specs.declared.found.BreachRule.TheVariants as found
use Rattle.breach_finding.specs.declared.found.Refusal.{Refusal}
use Rattle.breach_finding.specs.declared.watching.Came.{Came}
use Rattle.breach_finding.specs.declared.watching.Came.TheVariants.{GoesOn, Nothing, View}
use Rattle.breach_finding.specs.declared.watching.Told.{Told}
use Rattle.breach_finding.specs.declared.watching.Turn.{Turn}
use Rattle.breach_finding.specs.declared.watching.UnderWay.{UnderWay}

-- the refusal of a rule, where it refuses
abbrev pub refusal_of : BreachRule → Option (ℕ × ℕ) → Option Refusal
refusal_of rule None = None
refusal_of rule (Some told) = Some (record { rule = rule; found = told.0; allowed = told.1 })

-- The rules below a rank were asked: none of them refuses, or this is the first one that does.
abbrev pub IsJudged : (Rule → ℕ → ℕ → Type 0) → ℕ → Option Refusal → Type 0
IsJudged Refuses below None = (rule : Rule) (x y : ℕ) → rank rule < below → Refuses rule x y → ⊥
IsJudged Refuses below (Some r) =
    (rank (rule_of r.rule) < below) × Refuses (rule_of r.rule) r.found r.allowed
    × ((other : Rule) (x y : ℕ) → rank other < rank (rule_of r.rule) → Refuses other x y → ⊥)

-- the view that an entry gave, by when its sync began
abbrev pub given_as : Came → ℕ → Option ℕ
given_as View begin = Some begin
given_as GoesOn begin = None
given_as Nothing begin = None

abbrev pub given_by : Option Told → Option ℕ
given_by None = None
given_by (Some told) = given_as told.came told.begin

-- what is under way at a seat where something was begun at another, or at the same
abbrev pub under_or : Option UnderWay → Bool → Option UnderWay → Option UnderWay
under_or None same was = was
under_or (Some next) same was = if same then Some next else was

-- what is under way at the seats after an entry of a gateway's seat
pub record IsWatchTurn (rules : SyncRules) (old new : UnderWays) (e : Entry) (told : Option Told) : Type 0 where
  pub turn : Turn
  pub is : IsTurn rules (get nat_cmp old e.seat) e turn
  pub tells : turn.told ≡ told
  pub waits : IsWaiting turn.under
  pub seats : (seat : ℕ) → get nat_cmp new seat ≡ (if is_eq (nat_cmp e.seat seat) then turn.under else get nat_cmp old seat)

-- the first of two refusals
abbrev pub first_of : Option Refusal → Option Refusal → Option Refusal
first_of None other = other
first_of (Some own) other = Some own

-- What is told of an entry of a gateway's seat by the syncs and views, and what changes with it.
pub record IsLateTold (script : Script) (lasts : Numbers) (old new : Followed) (gateway : ℕ) (e : Entry) (told : Option Refusal) : Type 0 where
  pub standing : new.standing ≡ old.standing
  pub sync : Option Told
  pub turn : IsWatchTurn (sync_rules (setting_of script) gateway) old.unders new.unders e sync
  pub views : (other : ℕ) → get nat_cmp new.views other ≡ gateway_or (given_by sync) (is_eq (nat_cmp gateway other)) (get nat_cmp old.views other)
  pub last : Bool
  pub is_last : (last ≡ true) ↔ (get nat_cmp lasts e.seat ≡ Some e.seq)
  pub slow : Option (ℕ × ℕ)
  pub slow_is : IsSyncAnswer sync last e.moment.ms script.rules.ignore.ms slow
  pub stale : Option (ℕ × ℕ)
  pub stale_is : ReadsSamples e → IsViewAnswer (get nat_cmp old.views gateway) (e.moment.ms + script.rules.ignore.ms) script.rules.delete.ms stale
  pub no_read : (ReadsSamples e → ⊥) → stale ≡ None
  pub answer : told ≡ first_of (refusal_of found.SyncTime slow) (refusal_of found.ViewTime stale)
