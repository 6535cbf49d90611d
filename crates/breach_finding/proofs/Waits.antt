-- Each sync that is under way behind an entry waits for an operation.
use Rattle.std.proofs.Common.{◌≡◌, inl, inr, ℕ, Bool, cond, Option, sym, ◌∙◌, ap, subst}
use Rattle.std.specs.Prelude.{Result, Ok, Err, IfOk, OnOk}
use Rattle.std.specs.BTreeMap.{get}
use Rattle.std.specs.Ordering.{is_eq, nat_cmp}
use Rattle.std.proofs.lemmas.Bool.{cases_Bool}
use Rattle.base.specs.declared.memory.NoMemory.{NoMemory}
use Rattle.world_core.specs.declared.entry.Entry.{Entry}
use Rattle.meta_fetcher.specs.declared.rules.SyncRules.{SyncRules}
use Rattle.script_core.specs.declared.script.Script.{Script}
use Rattle.breach_finding.specs.Judging.{IsLateTold, IsWatchTurn}
use Rattle.breach_finding.specs.Tables.{Numbers}
use Rattle.breach_finding.specs.Walks.{UnderWays}
use Rattle.breach_finding.specs.Watching.{IsWaiting}
use Rattle.breach_finding.specs.declared.followed.Followed.{Followed}
use Rattle.breach_finding.specs.declared.found.Refusal.{Refusal}
use Rattle.breach_finding.specs.declared.watching.Told.{Told}

pub turn_waits : (rules : SyncRules) (old new : UnderWays) (e : Entry) (told : Option Told) → IsWatchTurn rules old new e told → ((seat : ℕ) → IsWaiting (get nat_cmp old seat)) → (seat : ℕ) → IsWaiting (get nat_cmp new seat)
turn_waits rules old new e told w waits seat = elim (cases_Bool (is_eq (nat_cmp e.seat seat))) [
  | inl same ↦ subst IsWaiting (sym (w.seats seat ∙ ap (λ b. cond b w.turn.under (get nat_cmp old seat)) same)) w.waits
  | inr differs ↦ subst IsWaiting (sym (w.seats seat ∙ ap (λ b. cond b w.turn.under (get nat_cmp old seat)) differs)) (waits seat)
]

pub late_waits : (script : Script) (lasts : Numbers) (old new : Followed) (gateway : ℕ) (e : Entry) (r : Result (Option Refusal) NoMemory) → IfOk r (IsLateTold script lasts old new gateway e)
    → ((seat : ℕ) → IsWaiting (get nat_cmp old.unders seat)) → OnOk r ((seat : ℕ) → IsWaiting (get nat_cmp new.unders seat))
late_waits script lasts old new gateway e (Ok late) told waits = turn_waits _ old.unders new.unders e _ told.turn waits
late_waits script lasts old new gateway e (Err none) told waits = tt
