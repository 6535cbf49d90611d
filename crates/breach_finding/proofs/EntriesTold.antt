-- What is told of an entry at first.
use Rattle.std.proofs.Common.{◌≡◌, true, false, List, Option, Some, None, refl}
use Rattle.std.specs.Prelude.{is_some}
use Rattle.world_core.specs.declared.entry.Entry.{Entry}
use Rattle.breach_finding.specs.declared.standing.Standing.{Standing}
use Rattle.script_core.specs.declared.script.Script.{Script}
use Rattle.breach_finding.specs.Entries.{IsEarlyTold, IsRefusedEarly}
use Rattle.breach_finding.specs.declared.found.Refusal.{Refusal}

module _ (script : Script) (journal : List Entry) (standing : Standing) (e : Entry) where
  pub refused_early : (told : Option Refusal) → IsEarlyTold script journal standing e told → is_some told ≡ true → IsRefusedEarly script journal standing e told
  refused_early None early some = cc (some)
  refused_early (Some r) early some = record { refusal = r; is = refl; early = early }

  pub not_early : (told : Option Refusal) → IsEarlyTold script journal standing e told → is_some told ≡ false → IsEarlyTold script journal standing e None
  not_early None early none = early
  not_early (Some r) early none = absurd (never none)
    where
      never : is_some (Some r) ≡ false → ⊥
      never is = cc (is)
