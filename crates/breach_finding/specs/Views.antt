-- What a read is too late for: the view by which a gateway reads, and the beginning of a compaction.
use Rattle.std.specs.Prelude.{◌≡◌, ◌+◌, ℕ, Bool, true, false, List, Option, Some, None}
use Rattle.world_core.specs.declared.entry.Entry.{Entry}
use Rattle.meta_fetcher.specs.declared.view.View.{View}
use Rattle.lifecycle_core.specs.Breaches.{IsOver, IsReading, IsViewAt}
use Rattle.lifecycle_core.specs.Setting.{Setting}
use Rattle.breach_finding.specs.Told.{IsTold}

-- when the view began that the gateway has at the entry of a number, if it has one
abbrev pub IsLastView : Setting → List Entry → ℕ → ℕ → Option ℕ → Type 0
IsLastView setting journal gateway number None = (view : View) → IsViewAt setting journal gateway number view → ⊥
IsLastView setting journal gateway number (Some begin) = (view : View) × IsViewAt setting journal gateway number view × (view.begin.ms ≡ begin)

-- A read is asked whether it comes too late for what began then.
abbrev pub IsViewAnswer : Option ℕ → ℕ → ℕ → Option (ℕ × ℕ) → Type 0
IsViewAnswer None is span answer = answer ≡ None
IsViewAnswer (Some begin) is span answer = IsTold (IsOver is (begin + span)) answer

-- A read at the seat of a compaction, which began then, is asked that.
pub record IsCompactionAnswer (compacts : Bool) (begin : Option ℕ) (e : Entry) (span : ℕ) (answer : Option (ℕ × ℕ)) : Type 0 where
  pub asked : compacts ≡ true → IsReading e.op → IsViewAnswer begin e.moment.ms span answer
  pub elsewhere : compacts ≡ false → answer ≡ None
  pub no_read : (IsReading e.op → ⊥) → answer ≡ None
