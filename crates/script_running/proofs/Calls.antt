-- What a drive of a gateway's call leaves.
use Rattle.std.proofs.Common.{◌≡◌, ℕ, ℤ, List, refl, sym, ap, subst}
use Rattle.std.specs.Prelude.{Option, Some, None, option_map, Result, Err, IfSome}
use Rattle.store_calls.specs.CallRuns.{CallRun, end_by}
use Rattle.store_calls.specs.declared.running.CallLeft.{CallLeft}
use Rattle.store_ranges.specs.Reads.{Cache, Query as Question}
use Rattle.store_ranges.specs.declared.cache.IndexCache.{IndexCache}
use Rattle.world_core.specs.Machines.{Drives, end_of}
use Rattle.world_core.specs.declared.driving.Driven.{Driven}
use Rattle.world_core.specs.declared.driving.Driven.TheVariants.{Ended, Stopped, Full, NoMemory}
use Rattle.world_core.specs.declared.entry.Entry.{Entry}
use Rattle.meta_fetcher.specs.declared.view.View.{View}
use Rattle.matchers.specs.declared.matcher.Matcher.{Matcher}
use Rattle.store_calls.specs.SeriesCalls.{CallEnd, SeriesRun, asking}
use Rattle.lifecycle_core.specs.Holdings.{Use}
use Rattle.lifecycle_core.specs.Tasks.{answered}
use Rattle.script_running.specs.Drives.{cache_by, call_came}
use Rattle.script_running.specs.Outcomes.{IsGatewayPart, Part, call_part}
use Rattle.script_running.specs.Sights.{cache_of}
use Rattle.script_running.specs.Tasks.{Adds, CameAs}
use Rattle.script_running.specs.declared.came.Broken.{Broken}
use Rattle.script_running.specs.declared.came.Broken.TheVariants as broken
use Rattle.script_running.specs.declared.came.Came.TheVariants as part

-- A call over a view, by what was kept, came out so, and left what is kept then.
abbrev pub Called : View → Question → Cache → ℕ → List Entry → List Entry → Use → Option IndexCache → Result Part Broken → Type 0
Called view asked cache seat old new used left came =
    (end : Option CallEnd) × Adds (SeriesRun view asked cache) seat old new end came
    × CameAs IsGatewayPart (option_map (λ (call : CallEnd). answered used call.end) end) came
    × IfSome end (λ (call : CallEnd). call.cache ≡ cache_of left)

module _ (view : View) (asked : Question) (cache : Cache) (seat : ℕ) (old new : List Entry) (used : Use) (same : used.view ≡ view) where
  -- it was broken off
  full_told : (left : Option IndexCache) → Drives (CallRun view asked cache) seat None Full old new → Called view asked cache seat old new used left (Err broken.Full)
  full_told left d =
      let w = d.waits refl in
      (None, record { made = d.made; entries = d.entries; seats = d.seats; run = d.run; due = (w.op, w.lawful, λ seen answer. (None, w.more seen answer)) }, tt, tt)

  short_told : (driven : Driven CallLeft) (left : Option IndexCache) → end_of driven ≡ None → Drives (CallRun view asked cache) seat None driven old new → Called view asked cache seat old new used left (Err broken.NoMemory)
  short_told driven left none d =
      (None, record { made = d.made; entries = d.entries; seats = d.seats; run = subst (CallRun view asked cache d.made) none d.run; due = tt }, tt, tt)

  comes_so : (before : Option IndexCache) (driven : Driven CallLeft) → Drives (CallRun view asked cache) seat None driven old new → Called view asked cache seat old new used (cache_by before driven) (call_came view.first driven)
  comes_so before (Ended left) d =
      (Some (end_by left), record { made = d.made; entries = d.entries; seats = d.seats; run = d.run; due = tt }, ap (λ (v : View). part.Query (call_part v.first left.end)) (sym same), refl)
  comes_so before (Stopped n) d = short_told (Stopped n) before refl d
  comes_so before Full d = full_told before d
  comes_so before NoMemory d = short_told NoMemory before refl d

  -- A call that was driven came out so.
  pub call_told : (before left : Option IndexCache) (driven : Driven CallLeft) (came : Result Part Broken) → came ≡ call_came view.first driven → left ≡ cache_by before driven → Drives (CallRun view asked cache) seat None driven old new
      → Called view asked cache seat old new used left came
  call_told before left driven came c kept d =
      subst (λ (x : Result Part Broken). Called view asked cache seat old new used left x) (sym c)
      (subst (λ (l : Option IndexCache). Called view asked cache seat old new used l (call_came view.first driven)) (sym kept) (comes_so before driven d))

-- numbers that were passed on are the same
pub drives_same : (view : View) (matchers : List Matcher) (replicas : List (List ℕ)) (cache : Cache) (low low' high high' : ℤ) (seat : ℕ) (driven : Driven CallLeft) (old new : List Entry) → low ≡ low' → high ≡ high'
    → Drives (CallRun view (asking matchers replicas low high) cache) seat None driven old new → Drives (CallRun view (asking matchers replicas low' high') cache) seat None driven old new
drives_same view matchers replicas cache low low' high high' seat driven old new l h d =
    subst (λ (x : ℤ). Drives (CallRun view (asking matchers replicas x high') cache) seat None driven old new) l (subst (λ (y : ℤ). Drives (CallRun view (asking matchers replicas low y) cache) seat None driven old new) h d)
