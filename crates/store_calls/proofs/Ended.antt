-- The drive of a gateway's call, with what the call leaves.
use Rattle.std.proofs.Common.{◌≡◌, ℕ, ℤ, List, [], ◌∷◌, ◌++◌, ◌∙◌, ap, subst}
use Rattle.std.specs.Prelude.{Option, Some, None}
use Rattle.store_ranges.specs.Reads.{Cache, Query}
use Rattle.store_ranges.specs.declared.cache.IndexCache.{IndexCache}
use Rattle.matchers.specs.declared.matcher.Matcher.{Matcher}
use Rattle.meta_fetcher.specs.declared.view.View.{View}
use Rattle.store_calls.specs.Endings.{Leaves, ended_with, with_cache}
use Rattle.store_calls.specs.SeriesCalls.{CallEnd, SeriesRun, asking}
use Rattle.store_calls.specs.declared.series_call.SeriesCall.{SeriesCall}
use Rattle.store_calls.specs.declared.series_call.SeriesEnd.{SeriesEnd}
use Rattle.world_core.specs.Machines.{Drives, end_of}
use Rattle.world_core.specs.Operations.{entry_of}
use Rattle.world_core.specs.declared.driving.Driven.{Driven}
use Rattle.world_core.specs.declared.driving.Driven.TheVariants.{Ended, Full, NoMemory}
use Rattle.world_core.specs.declared.entry.Entry.{Entry}
use Rattle.store_calls.specs.CallRuns.{CallRun}

module _ (does : List Entry → Option SeriesEnd → Type 0) (view : View) (asked : Query) (cache : Cache) (last : SeriesCall) (seat : ℕ) (old new : List Entry)
    (runs : (made : List Entry) (end : Option SeriesEnd) → does made end → SeriesRun view asked cache made (ended_with end last)) (driven : Driven SeriesEnd) (d : Drives does seat None driven old new) where
  pub ended_call : (end : SeriesEnd) (left : IndexCache) → driven ≡ Ended end → Leaves last left → Drives (CallRun view asked cache) seat None (Ended (record { end = end; cache = left })) old new
  ended_call end left is leaves = record {
    made = d.made;
    entries = d.entries;
    run = subst (SeriesRun view asked cache d.made) (ap (λ (x : Driven SeriesEnd). ended_with (end_of x) last) is ∙ ap (with_cache end) leaves) (runs d.made (end_of driven) d.run);
    seats = d.seats;
    stopped = λ n. (λ e. absurd (cc (e)), λ s. let none = s.0 in absurd (cc (none)));
    within = λ n is above. absurd (cc (is));
    waits = λ e. absurd (cc (e));
  }

  pub full_call : driven ≡ Full → Drives (CallRun view asked cache) seat None Full old new
  full_call is = record {
    made = d.made;
    entries = d.entries;
    run = subst (SeriesRun view asked cache d.made) (ap (λ (x : Driven SeriesEnd). ended_with (end_of x) last) is) (runs d.made (end_of driven) d.run);
    seats = d.seats;
    stopped = λ n. (λ e. absurd (cc (e)), λ s. let none = s.0 in absurd (cc (none)));
    within = λ n is above. absurd (cc (is));
    waits = λ e. let w = d.waits is in record { op = w.op; lawful = w.lawful; more = λ seen answer. runs (d.made ++ entry_of seat w.op seen ∷ []) None (w.more seen answer) };
  }

-- what holds of a machine that has come to its end
pub over_by : (does : List Entry → Option SeriesEnd → Type 0) (P : Type 0) (seat : ℕ) (old new : List Entry) (driven : Driven SeriesEnd) (end : SeriesEnd) → driven ≡ Ended end → Drives does seat None driven old new
    → ((made : List Entry) → does made (Some end) → P) → P
over_by does P seat old new driven end is d over = over d.made (subst (λ (x : Driven SeriesEnd). does d.made (end_of x)) is d.run)

-- numbers that were passed on are the same
pub asked_same : (view : View) (matchers : List Matcher) (replicas : List (List ℕ)) (cache : Cache) (low low' high high' : ℤ) (made : List Entry) (end : Option CallEnd) → low ≡ low' → high ≡ high'
    → SeriesRun view (asking matchers replicas low high) cache made end → SeriesRun view (asking matchers replicas low' high') cache made end
asked_same view matchers replicas cache low low' high high' made end l h run =
    subst (λ (x : ℤ). SeriesRun view (asking matchers replicas x high') cache made end) l (subst (λ (y : ℤ). SeriesRun view (asking matchers replicas low y) cache made end) h run)
