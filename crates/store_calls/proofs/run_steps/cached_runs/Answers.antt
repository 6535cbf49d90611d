use Rattle.std.proofs.Common.{◌≡◌, ◌∷◌, List, ℕ, None, Some, length, map, option_map, ap, subst, arith}
use Rattle.block_keys.specs.declared.key.Key.TheVariants.{Index}
use Rattle.store_ranges.specs.Caches.{held}
use Rattle.store_ranges.specs.Asking.{piece_of}
use Rattle.store_ranges.specs.ToRead.{run_read}
use Rattle.store_ranges.specs.declared.run_read.RunRead.{RunRead}
use Rattle.store_ranges.specs.Reads.{range_of}
use Rattle.store_ranges.specs.Caching.{IsFromCache}
use Rattle.store_ranges.specs.IndexReads.{reached}
use Rattle.store_calls.specs.WorkStates.{runs_left, texts_of}
use Rattle.store_calls.specs.RunFindings.{TakesRun}
use Rattle.store_calls.proofs.RunLoop.{run_goes_on, run_breaks}
use Rattle.store_calls.proofs.run_steps.cached_runs.Goals as goal

pub returns-in-None-2 : goal.returns-in-None-2
returns-in-None-2 c =
    let has = subst (λ found. IsFromCache (range_of (Index c.args.asked.now.ulid) (piece_of c.in-Some.run'.range)) (held c.loop-run.cache) found (held c.from_cache.new.cache)) c.in-Some-2.is c.in_ok-bytes.ensures in
    run_breaks c.args.asked.now (texts_of c.args.read.now) c.args.last (runs_left c.args.asked.now (texts_of c.args.read.now) (map run_read c.args.runs.items) (reached c.args.last (held c.args.cache.now)) c.args.series.items)
    c.loop-run.later.items c.pop_front.new.self.items c.in-Some.run' (held c.loop-run.cache) (held c.from_cache.new.cache) c.loop-run.all.items c.in-Some-2.bytes c.in-Some.ensures.items c.loop-run.invariant.0 has.0 has.1
    (subst (λ (b : List ℕ). TakesRun (texts_of c.args.read.now) (run_read c.in-Some.run') b c.loop-run.all.items None) c.bytes-in-Some-2.ensures
    (subst (λ found. TakesRun (texts_of c.args.read.now) (run_read c.in-Some.run') c.bytes-in-Some-2.result.now c.loop-run.all.items (option_map (λ all. all.items) found)) c.in-None-2.is c.in_ok-more-in-Some-2.ensures))

pub loop-run-preserved : goal.loop-run-preserved
loop-run-preserved c =
    let has = subst (λ found. IsFromCache (range_of (Index c.args.asked.now.ulid) (piece_of c.in-Some.run'.range)) (held c.loop-run.cache) found (held c.from_cache.new.cache)) c.in-Some-2.is c.in_ok-bytes.ensures in
    let many : length c.loop-run.later.items ≡ length (c.in-Some.run' ∷ c.pop_front.new.self.items) = ap (λ (l : List RunRead). length l) c.in-Some.ensures.items in (
      run_goes_on c.args.asked.now (texts_of c.args.read.now) c.args.last (runs_left c.args.asked.now (texts_of c.args.read.now) (map run_read c.args.runs.items) (reached c.args.last (held c.args.cache.now)) c.args.series.items)
          c.loop-run.later.items c.pop_front.new.self.items c.in-Some.run' (held c.loop-run.cache) (held c.from_cache.new.cache) c.loop-run.all.items c.in-Some-2.bytes c.in-Some-3.more.items c.in-Some.ensures.items c.loop-run.invariant.0 has.0 has.1
          (subst (λ (b : List ℕ). TakesRun (texts_of c.args.read.now) (run_read c.in-Some.run') b c.loop-run.all.items (Some c.in-Some-3.more.items)) c.bytes-in-Some-2.ensures
          (subst (λ found. TakesRun (texts_of c.args.read.now) (run_read c.in-Some.run') c.bytes-in-Some-2.result.now c.loop-run.all.items (option_map (λ all. all.items) found)) c.in-Some-3.is c.in_ok-more-in-Some-2.ensures)),
      omega (arith, many, c.loop-run.invariant.1),
    )
