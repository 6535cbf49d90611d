use Rattle.std.proofs.Common.{ℕ, nat_lt, ap, sym, ◌∙◌}
use Rattle.std.proofs.lemmas.List.Folds.{list_all-map, list_all_at}
use Rattle.store_ranges.specs.IndexRanges.{has_bytes, Run}
use Rattle.store_ranges.specs.Asking.{piece_of}
use Rattle.store_ranges.specs.ToRead.{run_read}
use Rattle.store_ranges.specs.declared.run_read.RunRead.{RunRead}
use Rattle.store_calls.proofs.run_steps.have_bytes.Goals as goal

pub returns-then-run-eq0 : goal.returns-then-run-eq0
returns-then-run-eq0 c =
    sym (list_all-map (λ (run : Run). has_bytes run.piece) run_read c.args.runs.now
    ∙ list_all_at (λ (run : RunRead). has_bytes (piece_of run.range)) c.args.runs.now c.loop-run.run-index c.run-item.result c.loop-run-test.true
    (ap (λ (run : RunRead). nat_lt 0 run.range.len) (sym c.run-item.is) ∙ ap (λ (n : ℕ). nat_lt 0 n) c.if-run-eq0.true))
