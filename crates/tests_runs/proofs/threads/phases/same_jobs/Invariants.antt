use Rattle.std.proofs.Common.{◌≡◌, vec_len}
use Rattle.tests_runs.proofs.threads.phases.same_jobs.Given as goal

-- there are as many jobs as rounds
abbrev pub invariant-loop : goal.invariant-loop
invariant-loop l = vec_len l.jobs ≡ l.counter
