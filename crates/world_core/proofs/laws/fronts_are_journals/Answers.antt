use Rattle.std.proofs.Common.{◌≡◌, ◌+◌, length}
use Rattle.world_core.specs.Moments.{moment_after, last_moment}
use Rattle.world_core.specs.Operations.{PutsBytes, ShowsBytes}
use Rattle.world_core.specs.Standing.{stands, Tells}
use Rattle.world_core.proofs.LastLanded.{Each-front}
use Rattle.world_core.proofs.laws.fronts_are_journals.Goals as goal

pub returns : goal.returns
returns c = record {
  numbers = λ front others. Each-front (λ before e. e.seq ≡ length before + 1) front others;
  moments = λ tick front others. Each-front (λ before e. e.moment.ms ≡ moment_after tick (last_moment before) e.op) front others;
  bytes = λ front others. Each-front (λ before e. PutsBytes e.op × ShowsBytes e.reply) front others;
  honest = λ front others. Each-front (λ before e. Tells (stands before) e.op e.reply) front others;
}
