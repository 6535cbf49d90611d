use Prim.Native.Nat.{◌+◌, ◌*◌, ◌-◌}
use Rattle.phase_runner.proofs.shares.+shares.Given as goal

abbrev pub decreases-shares_from : goal.decreases-shares_from
decreases-shares_from g l = 4 * (l.takers - l.first)

abbrev pub decreases-both_shares : goal.decreases-both_shares
decreases-both_shares g l = 4 * (l.takers - (l.first + 1)) + 2

abbrev pub decreases-both_shares-back : goal.decreases-both_shares-back
decreases-both_shares-back g l = 4 * (l.takers - (l.first + 1)) + 1
