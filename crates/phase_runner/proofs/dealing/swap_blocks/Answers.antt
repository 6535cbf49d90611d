use Rattle.std.proofs.Common.{◌+◌, ◌-◌, arith, ◌≡◌}
use Rattle.phase_runner.proofs.Blocks.{exchanged}
use Rattle.phase_runner.proofs.dealing.swap_blocks.Goals as goal

pub returns : goal.returns
returns g c = λ before one other behind is long wide broad.
    exchanged before one other behind c.args.s.now c.rotate_left.new.self c.args.at c.args.first c.args.second (c.args.at + c.args.first + c.args.second - c.args.at) is long wide broad (omega arith) c.rotate_left.ensures.after
