use Rattle.std.proofs.Common.{◌*◌, ◌-◌, ◌/◌, length}
use Rattle.phase_runner.proofs.Rounds.{last_gathered, one_gathered, firsts_empty, rest_empty, some_places, last_begins, last_ends, round_more}
use Rattle.phase_runner.proofs.dealing.take_first.Goals as goal

pub returns-then-is_empty-clause-firsts : goal.returns-then-is_empty-clause-firsts
returns-then-is_empty-clause-firsts g c = firsts_empty (c.args.takers - 1) c.args.s.now (c.is_empty.result) c.is_empty.ensures c.if-is_empty.true

pub returns-then-is_empty-clause-rest : goal.returns-then-is_empty-clause-rest
returns-then-is_empty-clause-rest g c = rest_empty (c.args.takers - 1) c.args.s.now (c.is_empty.result) c.is_empty.ensures c.if-is_empty.true

pub loop-before-init : goal.loop-before-init
loop-before-init g c = record {
  gathers = last_gathered (c.args.takers - 1) c.args.s.now ((length c.args.s.now - 1) / c.args.takers * c.args.takers)
      (last_begins (length c.args.s.now) c.args.takers (some_places c.args.s.now c.is_empty.result c.is_empty.ensures c.if-is_empty.false))
      (last_ends (length c.args.s.now) c.args.takers c.requires);
}

pub loop-before-preserved : goal.loop-before-preserved
loop-before-preserved g c =
    let round = (c.loop-before.before - 1) * c.args.takers in
    record {
      gathers = one_gathered (c.args.takers - 1) c.args.s.now c.loop-before.s c.swap_blocks.new.s (c.loop-before.before * c.args.takers) round c.loop-before.count c.loop-before.invariant.gathers (round_more c.loop-before.before c.args.takers c.loop-before-test.true c.requires)
          (λ before one other behind is long wide broad. c.swap_blocks.ensures before one other behind is long wide broad);
    }
