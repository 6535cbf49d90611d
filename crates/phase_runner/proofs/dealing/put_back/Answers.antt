use Rattle.std.proofs.Common.{refl, ◌+◌, ◌*◌, ◌-◌, ◌<◌, length, take, drop, suc, subst, arith, ◌≡◌, sym}
use Rattle.phase_runner.proofs.Rounds.{Returns, taken_apart, one_returned, all_returned, next_there}
use Rattle.phase_runner.proofs.dealing.put_back.Goals as goal

pub loop-left-init : goal.loop-left-init
loop-left-init g c = record { returns = taken_apart (c.args.takers - 1) c.args.s.now c.args.count c.requires.rounds }

pub swap_blocks-requires : goal.swap_blocks-requires
swap_blocks-requires g c =
    next_there (c.args.takers - 1) (take c.args.count c.args.s.now) (drop c.args.count c.args.s.now) c.loop-left.s c.loop-left.at c.loop-left.left c.loop-left.invariant.returns c.loop-left-test.true

pub overflow_add-at-in-loop-left : goal.overflow_add-at-in-loop-left
overflow_add-at-in-loop-left g c =
    let there = next_there (c.args.takers - 1) (take c.args.count c.args.s.now) (drop c.args.count c.args.s.now) c.loop-left.s c.loop-left.at c.loop-left.left c.loop-left.invariant.returns c.loop-left-test.true in let size = c.loop-left.auto.s in omega (arith, there, size, c.requires.takers, c.loop-left-test.true)

pub loop-left-preserved : goal.loop-left-preserved
loop-left-preserved g c =
    let back : c.loop-left.left - 1 + 1 ≡ c.loop-left.left = omega (arith, c.loop-left-test.true) in
    let wide : suc (c.args.takers - 1) ≡ c.args.takers = omega (arith, c.requires.takers) in
    let all = take c.args.count c.args.s.now in
    let rest = drop c.args.count c.args.s.now in
    record {
      returns = subst (λ n. Returns (c.args.takers - 1) all rest c.swap_blocks.new.s (c.loop-left.at + n) (c.loop-left.left - 1)) wide
          (one_returned (c.args.takers - 1) all rest c.loop-left.s c.swap_blocks.new.s c.loop-left.at (c.loop-left.left - 1)
          (subst (Returns (c.args.takers - 1) all rest c.loop-left.s c.loop-left.at) (sym back) c.loop-left.invariant.returns) (omega (arith, c.loop-left-test.true))
          (λ before one other behind is long wide broad. c.swap_blocks.ensures before one other behind is long wide broad));
    }

pub returns-clause-firsts : goal.returns-clause-firsts
returns-clause-firsts g c =
    (all_returned (c.args.takers - 1) (take c.args.count c.args.s.now) (drop c.args.count c.args.s.now) c.loop-left.s c.loop-left.at c.loop-left.left (omega (arith, c.loop-left-test.false)) c.loop-left.invariant.returns).0

pub returns-clause-rest : goal.returns-clause-rest
returns-clause-rest g c =
    (all_returned (c.args.takers - 1) (take c.args.count c.args.s.now) (drop c.args.count c.args.s.now) c.loop-left.s c.loop-left.at c.loop-left.left (omega (arith, c.loop-left-test.false)) c.loop-left.invariant.returns).1
