use Rattle.std.proofs.Common.{◌≡◌, ◌-◌, ◌++◌, ap, ◌∙◌, arith, suc, length, length-append}
use Rattle.std.proofs.lemmas.List.{drop_at, take_at}
use Rattle.phase_runner.proofs.Sharing.{alone_accepts, alone_changes, both_changes, cut_back, cut_front, own_accepts, rest_accepts, rounds_alike}
use Rattle.phase_runner.proofs.shares.+shares.Goals as goal

pub shares_from-in_turn-requires : goal.shares_from-in_turn-requires
shares_from-in_turn-requires g t c = alone_accepts g.F.Fn c.args.f.now c.args.takers c.args.first c.args.s.now c.if-left-eq1.true c.requires.accepts

pub shares_from-returns-then-left-eq1 : goal.shares_from-returns-then-left-eq1
shares_from-returns-then-left-eq1 g t c =
    alone_changes g.F.Fn c.args.f.now c.args.takers c.args.first c.args.s.now c.in_turn.new.s c.if-left-eq1.true (omega (arith, c.in_turn.auto.s)) c.in_turn.ensures

pub shares_from-both_shares-requires-clause-own : goal.shares_from-both_shares-requires-clause-own
shares_from-both_shares-requires-clause-own g t c κs within =
    let more : c.args.takers - c.args.first - 1 ≡ suc (c.args.takers - c.args.first - 1 - 1) = omega (arith, c.requires.takers, c.if-left-eq1.false) in
    let cut = c.split_at_mut-own in
    own_accepts g.F.Fn c.args.f.now c.args.takers c.args.first (c.args.takers - c.args.first - 1 - 1) more c.args.s.now cut.result.0.now
    (cut_front c.take_first-count.new.s cut.result.0.now cut.result.1.now _ c.take_first-count.result cut.ensures.value cut.ensures.front_len c.take_first-count.ensures.firsts) c.requires.accepts

pub shares_from-both_shares-requires-clause-rest :
    goal.shares_from-both_shares-requires-clause-rest
shares_from-both_shares-requires-clause-rest g t c κs within =
    let more : c.args.takers - c.args.first - 1 ≡ suc (c.args.takers - c.args.first - 1 - 1) = omega (arith, c.requires.takers, c.if-left-eq1.false) in
    let cut = c.split_at_mut-own in
    rest_accepts g.F.Fn c.args.f.now c.args.takers c.args.first (c.args.takers - c.args.first - 1 - 1) more c.args.s.now cut.result.1.now
    (cut_back c.take_first-count.new.s cut.result.0.now cut.result.1.now _ c.take_first-count.result cut.ensures.value cut.ensures.front_len c.take_first-count.ensures.rest) c.requires.accepts

pub shares_from-put_back-requires-clause-rounds : goal.shares_from-put_back-requires-clause-rounds
shares_from-put_back-requires-clause-rounds g t c =
    let cut = c.split_at_mut-own in
    let both = c.both_shares in
    let before = ap length cut.ensures.value ∙ length-append cut.result.0.now cut.result.1.now in
    let after = length-append both.new.own both.new.rest in
    rounds_alike (c.args.takers - c.args.first - 1) c.args.s.now c.take_first-count.new.s c.take_first-count.result (length (both.new.own ++ both.new.rest))
    (omega (arith, before, after, both.auto.own, both.auto.rest, c.take_first-count.auto.s)) c.take_first-count.ensures.within c.take_first-count.ensures.firsts

pub shares_from-returns : goal.shares_from-returns
shares_from-returns g t c =
    let more : c.args.takers - c.args.first - 1 ≡ suc (c.args.takers - c.args.first - 1 - 1) = omega (arith, c.requires.takers, c.if-left-eq1.false) in
    let cut = c.split_at_mut-own in
    let both = c.both_shares in
    let before = ap length cut.ensures.value ∙ length-append cut.result.0.now cut.result.1.now in
    let after = length-append both.new.own both.new.rest in
    let wide : length both.new.own ≡ c.take_first-count.result = omega (arith, both.auto.own, cut.ensures.front_len) in
    both_changes g.F.Fn c.args.f.now c.args.takers c.args.first (c.args.takers - c.args.first - 1 - 1) more c.args.s.now c.put_back.new.s cut.result.0.now both.new.own cut.result.1.now both.new.rest
    (cut_front c.take_first-count.new.s cut.result.0.now cut.result.1.now _ c.take_first-count.result cut.ensures.value cut.ensures.front_len c.take_first-count.ensures.firsts)
    (cut_back c.take_first-count.new.s cut.result.0.now cut.result.1.now _ c.take_first-count.result cut.ensures.value cut.ensures.front_len c.take_first-count.ensures.rest)
    (c.put_back.ensures.firsts ∙ take_at both.new.own both.new.rest c.take_first-count.result wide) (c.put_back.ensures.rest ∙ drop_at both.new.own both.new.rest c.take_first-count.result wide)
    both.auto.own both.auto.rest (omega (arith, before, after, both.auto.own, both.auto.rest, c.take_first-count.auto.s, c.put_back.auto.s)) both.ensures.own both.ensures.rest
