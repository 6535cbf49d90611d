use Rattle.series_selection.proofs.KeptNumbers.{never_falls, kept_on, kept_rises}
use Rattle.series_selection.proofs.keeping.kept_numbers.Goals as goal

pub apart_until-end-requires-clause-rise : goal.apart_until-end-requires-clause-rise
apart_until-end-requires-clause-rise c = never_falls c.args.numbers.now c.requires.rise

pub loop-here-preserved : goal.loop-here-preserved
loop-here-preserved c = (kept_on c.args.wanted c.args.others.now c.args.numbers.now c.requires.others_rise c.requires.rise c.loop-here.here c.loop-here.there c.first_from-there.result c.apart_until-end.result c.behind_matches-behind.result c.loop-here.left.items c.loop-here.invariant c.loop-here-test.true
    c.first_from-there.ensures.behind c.first_from-there.ensures.within c.first_from-there.ensures.below c.apart_until-end.ensures.behind c.apart_until-end.ensures.within c.apart_until-end.ensures.below c.apart_until-end.ensures.left
    _ c.part_kept.result.now c.first_from-there.ensures.reached c.apart_until-end.ensures.reached c.behind_matches-behind.ensures.behind c.behind_matches-behind.ensures.within c.behind_matches-behind.ensures.among c.behind_matches-behind.ensures.moves c.part_kept.ensures c.in_ok-extend_from_slice.ensures.items).0

pub returns-clause-rises : goal.returns-clause-rises
returns-clause-rises c = kept_rises c.args.wanted c.args.others.now c.args.numbers.now c.loop-here.left.items c.from_vec.result c.loop-here.here c.loop-here.there c.requires.rise c.loop-here.invariant c.loop-here-test.false c.from_vec.ensures
