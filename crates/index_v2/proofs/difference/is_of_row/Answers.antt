use Rattle.std.proofs.Common.{Ok, Err}
use Rattle.index_v2.proofs.Differences.{tells_place, of_no_row}
use Rattle.index_v2.proofs.RankedGaps.{ranked_of_row}
use Rattle.index_v2.proofs.difference.is_of_row.Goals as goal

pub returns-in-Ok : goal.returns-in-Ok
returns-in-Ok c =
    λ symbols told listed tells are. ranked_of_row symbols _ listed _ told _ _ are c.requires.as_many _ _ _
    (tells_place _ c.args.number (Ok c.in-Ok.place) c.requires.rise c.in-Ok.ensures.position) c.index-series-place.is c.members.ensures
    (λ one ranked. c.belongs.ensures symbols told one tells ranked)

pub returns-in-Err : goal.returns-in-Err
returns-in-Err c =
    λ symbols told listed tells are. of_no_row c.args.numbers.now listed told c.args.number c.in-Err.field-0
    (tells_place _ c.args.number (Err c.in-Err.field-0) c.requires.rise c.in-Err.ensures.position)
