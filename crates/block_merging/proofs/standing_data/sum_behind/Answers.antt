use Rattle.base.proofs.Binds.{ok_is}
use Rattle.wire_bytes.specs.declared.varint.WireRefusal.{WireRefusal}
use Rattle.block_merging.proofs.StandingData.{front_within, left_behind}
use Rattle.block_merging.proofs.standing_data.sum_behind.Goals as goal

pub returns-then-framed-size : goal.returns-then-framed-size
returns-then-framed-size c = λ front text after sum many is whole. absurd (front_within c.args.framed.now front text after c.args.size many whole c.if-framed-size.true)

pub returns-in-Ok : goal.returns-in-Ok
returns-in-Ok c = λ front text after sum many is whole.
    ok_is {E = WireRefusal} c.in-Ok.sum sum (c.in-Ok.ensures.only text sum after is (left_behind c.args.framed.now front text after c.args.size _ c.at-cursor.ensures many whole)).0

pub returns-in-Err : goal.returns-in-Err
returns-in-Err c = λ front text after sum many is whole.
    let no = (c.in-Err.ensures.only text sum after is (left_behind c.args.framed.now front text after c.args.size _ c.at-cursor.ensures many whole)).0 in absurd cc
