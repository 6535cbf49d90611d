use Rattle.std.proofs.Common.{◌+◌, ◌++◌, ◌∙◌, List, refl, subst, sym, arith, take}
use Rattle.std.proofs.lemmas.List.{take_all}
use Rattle.script_core.specs.declared.block.Block.{Block}
use Rattle.call_verdicts.specs.Asked.{WasRead, shelf_ulids}
use Rattle.call_verdicts.specs.ShelfReads.{AreRead}
use Rattle.call_verdicts.proofs.ShelfReads.{broken_since, none_read, ok_is, read_front, read_none}
use Rattle.call_verdicts.proofs.shelf_reading.read_each.Goals as goal

pub loop-start-init : goal.loop-start-init
loop-start-init g c = record {
  within = omega arith;
  read = subst (AreRead (g.F.Shelf.told c.args.shelf).files (take 0 c.args.blocks.now)) (sym c.new-read.ensures) (none_read (g.F.Shelf.told c.args.shelf).files c.args.blocks.now);
  calm = refl;
  asked = λ was. read_none g.F.Shelf.told (shelf_ulids (take 0 c.args.blocks.now)) c.args.shelf was;
  same = refl;
}

pub loop-start-preserved : goal.loop-start-preserved
loop-start-preserved g c =
    let i = c.loop-start.invariant in
    let before = take c.loop-start.start c.args.blocks.now in
    let next = c.part_of-group.ensures in
    record {
      within = omega arith;
      read = subst (λ (bs : List Block). AreRead (g.F.Shelf.told c.args.shelf).files bs c.read_group-came.new.read) next
          (subst (λ told. AreRead told (before ++ c.part_of-group.result.now) c.read_group-came.new.read) i.same
          (ok_is c.read_group-came.result.0 c.in_default.field-0 _ c.in_default.is (c.read_group-came.ensures.read before (subst (λ told. AreRead told before c.loop-start.read) (sym i.same) i.read))));
      calm = ok_is c.read_group-came.result.0 c.in_default.field-0 _ c.in_default.is c.read_group-came.ensures.calm ∙ i.calm;
      asked = λ was. subst (λ (bs : List Block). WasRead g.F.Shelf.told (shelf_ulids bs) c.read_group-came.result.1) next (c.read_group-came.ensures.asked before (i.asked was));
      same = c.read_group-came.ensures.same ∙ i.same;
    }

pub returns-in-Err-clause-broken : goal.returns-in-Err-clause-broken
returns-in-Err-clause-broken g c =
    broken_since (g.F.Shelf.told c.args.shelf).faults (g.F.Shelf.told c.loop-start.shelf).faults (g.F.Shelf.told c.read_group-came.result.1).faults c.read_group-came.result.0 c.in-Err.verdict c.loop-start.invariant.calm c.in-Err.is c.read_group-came.ensures.broken

pub returns-in-Err-clause-asked : goal.returns-in-Err-clause-asked
returns-in-Err-clause-asked g c = λ was.
    let before = take c.loop-start.start c.args.blocks.now in
    read_front g.F.Shelf.told c.args.blocks.now (c.loop-start.start + c.min-count.result) c.read_group-came.result.1
    (subst (λ (bs : List Block). WasRead g.F.Shelf.told (shelf_ulids bs) c.read_group-came.result.1) c.part_of-group.ensures (c.read_group-came.ensures.asked before (c.loop-start.invariant.asked was)))

pub returns-in-Err-clause-same : goal.returns-in-Err-clause-same
returns-in-Err-clause-same g c = c.read_group-came.ensures.same ∙ c.loop-start.invariant.same

pub returns-clause-read : goal.returns-clause-read
returns-clause-read g c =
    subst (λ (bs : List Block). AreRead (g.F.Shelf.told c.args.shelf).files bs c.loop-start.read) (take_all c.loop-start.start c.args.blocks.now (omega (arith, c.loop-start-test.false))) c.loop-start.invariant.read

pub returns-clause-asked : goal.returns-clause-asked
returns-clause-asked g c = λ was. read_front g.F.Shelf.told c.args.blocks.now c.loop-start.start c.loop-start.shelf (c.loop-start.invariant.asked was)
