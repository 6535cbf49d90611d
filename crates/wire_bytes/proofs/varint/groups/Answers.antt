use Rattle.std.proofs.Common.{arith, ◌+◌, ◌%◌}
use Rattle.std.proofs.lemmas.List.{length-set}
use Rattle.wire_bytes.specs.Written.{uvarint_text}
use Rattle.wire_bytes.proofs.GroupsWritten.{written_last, written_more, written_tenth, still_small}
use Rattle.wire_bytes.proofs.varint.groups.Goals as goal

pub returns-then-high-lt-BASE-clause-text : goal.returns-then-high-lt-BASE-clause-text
returns-then-high-lt-BASE-clause-text c =
    let l = c.loop-i in
    written_last _ _ _ _ c.loop-i-test.true l.invariant.room c.if-high-lt-BASE.true l.invariant.whole

pub loop-i-preserved : goal.loop-i-preserved
loop-i-preserved c =
    let l = c.loop-i in
    record {
      room = omega (arith, length-set l.groups l.i (128 + l.high % 128));
      small = still_small l.high l.i l.invariant.small;
      whole = written_more l.i l.high l.groups (uvarint_text c.args.n) c.loop-i-test.true l.invariant.room c.if-high-lt-BASE.false l.invariant.whole;
    }

pub returns-clause-text : goal.returns-clause-text
returns-clause-text c =
    let l = c.loop-i in
    written_tenth _ _ _ _ c.loop-i-test.false l.auto.i-end l.invariant.room l.invariant.whole
