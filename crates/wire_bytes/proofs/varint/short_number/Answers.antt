use Rattle.std.proofs.Common.{◌<◌, length, arith, refl}
use Rattle.std.proofs.lemmas.Bool.Decides.{nat_tests}
use Rattle.wire_bytes.proofs.ShortNumbers.{one_group, two_groups, three_groups}
use Rattle.wire_bytes.proofs.varint.short_number.Goals as goal

pub returns-then-first-lt-MORE-clause-read : goal.returns-then-first-lt-MORE-clause-read
returns-then-first-lt-MORE-clause-read c =
    let some : 0 < length c.args.bytes.now = grind (arith, nat_tests) in
    rw c.from.ensures (one_group _ _ some refl c.if-first-lt-MORE.true)

pub returns-then-second-lt-MORE-clause-read : goal.returns-then-second-lt-MORE-clause-read
returns-then-second-lt-MORE-clause-read c =
    rw (c.from-then-second-lt-MORE.ensures, c.from-then-second-lt-MORE-2.ensures) (two_groups _ _ _ c.if-bytes-lt2.false refl refl c.if-first-lt-MORE.false c.if-second-lt-MORE.true)

pub returns-clause-read : goal.returns-clause-read
returns-clause-read c =
    rw (c.from-4.ensures, c.from-2.ensures, c.from-3.ensures) (three_groups _ _ _ _ c.if-bytes-lt3.false refl refl refl c.if-first-lt-MORE.false c.if-second-lt-MORE.false c.if-bytes-ge-MORE.false)
