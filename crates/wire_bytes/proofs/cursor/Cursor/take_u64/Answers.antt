use Rattle.std.specs.Int.{w64}
use Rattle.wire_bytes.proofs.FieldLaws.{found_from, only_from, refused, ↔-then}
use Rattle.wire_bytes.proofs.FixedLaws.{wide64, number_found, number_again, number_short}
use Rattle.wire_bytes.proofs.cursor.Cursor.take_u64.Goals as goal

pub returns-clause-found : goal.returns-clause-found
returns-clause-found c =
    let p = c.args.self.now in
    let q = c.read_u64.new.self in
    found_from _ p q _ _ (λ n e. number_found w64 wide64 p q n c.read_u64.ensures.bytes e) c.read_u64.ensures.exact

pub returns-clause-only : goal.returns-clause-only
returns-clause-only c =
    let p = c.args.self.now in
    only_from _ p _ _ _ (number_again _ wide64 p) c.read_u64.ensures.exact

pub returns-clause-short : goal.returns-clause-short
returns-clause-short c =
    let p = c.args.self.now in
    ↔-then (refused p _ _ _ _ c.read_u64.ensures.exact) (number_short _ wide64 p)
