use Rattle.wire_bytes.proofs.FieldLaws.{found_from, only_from, refused, ↔-then, uvarint_found, uvarint_again, uvarint_short, uvarint_overlong}
use Rattle.wire_bytes.proofs.cursor.Cursor.take_uvarint.Goals as goal

pub returns-clause-found : goal.returns-clause-found
returns-clause-found c =
    let p = c.args.self.now in
    let q = c.read_uvarint.new.self in
    found_from _ p q _ _ (λ n e. uvarint_found p q n c.read_uvarint.ensures.bytes e) c.read_uvarint.ensures.exact

pub returns-clause-only : goal.returns-clause-only
returns-clause-only c =
    let p = c.args.self.now in
    only_from _ p _ _ _ (uvarint_again p) c.read_uvarint.ensures.exact

pub returns-clause-short : goal.returns-clause-short
returns-clause-short c =
    let p = c.args.self.now in
    ↔-then (refused p _ _ _ _ c.read_uvarint.ensures.exact) (uvarint_short p)

pub returns-clause-overlong : goal.returns-clause-overlong
returns-clause-overlong c =
    let p = c.args.self.now in
    ↔-then (refused p _ _ _ _ c.read_uvarint.ensures.exact) (uvarint_overlong p)
