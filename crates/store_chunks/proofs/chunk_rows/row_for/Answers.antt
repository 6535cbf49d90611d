use Rattle.std.proofs.Common.{◌∙◌, sym, ap, arith}
use Rattle.std.proofs.lemmas.List.{nil_from_length}
use Rattle.store_chunks.specs.ChunksRead.{reads_of}
use Rattle.store_chunks.proofs.Rows.{row_begins, last_taken, last_put_back}
use Rattle.store_chunks.proofs.chunk_rows.row_for.Goals as goal

pub returns-in_default : goal.returns-in_default
returns-in_default c = row_begins c.args.rows.now.items c.pop.new.self.items c.new_row.result
    (ap reads_of (nil_from_length c.args.rows.now.items (omega (arith, c.in_default.ensures.cases.0, c.args.rows.now.ok)) ∙ sym (nil_from_length c.pop.new.self.items (omega (arith, c.in_default.ensures.cases.1, c.pop.new.self.ok)))))
    c.new_row.ensures

pub returns-then-reference-last : goal.returns-then-reference-last
returns-then-reference-last c = last_taken c.args.rows.now.items c.pop.new.self.items c.in-Some.last c.in-Some.ensures.items

pub returns : goal.returns
returns c = row_begins c.args.rows.now.items c.push.new.self.items c.new_row-2.result (last_put_back c.args.rows.now.items c.pop.new.self.items c.push.new.self.items c.in-Some.last c.without_room.result c.in-Some.ensures.items c.without_room.ensures c.in_ok-push.ensures.items) c.new_row-2.ensures
