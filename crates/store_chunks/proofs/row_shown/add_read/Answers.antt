use Rattle.std.proofs.Common.{◌∙◌, refl}
use Rattle.store_chunks.proofs.RowsApart.{apart_one}
use Rattle.store_chunks.proofs.row_shown.add_read.Goals as goal

pub returns : goal.returns
returns c = apart_one c.args.apart.now.items c.push.new.self.items c.args.reference c.args.samples.now (record { reference = c.args.reference; samples = c.from_vec.result }) c.in_ok-push.ensures.items refl
    (c.from_vec.ensures ∙ c.in_ok-own.ensures.items)
