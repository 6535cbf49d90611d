use Rattle.std.proofs.Common.{◌++◌, length, subst, ◌∙◌}
use Rattle.index_parts.specs.Framed.{IsEntry}
use Rattle.std.proofs.lemmas.Result.{on_ok_weaker}
use Rattle.index_writing.proofs.ChunksWritten.{series_stands}
use Rattle.index_writing.proofs.series_writing.write_series.Goals as goal

pub returns-clause-stands : goal.returns-clause-stands
returns-clause-stands c = λ after.
    let made = c.in_ok-content.ensures in
    on_ok_weaker c.append_entry.result (λ entry. series_stands (c.append_entry.new.out.items ++ after) (length c.args.out.now.items) c.args.series.now c.requires.as_many c.requires.chunks
    (record { names = made.names; values = made.values; label_count = made.label_count; chunk_count = made.chunk_count; chunks = made.fit })
    (subst (IsEntry (c.append_entry.new.out.items ++ after) (length c.args.out.now.items)) (c.as_slice.ensures.value ∙ made.ok) entry)) (c.append_entry.ensures.stands after)
