use Rattle.std.specs.Str.{bytes_eq}
use Rattle.std.proofs.lemmas.List.Filters.{dedup_is}
use Rattle.index_writing.proofs.symbols_in_use.drop_repeats.Goals as goal

pub returns : goal.returns
returns c = dedup_is bytes_eq _ _ c.dedup.ensures.filtered
