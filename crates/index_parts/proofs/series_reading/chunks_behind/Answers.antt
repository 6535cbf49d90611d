use Rattle.index_parts.proofs.ListLaws.{found_from}
use Rattle.index_parts.proofs.Passing.{chunks_few}
use Rattle.index_parts.proofs.series_reading.chunks_behind.Goals as goal

pub returns-clause-few : goal.returns-clause-few
returns-clause-few c = found_from _ _ _ _ _ (λ chunks e. chunks_few _ chunks e) c.counted_chunks.ensures
