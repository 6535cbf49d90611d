use Rattle.block_content.proofs.FewListed.{lists_few}
use Rattle.block_content.proofs.index_reading.lent_index.Goals as goal

pub returns-clause-few : goal.returns-clause-few
returns-clause-few c = lists_few c.whole_lent.result _ c.args.index.now c.in_ok-reader.ensures.found.0 (c.whole_lent.ensures.few c.in_ok-reader.ensures.found.1) c.whole_lent.ensures.bounded
