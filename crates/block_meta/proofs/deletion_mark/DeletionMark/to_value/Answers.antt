use Rattle.block_meta.proofs.Again.{mark_again}
use Rattle.block_meta.proofs.deletion_mark.DeletionMark.to_value.Goals as goal

pub returns-clause-again : goal.returns-clause-again
returns-clause-again c = mark_again _ c.in_ok-write_ulid.ensures.written c.args.self.now.early
