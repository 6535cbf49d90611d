use Rattle.block_content.proofs.TimesAndOrder.{index_found}
use Rattle.base.proofs.Binds.{refused_as_ok}
use Rattle.compactor.proofs.Refusing.{read_wants}
use Rattle.compactor.proofs.merging.read_again.Goals as goal

pub only_memory-requires : goal.only_memory-requires
only_memory-requires c = read_wants c.args.index.now c.read_index.ensures.bytes c.requires.0 c.in-Err.refusal c.requires.1 c.in-Err.ensures.exact

pub returns-in-Ok-clause-read : goal.returns-in-Ok-clause-read
returns-in-Ok-clause-read c = index_found c.args.index.now c.in-Ok.indexed c.read_index.ensures.bytes (refused_as_ok _ _ _ c.in-Ok.ensures.exact)
