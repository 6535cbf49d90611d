use Rattle.script_core.specs.View.{state_of}
use Rattle.script_core.proofs.Finishing.{finish_of}
use Rattle.script_core.proofs.draft.Draft.end.Goals as goal

pub returns : goal.returns
unfolding state_of
returns c =
    finish_of (state_of c.args.self.now) (state_of c.end_block.new.self) (state_of c.store_blocks.new.self) (state_of c.store_phase.new.self) c.in_ok-end_block.ensures c.in_ok-store_blocks.ensures c.in_ok-store_phase.ensures
