-- The last block and the last phase are stored before the script is made.
use Rattle.std.proofs.Common.{◌≡◌, [], None, Ok, refl}
use Rattle.script_core.specs.State.{State, all_blocks, all_phases, end_block, finish}

pub finish_of : (start ended blocks_stored phases_stored : State) → end_block start ≡ Ok ended → blocks_stored ≡ record ended { blocks = all_blocks ended.blocks ended.last ended.shelved; last = None; shelved = [] } → phases_stored ≡ record blocks_stored { phases = all_phases blocks_stored.phases blocks_stored.phase; phase = None; hands = [] } → finish start ≡ Ok (record { rules = phases_stored.rules; gateways = phases_stored.gateways; partitions = phases_stored.partitions; blocks = phases_stored.blocks; selectors = phases_stored.selectors; phases = phases_stored.phases })
unfolding finish
finish_of start ended blocks_stored phases_stored ends blocks_are phases_are =
    rw (phases_are, blocks_are, ends) refl
