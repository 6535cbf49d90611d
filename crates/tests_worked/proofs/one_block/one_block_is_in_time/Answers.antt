use Rattle.tests_worked.proofs.one.OneInTime as time
use Rattle.tests_worked.proofs.one_block.one_block_is_in_time.Goals as goal

pub returns : goal.returns
returns c = record { uploaded = time.uploaded_in_time; marked = time.marked_in_time; read = time.read_in_time; synced = (time.sync_is, time.synced_in_time); covered = time.leaves_none_out }
