-- Where the index is lost: an end that is no good one, and entries that are not to blame.
use Rattle.std.proofs.Common.{◌≡◌, [], ap, arith}
use Rattle.block_keys.specs.Keys.{key_ulid}
use Rattle.block_keys.specs.declared.key.Key.TheVariants as key
use Rattle.lifecycle_core.specs.Breaches.{mark_time, read_time, sync_time, upload_time, view_time}
use Rattle.lifecycle_core.specs.Causes.{AreWell, IsBlamed}
use Rattle.store_calls.specs.declared.series_call.SeriesEnd.TheVariants as called
use Rattle.tests_worked.proofs.one.OtherReads.{query_came}
use Rattle.tests_worked.specs.Entries.{stored}
use Rattle.tests_worked.specs.LostIndex as lost
use Rattle.tests_worked.specs.OneStrict.{last_read}
use Rattle.tests_worked.specs.SmallBlock as small

pub not_well : ¬ AreWell lost.ends
not_well well = well lost.missing (query_came (called.Missing 10))

pub other_put : ¬ IsBlamed lost.lost small.a upload_time (stored 2 1 1 (key.Index 11) [])
other_put (k, bytes, is, own, object) = let same : key.Index 11 ≡ k = cc (is) in omega (arith, ap key_ulid same, own)

pub other_mark : ¬ IsBlamed lost.lost small.a mark_time (stored 2 1 1 (key.Mark 11) [])
other_mark (second, (bytes, mark, is, landed, text, time)) = let same : key.Mark 11 ≡ key.Mark small.a = cc (is) in omega (arith, ap key_ulid same)

pub no_sync : ¬ IsBlamed lost.lost small.a sync_time lost.lost
no_sync blamed = blamed

pub other_read : ¬ IsBlamed lost.lost small.a view_time last_read
other_read same = omega (arith, same)

pub no_compaction : ¬ IsBlamed lost.lost small.a read_time lost.lost
no_compaction blamed = blamed
