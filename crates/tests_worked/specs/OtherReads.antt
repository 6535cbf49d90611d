-- The script of one block, where the query's reads of the index are answered otherwise.
use Rattle.std.specs.Prelude.{List, [], ◌∷◌, ◌++◌, false}
use Rattle.block_keys.specs.declared.key.Key.TheVariants as key
use Rattle.world_core.specs.declared.entry.Entry.{Entry}
use Rattle.world_core.specs.declared.op.Op.TheVariants as op
use Rattle.world_core.specs.declared.reply.Reply.{Reply}
use Rattle.world_core.specs.declared.reply.Reply.TheVariants as reply
use Rattle.shipper.specs.declared.upload.UploadEnd.TheVariants as shipped
use Rattle.meta_fetcher.specs.declared.sync.SyncEnd.TheVariants as fetched
use Rattle.store_calls.specs.declared.series_call.SeriesEnd.{SeriesEnd}
use Rattle.store_calls.specs.declared.series_call.SeriesEnd.TheVariants as called
use Rattle.lifecycle_core.specs.Tasks.{End, uploaded, synced, answered}
use Rattle.tests_worked.specs.SmallBlock as small
use Rattle.tests_worked.specs.OneBlock as one
use Rattle.tests_worked.specs.Entries.{clock, entry, found}

-- the first read of the index, which is of its table of contents
abbrev pub index_read : Reply → Entry
index_read reply = entry 10 2 1_800_004 (op.GetRange (key.Index small.a) 153 52) reply

-- with these reads of the query
abbrev pub journal_with : List Entry → List Entry
journal_with reads = clock 1 0 ∷ one.upload ++ clock 6 1_800_000 ∷ one.sync ++ reads

-- where the query came to this end
abbrev pub ends_with : SeriesEnd → List (List (List End))
ends_with came =
    ((uploaded (shipped.Done 3) ∷ []) ∷ [])
    ∷ ((synced (fetched.View one.view) ∷ answered one.used came ∷ []) ∷ [])
    ∷ []

-- the bucket shows no bytes, and so the whole index is read, which has none either
abbrev pub spoiled_reads : List Entry
spoiled_reads = index_read (reply.Found []) ∷ found 11 2 1_800_005 (key.Index small.a) [] ∷ []

abbrev pub spoiled : List Entry
spoiled = journal_with spoiled_reads

abbrev pub spoiled_ends : List (List (List End))
spoiled_ends = ends_with (called.Damaged 11)

-- the call fails
abbrev pub failed : List Entry
failed = journal_with (index_read (reply.Failed false) ∷ [])

abbrev pub failed_ends : List (List (List End))
failed_ends = ends_with (called.Fault 10)
