-- The script of one block over a bucket that shows the sync another meta: its gateway comes to no view, and its query has none.
use Rattle.std.specs.Prelude.{List, [], ◌∷◌, ◌++◌, codes}
use Rattle.block_keys.specs.declared.key.Key.TheVariants as key
use Rattle.world_core.specs.declared.entry.Entry.{Entry}
use Rattle.shipper.specs.declared.upload.UploadEnd.TheVariants as shipped
use Rattle.meta_fetcher.specs.declared.sync.SyncEnd.TheVariants as fetched
use Rattle.lifecycle_core.specs.Tasks.{End, uploaded, synced, without_view}
use Rattle.tests_worked.specs.SmallBlock as small
use Rattle.tests_worked.specs.OneBlock as one
use Rattle.tests_worked.specs.Entries.{absent, clock, found, listed}

-- the sync's reads before that of the meta
abbrev pub looks : List Entry
looks = listed 7 2 1_800_001 (small.a_text ∷ []) ∷ absent 8 2 1_800_002 (key.Mark small.a) ∷ []

-- the meta is shown as one letter
abbrev pub spoiled : Entry
spoiled = found 9 2 1_800_003 (key.Meta small.a) (codes "x")

abbrev pub sync : List Entry
sync = looks ++ spoiled ∷ []

abbrev pub journal : List Entry
journal = clock 1 0 ∷ one.upload ++ clock 6 1_800_000 ∷ sync

abbrev pub ends : List (List (List End))
ends =
    ((uploaded (shipped.Done 3) ∷ []) ∷ [])
    ∷ ((synced (fetched.Damaged 9) ∷ without_view ∷ []) ∷ [])
    ∷ []
