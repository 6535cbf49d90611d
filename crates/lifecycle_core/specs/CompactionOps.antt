-- What a compaction may ask for, by its entries before.
use Rattle.std.specs.Prelude.{◌≡◌, ◌≢◌, ℕ, ◌+◌, true, List, [], ◌∷◌, ◌++◌, Contains, Some, slice_get, length}
use Rattle.std.specs.List.{AllZip}
use Rattle.block_keys.specs.declared.key.Key.{Key}
use Rattle.block_keys.specs.declared.key.Key.TheVariants as key
use Rattle.block_keys.specs.declared.object.Object.{Object}
use Rattle.block_meta.specs.declared.meta.Meta.{Meta}
use Rattle.block_meta.specs.declared.block_files.BlockFiles.{BlockFiles}
use Rattle.compactor.specs.FoundNames.{names_of}
use Rattle.compactor.specs.Marking.{details_of}
use Rattle.compactor.specs.NewMarks.{new_mark_text}
use Rattle.compactor.specs.declared.reason.Reason.{Reason}
use Rattle.moment_core.specs.declared.rules.Rules.{Rules}
use Rattle.world_core.specs.declared.op.Op.{Op}
use Rattle.world_core.specs.declared.op.Op.TheVariants as op
use Rattle.world_core.specs.declared.reply.Reply.TheVariants as reply
use Rattle.world_core.specs.declared.entry.Entry.{Entry}
use Rattle.sync_filters.specs.Filters.{is_expired}
use Rattle.sync_filters.specs.declared.found.Found.{Found}
use Rattle.meta_fetcher.specs.Syncs.{SyncRun}
use Rattle.meta_fetcher.specs.declared.sync.SyncEnd.TheVariants as fetched
use Rattle.meta_fetcher.specs.declared.view.View.{View}
use Rattle.group_planner.specs.Groups.{AreGroups}
use Rattle.group_planner.specs.Plans.{IsPlan}
use Rattle.group_planner.specs.declared.group.Group.{Group}
use Rattle.compactor.specs.Merges.{IsMerging}
use Rattle.compactor.specs.Named.{named_segments}
use Rattle.compactor.specs.declared.input.Input.{Input}
use Rattle.compactor.specs.declared.input.Read.{Read}
use Rattle.compactor.specs.declared.merging.Merging.TheVariants.{Merged}
use Rattle.compactor.specs.Compactions.{metas_of, sync_rules}
use Rattle.compactor.specs.NewBlocks.{block_objects, new_ulid}

-- The entries of a compaction begin with a sync that gave this view.
pub record HasSynced (rules : Rules) (own : List Entry) (view : View) : Type 0 where
  pub sync : List Entry
  pub others : List Entry
  pub parts : own ≡ sync ++ others
  pub run : SyncRun (sync_rules rules) sync (Some (fetched.View view))

-- an entry among these read the object with these bytes
abbrev pub ReadsObject : List Entry → Key → Read → Type 0
ReadsObject own k one = (e : Entry) × Contains own e × (e.op ≡ op.Get k) × (e.reply ≡ reply.Found one.bytes) × (e.seq ≡ one.number)

-- The block was read whole: its index, and as many segments as that names.
pub record WasRead (own : List Entry) (meta : Meta) (input : Input) : Type 0 where
  pub meta_is : input.meta ≡ meta
  pub index : ReadsObject own (key.Index meta.ulid) input.index
  pub named : named_segments input.index.bytes ≡ Some (length input.segments)
  pub segments : (place : ℕ) (one : Read) → slice_get input.segments place ≡ Some one → ReadsObject own (key.Segment meta.ulid (place + 1)) one

-- Behind these entries a compaction has read the blocks of a group's plan, and they were merged into this block.
pub record HasMerged (rules : Rules) (view : View) (own : List Entry) (ulid : ℕ) (block : BlockFiles) : Type 0 where
  pub synced : HasSynced rules own view
  pub groups : List Group
  pub grouped : AreGroups rules.replicas (metas_of view.kept) groups
  pub group : Group
  pub among : Contains groups group
  pub metas : List Meta
  pub planned : IsPlan group.members metas
  pub some : metas ≢ []
  pub inputs : List Input
  pub read : AllZip (WasRead own) metas inputs
  pub front : List Entry
  pub last : Entry
  pub ends : own ≡ front ++ last ∷ []
  pub ulid_is : ulid ≡ new_ulid last.seq last.moment
  pub merged : IsMerging rules.replicas ulid group.labels inputs (Merged block)

-- the entry put the object
abbrev pub Stores : Entry → Object → Type 0
Stores e object = (e.op ≡ op.Put object.key object.bytes) × (e.reply ≡ reply.Stored)

-- Behind these entries a compaction puts this object: one of a block that was merged, behind a look that found no meta of it, and the
-- puts of the block's objects before.
pub record IsObjectMade (rules : Rules) (own : List Entry) (k : Key) (bytes : List ℕ) : Type 0 where
  pub read : List Entry
  pub look : Entry
  pub puts : List Entry
  pub parts : own ≡ read ++ look ∷ puts
  pub ulid : ℕ
  pub asks : look.op ≡ op.Get (key.Meta ulid)
  pub absent : look.reply ≡ reply.Absent
  pub block : BlockFiles
  pub view : View
  pub merged : HasMerged rules view read ulid block
  pub done : List Object
  pub left : List Object
  pub objects : block_objects ulid block ≡ done ++ record { key = k; bytes = bytes } ∷ left
  pub stored : AllZip Stores puts done

-- The block is an input of one that was compacted, and whose meta was stored, behind these entries.
pub record WasCompacted (rules : Rules) (own : List Entry) (view : View) (ulid : ℕ) : Type 0 where
  pub upto : List Entry
  pub put : Entry
  pub later : List Entry
  pub parts : own ≡ upto ++ put ∷ later
  pub new : ℕ
  pub text : List ℕ
  pub puts : put.op ≡ op.Put (key.Meta new) text
  pub stored : put.reply ≡ reply.Stored
  pub made : IsObjectMade rules upto (key.Meta new) text
  pub same : made.view ≡ view
  pub input : (meta : Meta) × Contains (made.merged).metas meta × (meta.ulid ≡ ulid)

-- The block is one of those of the view.
abbrev pub IsKept : View → ℕ → Found → Type 0
IsKept view ulid found = Contains view.kept found × (found.ulid ≡ ulid)

-- For one of these a compaction marks a block.
pub data IsReason (rules : Rules) (own : List Entry) (view : View) (ulid : ℕ) : Type 0 where
  covered : Contains (names_of view.covered) ulid → IsReason rules own view ulid
  expired : (found : Found) → IsKept view ulid found → is_expired found.meta rules.retention view.begin ≡ true → IsReason rules own view ulid
  compacted : WasCompacted rules own view ulid → IsReason rules own view ulid

-- Behind these entries a compaction puts a mark of these bytes: right behind a look that found none, for such a reason.
pub record IsMarkMade (rules : Rules) (own : List Entry) (ulid : ℕ) (bytes : List ℕ) : Type 0 where
  pub front : List Entry
  pub look : Entry
  pub parts : own ≡ front ++ look ∷ []
  pub asks : look.op ≡ op.Get (key.Mark ulid)
  pub absent : look.reply ≡ reply.Absent
  pub why : Reason
  pub text : bytes ≡ new_mark_text ulid look.moment (details_of why)
  pub view : View
  pub synced : HasSynced rules own view
  pub reason : IsReason rules own view ulid

-- Behind these entries a compaction reads an object of the block for a merge: its view keeps the block, and it put no mark of it.
pub record IsInputRead (rules : Rules) (own : List Entry) (ulid : ℕ) : Type 0 where
  pub view : View
  pub synced : HasSynced rules own view
  pub found : Found
  pub kept : IsKept view ulid found
  pub unmarked : (e : Entry) → Contains own e → (bytes : List ℕ) → e.op ≢ op.Put (key.Mark ulid) bytes

-- What a compaction may ask for behind these entries.
abbrev pub IsCompactOp : Rules → List Entry → Op → Type 0
IsCompactOp rules own (op.Clock moment) = ⊥
IsCompactOp rules own (op.Put (key.Mark ulid) bytes) = IsMarkMade rules own ulid bytes
IsCompactOp rules own (op.Put (key.Meta ulid) bytes) = IsObjectMade rules own (key.Meta ulid) bytes
IsCompactOp rules own (op.Put (key.Index ulid) bytes) = IsObjectMade rules own (key.Index ulid) bytes
IsCompactOp rules own (op.Put (key.Segment ulid number) bytes) = IsObjectMade rules own (key.Segment ulid number) bytes
IsCompactOp rules own (op.Get (key.Mark ulid)) = Unit {0}
IsCompactOp rules own (op.Get (key.Meta ulid)) = Unit {0}
IsCompactOp rules own (op.Get (key.Index ulid)) = IsInputRead rules own ulid
IsCompactOp rules own (op.Get (key.Segment ulid number)) = IsInputRead rules own ulid
IsCompactOp rules own (op.GetRange k from len) = ⊥
IsCompactOp rules own (op.Delete k) = ⊥
IsCompactOp rules own (op.RootPage after limit) = Unit {0}
IsCompactOp rules own (op.BlockPage ulid after limit) = ⊥
