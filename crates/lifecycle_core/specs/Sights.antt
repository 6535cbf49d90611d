-- What a sync saw that gave a view.
use Rattle.std.specs.Prelude.{◌≡◌, ◌≢◌, ◌⊎◌, ℕ, ◌<◌, ◌^◌, List, ◌∷◌, ◌++◌, All, Contains, Option, Some, None, option_map, length}
use Rattle.ulid_core.specs.UlidText.{text_of}
use Rattle.label_sets.specs.Labels.{ComesBefore}
use Rattle.block_keys.specs.declared.key.Key.TheVariants as key
use Rattle.block_meta.specs.MetaFields.{MarkFields, fields_of, mark_fields_of}
use Rattle.block_meta.specs.OfBlocks.{block_mark, block_meta}
use Rattle.world_core.specs.declared.op.Op.TheVariants as op
use Rattle.world_core.specs.declared.reply.Reply.{Reply}
use Rattle.world_core.specs.declared.reply.Reply.TheVariants as reply
use Rattle.world_core.specs.declared.entry.Entry.{Entry}
use Rattle.sync_filters.specs.declared.found.Found.{Found}
use Rattle.meta_fetcher.specs.Sightings.{covered_by, kept_by}
use Rattle.meta_fetcher.specs.declared.rules.SyncRules.{SyncRules}
use Rattle.meta_fetcher.specs.declared.view.View.{View}

-- what a reply tells of a block's mark
abbrev pub TellsMark : ℕ → Option MarkFields → Reply → Type 0
TellsMark ulid None r = r ≡ reply.Absent
TellsMark ulid (Some mark) r = (bytes : List ℕ) × (r ≡ reply.Found bytes) × (block_mark ulid bytes ≡ Some mark)

-- The block was found by a sync: an entry of it read its mark, and a later one its meta.
pub record IsSeen (entries : List Entry) (found : Found) : Type 0 where
  pub front : List Entry
  pub looked : Entry
  pub middle : List Entry
  pub read : Entry
  pub back : List Entry
  pub parts : entries ≡ front ++ looked ∷ (middle ++ read ∷ back)
  pub small : found.ulid < 2 ^ 128
  pub asks_mark : looked.op ≡ op.Get (key.Mark found.ulid)
  pub tells : TellsMark found.ulid (option_map mark_fields_of found.mark) looked.reply
  pub mark_moment : found.mark_read ≡ looked.moment
  pub asks_meta : read.op ≡ op.Get (key.Meta found.ulid)
  pub bytes : List ℕ
  pub shows : read.reply ≡ reply.Found bytes
  pub meta_is : block_meta found.ulid bytes ≡ Some (fields_of found.meta)
  pub meta_moment : found.meta_read ≡ read.moment

-- The entry, if it is a root page, lists the block where it is due; and if it is a read of its meta, it finds one.
pub record ShowsBlock (ulid : ℕ) (e : Entry) : Type 0 where
  pub listed : (after : List ℕ) (limit : ℕ) (names : List (List ℕ)) → e.op ≡ op.RootPage after limit → e.reply ≡ reply.Names names → ComesBefore after (text_of ulid)
      → Contains names (text_of ulid) ⊎ ((length names ≡ limit) × All (λ name. ComesBefore name (text_of ulid)) names)
  pub met : e.op ≡ op.Get (key.Meta ulid) → e.reply ≢ reply.Absent

-- What a sync that gave a view saw: the blocks that it found, of which the view keeps those that pass, and among them each that all
-- its entries show.
pub record IsSight (rules : SyncRules) (entries : List Entry) (view : View) : Type 0 where
  pub first : Entry
  pub others : List Entry
  pub are : entries ≡ first ∷ others
  pub number : view.first ≡ first.seq
  pub begin : view.begin ≡ first.moment
  pub found : List Found
  pub kept : view.kept ≡ kept_by rules found
  pub covered : view.covered ≡ covered_by rules found
  pub seen : All (IsSeen entries) found
  pub all : (ulid : ℕ) → ulid < 2 ^ 128 → All (ShowsBlock ulid) entries → (f : Found) × Contains found f × (f.ulid ≡ ulid)
