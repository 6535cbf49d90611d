-- What a world's bucket was asked, beside what the journal says.
use Rattle.std.specs.Prelude.{◌≡◌, ◌⊎◌, Bool, false, List, [], ◌∷◌, ◌++◌, Option, Some, Result, Ok, Err}
use Rattle.std.specs.List.{flat_map}
use Rattle.base.specs.declared.memory.NoMemory.{NoMemory}
use Rattle.ulid_core.specs.UlidText.{text_of}
use Rattle.block_keys.specs.KeyText.{key_text}
use Rattle.bucket_core.specs.Asking.{Call, puts, gets, gets_range, deletes, lists, Asks}
use Rattle.bucket_core.specs.Told.{BucketTold}
use Rattle.world_core.specs.Worlds.{WorldView}
use Rattle.world_core.specs.declared.op.Op.{Op}
use Rattle.world_core.specs.declared.op.Op.TheVariants.{Clock, Put, Get, GetRange, Delete, RootPage, BlockPage}
use Rattle.world_core.specs.declared.reply.Reply.{Reply}
use Rattle.world_core.specs.declared.entry.Entry.{Entry}
use Rattle.world_core.specs.declared.act.Acted.{Acted}
use Rattle.world_core.specs.declared.act.Acted.TheVariants as answer

-- the call that an operation is; setting the clock is none
abbrev pub calls_for : Op → List Call
calls_for (Clock moment) = []
calls_for (Put key bytes) = puts (key_text key) bytes ∷ []
calls_for (Get key) = gets (key_text key) ∷ []
calls_for (GetRange key from len) = gets_range (key_text key) from len ∷ []
calls_for (Delete key) = deletes (key_text key) ∷ []
calls_for (RootPage after limit) = lists [] after limit ∷ []
calls_for (BlockPage ulid after limit) = lists (text_of ulid) after limit ∷ []

-- the calls of all entries, in their order
abbrev pub calls_of : List Entry → List Call
calls_of entries = flat_map (λ e. calls_for e.op) entries

-- the call that opens a world
abbrev pub opening : Call
opening = lists [] [] 1

-- Doing an operation asked for its call once, and for nothing else. Where memory was wanted it may have asked for nothing.
abbrev pub AsksIn : {B : Type 0} → (B → BucketTold) → B → B → Op → Result Reply NoMemory → Type 0
AsksIn {B} tells old new op (Ok reply) = Asks (tells old).asked (tells new).asked (calls_for op)
AsksIn {B} tells old new op (Err none) = Asks (tells old).asked (tells new).asked (calls_for op) ⊎ ((tells new).asked ≡ (tells old).asked)

-- What a world asked when an operation was asked for: its call once, and for nothing where it was refused.
abbrev pub AsksBy : {B : Type 0} → (B → BucketTold) → B → B → Op → Acted → Type 0
AsksBy {B} tells old new op (answer.Done seen) = Asks (tells old).asked (tells new).asked (calls_for op)
AsksBy {B} tells old new op answer.Full = (tells new).asked ≡ (tells old).asked
AsksBy {B} tells old new op answer.NoMemory = Asks (tells old).asked (tells new).asked (calls_for op) ⊎ ((tells new).asked ≡ (tells old).asked)

-- After the calls that were asked before the world was opened, the bucket was asked for the opening page and then for the
-- journal's operations but the clock's, each once and in their order, and for nothing else.
abbrev pub IsAllAsked : {B : Type 0} → (B → BucketTold) → List Call → WorldView B → Type 0
IsAllAsked {B} tells before world = (tells world.bucket).asked ≡ Some (before ++ opening ∷ calls_of world.journal)

-- Operations took a world from `old` to `new`, and memory was wanted before them or until their end. Unless it was, all that
-- the bucket was asked is journaled if it was before.
pub record KeepsAsked {B : Type 0} (tells : B → BucketTold) (wanted_before : Bool) (old : WorldView B) (wanted_now : Bool) (new : WorldView B) : Type 0 where
  pub later : wanted_now ≡ false → wanted_before ≡ false
  pub all : wanted_now ≡ false → (before : List Call) → IsAllAsked tells before old → IsAllAsked tells before new

pub asked-none : {B : Type 0} (tells : B → BucketTold) (wanted : Bool) (world : WorldView B) → KeepsAsked tells wanted world wanted world
asked-none tells wanted world = record { later = λ never. never; all = λ never before all. all }

pub asked-more : {B : Type 0} (tells : B → BucketTold) (a b c : Bool) (first next last : WorldView B) → KeepsAsked tells a first b next → KeepsAsked tells b next c last → KeepsAsked tells a first c last
asked-more tells a b c first next last one two = record {
  later = λ never. one.later (two.later never);
  all = λ never before all. two.all never before (one.all (two.later never) before all);
}
