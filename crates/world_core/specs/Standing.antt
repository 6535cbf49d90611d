-- What stands in the bucket after a list of entries, and the honest journals.
use Rattle.std.specs.Prelude.{◌≡◌, ◌≢◌, ℕ, Bool, true, false, if◌then◌else◌, List, [], fold, Some, None, Option, option_map}
use Rattle.std.specs.List.{AllByRecursion}
use Rattle.ulid_core.specs.UlidText.{text_of}
use Rattle.block_keys.specs.KeyText.{key_text}
use Rattle.bucket_core.specs.Contents.{Contents, nothing, with_object, without_object, range_of}
use Rattle.bucket_core.specs.Pages.{IsPage}
use Rattle.world_core.specs.Journals.{Each}
use Rattle.world_core.specs.declared.op.Op.{Op}
use Rattle.world_core.specs.declared.op.Op.TheVariants.{Clock, Put, Get, GetRange, Delete, RootPage, BlockPage}
use Rattle.world_core.specs.declared.reply.Reply.{Reply}
use Rattle.world_core.specs.declared.reply.Reply.TheVariants.{Clocked, Stored, Found, Absent, Deleted, Names, Failed}
use Rattle.world_core.specs.declared.entry.Entry.{Entry}

-- whether a put or a delete took effect: it did what it was asked for, or failed and took effect all the same
abbrev pub has_landed : Reply → Bool
has_landed Stored = true
has_landed Deleted = true
has_landed (Failed landed) = landed
has_landed reply = false

-- what an operation leaves, by its reply
abbrev pub left_by : Op → Reply → Contents → Contents
left_by (Put key bytes) reply contents = if has_landed reply then with_object (key_text key) bytes contents else contents
left_by (Delete key) reply contents = if has_landed reply then without_object (key_text key) contents else contents
left_by op reply contents = contents

-- what stands after the entries: under each key the bytes of its last landed put, unless a landed delete followed
abbrev pub stands : List Entry → Contents
stands entries = fold (λ contents e. left_by e.op e.reply contents) nothing entries

-- The reply of a read shows this much of the object. One that failed may always come, and replies of no read show nothing.
abbrev pub TellsOf : (object part : Option (List ℕ)) → Reply → Type 0
TellsOf object part (Found bytes) = part ≡ Some bytes
TellsOf object part Absent = object ≡ None
TellsOf object part (Failed landed) = Unit {0}
TellsOf object part Clocked = Unit {0}
TellsOf object part Stored = Unit {0}
TellsOf object part Deleted = Unit {0}
TellsOf object part (Names names) = Unit {0}

-- The names of a page are such. One that failed may always come, and replies of no page show no names.
abbrev pub TellsNames : (List (List ℕ) → Type 0) → Reply → Type 0
TellsNames Are (Names names) = Are names
TellsNames Are (Failed landed) = Unit {0}
TellsNames Are Clocked = Unit {0}
TellsNames Are Stored = Unit {0}
TellsNames Are (Found bytes) = Unit {0}
TellsNames Are Absent = Unit {0}
TellsNames Are Deleted = Unit {0}

-- the reply shows what stands; a clock, a put and a delete show nothing of it
abbrev pub Tells : Contents → Op → Reply → Type 0
Tells contents (Clock moment) reply = Unit {0}
Tells contents (Put key bytes) reply = Unit {0}
Tells contents (Delete key) reply = Unit {0}
Tells contents (Get key) reply = TellsOf (contents (key_text key)) (contents (key_text key)) reply
Tells contents (GetRange key from len) reply =
    TellsOf (contents (key_text key)) (option_map (range_of from len) (contents (key_text key))) reply
Tells contents (RootPage after limit) reply = TellsNames (IsPage contents [] after limit) reply
Tells contents (BlockPage ulid after limit) reply = TellsNames (IsPage contents (text_of ulid) after limit) reply

-- each get, range and page that did not fail shows what stands after the entries before it
abbrev pub IsHonest : List Entry → Type 0
IsHonest entries = Each (λ before e. Tells (stands before) e.op e.reply) entries

-- the text of the key whose object a landed put or delete changed
abbrev pub changed_by : Op → Reply → Option (List ℕ)
changed_by (Put key bytes) reply = if has_landed reply then Some (key_text key) else None
changed_by (Delete key) reply = if has_landed reply then Some (key_text key) else None
changed_by op reply = None

-- no landed put or delete of the key is among the entries
abbrev pub IsUnchanged : List ℕ → List Entry → Type 0
IsUnchanged text entries = AllByRecursion (λ e. changed_by e.op e.reply ≢ Some text) entries
