-- What is known of a compaction's entries stays so as more are made.
use Rattle.std.proofs.Common.{◌≡◌, ◌≢◌, ◌⊎◌, inl, inr, ℕ, zero, suc, ◌+◌, List, [], ◌∷◌, ◌++◌, length, Some, refl, sym, ◌∙◌, ap, subst, append_assoc}
use Rattle.std.specs.Prelude.{slice_get}
use Rattle.std.specs.List.{AllByRecursion, AllZip}
use Rattle.std.proofs.lemmas.List.Elements.{Contains-append_left, Contains-push}
use Rattle.base.proofs.Lists.{AllByRecursion-push}
use Rattle.base.proofs.Membership.{each_member}
use Rattle.block_keys.specs.declared.key.Key.{Key}
use Rattle.block_keys.specs.declared.key.Key.TheVariants as key
use Rattle.block_meta.specs.declared.meta.Meta.{Meta}
use Rattle.moment_core.specs.declared.rules.Rules.{Rules}
use Rattle.world_core.specs.declared.op.Op.TheVariants as op
use Rattle.world_core.specs.declared.reply.Reply.TheVariants as reply
use Rattle.world_core.specs.declared.entry.Entry.{Entry}
use Rattle.sync_filters.specs.declared.found.Found.{Found}
use Rattle.meta_fetcher.specs.declared.view.View.{View}
use Rattle.compactor.specs.Reading.{read_at}
use Rattle.compactor.specs.declared.input.Input.{Input}
use Rattle.compactor.specs.declared.input.Read.{Read}
use Rattle.lifecycle_core.specs.CompactionOps.{HasSynced, IsInputRead, IsKept, IsReason, ReadsObject, WasCompacted, WasRead, covered, expired, compacted}

-- ---- the sync

pub synced_more : (rules : Rules) (view : View) (made : List Entry) (e : Entry) → HasSynced rules made view → HasSynced rules (made ++ e ∷ []) view
synced_more rules view made e s = record {
  sync = s.sync;
  others = s.others ++ e ∷ [];
  parts = ap (λ es. es ++ e ∷ []) s.parts ∙ append_assoc s.sync s.others (e ∷ []);
  run = s.run;
}

-- ---- reasons

compacted_more : (rules : Rules) (view : View) (ulid : ℕ) (made : List Entry) (e : Entry) → WasCompacted rules made view ulid → WasCompacted rules (made ++ e ∷ []) view ulid
compacted_more rules view ulid made e c = record {
  upto = c.upto;
  put = c.put;
  later = c.later ++ e ∷ [];
  parts = ap (λ es. es ++ e ∷ []) c.parts ∙ append_assoc c.upto (c.put ∷ c.later) (e ∷ []);
  new = c.new;
  text = c.text;
  puts = c.puts;
  stored = c.stored;
  made = c.made;
  same = c.same;
  input = c.input;
}

reason_more : (rules : Rules) (view : View) (ulid : ℕ) (made : List Entry) (e : Entry) → IsReason rules made view ulid → IsReason rules (made ++ e ∷ []) view ulid
reason_more rules view ulid made e (covered among) = covered among
reason_more rules view ulid made e (expired found kept old) = expired found kept old
reason_more rules view ulid made e (compacted was) = compacted (compacted_more rules view ulid made e was)

-- for each of these blocks there is one
abbrev pub Reasons : Rules → View → List Entry → List ℕ → Type 0
Reasons rules view made ulids = AllByRecursion (IsReason rules made view) ulids

pub reasons_more : (rules : Rules) (view : View) (made : List Entry) (e : Entry) (ulids : List ℕ) → Reasons rules view made ulids → Reasons rules view (made ++ e ∷ []) ulids
reasons_more rules view made e [] all = tt
reasons_more rules view made e (ulid ∷ ulids) all = (reason_more rules view ulid made e all.0, reasons_more rules view made e ulids all.1)

-- ---- reads

pub object_more : (made : List Entry) (e : Entry) (k : Key) (one : Read) → ReadsObject made k one → ReadsObject (made ++ e ∷ []) k one
object_more made e k one (x, among, asks, found, number) = (x, Contains-append_left made (e ∷ []) x among, asks, found, number)

-- the last entry read it
pub object_now : (made : List Entry) (e : Entry) (k : Key) (bytes : List ℕ) → e.op ≡ op.Get k → e.reply ≡ reply.Found bytes → ReadsObject (made ++ e ∷ []) k (read_at e bytes)
object_now made e k bytes asks found = (e, Contains-push made e, asks, found, refl)

-- the segments were read, each under its number
abbrev pub AreRead : List Entry → ℕ → List Read → Type 0
AreRead made ulid segments = (place : ℕ) (one : Read) → slice_get segments place ≡ Some one → ReadsObject made (key.Segment ulid (place + 1)) one

pub segments_more : (made : List Entry) (e : Entry) (ulid : ℕ) (segments : List Read) → AreRead made ulid segments → AreRead (made ++ e ∷ []) ulid segments
segments_more made e ulid segments all place one at = object_more made e (key.Segment ulid (place + 1)) one (all place one at)

no_place : (place : ℕ) (one : Read) → slice_get [] place ≡ Some one → ⊥
no_place place one at = cc (at)

at_push : (xs : List Read) (x : Read) (place : ℕ) (one : Read) → slice_get (xs ++ x ∷ []) place ≡ Some one → (slice_get xs place ≡ Some one) ⊎ ((place ≡ length xs) × (x ≡ one))
at_push [] x zero one at = inr (refl, cc (at))
at_push [] x (suc place) one at = absurd (no_place place one at)
at_push (y ∷ xs) x zero one at = inl at
at_push (y ∷ xs) x (suc place) one at = elim (at_push xs x place one at) [
  | inl old ↦ inl old
  | inr new ↦ inr (ap suc new.0, new.1)
]

-- one segment more
pub segments_and : (made : List Entry) (e : Entry) (ulid : ℕ) (segments : List Read) (bytes : List ℕ) → e.op ≡ op.Get (key.Segment ulid (length segments + 1)) → e.reply ≡ reply.Found bytes
    → AreRead made ulid segments → AreRead (made ++ e ∷ []) ulid (segments ++ read_at e bytes ∷ [])
segments_and made e ulid segments bytes asks found all place one at = elim (at_push segments (read_at e bytes) place one at) [
  | inl old ↦ segments_more made e ulid segments all place one old
  | inr new ↦
      subst (λ (r : Read). ReadsObject (made ++ e ∷ []) (key.Segment ulid (place + 1)) r) new.1
      (subst (λ (n : ℕ). ReadsObject (made ++ e ∷ []) (key.Segment ulid (n + 1)) (read_at e bytes)) (sym new.0) (object_now made e (key.Segment ulid (length segments + 1)) bytes asks found))
]

read_more : (made : List Entry) (e : Entry) (meta : Meta) (input : Input) → WasRead made meta input → WasRead (made ++ e ∷ []) meta input
read_more made e meta input was = record {
  meta_is = was.meta_is;
  index = object_more made e (key.Index meta.ulid) input.index was.index;
  named = was.named;
  segments = λ place one at. object_more made e (key.Segment meta.ulid (place + 1)) one (was.segments place one at);
}

pub inputs_more : (made : List Entry) (e : Entry) (metas : List Meta) (inputs : List Input) → AllZip (WasRead made) metas inputs → AllZip (WasRead (made ++ e ∷ [])) metas inputs
inputs_more made e [] [] all = tt
inputs_more made e [] (input ∷ inputs) all = absurd all
inputs_more made e (meta ∷ metas) [] all = absurd all
inputs_more made e (meta ∷ metas) (input ∷ inputs) all = (read_more made e meta input all.0, inputs_more made e metas inputs all.1)

-- ---- marks

-- if the entry put a mark, it is one of such a block
abbrev pub MarksOnly : (ℕ → Type 0) → Entry → Type 0
MarksOnly P e = (ulid : ℕ) (bytes : List ℕ) → e.op ≡ op.Put (key.Mark ulid) bytes → P ulid

-- The entries begin with the sync of this view, and the marks that they put are of such blocks.
pub record SoFar (rules : Rules) (view : View) (P : ℕ → Type 0) (made : List Entry) : Type 0 where
  pub synced : HasSynced rules made view
  pub marks : AllByRecursion (MarksOnly P) made

pub so_far_more : (rules : Rules) (view : View) (P : ℕ → Type 0) (made : List Entry) (e : Entry) → MarksOnly P e → SoFar rules view P made → SoFar rules view P (made ++ e ∷ [])
so_far_more rules view P made e only s = record { synced = synced_more rules view made e s.synced; marks = AllByRecursion-push (MarksOnly P) made e s.marks only }

pub so_far_weaker : (rules : Rules) (view : View) (P Q : ℕ → Type 0) (made : List Entry) → ((ulid : ℕ) → P ulid → Q ulid) → SoFar rules view P made → SoFar rules view Q made
so_far_weaker rules view P Q made less s = record { synced = s.synced; marks = each made s.marks }
  where
    each : (es : List Entry) → AllByRecursion (MarksOnly P) es → AllByRecursion (MarksOnly Q) es
    each [] all = tt
    each (e ∷ es) all = ((λ ulid bytes is. less ulid (all.0 ulid bytes is)), each es all.1)

-- a read puts none
pub reads_mark_none : (P : ℕ → Type 0) (e : Entry) (k : Key) → e.op ≡ op.Get k → MarksOnly P e
reads_mark_none P e k asks ulid bytes is = absurd (let no : op.Get k ≡ op.Put (key.Mark ulid) bytes = sym asks ∙ is in cc (no))

-- the put of a mark
pub puts_mark_of : (P : ℕ → Type 0) (e : Entry) (ulid : ℕ) (text : List ℕ) → e.op ≡ op.Put (key.Mark ulid) text → P ulid → MarksOnly P e
puts_mark_of P e ulid text asks own other bytes is =
    let same : op.Put (key.Mark ulid) text ≡ op.Put (key.Mark other) bytes = sym asks ∙ is in
    let one : ulid ≡ other = cc (same) in
    subst P one own

-- the key is no mark's
abbrev pub IsNoMark : Key → Type 0
IsNoMark (key.Meta ulid) = Unit {0}
IsNoMark (key.Index ulid) = Unit {0}
IsNoMark (key.Segment ulid number) = Unit {0}
IsNoMark (key.Mark ulid) = ⊥

pub puts_no_mark : (P : ℕ → Type 0) (e : Entry) (k : Key) (text : List ℕ) → e.op ≡ op.Put k text → IsNoMark k → MarksOnly P e
puts_no_mark P e k text asks none ulid bytes is =
    let same : op.Put k text ≡ op.Put (key.Mark ulid) bytes = sym asks ∙ is in
    let mark : k ≡ key.Mark ulid = cc (same) in
    absurd (subst IsNoMark mark none)

-- ---- blocks that may be read

-- the view keeps the block, and none of those is it
pub record IsFree (view : View) (P : ℕ → Type 0) (ulid : ℕ) : Type 0 where
  pub found : Found
  pub kept : IsKept view ulid found
  pub apart : (other : ℕ) → P other → other ≢ ulid

pub may_read : (rules : Rules) (view : View) (P : ℕ → Type 0) (made : List Entry) (ulid : ℕ) → SoFar rules view P made → IsFree view P ulid → IsInputRead rules made ulid
may_read rules view P made ulid s free = record {
  view = view;
  synced = s.synced;
  found = free.found;
  kept = free.kept;
  unmarked = λ e among bytes is. free.apart ulid (each_member (MarksOnly P) made e s.marks among ulid bytes is) refl;
}
