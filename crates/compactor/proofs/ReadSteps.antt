-- The reads of blocks are a run of their plan, and then of what follows.
use Rattle.std.proofs.Common.{◌≡◌, ℕ, zero, suc, ◌+◌, List, [], ◌∷◌, ◌++◌, length, refl, sym, subst, Option, Some, None, Result, Ok, Err}
use Rattle.base.specs.declared.memory.NoMemory.{NoMemory}
use Rattle.block_keys.specs.declared.key.Key.{Key}
use Rattle.block_keys.specs.declared.key.Key.TheVariants as key
use Rattle.block_meta.specs.declared.meta.Meta.{Meta}
use Rattle.world_core.specs.Machines.{GoesOn}
use Rattle.world_core.specs.Operations.{entry_of}
use Rattle.world_core.specs.Plans.{Plan, ends, and_then, after_get, asked}
use Rattle.world_core.specs.declared.op.Op.{Op}
use Rattle.world_core.specs.declared.seen.Seen.{Seen}
use Rattle.world_core.specs.declared.reply.Reply.TheVariants.{Found}
use Rattle.world_core.specs.declared.entry.Entry.{Entry}
use Rattle.world_core.specs.declared.act.Act.{Act}
use Rattle.world_core.specs.declared.act.Act.TheVariants as act
use Rattle.world_core.specs.Leads.{after_entry, does, LeadsBy}
use Rattle.compactor.specs.Named.{named_segments}
use Rattle.compactor.specs.Reading.{ReadEnds, read_at, reads, reads_segments, after_index, reads_block, reads_blocks, read_ends, all_read, blocks_after, block_of, FitsEnd}
use Rattle.compactor.specs.ReadStates.{input_of, segments_of, segment_of, left_at, left_of, may_read, asked_at, asked_read, Fits}
use Rattle.compactor.specs.contracts.reads.ReadsMachine.TheImpl.{ghosts}
use Rattle.compactor.specs.declared.input.Input.{Input}
use Rattle.compactor.specs.declared.input.Read.{Read}
use Rattle.compactor.specs.declared.reads.ReadStage.{ReadStage}
use Rattle.compactor.specs.declared.reads.ReadStage.TheVariants.{Fresh, Indexing, Segmenting, Over}
use Rattle.compactor.specs.declared.reads.Reads.{Reads}
use Rattle.compactor.specs.declared.reads_end.ReadsEnd.{ReadsEnd}
use Rattle.compactor.specs.declared.reads_end.ReadsEnd.TheVariants as read
use Rattle.world_core.proofs.LeadSteps.{opens_by, steps_by}
use Rattle.world_core.proofs.PlanLaws.{answered, breaks_off}
use Rattle.world_core.proofs.PlanWords.{gets_then}

-- what is left begins with the operation that is waited for
asked_as : (stage : ReadStage) (inputs : List Input) (waiting : List Meta) (o : Op) → asked_at stage ≡ Some o → asked (left_at stage inputs waiting) ≡ Some o
asked_as (Fresh meta) inputs waiting o is = absurd (cc (is))
asked_as (Indexing meta) inputs waiting o is = is
asked_as (Segmenting input more) inputs waiting o is = is
asked_as Over inputs waiting o is = absurd (cc (is))

pub asked_left : (reads : Reads) (o : Op) → asked_read reads ≡ Some o → asked (left_of reads) ≡ Some o
asked_left reads o is = asked_as reads.stage reads.inputs reads.waiting.items o is

-- they may be stopped wherever they stand, and as soon as their operation is answered
pub rests : (r : Reads) → ghosts.may r [] None r
rests r = (breaks_off (left_of r), tt)

pub answers : (r : Reads) (seat : ℕ) (o : Op) (seen : Seen) → ghosts.asked r ≡ Some o → ghosts.may r (entry_of seat o seen ∷ []) None r
answers r seat o seen is = (answered (left_of r) (entry_of seat o seen) (asked_left r o is), tt)

-- they come to an end that may be merged
pub ends_fit : (old new : Reads) (made : List Entry) (came : ReadsEnd) → ghosts.may old made (Some came) new → FitsEnd came
ends_fit old new made came may = may.1

module _ (old new : Reads) where
  -- and comes to an end upon which an upload may follow
  fitted : (made : List Entry) (r : Result (Act ReadsEnd) NoMemory) → GoesOn (does left_of) asked_read old made r new → Fits r → GoesOn may_read asked_read old made r new
  fitted made (Ok (act.Do op)) goes fits = record {
    lawful = goes.lawful;
    waits = goes.waits;
    onward = λ entries end last run. (goes.onward entries end last run.0, run.1);
    stopped = (goes.stopped, tt);
    answered = λ seat seen answer. (goes.answered seat seen answer, tt);
  }
  fitted made (Ok (act.Done end)) goes fits = (goes, fits)
  fitted made (Err none) goes fits = (goes, tt)

  module _ (r : Result (Act ReadsEnd) NoMemory) (fits : Fits r) (stage : ReadStage) (is : old.stage ≡ stage) where
    -- a first call goes on
    pub read_opens : LeadsBy left_of asked_read (left_at stage old.inputs old.waiting.items) r new → GoesOn may_read asked_read old [] r new
    read_opens leads = fitted [] r (opens_by left_of asked_read asked_left old new r (subst (λ s. LeadsBy left_of asked_read (left_at s old.inputs old.waiting.items) r new) (sym is) leads)) fits

    -- a step goes on
    pub read_steps : (seat : ℕ) (o : Op) (seen : Seen) → asked_read old ≡ Some o
        → LeadsBy left_of asked_read (after_entry (left_at stage old.inputs old.waiting.items) (entry_of seat o seen)) r new
        → GoesOn may_read asked_read old (entry_of seat o seen ∷ []) r new
    read_steps seat o seen waits leads =
        fitted (entry_of seat o seen ∷ []) r
        (steps_by left_of asked_read asked_left old new seat o seen r waits
        (subst (λ s. LeadsBy left_of asked_read (after_entry (left_at s old.inputs old.waiting.items) (entry_of seat o seen)) r new) (sym is) leads)) fits

-- ---- replies

module _ (new : Reads) (r : Result (Act ReadsEnd) NoMemory) (inputs : List Input) (waiting : List Meta) (e : Entry) (bytes : List ℕ) (found : e.reply ≡ Found bytes) where
  -- an index came
  pub index_came : (meta : Meta) (count : ℕ) (segments : List Read) → named_segments bytes ≡ Some count → segments ≡ []
      → LeadsBy left_of asked_read (segments_of inputs waiting (record { meta = meta; index = read_at e bytes; segments = segments }) count e) r new
      → LeadsBy left_of asked_read (after_entry (block_of inputs waiting meta) e) r new
  index_came meta count segments named none leads =
      subst (λ p. LeadsBy left_of asked_read (after_get p (λ b. after_index read_ends meta e b (named_segments b) (blocks_after inputs waiting)) (ends (read.Missing e.seq)) (ends (read.Fault e.seq))) r new) (sym found)
      (subst (λ n. LeadsBy left_of asked_read (after_index read_ends meta e bytes n (blocks_after inputs waiting)) r new) (sym named)
      (subst (λ (l : List Read). LeadsBy left_of asked_read (segments_of inputs waiting (record { meta = meta; index = read_at e bytes; segments = l }) count e) r new) none leads))

  -- a segment came
  pub segment_came : (input : Input) (more : ℕ) (segments : List Read) → segments ≡ input.segments ++ read_at e bytes ∷ []
      → LeadsBy left_of asked_read (segments_of inputs waiting (record { meta = input.meta; index = input.index; segments = segments }) more e) r new
      → LeadsBy left_of asked_read (after_entry (segment_of inputs waiting input more) e) r new
  segment_came input more segments added leads =
      subst (λ p. LeadsBy left_of asked_read (after_get p (λ b. reads_segments read_ends input.meta.ulid more (input.segments ++ read_at e b ∷ []) e (input_of inputs waiting input)) (ends (read.Missing e.seq)) (ends (read.Fault e.seq))) r new) (sym found)
      (subst (λ (l : List Read). LeadsBy left_of asked_read (segments_of inputs waiting (record { meta = input.meta; index = input.index; segments = l }) more e) r new) added leads)

-- ---- what follows

module _ {E : Type 0} (ways : ReadEnds E) (next : ReadsEnd → Plan E) (fails : (n : ℕ) → next (read.Fault n) ≡ ends (ways.fault n)) (misses : (n : ℕ) → next (read.Missing n) ≡ ends (ways.missing n)) (damages : (n : ℕ) → next (read.Damaged n) ≡ ends (ways.damaged n)) where
  -- what follows where all was read
  abbrev pub follows : List Input → Entry → Plan E
  follows inputs last = next (read.Done (record { inputs = inputs; number = last.seq; moment = last.moment }))

  read_then : (key : Key) (on : Entry → List ℕ → Plan ReadsEnd) (on' : Entry → List ℕ → Plan E) → ((e : Entry) (bytes : List ℕ) → and_then (on e bytes) next ≡ on' e bytes)
      → and_then (reads read_ends key on) next ≡ reads ways key on'
  read_then key on on' same = gets_then read.Fault ways.fault next fails key on (λ e. ends (read.Missing e.seq)) on' (λ e. ends (ways.missing e.seq)) same (λ e. misses e.seq)

  segments_then : (ulid more : ℕ) (segments : List Read) (last : Entry) (on : List Read → Entry → Plan ReadsEnd) (on' : List Read → Entry → Plan E)
      → ((segments : List Read) (last : Entry) → and_then (on segments last) next ≡ on' segments last)
      → and_then (reads_segments read_ends ulid more segments last on) next ≡ reads_segments ways ulid more segments last on'
  segments_then ulid zero segments last on on' same = same segments last
  segments_then ulid (suc more) segments last on on' same =
      read_then (key.Segment ulid (length segments + 1))
      (λ e bytes. reads_segments read_ends ulid more (segments ++ read_at e bytes ∷ []) e on)
      (λ e bytes. reads_segments ways ulid more (segments ++ read_at e bytes ∷ []) e on')
      (λ e bytes. segments_then ulid more (segments ++ read_at e bytes ∷ []) e on on' same)

  index_then : (meta : Meta) (e : Entry) (bytes : List ℕ) (count : Option ℕ) (on : Input → Entry → Plan ReadsEnd) (on' : Input → Entry → Plan E)
      → ((input : Input) (last : Entry) → and_then (on input last) next ≡ on' input last)
      → and_then (after_index read_ends meta e bytes count on) next ≡ after_index ways meta e bytes count on'
  index_then meta e bytes None on on' same = damages e.seq
  index_then meta e bytes (Some count) on on' same =
      segments_then meta.ulid count [] e
      (λ segments last. on (record { meta = meta; index = read_at e bytes; segments = segments }) last)
      (λ segments last. on' (record { meta = meta; index = read_at e bytes; segments = segments }) last)
      (λ segments last. same (record { meta = meta; index = read_at e bytes; segments = segments }) last)

  block_then : (meta : Meta) (on : Input → Entry → Plan ReadsEnd) (on' : Input → Entry → Plan E) → ((input : Input) (last : Entry) → and_then (on input last) next ≡ on' input last)
      → and_then (reads_block read_ends meta on) next ≡ reads_block ways meta on'
  block_then meta on on' same =
      read_then (key.Index meta.ulid)
      (λ e bytes. after_index read_ends meta e bytes (named_segments bytes) on)
      (λ e bytes. after_index ways meta e bytes (named_segments bytes) on')
      (λ e bytes. index_then meta e bytes (named_segments bytes) on on' same)

  blocks_then : (inputs : List Input) (last : Entry) (metas : List Meta) → and_then (reads_blocks read_ends inputs last metas all_read) next ≡ reads_blocks ways inputs last metas follows
  blocks_then inputs last [] = refl
  blocks_then inputs last (meta ∷ metas) =
      block_then meta
      (λ input e. reads_blocks read_ends (inputs ++ input ∷ []) e metas all_read)
      (λ input e. reads_blocks ways (inputs ++ input ∷ []) e metas follows)
      (λ input e. blocks_then (inputs ++ input ∷ []) e metas)

  -- the reads and then what follows their end are the reads with what follows them
  pub reads_then : (metas : List Meta) (first : Meta) → and_then (block_of [] metas first) next ≡ reads_block ways first (λ input e. reads_blocks ways (input ∷ []) e metas follows)
  reads_then metas first =
      block_then first
      (λ input e. reads_blocks read_ends (input ∷ []) e metas all_read)
      (λ input e. reads_blocks ways (input ∷ []) e metas follows)
      (λ input e. blocks_then (input ∷ []) e metas)
