-- A compaction's parts, and what follows them.
use Rattle.std.proofs.Common.{◌≡◌, ℕ, List, [], ◌∷◌, ◌++◌, refl, sym, subst, ◌∙◌, inl, inr, Option, Some, None, IsSomeAnd, Result, Ok}
use Rattle.base.specs.declared.memory.NoMemory.{NoMemory}
use Rattle.world_core.specs.Leads.{Waits}
use Rattle.world_core.specs.Machines.{GoesOn}
use Rattle.world_core.specs.Operations.{IsAnswer, entry_of}
use Rattle.world_core.specs.Parts.{PartThen, after_entries}
use Rattle.world_core.specs.Plans.{Plan, Runs, Keeps, and_then}
use Rattle.world_core.specs.declared.op.Op.{Op}
use Rattle.world_core.specs.declared.seen.Seen.{Seen}
use Rattle.world_core.specs.declared.entry.Entry.{Entry}
use Rattle.world_core.specs.declared.act.Act.{Act}
use Rattle.world_core.specs.declared.act.Act.TheVariants as act
use Rattle.world_core.proofs.LeadSteps.{leads_kept, opens, steps}
use Rattle.world_core.proofs.PlanParts.{goes_on, hands_on, breaks, begun, joined}
use Rattle.shipper.specs.contracts.upload.UploadMachine.TheImpl.{ghosts as uploads}
use Rattle.shipper.proofs.Steps.{rests as upload_rests, answers as upload_answers}
use Rattle.meta_fetcher.specs.contracts.sync.SyncMachine.TheImpl.{ghosts as syncs}
use Rattle.meta_fetcher.proofs.Steps.{rests as sync_rests, answers as sync_answers}
use Rattle.compactor.specs.contracts.marks.MarksMachine.TheImpl.{ghosts as marks}
use Rattle.compactor.proofs.MarkSteps.{rests as marks_rest, answers as marks_answer}
use Rattle.compactor.specs.contracts.reads.ReadsMachine.TheImpl.{ghosts as reads}
use Rattle.compactor.proofs.ReadSteps.{rests as reads_rest, answers as reads_answer}
use Rattle.compactor.specs.Compactions.{after_sync}
use Rattle.compactor.specs.CompactStates.{Onward, may_at, may_compact, asked_at, asked_compact, after_reads, after_put, after_marks, goes_after, Goes, Begins}
use Rattle.compactor.specs.declared.stage.Stage.{Stage}
use Rattle.compactor.specs.declared.stage.Stage.TheVariants.{Syncing, Reading, Uploading, Marking, Over}
use Rattle.compactor.specs.declared.compact.Compact.{Compact}
use Rattle.compactor.specs.declared.compact_end.CompactEnd.{CompactEnd}

-- ---- the whole

-- it may be stopped wherever it stands,
rests_at : (stage : Stage) (c : Compact) → may_at stage c [] None
rests_at (Syncing sync) c = breaks syncs.may sync sync (λ own came. after_sync c.replicas c.retention came) [] (sync_rests sync)
rests_at (Reading part labels parents) c = breaks reads.may part part (λ own came. after_reads c labels parents.items came) [] (reads_rest part)
rests_at (Uploading upload parents) c = λ noted. breaks uploads.may upload upload (after_put c parents.items noted) [] (upload_rests upload)
rests_at (Marking reason part) c = breaks marks.may part part (λ own came. after_marks reason c came) [] (marks_rest part)
rests_at Over c = (refl, refl)

-- and as soon as its operation is answered
answers_at : (stage : Stage) (c : Compact) (seat : ℕ) (o : Op) (seen : Seen) → asked_at stage ≡ Some o → may_at stage c (entry_of seat o seen ∷ []) None
answers_at (Syncing sync) c seat o seen is = breaks syncs.may sync sync (λ own came. after_sync c.replicas c.retention came) (entry_of seat o seen ∷ []) (sync_answers sync seat o seen is)
answers_at (Reading part labels parents) c seat o seen is = breaks reads.may part part (λ own came. after_reads c labels parents.items came) (entry_of seat o seen ∷ []) (reads_answer part seat o seen is)
answers_at (Uploading upload parents) c seat o seen is = λ noted. breaks uploads.may upload upload (after_put c parents.items noted) (entry_of seat o seen ∷ []) (upload_answers upload seat o seen is)
answers_at (Marking reason part) c seat o seen is = breaks marks.may part part (λ own came. after_marks reason c came) (entry_of seat o seen ∷ []) (marks_answer part seat o seen is)
answers_at Over c seat o seen is = absurd (cc (is))

abbrev now : Compact → Onward
now c = may_at c.stage c

rests : (c : Compact) → now c [] None
rests c = rests_at c.stage c

answers : (c : Compact) (seat : ℕ) (o : Op) (seen : Seen) → asked_compact c ≡ Some o → now c (entry_of seat o seen ∷ []) None
answers c seat o seen is = answers_at c.stage c seat o seen is

module _ (stage : Stage) (old new : Compact) (r : Result (Act CompactEnd) NoMemory) (is : old.stage ≡ stage) where
  -- a first call goes on
  pub compact_opens : Goes (may_at stage old) r new → GoesOn may_compact asked_compact old [] r new
  compact_opens goes = opens now asked_compact rests answers old new r (subst (λ s. Goes (may_at s old) r new) (sym is) goes)

  -- a step goes on
  pub compact_steps : (seat : ℕ) (o : Op) (seen : Seen) → asked_compact old ≡ Some o → Goes (goes_after stage old (entry_of seat o seen)) r new → GoesOn may_compact asked_compact old (entry_of seat o seen ∷ []) r new
  compact_steps seat o seen waits goes = steps now asked_compact rests answers old new seat o seen r waits (subst (λ s. Goes (goes_after s old (entry_of seat o seen)) r new) (sym is) goes)

-- the part of the stage waits for what the whole waits for
pub asked_in : (stage : Stage) (old : Compact) (op : Op) → old.stage ≡ stage → asked_compact old ≡ Some op → asked_at stage ≡ Some op
asked_in stage old op is asks = subst (λ (s : Stage). asked_at s ≡ Some op) is asks

-- and is answered
pub answer_in : (stage : Stage) (old : Compact) (seen : Seen) → old.stage ≡ stage → IsSomeAnd (asked_compact old) (λ op. IsAnswer op seen) → IsSomeAnd (asked_at stage) (λ op. IsAnswer op seen)
answer_in stage old seen is answer = subst (λ (s : Stage). IsSomeAnd (asked_at s) (λ op. IsAnswer op seen)) is answer

-- a call that goes on as may follow goes on as whatever that is part of
pub goes_as : (one other : Onward) (r : Result (Act CompactEnd) NoMemory) (new : Compact) → ((entries : List Entry) (end : Option CompactEnd) → one entries end → other entries end) → Goes one r new → Goes other r new
goes_as one other r new keeps goes = leads_kept may_compact asked_compact one other r new keeps goes

-- a call that goes on by a plan goes on by each that keeps its runs
pub begins_as : (one other : Plan CompactEnd) (r : Result (Act CompactEnd) NoMemory) (new : Compact) → Keeps one other → Begins one r new → Begins other r new
begins_as one other r new keeps begins = goes_as (Runs one) (Runs other) r new keeps begins

-- ---- a part that begins

-- what a part may do that has begun, and what follows it, is a run of the whole
pub whole_runs : {M A : Type 0} (may : M → List Entry → Option A → M → Type 0) (part : M) (first : Plan A) (next : A → Plan CompactEnd) (whole : Plan CompactEnd)
    → ((entries : List Entry) (end : Option A) (last : M) → may part entries end last → Runs first entries end) → and_then first next ≡ whole
    → (entries : List Entry) (end : Option CompactEnd) → PartThen may part (λ own came. next came) entries end → Runs whole entries end
whole_runs may part first next whole runs same entries end (inl (broken, none)) =
    subst (λ p. Runs p entries end) same (subst (Runs (and_then first next) entries) (sym none) (begun first next entries (runs entries None broken.0 broken.1)))
whole_runs may part first next whole runs same entries end (inr hands) =
    subst (λ p. Runs p entries end) same
    (subst (λ es. Runs (and_then first next) es end) (sym hands.are) (joined first next hands.own hands.others hands.came end (runs hands.own (Some hands.came) hands.last hands.first) hands.rest))

-- ---- a call of a part, and what it leads to

module _ {M A : Type 0} (may : M → List Entry → Option A → M → Type 0) (asked : M → Option Op) (old part : M) (made : List Entry) (next : List Entry → A → Plan CompactEnd) where
  -- what may follow the entries that were made
  abbrev pub after_made : Onward
  after_made entries end = PartThen may old next (made ++ entries) end

  -- the part asks for an operation, and the whole waits in a state that is the part's, with what follows it
  pub part_asks : (a : Act A) (op : Op) (new : Compact) → a ≡ act.Do op → asked_compact new ≡ asked part
      → ((entries : List Entry) (end : Option CompactEnd) → may_compact new entries end new → PartThen may part (after_entries made next) entries end)
      → GoesOn may asked old made (Ok a) part → Goes after_made (Ok (act.Do op)) new
  part_asks a op new is waits to goes = so (subst (λ (b : Act A). GoesOn may asked old made (Ok b) part) is goes)
    where
      so : GoesOn may asked old made (Ok (act.Do op)) part → Waits may_compact asked_compact after_made op new
      so asks = record {
        lawful = asks.lawful;
        asks = waits ∙ asks.waits;
        onward = λ entries end run. goes_on may old part next made entries end (λ own came last. asks.onward own came last) (to entries end run);
      }

  -- it has come to its end, and the whole goes on by what follows
  pub part_ends : (a : Act A) (came : A) (r : Result (Act CompactEnd) NoMemory) (new : Compact) → a ≡ act.Done came → GoesOn may asked old made (Ok a) part
      → Begins (next made came) r new → Goes after_made r new
  part_ends a came r new is goes begins =
      goes_as (Runs (next made came)) after_made r new
      (λ entries end rest. hands_on may old part next made entries came end (subst (λ (b : Act A). GoesOn may asked old made (Ok b) part) is goes) rest) begins

-- ---- a state that is another one

pub to_state : (new made : Compact) → new ≡ made → (entries : List Entry) (end : Option CompactEnd) → may_compact new entries end new → may_compact made entries end made
to_state new made same entries end run = subst (λ (c : Compact). may_compact c entries end c) same run
