-- Parts that begin: their plan, and then what follows.
use Rattle.std.proofs.Common.{◌≡◌, ℕ, List, [], ◌∷◌, refl, ap, ◌∙◌, Option, Result, Ok}
use Rattle.base.specs.declared.memory.NoMemory.{NoMemory}
use Rattle.label_sets.specs.declared.label.Label.{Label}
use Rattle.block_meta.specs.declared.meta.Meta.{Meta}
use Rattle.world_core.specs.Machines.{GoesOn}
use Rattle.world_core.specs.Plans.{Plan, Runs, ends, and_then}
use Rattle.world_core.specs.declared.op.Op.{Op}
use Rattle.world_core.specs.declared.entry.Entry.{Entry}
use Rattle.world_core.specs.declared.act.Act.{Act}
use Rattle.world_core.specs.declared.act.Act.TheVariants as act
use Rattle.group_planner.specs.Members.{ulids_of}
use Rattle.compactor.specs.Compactions.{read_ends, merging, compacting}
use Rattle.world_core.specs.Parts.{PartThen}
use Rattle.compactor.specs.Marking.{marking, marks_of}
use Rattle.compactor.specs.Reading.{reads_block, reads_blocks, block_of}
use Rattle.compactor.specs.contracts.marks.MarksMachine.TheImpl.{ghosts as marks}
use Rattle.compactor.specs.contracts.reads.ReadsMachine.TheImpl.{ghosts as reads}
use Rattle.compactor.specs.CompactStates.{may_compact, asked_compact, Begins, groups_left, after_reads}
use Rattle.compactor.specs.declared.compact.Compact.{Compact}
use Rattle.compactor.specs.declared.compact_end.CompactEnd.{CompactEnd}
use Rattle.compactor.specs.declared.compact_end.CompactEnd.TheVariants.{Fault}
use Rattle.compactor.specs.declared.marks.Marks.{Marks}
use Rattle.compactor.specs.declared.marks.MarksEnd.{MarksEnd}
use Rattle.compactor.specs.declared.marks.MarksEnd.TheVariants as marked
use Rattle.compactor.specs.declared.reads.Reads.{Reads}
use Rattle.compactor.specs.declared.reads_end.ReadsEnd.{ReadsEnd}
use Rattle.compactor.specs.declared.reason.Reason.{Reason}
use Rattle.compactor.proofs.MarkSteps.{marks_then}
use Rattle.compactor.proofs.ReadSteps.{reads_then}
use Rattle.compactor.proofs.CompactSteps.{whole_runs, goes_as, part_asks, part_ends}

module _ (old part : Marks) (reason : Reason) (ulids : List ℕ) (next : MarksEnd → Plan CompactEnd) (fails : (n : ℕ) → next (marked.Fault n) ≡ ends (Fault n)) (may_run : (entries : List Entry) (end : Option MarksEnd) (last : Marks) → marks.may old entries end last → Runs (marks_of reason 0 ulids) entries end) where
  abbrev whole : Plan CompactEnd
  whole = marking Fault reason 0 ulids (λ all. next (marked.Done all))

  runs : (entries : List Entry) (end : Option CompactEnd) → PartThen marks.may old (λ own came. next came) entries end → Runs whole entries end
  runs = whole_runs marks.may old (marks_of reason 0 ulids) next whole may_run (marks_then Fault next reason 0 ulids fails)

  -- a marking asks for its first operation
  pub marks_ask : (a : Act MarksEnd) (op : Op) (new : Compact) → a ≡ act.Do op → asked_compact new ≡ marks.asked part
      → ((entries : List Entry) (end : Option CompactEnd) → may_compact new entries end new → PartThen marks.may part (λ own came. next came) entries end)
      → GoesOn marks.may marks.asked old [] (Ok a) part → Begins whole (Ok (act.Do op)) new
  marks_ask a op new is waits to goes =
      goes_as (PartThen marks.may old (λ own came. next came)) (Runs whole) (Ok (act.Do op)) new runs
      (part_asks marks.may marks.asked old part [] (λ own came. next came) a op new is waits to goes)

  -- or it has none
  pub marks_end : (a : Act MarksEnd) (came : MarksEnd) (r : Result (Act CompactEnd) NoMemory) (new : Compact) → a ≡ act.Done came
      → GoesOn marks.may marks.asked old [] (Ok a) part → Begins (next came) r new → Begins whole r new
  marks_end a came r new is goes begins =
      goes_as (PartThen marks.may old (λ own came. next came)) (Runs whole) r new runs
      (part_ends marks.may marks.asked old part [] (λ own came. next came) a came r new is goes begins)

module _ (c : Compact) (old part : Reads) (labels : List Label) (parents : List ℕ) (first : Meta) (others : List Meta) (are : parents ≡ ulids_of (first ∷ others)) (may_run : (entries : List Entry) (end : Option ReadsEnd) (last : Reads) → reads.may old entries end last → Runs (block_of [] others first) entries end) where
  abbrev follows : ReadsEnd → Plan CompactEnd
  follows came = after_reads c labels parents came

  abbrev group : Plan CompactEnd
  group = compacting c.replicas labels (groups_left c) (groups_left c) (first ∷ others)

  same : and_then (block_of [] others first) follows ≡ group
  same =
      reads_then read_ends follows (λ n. refl) (λ n. refl) (λ n. refl) others first
      ∙ ap (λ (ulids : List ℕ). reads_block read_ends first (λ input e. reads_blocks read_ends (input ∷ []) e others (λ inputs last. merging c.replicas labels ulids (groups_left c) inputs last.seq last.moment))) are

  read_runs : (entries : List Entry) (end : Option CompactEnd) → PartThen reads.may old (λ own came. follows came) entries end → Runs group entries end
  read_runs = whole_runs reads.may old (block_of [] others first) follows group may_run same

  -- the reads of a group's blocks ask for their first operation
  pub reads_ask : (a : Act ReadsEnd) (op : Op) (new : Compact) → a ≡ act.Do op → asked_compact new ≡ reads.asked part
      → ((entries : List Entry) (end : Option CompactEnd) → may_compact new entries end new → PartThen reads.may part (λ own came. follows came) entries end)
      → GoesOn reads.may reads.asked old [] (Ok a) part → Begins group (Ok (act.Do op)) new
  reads_ask a op new is waits to goes =
      goes_as (PartThen reads.may old (λ own came. follows came)) (Runs group) (Ok (act.Do op)) new read_runs
      (part_asks reads.may reads.asked old part [] (λ own came. follows came) a op new is waits to goes)

  -- or they have come to their end
  pub reads_end : (a : Act ReadsEnd) (came : ReadsEnd) (r : Result (Act CompactEnd) NoMemory) (new : Compact) → a ≡ act.Done came
      → GoesOn reads.may reads.asked old [] (Ok a) part → Begins (follows came) r new → Begins group r new
  reads_end a came r new is goes begins =
      goes_as (PartThen reads.may old (λ own came. follows came)) (Runs group) r new read_runs
      (part_ends reads.may reads.asked old part [] (λ own came. follows came) a came r new is goes begins)
