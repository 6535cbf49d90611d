-- What is left of a compaction in each of its states. What a part waits for and may still do, its members as a machine say.
use Rattle.std.specs.Prelude.{◌≡◌, ℕ, ◌+◌, ◌*◌, ◌^◌, fold, List, ◌∷◌, length, Option, None, Result}
use Rattle.base.specs.declared.memory.NoMemory.{NoMemory}
use Rattle.label_sets.specs.declared.label.Label.{Label}
use Rattle.world_core.specs.Leads as lead
use Rattle.world_core.specs.Parts.{PartThen}
use Rattle.world_core.specs.Plans.{Plan, Runs, ends, never}
use Rattle.world_core.specs.declared.op.Op.{Op}
use Rattle.world_core.specs.declared.entry.Entry.{Entry}
use Rattle.world_core.specs.declared.act.Act.{Act}
use Rattle.shipper.specs.contracts.upload.UploadMachine.TheImpl.{ghosts as uploads}
use Rattle.shipper.specs.declared.upload.UploadEnd.{UploadEnd}
use Rattle.meta_fetcher.specs.contracts.sync.SyncMachine.TheImpl.{ghosts as syncs}
use Rattle.group_planner.specs.declared.group.Group.{Group}
use Rattle.compactor.specs.Marking.{marking}
use Rattle.compactor.specs.contracts.marks.MarksMachine.TheImpl.{ghosts as marks}
use Rattle.compactor.specs.declared.reason.Reason.{Reason}
use Rattle.compactor.specs.declared.reason.Reason.TheVariants.{Covered, Compacted, Expired}
use Rattle.compactor.specs.declared.marks.MarksEnd.{MarksEnd}
use Rattle.compactor.specs.declared.marks.MarksEnd.TheVariants as marked
use Rattle.compactor.specs.contracts.reads.ReadsMachine.TheImpl.{ghosts as reads}
use Rattle.compactor.specs.declared.reads_end.ReadsEnd.{ReadsEnd}
use Rattle.compactor.specs.declared.reads_end.ReadsEnd.TheVariants as read
use Rattle.compactor.specs.Compactions.{last_number, after_upload, merging, compacting_groups, after_sync}
use Rattle.compactor.specs.declared.stage.Stage.{Stage}
use Rattle.compactor.specs.declared.stage.Stage.TheVariants.{Syncing, Reading, Uploading, Marking, Over}
use Rattle.compactor.specs.declared.compact.Compact.{Compact}
use Rattle.compactor.specs.declared.compact_end.CompactEnd.{CompactEnd}
use Rattle.compactor.specs.declared.compact_end.CompactEnd.TheVariants.{Done, Fault, Missing, Damaged}

-- ---- what follows the parts

-- the groups that are left, where so many covered blocks were marked and so many groups compacted; and then the marks of the expired
abbrev pub groups_from : List (List ℕ) → List ℕ → ℕ → ℕ → List Group → Plan CompactEnd
groups_from replicas expired collected compacted groups =
    compacting_groups replicas compacted groups (λ all. marking Fault Expired 0 expired (λ marked. ends (Done collected all marked)))

abbrev pub groups_left : Compact → Plan CompactEnd
groups_left c = groups_from c.replicas c.expired.items c.collected c.compacted c.groups.items

-- what follows so many marks that were put for a reason
abbrev pub puts_then : Reason → List (List ℕ) → List ℕ → ℕ → ℕ → List Group → ℕ → Plan CompactEnd
puts_then Covered replicas expired collected compacted groups put = groups_from replicas expired put compacted groups
puts_then Compacted replicas expired collected compacted groups put = groups_from replicas expired collected compacted groups
puts_then Expired replicas expired collected compacted groups put = ends (Done collected compacted put)

abbrev pub after_puts : Reason → Compact → ℕ → Plan CompactEnd
after_puts reason c put = puts_then reason c.replicas c.expired.items c.collected c.compacted c.groups.items put

-- the marks of these blocks, and what follows them
abbrev pub marks_left : Reason → Compact → List ℕ → Plan CompactEnd
marks_left reason c ulids = marking Fault reason 0 ulids (λ put. after_puts reason c put)

-- what follows marks by their end
abbrev pub after_marks : Reason → Compact → MarksEnd → Plan CompactEnd
after_marks reason c (marked.Done put) = after_puts reason c put
after_marks reason c (marked.Fault number) = ends (Fault number)

-- what follows the reads of a group's blocks
abbrev pub after_reads : Compact → List Label → List ℕ → ReadsEnd → Plan CompactEnd
after_reads c labels parents (read.Done all) = merging c.replicas labels parents (groups_left c) all.inputs all.number all.moment
after_reads c labels parents (read.Fault number) = ends (Fault number)
after_reads c labels parents (read.Missing number) = ends (Missing number)
after_reads c labels parents (read.Damaged number) = ends (Damaged number)

-- what follows the upload of their block, where this entry was the last one before these
abbrev pub after_put : Compact → List ℕ → Option ℕ → List Entry → UploadEnd → Plan CompactEnd
after_put c parents noted own came = after_upload (marks_left Compacted c parents) (came, fold last_number noted own)

-- ---- what it may still do

-- what may follow, by entries and an end
abbrev pub Onward : Type 1
Onward = List Entry → Option CompactEnd → Type 0

-- what the part at hand may still do, and then what follows its end
abbrev pub may_at : Stage → Compact → Onward
may_at (Syncing sync) c = PartThen syncs.may sync (λ own came. after_sync c.replicas c.retention came)
may_at (Reading part labels parents) c = PartThen reads.may part (λ own came. after_reads c labels parents.items came)
may_at (Uploading upload parents) c = λ entries end. (noted : Option ℕ) → PartThen uploads.may upload (after_put c parents.items noted) entries end
may_at (Marking reason part) c = PartThen marks.may part (λ own came. after_marks reason c came)
may_at Over c = Runs never

abbrev pub may_compact : Compact → List Entry → Option CompactEnd → Compact → Type 0
may_compact c entries end last = may_at c.stage c entries end

-- the operation that the part at hand waits for
abbrev pub asked_at : Stage → Option Op
asked_at (Syncing sync) = syncs.asked sync
asked_at (Reading part labels parents) = reads.asked part
asked_at (Uploading upload parents) = uploads.asked upload
asked_at (Marking reason part) = marks.asked part
asked_at Over = None

abbrev pub asked_compact : Compact → Option Op
asked_compact c = asked_at c.stage

-- it was not begun
abbrev pub IsFresh : Compact → Type 0
IsFresh c = (sync : _) × (c.stage ≡ Syncing sync) × syncs.fresh sync

-- ---- calls

-- what may follow an entry in a stage
abbrev pub goes_after : Stage → Compact → Entry → Onward
goes_after stage c e entries end = may_at stage c (e ∷ entries) end

-- a call goes on as may follow
abbrev pub Goes : Onward → Result (Act CompactEnd) NoMemory → Compact → Type 0
Goes follows result new = lead.Leads may_compact asked_compact follows result new

-- a call goes on by a plan
abbrev pub Begins : Plan CompactEnd → Result (Act CompactEnd) NoMemory → Compact → Type 0
Begins plan result new = Goes (Runs plan) result new

-- ---- the measure

-- each part asks for fewer operations than this
abbrev pub most_asked : ℕ
most_asked = 2 ^ 100

-- so many parts may still follow the marks that are put for a reason, and one more
abbrev pub level_of : Reason → ℕ → ℕ
level_of Covered groups = 3 * groups + 2
level_of Compacted groups = 3 * groups + 2
level_of Expired groups = 1

-- so many operations may still follow
abbrev pub count_at : Stage → ℕ → ℕ
count_at (Syncing sync) groups = most_asked * 2 ^ 70 + syncs.measure sync
count_at (Reading part labels parents) groups = most_asked * (3 * groups + 4) + reads.measure part
count_at (Uploading upload parents) groups = most_asked * (3 * groups + 3) + uploads.measure upload
count_at (Marking reason part) groups = most_asked * level_of reason groups + marks.measure part
count_at Over groups = 0

abbrev pub count_of : Compact → ℕ
count_of c = count_at c.stage (length c.groups.items)
