-- What the first phase of every lawful journal of the script of one block is.
use Rattle.std.proofs.Common.{◌≡◌, inl, inr, ℕ, List, [], ◌∷◌, ◌++◌, length, Option, Some, None, sym, ap, subst, ◌∙◌, append-nil}
use Rattle.std.specs.List.{AllZip}
use Rattle.moment_core.specs.declared.moment.Moment.{Moment}
use Rattle.block_keys.specs.declared.key.Key.TheVariants as key
use Rattle.block_keys.specs.declared.object.Object.{Object}
use Rattle.world_core.specs.declared.entry.Entry.{Entry}
use Rattle.world_core.specs.declared.op.Op.TheVariants as op
use Rattle.world_core.specs.declared.reply.Reply.TheVariants as reply
use Rattle.world_core.specs.Plans.{Runs, after_get, ends as comes_to}
use Rattle.shipper.specs.Uploads.{putting, upload}
use Rattle.shipper.specs.declared.upload.UploadEnd.TheVariants.{Already, Fault}
use Rattle.shipper.specs.declared.upload.UploadEnd.{UploadEnd}
use Rattle.script_core.specs.declared.block.Block.{Block}
use Rattle.script_workers.specs.declared.phase.Phase.{Phase}
use Rattle.script_workers.specs.declared.work.Work.TheVariants as works
use Rattle.script_workers.specs.declared.worker.Worker.{Worker}
use Rattle.world_core.specs.Journals.{of_seat}
use Rattle.lifecycle_core.specs.Conducts.{Assigned, PhaseRun, TasksAt, TasksRun, Who, WorkerRun, who_of}
use Rattle.lifecycle_core.specs.Holdings.{Holding, Holdings, none_held, nothing_held}
use Rattle.lifecycle_core.specs.Phases.{IsLawfulJournal, by_script, by_workers}
use Rattle.lifecycle_core.specs.Setting.{Setting}
use Rattle.lifecycle_core.specs.Tasks.{End, UploadTask}
use Rattle.lifecycle_core.specs.Ways.{PhasesRun}
use Rattle.lifecycle_core.proofs.blocks.OneShipped.{one_shipped}
use Rattle.tests_worked.specs.SmallBlock as small
use Rattle.tests_worked.specs.OneBlock as one
use Rattle.tests_worked.proofs.one.OneShipped.{is_shipped}
use Rattle.tests_worked.proofs.one.OneBlock.{uploader, first_workers, first_tasks, second_tasks, first_own}

-- ---- the phases of a journal

-- the entries begin with the clock's setting, if there are any
abbrev pub BeginsAnew : List Entry → Type 0
BeginsAnew entries = (e : Entry) (more : List Entry) → entries ≡ e ∷ more → (moment : Moment) × (e.op ≡ op.Clock moment)

pub phases_begin : (setting : Setting) (number : ℕ) (views : Holdings) (phases : List Phase) (entries : List Entry) (ends : List (List (List End))) → PhasesRun (by_workers setting) number views phases entries ends → BeginsAnew entries
phases_begin setting number views [] entries ends run e more is = absurd (cc (run.0))
phases_begin setting number views (phase ∷ phases) entries ends (inl none) e more is = absurd (cc (none.0))
phases_begin setting number views (phase ∷ phases) entries ends (inr r) e more is =
    let same : r.0 ≡ e = cc (r.6) in (phase.moment, subst (λ (x : Entry). x.op ≡ op.Clock phase.moment) same r.7.sets)

-- an entry that sets no clock belongs to the phase
pub stays : (made others : List Entry) (e : Entry) (more : List Entry) → e ∷ more ≡ made ++ others → BeginsAnew others → ((moment : Moment) → e.op ≡ op.Clock moment → ⊥)
    → (left : List Entry) × (made ≡ e ∷ left) × (more ≡ left ++ others)
stays [] others e more is anew other = let clock = anew e more (sym is) in absurd (other clock.0 clock.1)
stays (x ∷ left) others e more is anew other = (left, cc, cc)

-- ---- its first phase

abbrev pub second : Phase
second = record { line = 7; moment = record { ms = 1_800_000 }; tasks = second_tasks }

pub record FirstPhase (entries : List Entry) (others : List Entry) (made : List Entry) (after : Holdings) : Type 0 where
  pub ends : List (List End)
  pub parts : entries ≡ made ++ others
  pub run : PhaseRun (by_script one.setting) first_tasks (uploader ∷ []) none_held made ends after
  pub anew : BeginsAnew others
  pub later : (left : List (List (List End))) × PhasesRun (by_workers one.setting) 1 after (second ∷ []) others left

pub first_phase_of : (clock : Entry) (entries : List Entry) → IsLawfulJournal one.setting (clock ∷ entries)
    → (others : List Entry) × (made : List Entry) × (after : Holdings) × FirstPhase entries others made after
first_phase_of clock entries lawful = go lawful.0 lawful.1.phases
  where
    go : (ends : List (List (List End))) → PhasesRun (by_workers one.setting) 0 none_held one.script.phases (clock ∷ entries) ends → (others : List Entry) × (made : List Entry) × (after : Holdings) × FirstPhase entries others made after
    go ends (inl none) = absurd (cc (none.0))
    go ends (inr r) = (
      r.2,
      r.1,
      r.5,
      record {
        ends = r.3;
        parts = cc (r.6);
        run = subst (λ (ws : List Worker). PhaseRun (by_script one.setting) first_tasks ws none_held r.1 r.3 r.5) first_workers r.8;
        anew = phases_begin one.setting 1 r.5 (second ∷ []) r.2 r.4 r.10;
        later = (r.4, r.10);
      },
    )

-- ---- the upload in it

own_task : (own : List Assigned) → TasksAt first_tasks (0 ∷ []) own → own ≡ first_own
own_task [] at = absurd at
own_task (own ∷ tasks) at =
    let task : record { line = 6; work = works.Upload small.a None } ≡ own.task = cc (at.0.1) in
    λ i. record { place = at.0.0 i; task = sym task i } ∷ at.1 i

one_task : (setting : Setting) (who : Who) (all entries : List Entry) (ends : List End) (last : Holding) → TasksRun (by_script setting) who all nothing_held first_own entries ends last
    → (end : Option End) × UploadTask setting small.a None entries end
one_task setting who all entries ends last (inl r) =
    (Some r.2, subst (λ es. UploadTask setting small.a None es (Some r.2)) (sym (r.5 ∙ ap (λ es. r.0 ++ es) r.8.0 ∙ append-nil r.0)) r.6.0)
one_task setting who all entries ends last (inr r) = (None, r.0.0)

pub upload_of : (made : List Entry) (ends : List (List End)) (after : Holdings) → PhaseRun (by_script one.setting) first_tasks (uploader ∷ []) none_held made ends after
    → (end : Option End) × UploadTask one.setting small.a None (of_seat 1 made) end
upload_of made ends after run = go ends run.runs
  where
    go : (ends : List (List End)) → AllZip (WorkerRun (by_script one.setting) first_tasks none_held made after) (uploader ∷ []) ends → (end : Option End) × UploadTask one.setting small.a None (of_seat 1 made) end
    go [] runs = absurd runs
    go (own ∷ ends) runs =
        let worker = runs.0 in
        one_task one.setting (who_of uploader) made (of_seat 1 made) own worker.last
        (subst (λ (ts : List Assigned). TasksRun (by_script one.setting) (who_of uploader) made nothing_held ts (of_seat 1 made) own worker.last) (own_task worker.own worker.are) worker.runs)

-- the entries are those of an upload of the small block's objects
pub record Uploads (entries : List Entry) : Type 0 where
  pub end : Option UploadEnd
  pub run : Runs (upload small.a (small.objects_with small.a small.meta)) entries end

-- an upload's entries, if there are any, are those
pub uploads_of : (e : Entry) (entries : List Entry) (end : Option End) → UploadTask one.setting small.a None (e ∷ entries) end → Uploads (e ∷ entries)
uploads_of e entries end (block, declares, inl (objects, own, shipped, run, ended)) =
    let same : small.block ≡ block = cc (declares) in
    let are : objects ≡ small.objects_with small.a small.meta = one_shipped one.setting block block.body objects (small.objects_with small.a small.meta) shipped (is_shipped block same) in
    record { end = own; run = subst (λ (os : List Object). Runs (upload small.a os) (e ∷ entries) own) are (subst (λ (b : Block). Runs (upload b.ulid objects) (e ∷ entries) own) (sym same) run) }
uploads_of e entries end (block, declares, inr (inl (cause, refused, (none, ended)))) = absurd (cc (none))
uploads_of e entries end (block, declares, inr (inr (none, ended))) = absurd (cc (none))

-- ---- what it begins with

pub first_is_look : (e : Entry) (more : List Entry) → Uploads (e ∷ more) → e.op ≡ op.Get (key.Meta small.a)
first_is_look e more uploads = uploads.run.0

pub second_is_put : (look e : Entry) (more : List Entry) → look.reply ≡ reply.Absent → Uploads (look ∷ e ∷ more) → e.op ≡ op.Put (key.Segment small.a 1) small.segment
second_is_put look e more is uploads =
    let objects = small.objects_with small.a small.meta in
    (subst (λ r. Runs (after_get r (λ bytes. comes_to Already) (putting (length objects) objects) (comes_to (Fault look.seq))) (e ∷ more) uploads.end) is uploads.run.1).0
