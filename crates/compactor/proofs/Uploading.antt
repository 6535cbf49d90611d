-- The upload of a new block, and then what follows.
use Rattle.std.proofs.Common.{◌≡◌, ℕ, List, [], ◌∷◌, inl, inr, sym, ap, subst, ◌∙◌, Option, Some, None, Result, Ok, fold}
use Rattle.std.specs.Prelude.{IfOk}
use Rattle.base.specs.declared.memory.NoMemory.{NoMemory}
use Rattle.block_keys.specs.Blocks.{IsBlock}
use Rattle.block_keys.specs.declared.object.Object.{Object}
use Rattle.block_meta.specs.declared.block_files.BlockFiles.{BlockFiles}
use Rattle.world_core.specs.Machines.{GoesOn}
use Rattle.world_core.specs.Plans.{Plan, Runs, ends, never, asks, finds, and_then, noting}
use Rattle.world_core.specs.declared.op.Op.{Op}
use Rattle.world_core.specs.declared.entry.Entry.{Entry}
use Rattle.world_core.specs.declared.act.Act.{Act}
use Rattle.world_core.specs.declared.act.Act.TheVariants as act
use Rattle.world_core.proofs.PlanParts.{notes, joined}
use Rattle.shipper.specs.Uploads.{upload}
use Rattle.shipper.specs.contracts.upload.UploadMachine.TheImpl.{ghosts as uploads}
use Rattle.shipper.specs.declared.upload.Upload.{Upload}
use Rattle.shipper.specs.declared.upload.UploadEnd.{UploadEnd}
use Rattle.compactor.specs.Compactions.{last_number, after_upload}
use Rattle.compactor.specs.NewBlocks.{block_objects}
use Rattle.world_core.specs.Parts.{PartThen}
use Rattle.compactor.specs.CompactStates.{Onward, may_compact, asked_compact, Begins, Goes, marks_left, after_put}
use Rattle.compactor.specs.declared.reason.Reason.TheVariants.{Compacted}
use Rattle.compactor.specs.declared.compact.Compact.{Compact}
use Rattle.compactor.specs.declared.compact_end.CompactEnd.{CompactEnd}
use Rattle.world_core.proofs.PlanParts.{begun, goes_on, hands_on}
use Rattle.world_core.specs.Leads.{Waits}
use Rattle.compactor.proofs.CompactSteps.{goes_as, part_asks}

-- a run that came to an end may take notes
notes_end : {S A : Type 0} (note : S → Entry → S) (noted : S) (plan : Plan A) (entries : List Entry) (last : A) → Runs plan entries (Some last) → Runs (noting note noted plan) entries (Some (last, fold note noted entries))
notes_end note noted (ends end) entries last (nil, inl none) = absurd (cc (none))
notes_end note noted (ends end) entries last (nil, inr is) =
    let same : last ≡ end = cc (is) in
    let none : fold note noted entries ≡ noted = ap (fold note noted) nil in
    (nil, inr (λ i. Some (same i, none i)))
notes_end note noted never entries last run = absurd (cc (run.1))
notes_end note noted (asks op on) [] last run = absurd (cc (run))
notes_end note noted (asks op on) (e ∷ entries) last run = (run.0, notes_end note (note noted e) (on e) entries last run.1)
notes_end note noted (finds Is one on) entries last (inl none) = absurd (cc (none.1))
notes_end note noted (finds Is one on) entries last (inr (found, is, run)) = inr (found, is, notes_end note noted (on found) entries last run)

-- what may come of an upload is a run of the upload of these objects
abbrev Uploads : Upload → ℕ → List Object → Type 0
Uploads started ulid objects = (entries : List Entry) (end : Option UploadEnd) (last : Upload) → uploads.may started entries end last → Runs (upload ulid objects) entries end

-- an upload of a block's objects that has begun
pub upload_keeps : (r : Result Upload NoMemory) (started : Upload) (block : BlockFiles) (ulid : ℕ) (objects : List Object) → r ≡ Ok started → block.meta.ulid ≡ ulid → IsBlock block.meta.ulid objects
    → objects ≡ block_objects block.meta.ulid block → ((n : ℕ) → IsBlock n objects → IfOk r (λ (u : Upload). Uploads u n objects)) → Uploads started ulid (block_objects ulid block)
upload_keeps r started block ulid objects was named is are run =
    subst (λ (n : ℕ). Uploads started n (block_objects n block)) named
    (subst (λ (os : List Object). Uploads started block.meta.ulid os) are
    (subst (λ (x : Result Upload NoMemory). IfOk x (λ (u : Upload). Uploads u block.meta.ulid objects)) was (run block.meta.ulid is)))

module _ (c : Compact) (parents : List ℕ) (ulid : ℕ) (objects : List Object) (old : Upload) (keeps : Uploads old ulid objects) where
  abbrev whole : Plan CompactEnd
  whole = and_then (noting last_number None (upload ulid objects)) (after_upload (marks_left Compacted c parents))

  upload_runs : (entries : List Entry) (end : Option CompactEnd) → PartThen uploads.may old (after_put c parents None) entries end → Runs whole entries end
  upload_runs entries end (inl (broken, none)) =
      subst (Runs whole entries) (sym none)
      (begun (noting last_number None (upload ulid objects)) (after_upload (marks_left Compacted c parents)) entries
      (notes last_number None (upload ulid objects) entries (keeps entries None broken.0 broken.1)))
  upload_runs entries end (inr hands) =
      subst (λ es. Runs whole es end) (sym hands.are)
      (joined (noting last_number None (upload ulid objects)) (after_upload (marks_left Compacted c parents)) hands.own hands.others (hands.came, fold last_number None hands.own) end
      (notes_end last_number None (upload ulid objects) hands.own hands.came (keeps hands.own (Some hands.came) hands.last hands.first)) hands.rest)

  -- an upload asks for its first operation
  pub upload_asks : (part : Upload) (a : Act UploadEnd) (op : Op) (new : Compact) → a ≡ act.Do op → asked_compact new ≡ uploads.asked part
      → ((entries : List Entry) (end : Option CompactEnd) → may_compact new entries end new → (noted : Option ℕ) → PartThen uploads.may part (after_put c parents noted) entries end)
      → GoesOn uploads.may uploads.asked old [] (Ok a) part → Begins whole (Ok (act.Do op)) new
  upload_asks part a op new is waits to goes =
      goes_as (PartThen uploads.may old (after_put c parents None)) (Runs whole) (Ok (act.Do op)) new upload_runs
      (part_asks uploads.may uploads.asked old part [] (after_put c parents None) a op new is waits (λ entries end run. to entries end run None) goes)

module _ (c : Compact) (parents : List ℕ) (old part : Upload) (e : Entry) where
  abbrev follows : Onward
  follows entries end = (noted : Option ℕ) → PartThen uploads.may old (after_put c parents noted) (e ∷ entries) end

  -- the upload goes on
  pub upload_goes : (a : Act UploadEnd) (op : Op) (new : Compact) → a ≡ act.Do op → asked_compact new ≡ uploads.asked part
      → ((entries : List Entry) (end : Option CompactEnd) → may_compact new entries end new → (noted : Option ℕ) → PartThen uploads.may part (after_put c parents noted) entries end)
      → GoesOn uploads.may uploads.asked old (e ∷ []) (Ok a) part → Goes follows (Ok (act.Do op)) new
  upload_goes a op new is waits to goes = so (subst (λ (b : Act UploadEnd). GoesOn uploads.may uploads.asked old (e ∷ []) (Ok b) part) is goes)
    where
      so : GoesOn uploads.may uploads.asked old (e ∷ []) (Ok (act.Do op)) part → Waits may_compact asked_compact follows op new
      so later = record {
        lawful = later.lawful;
        asks = waits ∙ later.waits;
        onward = λ entries end run noted. goes_on uploads.may old part (after_put c parents noted) (e ∷ []) entries end (λ own came last. later.onward own came last) (to entries end run (Some e.seq));
      }

  -- it has come to its end
  pub upload_ends : (a : Act UploadEnd) (came : UploadEnd) (r : Result (Act CompactEnd) NoMemory) (new : Compact) → a ≡ act.Done came → GoesOn uploads.may uploads.asked old (e ∷ []) (Ok a) part
      → Begins (after_upload (marks_left Compacted c parents) (came, Some e.seq)) r new → Goes follows r new
  upload_ends a came r new is goes begins =
      goes_as (Runs (after_upload (marks_left Compacted c parents) (came, Some e.seq))) follows r new
      (λ entries end rest noted. hands_on uploads.may old part (after_put c parents noted) (e ∷ []) entries came end (subst (λ (b : Act UploadEnd). GoesOn uploads.may uploads.asked old (e ∷ []) (Ok b) part) is goes) rest) begins
