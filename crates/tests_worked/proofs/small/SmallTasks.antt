-- The tasks over the small block are done as the definitions say.
use Rattle.std.proofs.Common.{◌≡◌, ◌+◌, inl, inr, ℕ, suc, Bool, true, false, cond, List, [], ◌∷◌, Some, None, map, refl, sym, subst, arith, Option}
use Rattle.std.specs.List.{cons_option, filter}
use Rattle.std.specs.List.Sorted.{IsStrictlyIncreasing}
use Rattle.moment_core.specs.StandardRules.{minutes, hours}
use Rattle.moment_core.specs.declared.span.Span.{Span}
use Rattle.block_keys.specs.declared.key.Key.TheVariants as key
use Rattle.world_core.specs.declared.entry.Entry.{Entry}
use Rattle.block_meta.specs.MetaValue.{meta_text}
use Rattle.block_meta.specs.MetaFields.{fields_of}
use Rattle.world_core.specs.Plans.{Runs, noting}
use Rattle.shipper.specs.Uploads.{upload}
use Rattle.shipper.specs.declared.upload.UploadEnd.TheVariants as shipped
use Rattle.sync_filters.specs.Filters.{is_consistent, is_covered, is_unmarked}
use Rattle.sync_filters.specs.declared.found.Found.{Found}
use Rattle.meta_fetcher.specs.Sightings.{covered_by, kept_by, sighting_of}
use Rattle.block_meta.specs.OfBlocks.{block_meta}
use Rattle.meta_fetcher.specs.Syncs.{SyncRun, listing, sighted, with_entry}
use Rattle.meta_fetcher.proofs.Ascending.{kept_ascend}
use Rattle.meta_fetcher.specs.declared.rules.SyncRules.{SyncRules}
use Rattle.meta_fetcher.specs.declared.sync.SyncEnd.TheVariants as fetched
use Rattle.lifecycle_core.specs.Held.{declared}
use Rattle.lifecycle_core.specs.Setting.{Setting}
use Rattle.lifecycle_core.specs.Tasks.{UploadTask, all_times, uploaded}
use Rattle.tests_worked.specs.SmallBlock as small
use Rattle.tests_worked.specs.SmallRuns as runs
use Rattle.tests_worked.specs.Entries.{absent, found, listed}
use Rattle.tests_worked.proofs.small.BuiltBlock.{shipped_objects}
use Rattle.tests_worked.proofs.small.SmallMeta.{meta_is, meta_reads, a_reads}

-- ---- uploads

-- the upload of such a block, by its entries
pub upload_task_by : (setting : Setting) (ulid : ℕ) (text : List ℕ) → meta_text (fields_of (small.said_of ulid)) ≡ text → declared setting.script ulid ≡ Some (small.block_of ulid)
    → (entries : List Entry) → Runs (upload ulid (small.objects_with ulid text)) entries (Some (shipped.Done 3)) → UploadTask setting ulid None entries (Some (uploaded (shipped.Done 3)))
upload_task_by setting ulid text is declares entries run =
    (small.block_of ulid, declares, inl (small.objects_with ulid text, Some (shipped.Done 3), shipped_objects setting ulid text is, run, inl (refl, λ n no. absurd (cc))))

pub upload_task : (setting : Setting) → declared setting.script small.a ≡ Some small.block → (seq seat moment : ℕ)
    → UploadTask setting small.a None (runs.upload seq seat moment) (Some (uploaded (shipped.Done 3)))
upload_task setting is seq seat moment =
    upload_task_by setting small.a small.meta meta_is is (runs.upload seq seat moment) (refl, (refl, (refl, (refl, (refl, inr refl)))))

-- ---- syncs

-- rules with this consistency delay, by which marks are passed over after this delay
abbrev pub rules_by : Span → Span → SyncRules
rules_by consistency delay = record { consistency = consistency; mark_delay = delay; page_limit = 1_000; partition = all_times }

-- the standard ones
abbrev pub rules : SyncRules
rules = rules_by (minutes 30) (hours 24)

block_meta_reads : block_meta small.a small.meta ≡ Some (fields_of small.said)
block_meta_reads = rw meta_reads refl

-- one block ascends
one_ascends : (rules : SyncRules) (block : Found) (kept : List Found) → kept ≡ kept_by rules (block ∷ []) → IsStrictlyIncreasing (map (λ b. b.ulid) kept)
one_ascends rules block kept is =
    subst (λ (l : List Found). IsStrictlyIncreasing (map (λ b. b.ulid) l)) (sym is) (kept_ascend rules (block ∷ []) (λ k more. omega (arith, more)))

-- one block is not covered, whether it is old enough to pass or not
alone : (delay : Span) (mark_read meta_read : ℕ) (old : Bool)
    → let passed = filter (λ block. is_unmarked block delay) (cond old (small.found mark_read meta_read ∷ []) []) in [] ≡ filter (is_covered passed) passed
alone delay mark_read meta_read true = refl
alone delay mark_read meta_read false = refl

none_covered : (consistency delay : Span) (mark_read meta_read : ℕ) → [] ≡ covered_by (rules_by consistency delay) (small.found mark_read meta_read ∷ [])
none_covered consistency delay mark_read meta_read = alone delay mark_read meta_read (is_consistent (small.found mark_read meta_read) consistency)

-- the entries of a sync of the small block, which may have so many pages and one more
small_sync : (more : ℕ) (consistency delay : Span) (seat first begin mark mark_read meta meta_read : ℕ)
    → Runs (noting with_entry None (listing (rules_by consistency delay) (suc more) [])) (listed first seat begin (small.a_text ∷ []) ∷ absent mark seat mark_read (key.Mark small.a) ∷ found meta seat meta_read (key.Meta small.a) small.meta ∷ [])
    (Some (sighted (sighting_of (small.found mark_read meta_read) ∷ []), Some (record { first = first; begin = record { ms = begin }; end = record { ms = meta_read } })))
small_sync more consistency delay seat first begin mark mark_read meta meta_read = (refl, rw a_reads (refl, (refl, rw block_meta_reads (refl, inr refl))))

-- the sync of the small block, by the numbers and moments of its entries
pub sync_run_by : (consistency delay : Span) (seat first begin mark mark_read meta meta_read : ℕ) (kept : Option Found) → cons_option kept [] ≡ kept_by (rules_by consistency delay) (small.found mark_read meta_read ∷ [])
    → SyncRun (rules_by consistency delay) (listed first seat begin (small.a_text ∷ []) ∷ absent mark seat mark_read (key.Mark small.a) ∷ found meta seat meta_read (key.Meta small.a) small.meta ∷ [])
    (Some (fetched.View (runs.view_of first begin meta_read kept)))
sync_run_by consistency delay seat first begin mark mark_read meta meta_read kept is = (
  (sighted (sighting_of (small.found mark_read meta_read) ∷ []), Some (record { first = first; begin = record { ms = begin }; end = record { ms = meta_read } })),
  small_sync 999_999 consistency delay seat first begin mark mark_read meta meta_read,
  (
    runs.view_of first begin meta_read kept,
    refl,
    record {
      first = refl;
      begin = refl;
      end = refl;
      found = small.found mark_read meta_read ∷ [];
      sighted = refl;
      kept = is;
      covered = none_covered consistency delay mark_read meta_read;
      kept_ascend = one_ascends (rules_by consistency delay) (small.found mark_read meta_read) (cons_option kept []) is;
      covered_ascend = λ k more. omega (arith, more);
    },
  ),
)

pub sync_run : (seq seat moment : ℕ) (kept : Option Found) → cons_option kept [] ≡ kept_by rules (runs.seen moment ∷ [])
    → SyncRun rules (runs.sync seq seat moment) (Some (fetched.View (runs.view seq moment kept)))
sync_run seq seat moment kept is = sync_run_by (minutes 30) (hours 24) seat seq moment (seq + 1) (moment + 1) (seq + 2) (moment + 2) kept is

pub empty_sync_run : (seq seat moment : ℕ)
    → SyncRun rules (listed seq seat moment [] ∷ []) (Some (fetched.View (runs.view_of seq moment moment None)))
empty_sync_run seq seat moment = (
  (sighted [], Some (record { first = seq; begin = record { ms = moment }; end = record { ms = moment } })),
  (refl, (refl, inr refl)),
  (_, refl, record { first = refl; begin = refl; end = refl; found = []; sighted = refl; kept = refl; covered = refl; kept_ascend = λ k more. omega (arith, more); covered_ascend = λ k more. omega (arith, more) }),
)
