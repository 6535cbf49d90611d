-- A run that ended with a failed call has an entry of that number which was answered so.
use Rattle.std.proofs.Common.{◌≡◌, ℕ, Bool, IsTrue, List, [], ◌∷◌, ◌++◌, length, Contains, Option, Some, None, refl, sym, ap, subst}
use Rattle.std.specs.Prelude.{fold}
use Rattle.block_keys.specs.declared.key.Key.TheVariants as key
use Rattle.block_keys.specs.declared.object.Object.{Object}
use Rattle.world_core.specs.Operations.{has_failed}
use Rattle.world_core.specs.declared.entry.Entry.{Entry}
use Rattle.world_core.specs.declared.reply.Reply.TheVariants as reply
use Rattle.world_core.specs.Plans.{Runs, ends as comes_to}
use Rattle.world_core.proofs.PlanLaws.{EndsAre, end_is, nothing_given}
use Rattle.world_core.proofs.PlanWords.{gets_are, puts_are}
use Rattle.shipper.specs.Uploads.{putting, upload}
use Rattle.shipper.specs.declared.upload.UploadEnd.{UploadEnd}
use Rattle.shipper.specs.declared.upload.UploadEnd.TheVariants as shipped
use Rattle.meta_fetcher.specs.Sightings.{Sighting}
use Rattle.meta_fetcher.specs.Syncs.{Course, IsEnd, Synced, SyncRun, with_entry}
use Rattle.meta_fetcher.specs.Syncs as sync_told
use Rattle.meta_fetcher.proofs.SyncLaws.{KeptByPages, KeptByReads, synced}
use Rattle.meta_fetcher.specs.declared.rules.SyncRules.{SyncRules}
use Rattle.meta_fetcher.specs.declared.sync.SyncEnd.{SyncEnd}
use Rattle.meta_fetcher.specs.declared.sync.SyncEnd.TheVariants as fetched
use Rattle.meta_fetcher.specs.declared.view.View.{View}
use Rattle.store_ranges.specs.Reads.{Cache, Query as Question}
use Rattle.store_calls.specs.SeriesCalls.{CallEnd, SeriesRun}
use Rattle.store_calls.proofs.ShownEnds.{shows_failed}
use Rattle.store_calls.specs.declared.series_call.SeriesEnd.TheVariants as called
use Rattle.lifecycle_core.proofs.journals.Positions.{stands_in}

-- an entry of this number was answered that its call failed
abbrev pub ShowsFault : List Entry → ℕ → Type 0
ShowsFault entries number = (e : Entry) × Contains entries e × (e.seq ≡ number) × IsTrue (has_failed e.reply)

-- ---- uploads

-- the end tells of no fault but one that the entries show
abbrev UploadShows : List Entry → UploadEnd → Type 0
UploadShows made end = (number : ℕ) → end ≡ shipped.Fault number → ShowsFault made number

fault_shows : (made : List Entry) (e : Entry) → IsTrue (has_failed e.reply) → UploadShows (made ++ e ∷ []) (shipped.Fault e.seq)
fault_shows made e failed = λ number is. (e, stands_in made [] e, cc (is), failed)

putting_shows : (total : ℕ) (objects : List Object) (made : List Entry) → EndsAre (λ e. Unit {0}) UploadShows made (putting total objects)
putting_shows total [] made = λ number is. absurd (cc (is))
putting_shows total (object ∷ objects) made =
    puts_are (λ e. Unit {0}) UploadShows made shipped.Fault object.key object.bytes (λ e. putting total objects) (λ e is given stored. putting_shows total objects (made ++ e ∷ []))
    (λ e is given failed. fault_shows made e failed)

ends_show : (ulid : ℕ) (objects : List Object) → EndsAre (λ e. Unit {0}) UploadShows [] (upload ulid objects)
ends_show ulid objects =
    gets_are (λ e. Unit {0}) UploadShows [] shipped.Fault (key.Meta ulid) (λ e bytes. comes_to shipped.Already) (λ e. putting (length objects) objects) (λ e bytes is given found number same. absurd (cc (same)))
    (λ e is given absent. putting_shows (length objects) objects (e ∷ [])) (λ e is given failed. fault_shows [] e failed)

pub upload_shows : (ulid : ℕ) (objects : List Object) (entries : List Entry) (end : Option UploadEnd) → Runs (upload ulid objects) entries end → (number : ℕ) → end ≡ Some (shipped.Fault number) → ShowsFault entries number
upload_shows ulid objects entries None run number is = absurd (cc (is))
upload_shows ulid objects entries (Some last) run number is =
    end_is (λ e. Unit {0}) UploadShows (upload ulid objects) [] entries last (ends_show ulid objects) (nothing_given entries) run number (cc (is))

-- ---- syncs

abbrev SyncShown : List Entry → Synced → Type 0
SyncShown made (sync_told.sighted sightings) = Unit {0}
SyncShown made (sync_told.fault number) = ShowsFault made number
SyncShown made (sync_told.damaged number) = Unit {0}
SyncShown made sync_told.too_many = Unit {0}

abbrev Reads : List Entry → List Sighting → List ℕ → Type 0
Reads made sightings ulids = Unit {0}

abbrev Lists : List Entry → List (List ℕ) → Type 0
Lists made listed = Unit {0}

shown_here : (made : List Entry) (e : Entry) (landed : Bool) → e.reply ≡ reply.Failed landed → ShowsFault (made ++ e ∷ []) e.seq
shown_here made e landed failed = (e, stands_in made [] e, refl, ap has_failed failed)

sync_reads_show : KeptByReads (λ e. Unit {0}) SyncShown Reads
sync_reads_show = record {
  over = λ made sightings j. tt;
  mark_failed = λ made sightings ulid ulids e landed came. shown_here made e landed came.shows;
  no_mark = λ made sightings ulid ulids e bytes came none. tt;
  marked = λ made sightings ulid ulids e bytes mark came read. tt;
  unmarked = λ made sightings ulid ulids e came. tt;
  meta_failed = λ made sightings ulid ulids e landed came. shown_here made e landed came.shows;
  unread = λ made sightings ulid ulids e bytes came none. tt;
  seen = λ made sightings ulid ulids e bytes mark mark_read meta looked came read. tt;
  missed = λ made sightings ulid ulids e came. tt;
}

sync_pages_show : (limit : ℕ) → KeptByPages (λ e. Unit {0}) SyncShown limit Lists Lists
sync_pages_show limit = record {
  failed = λ made listed page landed came. shown_here made page landed came.shows;
  unordered = λ made listed names page came down. tt;
  short = λ made listed names page came up short. tt;
  full = λ made listed names page came up full. tt;
  many = λ made names listed many. tt;
}

fault_told : (rules : SyncRules) (entries : List Entry) (last : Synced) (course : Option Course) (end : SyncEnd) (number : ℕ) → SyncShown entries last → IsEnd rules (last, course) end → end ≡ fetched.Fault number → ShowsFault entries number
fault_told rules entries (sync_told.sighted sightings) (Some course) end number shown (view, is, v) same = absurd (cc (is, same))
fault_told rules entries (sync_told.sighted sightings) None end number shown is same = absurd is
fault_told rules entries (sync_told.fault own) course end number shown is same = let one : own ≡ number = cc (is, same) in subst (ShowsFault entries) one shown
fault_told rules entries (sync_told.damaged own) course end number shown is same = absurd (cc (is, same))
fault_told rules entries sync_told.too_many course end number shown is same = absurd (cc (is, same))

pub sync_shows : (rules : SyncRules) (entries : List Entry) (end : Option SyncEnd) → SyncRun rules entries end → (number : ℕ) → end ≡ Some (fetched.Fault number) → ShowsFault entries number
sync_shows rules entries None run number is = absurd (cc (is))
sync_shows rules entries (Some last) run number is =
    let s = synced (λ e. Unit {0}) SyncShown rules Lists Lists Reads (sync_pages_show rules.page_limit) sync_reads_show tt (λ made names listed. tt) entries last (nothing_given entries) run in
    fault_told rules entries s.0 (fold with_entry None entries) last number s.1 s.2 (cc (is))

-- ---- series calls

pub call_shows : (view : View) (query : Question) (cache : Cache) (entries : List Entry) (call : CallEnd) → SeriesRun view query cache entries (Some call) → (number : ℕ) → call.end ≡ called.Fault number → ShowsFault entries number
call_shows view query cache entries call run number is =
    let e = shows_failed view query cache entries call number run is in
    (e.last, subst (λ es. Contains es e.last) (sym e.parts) (stands_in e.front [] e.last), e.is, e.replied)
