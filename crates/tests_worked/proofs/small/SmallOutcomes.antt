-- How the tasks of small scripts come out, by their ends.
use Rattle.std.proofs.Common.{◌≡◌, ℕ, ℤ, [], ◌∷◌, length, Option, refl, sym, ap}
use Rattle.label_sets.specs.Triples.{triples_of}
use Rattle.shipper.specs.declared.upload.UploadEnd.TheVariants as shipped
use Rattle.meta_fetcher.specs.declared.sync.SyncEnd.TheVariants as fetched
use Rattle.meta_fetcher.specs.declared.view.View.{View}
use Rattle.store_calls.specs.declared.series_call.SeriesEnd.TheVariants as called
use Rattle.querier.specs.declared.answer.Answer.{Answer}
use Rattle.script_workers.specs.declared.work.Work.TheVariants as works
use Rattle.lifecycle_core.specs.Holdings.{Use}
use Rattle.lifecycle_core.specs.Tasks.{answered, synced, uploaded}
use Rattle.lifecycle_core.proofs.answers.Joining.{none_merged}
use Rattle.call_verdicts.specs.script_running.specs.Outcomes.{IsOutcome, Outcome}
use Rattle.call_verdicts.specs.script_running.specs.declared.came.Came.TheVariants as came_to
use Rattle.call_verdicts.specs.script_running.specs.declared.outcome.QueryOutcome.TheVariants as queries
use Rattle.call_verdicts.specs.script_running.specs.declared.outcome.SyncOutcome.TheVariants as syncs
use Rattle.call_verdicts.specs.script_running.specs.declared.came.Stop.TheVariants as stops
use Rattle.call_verdicts.specs.script_running.specs.declared.outcome.QueryPart.TheVariants as given
use Rattle.tests_worked.specs.SmallBlock as small
use Rattle.tests_worked.proofs.small.SmallCalls.{merge_given}

-- the answer of one gateway that shows the small block, and of one that shows none
abbrev pub small_answer : Answer
small_answer = record { series = small.up ∷ []; sources = small.a ∷ [] }

abbrev pub no_answer : Answer
no_answer = record { series = []; sources = [] }

abbrev pub small_outcome : Outcome
small_outcome = came_to.Query (queries.Answer small_answer (record { gateway = 0; sources = small.a ∷ [] } ∷ []))

abbrev pub no_outcome : Outcome
no_outcome = came_to.Query (queries.Answer no_answer (record { gateway = 0; sources = [] } ∷ []))

pub upload_out : (ulid : ℕ) (stop : Option ℕ) → IsOutcome (works.Upload ulid stop) (uploaded (shipped.Done 3) ∷ []) (came_to.Upload (stops.Ended (shipped.Done 3)))
upload_out ulid stop = (came_to.Upload (stops.Ended (shipped.Done 3)) ∷ [], (refl, tt), (came_to.Upload (stops.Ended (shipped.Done 3)), refl, refl))

pub sync_out : (gateway : ℕ) (view : View) (count : ℕ) → length view.kept ≡ count → IsOutcome (works.Sync gateway) (synced (fetched.View view) ∷ []) (came_to.Sync (syncs.Blocks count))
sync_out gateway view count is = (came_to.Sync (syncs.Blocks count) ∷ [], (ap (λ (n : ℕ). came_to.Sync (syncs.Blocks n)) (sym is), tt), (came_to.Sync (syncs.Blocks count), refl, refl))

pub small_out : (low high : ℤ) (selector : ℕ) (used : Use) → IsOutcome (works.Query low high selector) (answered used (called.Answer (small.up ∷ []) (small.a ∷ [])) ∷ []) small_outcome
small_out low high selector used = (
  came_to.Query (given.Answer small_answer used.view.first) ∷ [],
  (refl, tt),
  (given.Answer small_answer used.view.first ∷ [], queries.Answer small_answer (record { gateway = 0; sources = small.a ∷ [] } ∷ []), refl, (refl, record { merged = merge_given; sources = refl }, refl), refl),
)

pub no_out : (low high : ℤ) (selector : ℕ) (used : Use) → IsOutcome (works.Query low high selector) (answered used (called.Answer [] []) ∷ []) no_outcome
unfolding triples_of
no_out low high selector used = (
  came_to.Query (given.Answer no_answer used.view.first) ∷ [],
  (refl, tt),
  (given.Answer no_answer used.view.first ∷ [], queries.Answer no_answer (record { gateway = 0; sources = [] } ∷ []), refl, (refl, record { merged = none_merged; sources = refl }, refl), refl),
)
