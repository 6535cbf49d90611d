-- Where every task has ended well, every outcome is as asked.
use Rattle.std.proofs.Common.{◌≡◌, inl, inr, ℕ, ◌+◌, Bool, true, false, List, [], ◌∷◌, Contains, Option, refl, ◌∙◌, ap, subst, None, map, sym}
use Rattle.std.specs.List.{AllZip, list_all, AllByRecursion}
use Rattle.std.proofs.lemmas.List.Folds.{list_all-append}
use Rattle.std.proofs.lemmas.Bool.{and_from}
use Rattle.world_core.specs.Worlds.{failed_count}
use Rattle.world_core.specs.declared.entry.Entry.{Entry}
use Rattle.shipper.specs.declared.upload.UploadEnd.{UploadEnd}
use Rattle.shipper.specs.declared.upload.UploadEnd.TheVariants as shipped
use Rattle.meta_fetcher.specs.declared.sync.SyncEnd.{SyncEnd}
use Rattle.meta_fetcher.specs.declared.sync.SyncEnd.TheVariants as fetched
use Rattle.compactor.specs.declared.compact_end.CompactEnd.{CompactEnd}
use Rattle.compactor.specs.declared.compact_end.CompactEnd.TheVariants as merged
use Rattle.cleaner.specs.declared.clean.CleanEnd.{CleanEnd}
use Rattle.cleaner.specs.declared.clean.CleanEnd.TheVariants as swept
use Rattle.store_calls.specs.declared.series_call.SeriesEnd.{SeriesEnd}
use Rattle.store_calls.specs.declared.series_call.SeriesEnd.TheVariants as called
use Rattle.script_workers.specs.Hands.{gateway_count, gateway_of, hands_of_task}
use Rattle.script_core.specs.Workers.{workers_of}
use Rattle.script_workers.specs.declared.hand.Hand.{Hand}
use Rattle.script_workers.specs.declared.phase.Phase.{Phase}
use Rattle.script_core.specs.declared.script.Script.{Script}
use Rattle.script_workers.specs.declared.task.Task.{Task}
use Rattle.script_workers.specs.Works.{asks_all}
use Rattle.script_workers.specs.declared.work.Work.{Work}
use Rattle.script_workers.specs.declared.work.Work.TheVariants as work
use Rattle.script_workers.specs.declared.worker.Worker.{Worker}
use Rattle.call_verdicts.specs.lifecycle_core.specs.Causes.{AreWell as AllWell, IsWell}
use Rattle.call_verdicts.specs.lifecycle_core.specs.Conducts.{CameTo}
use Rattle.call_verdicts.specs.lifecycle_core.specs.Holdings.{Use}
use Rattle.call_verdicts.specs.lifecycle_core.specs.Setting.{Setting}
use Rattle.call_verdicts.specs.lifecycle_core.specs.Tasks.{End, answered, cleaned, compacted, not_asked, refused, stopped, synced, uploaded, without_view}
use Rattle.call_verdicts.specs.lifecycle_core.proofs.phases.Turns.{finished_in_turn}
use Rattle.base.proofs.Membership.{contains_first, contains_later, member_cases, no_member}
use Rattle.base.proofs.Pairs.{second_in_zip}
use Rattle.call_verdicts.specs.script_running.specs.Outcomes.{IsOutcome, IsOutcomeOf, IsPart, IsQueryOutcome, IsWhole, Outcome, OutcomeBy, Part, PhasesCame, TasksCame, call_part, first_none, is_as_asked, sync_outcome, why_none}
use Rattle.call_verdicts.specs.Shippable.{IsTooGreat, RefusesNone, StaysWithin}
use Rattle.call_verdicts.specs.Verdicts.{IsTrusted, IsWholeRun}
use Rattle.replay_cli.proofs.Refusals.{none_refused}
use Rattle.call_verdicts.specs.script_running.specs.declared.came.Came.TheVariants as came_to
use Rattle.call_verdicts.specs.script_running.specs.declared.came.Stop.TheVariants as halt
use Rattle.call_verdicts.specs.script_running.specs.declared.outcome.QueryOutcome.{QueryOutcome}
use Rattle.call_verdicts.specs.script_running.specs.declared.outcome.QueryOutcome.TheVariants as query
use Rattle.call_verdicts.specs.script_running.specs.declared.outcome.QueryPart.{QueryPart}
use Rattle.call_verdicts.specs.script_running.specs.declared.outcome.QueryPart.TheVariants as given

-- ---- one task

-- it came to what it is for, its block is not refused, and it met no limit
abbrev Calm : End → Type 0
Calm end = IsWell end × ((cause : ℕ) → ¬ (end ≡ refused cause)) × (¬ IsTooGreat end)

upload_asked : (end : UploadEnd) → IsWell (uploaded end) → is_as_asked (came_to.Upload (halt.Ended end)) ≡ true
upload_asked (shipped.Done count) well = refl
upload_asked shipped.Already well = refl
upload_asked (shipped.Fault entry) well = absurd well

sync_asked : (end : SyncEnd) → IsWell (synced end) → is_as_asked (came_to.Sync (sync_outcome end)) ≡ true
sync_asked (fetched.View view) well = refl
sync_asked (fetched.Fault entry) well = absurd well
sync_asked (fetched.Damaged entry) well = absurd well
sync_asked fetched.TooMany well = absurd well

compact_asked : (end : CompactEnd) → IsWell (compacted end) → ¬ IsTooGreat (compacted end) → is_as_asked (came_to.Compact (halt.Ended end)) ≡ true
compact_asked (merged.Done collected groups expired) well fits = refl
compact_asked (merged.Fault entry) well fits = absurd well
compact_asked (merged.Missing entry) well fits = absurd well
compact_asked (merged.Damaged entry) well fits = absurd well
compact_asked merged.TooMany well fits = absurd well
compact_asked merged.TooLarge well fits = absurd (fits tt)

clean_asked : (end : CleanEnd) → IsWell (cleaned end) → ¬ IsTooGreat (cleaned end) → is_as_asked (came_to.Clean (halt.Ended end)) ≡ true
clean_asked (swept.Done blocks partials) well fits = refl
clean_asked (swept.Fault entry) well fits = absurd well
clean_asked (swept.Damaged entry) well fits = absurd well
clean_asked swept.TooMany well fits = absurd (fits tt)

-- a part that is as asked
abbrev IsFine : Part → Type 0
IsFine (came_to.Upload end) = is_as_asked (came_to.Upload end) ≡ true
IsFine (came_to.Unshipped cause) = ⊥
IsFine (came_to.Sync end) = is_as_asked (came_to.Sync end) ≡ true
IsFine (came_to.Compact end) = is_as_asked (came_to.Compact end) ≡ true
IsFine (came_to.Clean end) = is_as_asked (came_to.Clean end) ≡ true
IsFine (came_to.Query own) = why_none own ≡ None

call_fine : (used : Use) (end : SeriesEnd) → IsWell (answered used end) → why_none (call_part used.view.first end) ≡ None
call_fine used (called.Answer series sources) well = refl
call_fine used (called.Missing entry) well = absurd well
call_fine used (called.Damaged entry) well = absurd well
call_fine used (called.Fault entry) well = absurd well

fine_as : (one other : Part) → one ≡ other → IsFine other → IsFine one
fine_as one other is fine = subst IsFine (sym is) fine

part_fine : (w : Work) (end : End) (one : Part) → Calm end → IsPart w end one → IsFine one
part_fine (work.Upload ulid stop) (uploaded e) one well is = fine_as one (came_to.Upload (halt.Ended e)) is (upload_asked e well.0)
part_fine (work.Upload ulid stop) (refused cause) one well is = absurd (well.1 cause refl)
part_fine (work.Upload ulid stop) (stopped count) one well is = fine_as one (came_to.Upload (halt.At count)) is refl
part_fine (work.Sync gateway) (synced e) one well is = fine_as one (came_to.Sync (sync_outcome e)) is (sync_asked e well.0)
part_fine (work.Compact stop) (compacted e) one well is = fine_as one (came_to.Compact (halt.Ended e)) is (compact_asked e well.0 well.2)
part_fine (work.Compact stop) (stopped count) one well is = fine_as one (came_to.Compact (halt.At count)) is refl
part_fine (work.Clean stop) (cleaned e) one well is = fine_as one (came_to.Clean (halt.Ended e)) is (clean_asked e well.0 well.2)
part_fine (work.Clean stop) (stopped count) one well is = fine_as one (came_to.Clean (halt.At count)) is refl
part_fine (work.Query low high n) (answered used e) one well is = fine_as one (came_to.Query (call_part used.view.first e)) is (call_fine used e well.0)
part_fine (work.Query low high n) without_view one well is = absurd well.0
part_fine (work.Query low high n) not_asked one well is = fine_as one (came_to.Query given.NotAsked) is refl
part_fine w end one well is = absurd is

abbrev AreWell : List End → Type 0
AreWell ends = (end : End) → Contains ends end → Calm end

parts_fine : (w : Work) (own : List End) (parts : List Part) → AreWell own → AllZip (IsPart w) own parts → AllByRecursion IsFine parts
parts_fine w [] [] well all = tt
parts_fine w [] (one ∷ parts) well all = absurd all
parts_fine w (end ∷ own) [] well all = absurd all
parts_fine w (end ∷ own) (one ∷ parts) well all =
    (part_fine w end one (well end (contains_first end own)) all.0, parts_fine w own parts (λ e among. well e (contains_later end e own among)) all.1)

none_told : (gateway : ℕ) (own : List QueryPart) → AllByRecursion IsFine (map came_to.Query own) → first_none gateway own ≡ None
none_told gateway [] fine = refl
none_told gateway (given.NotAsked ∷ own) fine = none_told (gateway + 1) own fine.1
none_told gateway (given.NoView ∷ own) fine = absurd (let none = fine.0 in cc (none))
none_told gateway (given.Answer a first ∷ own) fine = none_told (gateway + 1) own fine.1
none_told gateway (given.NoAnswer why first ∷ own) fine = absurd (let none = fine.0 in cc (none))

query_asked : (own : List QueryPart) (end : QueryOutcome) → AllByRecursion IsFine (map came_to.Query own) → IsQueryOutcome own end → is_as_asked (came_to.Query end) ≡ true
query_asked own (query.Answer answer names) fine is = refl
query_asked own (query.NoAnswer gateway why) fine is = absurd (let none = none_told 0 own fine in cc (none, is))

asked_as : (o p : Outcome) → o ≡ p → is_as_asked p ≡ true → is_as_asked o ≡ true
asked_as o p is asked = ap is_as_asked is ∙ asked

whole_asked : (one : Part) (o : Outcome) → IsFine one → IsWhole one o → is_as_asked o ≡ true
whole_asked (came_to.Upload end) o fine is = asked_as o (came_to.Upload end) is fine
whole_asked (came_to.Unshipped cause) o fine is = absurd fine
whole_asked (came_to.Sync end) o fine is = asked_as o (came_to.Sync end) is fine
whole_asked (came_to.Compact end) o fine is = asked_as o (came_to.Compact end) is fine
whole_asked (came_to.Clean end) o fine is = asked_as o (came_to.Clean end) is fine
whole_asked (came_to.Query own) o fine is = absurd is

asked_by : (all : Bool) (parts : List Part) (o : Outcome) → AllByRecursion IsFine parts → OutcomeBy all parts o → is_as_asked o ≡ true
asked_by false parts o fine (one, are, is) = whole_asked one o (subst (AllByRecursion IsFine) are fine).0 is
asked_by true parts o fine (own, end, are, is, same) = asked_as o (came_to.Query end) same (query_asked own end (subst (AllByRecursion IsFine) are fine) is)

of_asked : (w : Work) (parts : List Part) (o : Outcome) → AllByRecursion IsFine parts → IsOutcomeOf w parts o → is_as_asked o ≡ true
of_asked w parts o fine of = asked_by (asks_all w) parts o fine of

outcome_asked : (w : Work) (own : List End) (o : Outcome) → AreWell own → IsOutcome w own o → is_as_asked o ≡ true
outcome_asked w own o well (parts, zipped, of) = of_asked w parts o (parts_fine w own parts well zipped) of

-- ---- the ends of workers

pub end_came : (workers : List Worker) (ends : List (List End)) (gateway : Option ℕ) (place : ℕ) (end : End) → CameTo workers ends gateway place end → (own : List End) × Contains ends own × Contains own end
end_came workers ends gateway place end c = (c.own, second_in_zip workers ends c.worker c.own c.among, second_in_zip (c.worker).tasks c.own place end c.came)

module _ (workers : List Worker) (ends : List (List End)) (well : (own : List End) (end : End) → Contains ends own → Contains own end → Calm end) where
  hands_well : (place : ℕ) (hs : List Hand) (own : List End) → AllZip (λ hand end. CameTo workers ends (gateway_of hand) place end) hs own → AreWell own
  hands_well place [] [] all end among = absurd (no_member end among)
  hands_well place [] (e ∷ own) all end among = absurd all
  hands_well place (h ∷ hs) [] all end among = absurd all
  hands_well place (h ∷ hs) (e ∷ own) all end among = elim (member_cases e end own among) [
    | inl same ↦ let came = end_came workers ends (gateway_of h) place e all.0 in subst Calm same (well came.0 e came.1 came.2)
    | inr later ↦ hands_well place hs own all.1 end later
  ]

  tasks_asked : (script : Script) (place : ℕ) (tasks : List Task) (outcomes : List Outcome) → TasksCame script workers ends place tasks outcomes → list_all is_as_asked outcomes ≡ true
  tasks_asked script place [] outcomes came = ap (list_all is_as_asked) came
  tasks_asked script place (task ∷ tasks) [] came = absurd came
  tasks_asked script place (task ∷ tasks) (o ∷ outcomes) came =
      and_from _ _ (outcome_asked task.work (came.0).own o (hands_well place (hands_of_task (gateway_count script.gateways) place task.work) (came.0).own (came.0).came) (came.0).is) (tasks_asked script (place + 1) tasks outcomes came.1)

phases_asked : (script : Script) (number : ℕ) (phases : List Phase) (ends : List (List (List End))) (outcomes : List Outcome) → ((phase : List (List End)) (own : List End) (end : End) → Contains ends phase → Contains phase own → Contains own end → Calm end)
    → PhasesCame script number phases ends outcomes → list_all is_as_asked outcomes ≡ true
phases_asked script number [] ends outcomes well came = ap (list_all is_as_asked) came.1
phases_asked script number (phase ∷ phases) [] outcomes well came = absurd came
phases_asked script number (phase ∷ phases) (first ∷ later) outcomes well (own, others, parts, here, rest) =
    ap (list_all is_as_asked) parts ∙ list_all-append is_as_asked own others
    ∙ and_from _ _ (tasks_asked (workers_of script number) first (λ es end among came. well first es end (contains_first first later) among came) script 0 phase.tasks own here)
    (phases_asked script (number + 1) phases later others (λ p es end here' among came. well p es end (contains_later first p later here') among came) rest)

pub well_run : (setting : Setting) (as_asked : Bool) (text : List ℕ) (journal : List Entry) (run : IsWholeRun setting as_asked text journal) → IsTrusted setting journal → failed_count journal ≡ 0 → AllWell run.ends
well_run setting as_asked text journal run trusted none = run.guaranteed.complete (finished_in_turn setting run.ends run.finished) trusted none

pub calm_run : (setting : Setting) (as_asked : Bool) (text : List ℕ) (journal : List Entry) (run : IsWholeRun setting as_asked text journal) → IsTrusted setting journal → failed_count journal ≡ 0 → RefusesNone setting → StaysWithin run.ends
    → as_asked ≡ true
calm_run setting as_asked text journal run trusted none ships within =
    run.report.flag ∙ phases_asked setting.script 0 setting.script.phases run.ends run.report.outcomes
    (λ phase own end in_ends in_phase in_own. (
      well_run setting as_asked text journal run trusted none end (phase, own, in_ends, in_phase, in_own),
      none_refused setting journal run.ends ships run.run end (phase, own, in_ends, in_phase, in_own),
      within end (phase, own, in_ends, in_phase, in_own),
    )) run.report.came
