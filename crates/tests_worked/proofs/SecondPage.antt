-- Which entries are the sync of a gateway that asks for the first page twice.
use Rattle.std.proofs.Common.{◌≡◌, ℕ, suc, List, [], ◌∷◌, ◌++◌, length, Contains, Option, Some, None, inr, refl, sym, ◌∙◌, ap, subst, append_assoc, arith}
use Rattle.base.proofs.Membership.{contains_first}
use Rattle.std.proofs.lemmas.List.{length-append}
use Rattle.std.proofs.lemmas.List.Elements.{All-contains}
use Rattle.ulid_core.specs.UlidText.{ulid_of}
use Rattle.world_core.specs.Plans.{Runs, noting}
use Rattle.world_core.specs.declared.entry.Entry.{Entry}
use Rattle.world_core.specs.Walks.{ulids_in}
use Rattle.meta_fetcher.specs.Syncs.{Course, SyncRun, listing, sighted, with_entry}
use Rattle.meta_fetcher.specs.declared.rules.SyncRules.{SyncRules}
use Rattle.meta_fetcher.specs.declared.sync.SyncEnd.{SyncEnd}
use Rattle.meta_fetcher.specs.declared.sync.SyncEnd.TheVariants as fetched
use Rattle.script_workers.specs.Hands.{hands_of_task, with_hands, hands_from, places_from, workers_from, seats_from}
use Rattle.script_core.specs.Workers.{workers_of}
use Rattle.script_workers.specs.declared.worker.Worker.{Worker}
use Rattle.lifecycle_core.specs.Breaches.{IsSyncIn}
use Rattle.world_core.specs.Journals.{of_seat}
use Rattle.lifecycle_core.specs.SyncsAndCalls.{IsSyncBy}
use Rattle.lifecycle_core.specs.Tasks.{sync_rules}
use Rattle.lifecycle_core.proofs.journals.Positions.{stands_in}
use Rattle.lifecycle_core.proofs.phases.TasksMade.{all_of_seat}
use Rattle.tests_worked.specs.SecondPage as pages

abbrev rules : SyncRules
rules = sync_rules pages.setting 0

-- ---- the runs

no_ulid : ulids_in ([] ∷ []) ≡ []
unfolding ulid_of
no_ulid = refl

abbrev course : ℕ → ℕ → Course
course first begin = record { first = first; begin = record { ms = begin }; end = record { ms = 2 } }

-- there may be so many pages and one more, or two more
one_page : (more : ℕ) → Runs (noting with_entry None (listing rules (suc more) [])) pages.second (Some (sighted [], Some (course 3 2)))
one_page more = (refl, (refl, inr refl))

two_pages : (more : ℕ) → Runs (noting with_entry None (listing rules (suc (suc more)) [])) pages.sync (Some (sighted [], Some (course 2 1)))
two_pages more = (refl, (refl, rw no_ulid (refl, inr refl)))

second_run : SyncRun rules pages.second (Some (fetched.View (pages.view 3 2)))
second_run = (
  (sighted [], Some (course 3 2)),
  one_page 999_999,
  (pages.view 3 2, refl, record { first = refl; begin = refl; end = refl; found = []; sighted = refl; kept = refl; covered = refl; kept_ascend = λ k more. omega (arith, more); covered_ascend = λ k more. omega (arith, more) }),
)

sync_run : SyncRun rules pages.sync (Some (fetched.View (pages.view 2 1)))
sync_run = (
  (sighted [], Some (course 2 1)),
  two_pages 999_998,
  (pages.view 2 1, refl, record { first = refl; begin = refl; end = refl; found = []; sighted = refl; kept = refl; covered = refl; kept_ascend = λ k more. omega (arith, more); covered_ascend = λ k more. omega (arith, more) }),
)

-- ---- in the journal

abbrev sync_by : IsSyncBy rules pages.journal 1 pages.sync (Some (fetched.View (pages.view 2 1)))
sync_by = record { before = []; after = []; parts = refl; run = sync_run; whole = λ none. absurd (cc (none)) }

pub second_by : IsSyncBy rules pages.journal 1 pages.second (Some (fetched.View (pages.view 3 2)))
second_by = record { before = pages.page 2 1 ([] ∷ []) ∷ []; after = []; parts = refl; run = second_run; whole = λ none. absurd (cc (none)) }

abbrev gateway : Worker
gateway = record { seat = 1; gateway = Some 0; tasks = 0 ∷ [] }

workers : workers_of pages.script 0 ≡ gateway ∷ []
unfolding hands_of_task with_hands hands_from places_from workers_from seats_from
workers = refl

pub sync_in : IsSyncIn pages.setting pages.journal 0 pages.sync (Some (fetched.View (pages.view 2 1)))
sync_in = record {
  seat = 1;
  sits = (0, gateway, subst (λ (ws : List Worker). Contains ws gateway) (sym workers) (contains_first gateway []), refl, refl);
  sync = sync_by;
  alone = λ others own other earlier. omega (arith, earlier);
}

-- ---- the second page begins none

-- it is not the first entry of its seat
behind : (before after : List Entry) → pages.sync ≡ (before ++ pages.second) ++ after → length before ≡ 1
behind [] after is = let first : pages.page 2 1 ([] ∷ []) ≡ pages.page 3 2 [] = cc (is) in absurd (omega (arith, ap (λ (e : Entry). e.seq) first))
behind (x ∷ []) after is = refl
behind (x ∷ y ∷ before) after is =
    let long = ap (length {A = Entry}) is in
    absurd (omega (arith, long, length-append ((x ∷ y ∷ before) ++ pages.second) after, length-append (x ∷ y ∷ before) pages.second))

pub not_second : (end : Option SyncEnd) → ¬ IsSyncIn pages.setting pages.journal 0 pages.second end
not_second end s =
    let within : Contains (of_seat s.seat pages.journal) (pages.page 3 2 []) =
    subst (λ (es : List Entry). Contains es (pages.page 3 2 [])) (sym s.sync.parts) (subst (λ (es : List Entry). Contains es (pages.page 3 2 [])) (sym (append_assoc s.sync.before pages.second s.sync.after)) (stands_in s.sync.before s.sync.after (pages.page 3 2 []))) in
    let seat : 1 ≡ s.seat = All-contains (λ (e : Entry). e.seat ≡ s.seat) (of_seat s.seat pages.journal) (pages.page 3 2 []) (all_of_seat s.seat pages.journal) within in
    let parts : pages.sync ≡ (s.sync.before ++ pages.second) ++ s.sync.after = ap (λ (n : ℕ). of_seat n pages.journal) seat ∙ s.sync.parts in
    let first : IsSyncBy rules pages.journal s.seat pages.sync (Some (fetched.View (pages.view 2 1))) =
    record { before = []; after = []; parts = ap (λ (n : ℕ). of_seat n pages.journal) (sym seat); run = sync_run; whole = λ none. absurd (cc (none)) } in
    let most = s.alone pages.sync (Some (fetched.View (pages.view 2 1))) first (omega (arith, behind s.sync.before s.sync.after parts)) in
    omega (arith, most, behind s.sync.before s.sync.after parts)
