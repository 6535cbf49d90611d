-- What the second phase of every lawful journal of the script of one block is.
use Rattle.std.proofs.Common.{◌≡◌, ◌⊎◌, inl, inr, ℕ, suc, pos, List, [], ◌∷◌, ◌++◌, Option, Some, None, option_map, map, refl, sym, ap, subst, ◌∙◌, append-nil}
use Rattle.std.specs.List.{AllZip}
use Rattle.ulid_core.specs.UlidText.{alphabet, digit_of, number_of, bad_place, ulid_of}
use Rattle.block_keys.specs.declared.key.Key.TheVariants as key
use Rattle.world_core.specs.declared.entry.Entry.{Entry}
use Rattle.sync_filters.specs.declared.found.Found.{Found}
use Rattle.meta_fetcher.specs.Sightings.{kept_by, sighting_of}
use Rattle.meta_fetcher.specs.Syncs.{Course, IsEnd, Synced, SyncRun, listing, sighted, with_entry}
use Rattle.world_core.specs.Plans.{Runs, noting}
use Rattle.meta_fetcher.specs.declared.view.View.{View}
use Rattle.meta_fetcher.specs.declared.sync.SyncEnd.{SyncEnd}
use Rattle.meta_fetcher.specs.declared.sync.SyncEnd.TheVariants as fetched
use Rattle.store_ranges.specs.Reads.{Cache, Query}
use Rattle.store_calls.specs.SeriesCalls.{CallEnd, SeriesRun, reading, to_read}
use Rattle.script_workers.specs.declared.task.Task.{Task}
use Rattle.script_workers.specs.declared.work.Work.TheVariants as works
use Rattle.script_workers.specs.declared.worker.Worker.{Worker}
use Rattle.world_core.specs.Journals.{of_seat}
use Rattle.lifecycle_core.specs.Conducts.{Assigned, PhaseRun, TasksAt, TasksRun, WorkerRun, who_of}
use Rattle.lifecycle_core.specs.Holdings.{Holding, Holdings, Use, empty_cache, nothing_held}
use Rattle.lifecycle_core.specs.Phases.{by_script, by_workers}
use Rattle.lifecycle_core.specs.Tasks.{End, last_number, synced, synced_with}
use Rattle.lifecycle_core.specs.Ways.{PhasesRun}
use Rattle.tests_worked.specs.SmallBlock as small
use Rattle.tests_worked.specs.SmallRuns as runs
use Rattle.tests_worked.specs.Entries.{absent, listed}
use Rattle.tests_worked.specs.OneBlock as one
use Rattle.tests_worked.proofs.small.SmallCalls.{question, synced_by}
use Rattle.tests_worked.proofs.small.SmallTasks.{rules}
use Rattle.tests_worked.proofs.one.OneBlock.{gateway, second_tasks, second_workers, second_own}
use Rattle.tests_worked.proofs.one.OneUpload.{second}

-- ---- a sync that finds no meta

abbrev page : Entry
page = listed 7 2 1_800_001 (small.a_text ∷ [])

abbrev mark : Entry
mark = absent 8 2 1_800_002 (key.Mark small.a)

abbrev no_meta : Entry
no_meta = absent 9 2 1_800_003 (key.Meta small.a)

-- a run that has no end
abbrev Ends : Option SyncEnd → Type 0
Ends end = (view : View) × (end ≡ Some (fetched.View view)) × (view.kept ≡ [])

none_kept : (found : List Found) → map sighting_of found ≡ [] → kept_by rules found ≡ []
none_kept [] is = refl
none_kept (block ∷ blocks) is = absurd (cc)

no_page : (end : Option SyncEnd) → SyncRun rules [] end → end ≡ None
no_page None run = refl
no_page (Some end) run = let none = run.1 in absurd (cc (none))

-- after its page, a sync that may have so many pages more has not ended
page_open : (more : ℕ) (told : Option (Synced × Option Course)) → Runs (noting with_entry None (listing rules (suc more) [])) (page ∷ []) told → told ≡ None
unfolding ulid_of bad_place digit_of alphabet number_of
page_open more told run = run.1

only_page : (end : Option SyncEnd) → SyncRun rules (page ∷ []) end → end ≡ None
only_page None run = refl
only_page (Some end) run = let none = page_open 999_999 (Some run.0) run.1 in absurd (cc (none))

only_mark : (end : Option SyncEnd) → SyncRun rules (page ∷ mark ∷ []) end → end ≡ None
unfolding ulid_of bad_place digit_of alphabet number_of
only_mark None run = refl
only_mark (Some end) run = let none = run.1.1.1 in absurd (cc (none))

ended_so : (told : Synced × Option Course) (course : Course) (end : SyncEnd) → IsEnd rules told end → told ≡ (sighted [], Some course) → Ends (Some end)
ended_so told course end is same =
    let view : IsEnd rules (sighted [], Some course) end = subst (λ t. IsEnd rules t end) same is in
    (view.0, ap Some view.1, view.2.kept ∙ none_kept view.2.found view.2.sighted)

whole_sync : (more : List Entry) (end : Option SyncEnd) → SyncRun rules (page ∷ mark ∷ no_meta ∷ more) end → (more ≡ []) × ((end ≡ None) ⊎ Ends end)
unfolding ulid_of bad_place digit_of alphabet number_of
whole_sync more None run = (run.1.1.1.0, inl refl)
whole_sync more (Some end) run =
    let last = run.1.1.1.1 in (
      last.0,
      elim last.1 [
        | inl none ↦ absurd (cc (none))
        | inr some ↦ inr (ended_so run.0 (record { first = 7; begin = record { ms = 1_800_001 }; end = record { ms = 1_800_003 } }) end run.2 (cc (some)))
      ],
    )

-- ---- no query reads after it

abbrev query : Assigned
query = record { place = 1; task = record { line = 9; work = works.Query (pos 0) (pos 5000) 0 } }

nothing_read : (view : View) → view.kept ≡ [] → (question : Query) (cache : Cache) (entries : List Entry) (end : Option CallEnd) → SeriesRun view question cache entries end → entries ≡ []
nothing_read view none question cache entries None run =
    (subst (λ (kept : List Found). Runs (reading question (to_read question kept) [] cache) entries None) none run).0
nothing_read view none question cache entries (Some end) (told, run, is) =
    (subst (λ (kept : List Found). Runs (reading question (to_read question kept) [] cache) entries (Some told)) none run).0

no_query : (all : List Entry) (used : Use) → used.view.kept ≡ [] → (read : Entry) (rest : List Entry) (ends : List End) (last : Holding) → TasksRun (by_script one.setting) (who_of gateway) all (synced_by used) (query ∷ []) (read ∷ rest) ends last → ⊥
no_query all used none read rest ends last (inl r) =
    let made : r.0 ≡ read ∷ rest = sym (r.5 ∙ ap (λ es. r.0 ++ es) r.8.0 ∙ append-nil r.0) in
    let nothing : r.0 ≡ [] = nothing_read used.view none (question one.selector) empty_cache r.0 r.6.0 r.6.1 in
    cc (made, nothing)
no_query all used none read rest ends last (inr r) =
    let nothing : read ∷ rest ≡ [] = nothing_read used.view none (question one.selector) empty_cache (read ∷ rest) r.0.0 r.0.1 in
    cc (nothing)

module _ (all : List Entry) (read : Entry) (rest : List Entry) (later : List End) (last next : Holding) (end : End) where
  by_sync : (made others : List Entry) (own : Option SyncEnd) → page ∷ mark ∷ no_meta ∷ read ∷ rest ≡ made ++ others → SyncRun rules made own → Some end ≡ option_map synced own → next ≡ synced_with nothing_held made own
      → TasksRun (by_script one.setting) (who_of gateway) all next (query ∷ []) others later last → ⊥
  by_sync [] others own is run ended left_is more = let none = no_page own run in cc (ended, ap (option_map synced) none)
  by_sync (a ∷ []) others own is run ended left_is more =
      let same : a ∷ [] ≡ page ∷ [] = cc (is) in
      let none = only_page own (subst (λ (es : List Entry). SyncRun rules es own) same run) in cc (ended, ap (option_map synced) none)
  by_sync (a ∷ b ∷ []) others own is run ended left_is more =
      let same : a ∷ b ∷ [] ≡ page ∷ mark ∷ [] = cc (is) in
      let none = only_mark own (subst (λ (es : List Entry). SyncRun rules es own) same run) in cc (ended, ap (option_map synced) none)
  by_sync (a ∷ b ∷ c ∷ left) others own is run ended left_is more =
      let same : a ∷ b ∷ c ∷ left ≡ page ∷ mark ∷ no_meta ∷ left = cc (is) in
      let whole = whole_sync left own (subst (λ (es : List Entry). SyncRun rules es own) same run) in
      elim whole.1 [
        | inl none ↦ cc (ended, ap (option_map synced) none)
        | inr some ↦
            let others_are : others ≡ read ∷ rest = cc (is, whole.0) in
            let held : next ≡ synced_by (record { view = some.0; last = last_number (a ∷ b ∷ c ∷ left) }) = left_is ∙ ap (synced_with nothing_held (a ∷ b ∷ c ∷ left)) some.1 in
            no_query all (record { view = some.0; last = last_number (a ∷ b ∷ c ∷ left) }) some.2 read rest later last
            (subst (λ (es : List Entry). TasksRun (by_script one.setting) (who_of gateway) all (synced_by (record { view = some.0; last = last_number (a ∷ b ∷ c ∷ left) })) (query ∷ []) es later last) others_are
            (subst (λ (h : Holding). TasksRun (by_script one.setting) (who_of gateway) all h (query ∷ []) others later last) held more))
      ]

no_read : (all : List Entry) (read : Entry) (rest : List Entry) (ends : List End) (last : Holding) → TasksRun (by_script one.setting) (who_of gateway) all nothing_held second_own (page ∷ mark ∷ no_meta ∷ read ∷ rest) ends last → ⊥
no_read all read rest ends last (inl r) = by_sync all read rest r.3 last r.4 r.2 r.0 r.1 r.6.0 r.5 r.6.1 r.6.2 r.6.3 r.8
no_read all read rest ends last (inr r) = let whole = whole_sync (read ∷ rest) r.0.0 r.0.1 in cc (whole.0)

-- ---- the gateway's worker

same_own : (own : Assigned) (place : ℕ) (task : Task) → own.place ≡ place → Some task ≡ Some own.task → own ≡ record { place = place; task = task }
same_own own place task at is = let same : task ≡ own.task = cc (is) in λ i. record { place = at i; task = sym same i }

own_tasks : (own : List Assigned) → TasksAt second_tasks (0 ∷ 1 ∷ []) own → own ≡ second_own
own_tasks [] at = absurd at
own_tasks (task ∷ []) at = absurd at.1
own_tasks (task ∷ other ∷ tasks) at =
    let one = same_own task 0 (record { line = 8; work = works.Sync 0 }) at.0.0 at.0.1 in
    let two = same_own other 1 (record { line = 9; work = works.Query (pos 0) (pos 5000) 0 }) at.1.0.0 at.1.0.1 in
    cc (one, two, at.1.1)

-- the gateway's worker in a phase with these entries
abbrev Gateways : Holding → List Entry → List Entry → List End → Holding → Type 0
Gateways held all entries own last = TasksRun (by_script one.setting) (who_of gateway) all held second_own entries own last

gateway_run : (views after : Holdings) (made : List Entry) (ends : List (List End)) → PhaseRun (by_script one.setting) second_tasks (gateway ∷ []) views made ends after
    → (own : List End) × (last : Holding) × Gateways (views 0) made (of_seat 2 made) own last
gateway_run views after made ends run = go ends run.runs
  where
    go : (ends : List (List End)) → AllZip (WorkerRun (by_script one.setting) second_tasks views made after) (gateway ∷ []) ends → (own : List End) × (last : Holding) × Gateways (views 0) made (of_seat 2 made) own last
    go [] runs = absurd runs
    go (own ∷ ends) runs =
        let worker = runs.0 in
        (own, worker.last, subst (λ (ts : List Assigned). TasksRun (by_script one.setting) (who_of gateway) made (views 0) ts (of_seat 2 made) own worker.last) (own_tasks worker.own worker.are) worker.runs)

-- the second phase is all that follows
second_made : (views : Holdings) (first : Entry) (entries : List Entry) (ends : List (List (List End))) → PhasesRun (by_workers one.setting) 1 views (second ∷ []) (first ∷ entries) ends
    → (own : List End) × (last : Holding) × Gateways (views 0) entries (of_seat 2 entries) own last
second_made views first entries ends (inl none) = absurd (cc (none.0))
second_made views first entries ends (inr r) =
    let none : r.2 ≡ [] = r.10.0 in
    let same : r.1 ≡ entries = sym (append-nil r.1) ∙ ap (λ es. r.1 ++ es) (sym none) ∙ cc (r.6) in
    let run = gateway_run views r.5 r.1 r.3 (subst (λ (ws : List Worker). PhaseRun (by_script one.setting) second_tasks ws views r.1 r.3 r.5) second_workers r.8) in
    (run.0, run.1, subst (λ (es : List Entry). Gateways (views 0) es (of_seat 2 es) run.0 run.1) same run.2)

abbrev index_read : Entry
index_read = runs.contents_read 10 2 1_800_004

pub no_read_after_absent : (views : Holdings) → views 0 ≡ nothing_held → (first : Entry) (rest : List Entry) (ends : List (List (List End)))
    → PhasesRun (by_workers one.setting) 1 views (second ∷ []) (first ∷ page ∷ mark ∷ no_meta ∷ index_read ∷ rest) ends → ⊥
no_read_after_absent views none first rest ends run =
    let all = page ∷ mark ∷ no_meta ∷ index_read ∷ rest in
    let made = second_made views first all ends run in
    no_read all index_read (of_seat 2 rest) made.0 made.1
    (subst (λ (h : Holding). Gateways h all (page ∷ mark ∷ no_meta ∷ index_read ∷ of_seat 2 rest) made.0 made.1) none made.2)
