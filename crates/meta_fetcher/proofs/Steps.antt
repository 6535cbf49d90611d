-- A sync's steps are those of its plan.
use Rattle.std.proofs.Common.{◌≡◌, ℕ, List, [], ◌∷◌, refl, sym, ◌∙◌, ap, subst, inr, Option, Some, None, unwrap_or, Result, Ok}
use Rattle.base.specs.declared.memory.NoMemory.{NoMemory}
use Rattle.world_core.specs.Leads.{after_entry}
use Rattle.world_core.specs.Machines.{Asks, GoesOn}
use Rattle.world_core.specs.Operations.{IsLawful, entry_of}
use Rattle.world_core.specs.Plans.{Plan, ends, never, asks, finds, noting, asked}
use Rattle.world_core.specs.declared.op.Op.{Op}
use Rattle.world_core.specs.declared.op.Op.TheVariants as op
use Rattle.world_core.specs.declared.seen.Seen.{Seen}
use Rattle.world_core.specs.declared.entry.Entry.{Entry}
use Rattle.world_core.specs.declared.act.Act.{Act}
use Rattle.world_core.specs.declared.act.Act.TheVariants.{Do}
use Rattle.world_core.proofs.LeadSteps.{leads_kept, opens as begins, steps}
use Rattle.world_core.proofs.PlanLaws.{breaks_off}
use Rattle.meta_fetcher.specs.Sightings.{Sighting, IsView}
use Rattle.meta_fetcher.specs.Syncs.{Synced, sighted, Course, with_entry, reading, IsEnd, SightingsAscend}
use Rattle.meta_fetcher.specs.SyncStates.{asked_at, asked_sync, course_at, left_at, HasListed, Onward, Goes, may_at, may_sync, goes_after, Leads}
use Rattle.meta_fetcher.specs.contracts.sync.SyncMachine.TheImpl.{ghosts}
use Rattle.meta_fetcher.specs.declared.rules.SyncRules.{SyncRules}
use Rattle.meta_fetcher.specs.declared.sync.Stage.{Stage}
use Rattle.meta_fetcher.specs.declared.sync.Stage.TheVariants.{Fresh, Opening, Listing, Marking, Reading}
use Rattle.meta_fetcher.specs.declared.sync.Sync.{Sync}
use Rattle.meta_fetcher.specs.declared.sync.SyncEnd.{SyncEnd}
use Rattle.meta_fetcher.specs.declared.sync.SyncEnd.TheVariants as ends_in
use Rattle.meta_fetcher.specs.declared.view.View.{View}

-- ---- runs of what is left

-- a sync may be stopped wherever it is
pub stops : (rules : SyncRules) (course : Option Course) (plan : Plan Synced) → Goes rules course plan [] None
stops rules course plan = breaks_off (noting with_entry course plan)

-- the end that the plan has come to
pub ended : (rules : SyncRules) (course : Option Course) (told : Synced) (end : SyncEnd) → IsEnd rules (told, course) end → Goes rules course (ends told) [] (Some end)
ended rules course told end is = ((told, course), (refl, inr refl), λ ascend. is)

-- the entry that a plan asks for, and what follows it
on_entry : (rules : SyncRules) (course : Option Course) (plan : Plan Synced) (e : Entry) (entries : List Entry) (end : Option SyncEnd) → asked plan ≡ Some e.op
    → Goes rules (with_entry course e) (after_entry plan e) entries end → Goes rules course plan (e ∷ entries) end
on_entry rules course (ends told) e entries end is run = absurd (cc (is))
on_entry rules course never e entries end is run = absurd (cc (is))
on_entry rules course (finds Such one next) e entries end is run = absurd (cc (is))
on_entry rules course (asks o next) e entries None is run = (cc (is), run)
on_entry rules course (asks o next) e entries (Some end) is (told, run, gives) = (told, (cc (is), run), gives)

-- what is left begins with the operation that is waited for
asked_left : (stage : Stage) (s : Sync) (names : List (List ℕ)) (more : ℕ) (o : Op) → HasListed stage s names more → asked_at stage s ≡ Some o → asked (left_at stage s names more) ≡ Some o
asked_left Fresh s names more o listed is = absurd (cc (is))
asked_left Opening s names more o listed is = ap (λ l. Some (op.RootPage (unwrap_or l []) s.rules.page_limit)) listed.ends ∙ is
asked_left Listing s names more o listed is = ap (λ l. Some (op.RootPage (unwrap_or l []) s.rules.page_limit)) listed.ends ∙ is
asked_left (Marking ulid) s names more o listed is = is
asked_left (Reading ulid) s names more o listed is = is

-- ---- calls

entry_at : (s : Sync) (seat : ℕ) (o : Op) (seen : Seen) (entries : List Entry) (end : Option SyncEnd) → asked_sync s ≡ Some o
    → goes_after s.stage s (entry_of seat o seen) entries end → may_sync s (entry_of seat o seen ∷ entries) end s
entry_at s seat o seen entries end waits after = λ names more listed.
    on_entry s.rules (course_at s.stage s) (left_at s.stage s names more) (entry_of seat o seen) entries end (asked_left s.stage s names more o listed waits) (after names more listed)

-- what may come from a state
abbrev now : Sync → Onward
now s = may_at s.stage s

-- It may be stopped there,
pub rests : (s : Sync) → ghosts.may s [] None s
rests s = λ names more listed. stops s.rules (course_at s.stage s) (left_at s.stage s names more)

-- and as soon as its operation is answered.
pub answers : (s : Sync) (seat : ℕ) (o : Op) (seen : Seen) → ghosts.asked s ≡ Some o → ghosts.may s (entry_of seat o seen ∷ []) None s
answers s seat o seen waits =
    entry_at s seat o seen [] None waits
    (λ names more listed. stops s.rules (with_entry (course_at s.stage s) (entry_of seat o seen)) (after_entry (left_at s.stage s names more) (entry_of seat o seen)))

-- a call that goes on as may follow goes on as may follow where that is less
pub leads_as : (from to : Onward) (r : Result (Act SyncEnd) NoMemory) (new : Sync) → ((entries : List Entry) (end : Option SyncEnd) → from entries end → to entries end)
    → Leads from r new → Leads to r new
leads_as from to r new onward leads = leads_kept may_sync asked_sync from to r new onward leads

-- a step of a sync in a stage goes on
pub steps_on : (stage : Stage) (s new : Sync) (seat : ℕ) (o : Op) (seen : Seen) (r : Result (Act SyncEnd) NoMemory) → s.stage ≡ stage → asked_sync s ≡ Some o
    → Leads (goes_after stage s (entry_of seat o seen)) r new → GoesOn may_sync asked_sync s (entry_of seat o seen ∷ []) r new
steps_on stage s new seat o seen r is waits leads =
    steps now asked_sync rests answers s new seat o seen r waits
    (leads_as (goes_after s.stage s (entry_of seat o seen)) (λ entries end. now s (entry_of seat o seen ∷ entries) end) r new
    (λ entries end after. entry_at s seat o seen entries end waits after)
    (subst (λ at. Leads (goes_after at s (entry_of seat o seen)) r new) (sym is) leads))

-- the first page is asked for
pub opens : (s new : Sync) (o : Op) → s.stage ≡ Fresh → IsLawful o → asked_sync new ≡ Some o
    → ((entries : List Entry) (end : Option SyncEnd) → may_sync new entries end new → may_at Fresh s entries end) → Asks may_sync asked_sync s [] o new
opens s new o fresh lawful waits onward = begins now asked_sync rests answers s new (Ok (Do o)) (record {
  lawful = lawful;
  asks = waits;
  onward = λ entries end run. subst (λ stage. may_at stage s entries end) (sym fresh) (onward entries end run);
})

-- no block waits, and the view is that of the sightings
pub over : (rules : SyncRules) (course : Course) (sightings : List Sighting) (ulids : List ℕ) (view : View) → ulids ≡ []
    → (SightingsAscend (sighted sightings, Some course) → IsView rules course.first course.begin course.end sightings view) → Goes rules (Some course) (reading sightings ulids) [] (Some (ends_in.View view))
over rules course sightings ulids view none is =
    subst (λ l. Goes rules (Some course) (reading sightings l) [] (Some (ends_in.View view))) (sym none)
    ((sighted sightings, Some course), (refl, inr refl), λ ascend. (view, refl, is ascend))
