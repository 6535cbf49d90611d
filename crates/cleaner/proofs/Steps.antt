-- A cleaning's steps are those of its plan.
use Rattle.std.proofs.Common.{◌≡◌, ℕ, List, [], ◌∷◌, sym, ◌∙◌, ap, subst, Option, Some, None, unwrap_or, Result}
use Rattle.base.specs.declared.memory.NoMemory.{NoMemory}
use Rattle.block_keys.specs.declared.key.Key.{Key}
use Rattle.world_core.specs.Leads.{after_entry}
use Rattle.world_core.specs.Machines.{GoesOn}
use Rattle.world_core.specs.Operations.{entry_of}
use Rattle.world_core.specs.Plans.{Plan, asked}
use Rattle.world_core.specs.declared.op.Op.{Op}
use Rattle.world_core.specs.declared.op.Op.TheVariants as op
use Rattle.world_core.specs.declared.seen.Seen.{Seen}
use Rattle.world_core.specs.declared.entry.Entry.{Entry}
use Rattle.world_core.specs.declared.act.Act.{Act}
use Rattle.world_core.proofs.LeadSteps.{leads_kept, on_entry, opens as begins, steps}
use Rattle.world_core.proofs.PlanLaws.{breaks_off}
use Rattle.cleaner.specs.Cleanings.{deleting}
use Rattle.cleaner.specs.CleanStates.{first_delete, blocks_left, asked_at, asked_clean, left_at, HasListed, Onward, may_at, may_clean, goes_after, Leads}
use Rattle.cleaner.specs.declared.clean.Stage.{Stage}
use Rattle.cleaner.specs.declared.clean.Stage.TheVariants.{Fresh, Listing, Marking, Reading, Walking, Deleting}
use Rattle.cleaner.specs.declared.clean.Clean.{Clean}
use Rattle.cleaner.specs.declared.clean.CleanEnd.{CleanEnd}

-- ---- runs of what is left

asked_first : (keys : List Key) (next : Plan CleanEnd) (o : Op) → first_delete keys ≡ Some o → asked (deleting keys next) ≡ Some o
asked_first [] next o is = absurd (cc (is))
asked_first (key ∷ keys) next o is = is

-- what is left begins with the operation that is waited for
asked_left : (stage : Stage) (c : Clean) (names : List (List ℕ)) (more : ℕ) (o : Op) → HasListed stage c names more → asked_at stage c ≡ Some o → asked (left_at stage c names more) ≡ Some o
asked_left Fresh c names more o listed is = absurd (cc (is))
asked_left Listing c names more o listed is = ap (λ l. Some (op.RootPage (unwrap_or l []) c.rules.page_limit)) listed.1.ends ∙ is
asked_left (Marking ulid) c names more o listed is = is
asked_left (Reading ulid) c names more o listed is = is
asked_left (Walking ulid) c names more o listed is = ap (λ l. Some (op.BlockPage ulid (unwrap_or l []) c.rules.page_limit)) listed.1.ends ∙ is
asked_left Deleting c names more o listed is = asked_first c.doomed.items (blocks_left c) o is

-- ---- calls

entry_at : (c : Clean) (seat : ℕ) (o : Op) (seen : Seen) (entries : List Entry) (end : Option CleanEnd) → asked_clean c ≡ Some o
    → goes_after c.stage c (entry_of seat o seen) entries end → may_clean c (entry_of seat o seen ∷ entries) end c
entry_at c seat o seen entries end waits after = λ names more listed.
    on_entry (left_at c.stage c names more) (entry_of seat o seen) entries end (asked_left c.stage c names more o listed waits) (after names more listed)

-- what may come from a state
abbrev now : Clean → Onward
now c = may_at c.stage c

stops : (c : Clean) → now c [] None
stops c = λ names more listed. breaks_off (left_at c.stage c names more)

answers : (c : Clean) (seat : ℕ) (o : Op) (seen : Seen) → asked_clean c ≡ Some o → now c (entry_of seat o seen ∷ []) None
answers c seat o seen waits =
    entry_at c seat o seen [] None waits (λ names more listed. breaks_off (after_entry (left_at c.stage c names more) (entry_of seat o seen)))

-- a call that goes on as may follow goes on as may follow where that is less
pub leads_as : (from to : Onward) (r : Result (Act CleanEnd) NoMemory) (new : Clean) → ((entries : List Entry) (end : Option CleanEnd) → from entries end → to entries end)
    → Leads from r new → Leads to r new
leads_as from to r new onward leads = leads_kept may_clean asked_clean from to r new onward leads

-- a step in a stage goes on
pub steps_on : (stage : Stage) (c new : Clean) (seat : ℕ) (o : Op) (seen : Seen) (r : Result (Act CleanEnd) NoMemory) → c.stage ≡ stage → asked_clean c ≡ Some o
    → Leads (goes_after stage c (entry_of seat o seen)) r new → GoesOn may_clean asked_clean c (entry_of seat o seen ∷ []) r new
steps_on stage c new seat o seen r is waits leads =
    steps now asked_clean stops answers c new seat o seen r waits
    (leads_as (goes_after c.stage c (entry_of seat o seen)) (λ entries end. now c (entry_of seat o seen ∷ entries) end) r new
    (λ entries end after. entry_at c seat o seen entries end waits after)
    (subst (λ at. Leads (goes_after at c (entry_of seat o seen)) r new) (sym is) leads))

-- the first page is asked for
pub opens : (c new : Clean) (r : Result (Act CleanEnd) NoMemory) → c.stage ≡ Fresh → Leads (may_at Listing c) r new → GoesOn may_clean asked_clean c [] r new
opens c new r fresh leads =
    begins now asked_clean stops answers c new r
    (leads_as (may_at Listing c) (now c) r new (λ entries end run. subst (λ stage. may_at stage c entries end) (sym fresh) run) leads)
