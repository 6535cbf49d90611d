-- A call's steps are those of its plan.
use Rattle.std.proofs.Common.{◌≡◌, ℕ, ◌*◌, Bool, List, [], ◌∷◌, ◌++◌, refl, sym, ap, subst, ◌∙◌, append-nil, ◌<◌, Option, Some, None, Result, Ok, Err, arith}
use Rattle.std.specs.Prelude.{IsSomeAnd}
use Rattle.base.specs.declared.memory.NoMemory.{NoMemory}
use Rattle.world_core.proofs.PlanLaws.{breaks_off, answered, comes_kept}
use Rattle.world_core.specs.Leads.{after_entry}
use Rattle.world_core.specs.Machines.{Asks, GoesOn, Falls}
use Rattle.world_core.specs.Operations.{IsLawful, IsAnswer, entry_of}
use Rattle.world_core.specs.Plans.{Plan, ends, never, asks, finds, Keeps, after_get}
use Rattle.world_core.specs.Plans as plan
use Rattle.world_core.specs.declared.op.Op.{Op}
use Rattle.world_core.specs.declared.seen.Seen.{Seen}
use Rattle.world_core.specs.declared.reply.Reply.TheVariants as reply
use Rattle.world_core.specs.declared.entry.Entry.{Entry}
use Rattle.world_core.specs.declared.act.Act.{Act}
use Rattle.store_ranges.specs.Caches.{held}
use Rattle.store_ranges.specs.Reads.{Cache, missing, fault}
use Rattle.store_calls.specs.BlockReads.{BlockEnd, breaks_off as ends_off}
use Rattle.store_calls.specs.BlockRuns.{Onward, Leading, IsEnd, cache_of}
use Rattle.store_calls.specs.WorkStates.{Where, Holds, Leads, most, may_at, asked_at, count_at, left_at, goes_after, with_bytes}
use Rattle.store_calls.specs.BlockStates.{ActsAs, may_call, asked_call, count_call}
use Rattle.store_ranges.specs.declared.asked.Asked.{Asked}
use Rattle.store_calls.specs.declared.block_call.BlockCall.{BlockCall}
use Rattle.store_calls.specs.declared.block_call.BlockOutcome.{BlockOutcome}
use Rattle.store_calls.specs.declared.block_call.BlockOutcome.TheVariants as outcome
use Rattle.store_calls.specs.declared.work.Work.{Work}
use Rattle.store_calls.specs.declared.work.Work.TheVariants.{Fresh, Contents, Symbols, Table, Lists, Run, Whole, Group, Single, Over}
use Rattle.store_calls.specs.declared.work.Step.{Step}
use Rattle.store_calls.specs.declared.work.Step.TheVariants.{Wait, Done}
use Rattle.store_calls.proofs.Leading.{keeps_all, leads_where, breaks}

abbrev left_in : Asked → Work → Cache → Plan BlockEnd
left_in question = left_at question

-- the plan that is left asks for what is waited for
pub plan_asks : (question : Asked) (work : Work) (cache : Cache) (op : Op) → asked_at question.ulid work ≡ Some op → plan.asked (left_in question work cache) ≡ Some op
plan_asks question Fresh cache op is = absurd (cc (is))
plan_asks question (Contents size) cache op is = is
plan_asks question (Symbols places) cache op is = is
plan_asks question (Table read) cache op is = is
plan_asks question (Lists read) cache op is = is
plan_asks question (Run work) cache op is = is
plan_asks question Whole cache op is = is
plan_asks question (Group work) cache op is = is
plan_asks question (Single work reference len pending) cache op is = is
plan_asks question Over cache op is = absurd (cc (is))

-- what follows an answer
abbrev after_answer : Asked → Work → Cache → Entry → Plan BlockEnd
after_answer question work cache e = after_get e.reply (with_bytes question work cache e.seq) (ends (ends_off (missing e.seq) cache)) (ends (ends_off (fault e.seq) cache))

answer_keeps : (question : Asked) (work : Work) (cache : Cache) (op : Op) (e : Entry) → asked_at question.ulid work ≡ Some op → Keeps (after_answer question work cache e) (after_entry (left_in question work cache) e)
answer_keeps question Fresh cache op e is = absurd (cc (is))
answer_keeps question (Contents size) cache op e is = keeps_all _
answer_keeps question (Symbols places) cache op e is = keeps_all _
answer_keeps question (Table read) cache op e is = keeps_all _
answer_keeps question (Lists read) cache op e is = keeps_all _
answer_keeps question (Run work) cache op e is = keeps_all _
answer_keeps question Whole cache op e is = keeps_all _
answer_keeps question (Group work) cache op e is = keeps_all _
answer_keeps question (Single work reference len pending) cache op e is = keeps_all _
answer_keeps question Over cache op e is = absurd (cc (is))

-- the object was read
pub found_leads : (question : Asked) (work : Work) (old new : Cache) (limit : ℕ) (op : Op) (e : Entry) (bytes : List ℕ) (r : Result Step NoMemory) → asked_at question.ulid work ≡ Some op → e.reply ≡ reply.Found bytes
    → Leads question new limit (Where (Holds work) (Leading (with_bytes question work old e.seq bytes))) r → Leads question new limit (goes_after question work old e) r
found_leads question work old new limit op e bytes r is found leads =
    leads_where question new limit limit (Holds work) (Holds work) (with_bytes question work old e.seq bytes) (after_entry (left_in question work old) e) r (omega arith) (λ so. so)
    (λ so. subst (λ q. Keeps (after_get q (with_bytes question work old e.seq) (ends (ends_off (missing e.seq) old)) (ends (ends_off (fault e.seq) old))) (after_entry (left_in question work old) e)) found (answer_keeps question work old op e is))
    leads

-- it is not there
pub absent_ends : (question : Asked) (work : Work) (cache : Cache) (op : Op) (e : Entry) → asked_at question.ulid work ≡ Some op → e.reply ≡ reply.Absent → goes_after question work cache e [] (Some (outcome.Missing e.seq)) cache
absent_ends question work cache op e is absent = λ so.
    comes_kept (after_answer question work cache e) (after_entry (left_in question work cache) e) (IsEnd cache) (answer_keeps question work cache op e is) [] (Some (outcome.Missing e.seq))
    (subst (λ q. Leading (after_get q (with_bytes question work cache e.seq) (ends (ends_off (missing e.seq) cache)) (ends (ends_off (fault e.seq) cache))) [] (Some (outcome.Missing e.seq)) cache) (sym absent) (breaks cache (missing e.seq)))

-- the read failed
pub failed_ends : (question : Asked) (work : Work) (cache : Cache) (op : Op) (e : Entry) (landed : Bool) → asked_at question.ulid work ≡ Some op → e.reply ≡ reply.Failed landed → goes_after question work cache e [] (Some (outcome.Fault e.seq)) cache
failed_ends question work cache op e landed is failed = λ so.
    comes_kept (after_answer question work cache e) (after_entry (left_in question work cache) e) (IsEnd cache) (answer_keeps question work cache op e is) [] (Some (outcome.Fault e.seq))
    (subst (λ q. Leading (after_get q (with_bytes question work cache e.seq) (ends (ends_off (missing e.seq) cache)) (ends (ends_off (fault e.seq) cache))) [] (Some (outcome.Fault e.seq)) cache) (sym failed) (breaks cache (fault e.seq)))

-- the entry that a plan asks for, and what follows it
on_entry : (left : Plan BlockEnd) (cache : Cache) (e : Entry) (entries : List Entry) (end : Option BlockOutcome) → plan.asked left ≡ Some e.op
    → Leading (after_entry left e) entries end cache → Leading left (e ∷ entries) end cache
on_entry (ends told) cache e entries end is run = absurd (cc (is))
on_entry never cache e entries end is run = absurd (cc (is))
on_entry (finds Such one next) cache e entries end is run = absurd (cc (is))
on_entry (asks o next) cache e entries None is run = (cc (is), run)
on_entry (asks o next) cache e entries (Some end) is (told, run, gives) = (told, (cc (is), run), gives)

-- what may follow, by what is asked, what is waited for, and the cache
moved : (one other : BlockCall) (question : Asked) (work : Work) (cache : Cache) (entries : List Entry) (end : Option BlockOutcome) (left : Cache)
    → one.asked ≡ question → one.work ≡ work → cache_of one ≡ cache → may_at one.asked one.work (cache_of one) entries end left → may_at question work cache entries end left
moved one other question work cache entries end left asking works caches run =
    subst (λ c. may_at question work c entries end left) caches (subst (λ w. may_at question w (cache_of one) entries end left) works (subst (λ q. may_at q one.work (cache_of one) entries end left) asking run))

asks_held : (old new : BlockCall) (made : List Entry) (op : Op) → IsLawful op → asked_call new ≡ Some op
    → ((entries : List Entry) (end : Option BlockOutcome) (last : BlockCall) → may_call new entries end last → may_call old (made ++ entries) end last)
    → Asks may_call asked_call old made op new
asks_held old new made op lawful waits onward = record {
  lawful = lawful;
  waits = waits;
  onward = onward;
  stopped = λ holds. breaks_off (left_in new.asked new.work (cache_of new));
  answered = λ seat seen answer holds. answered (left_in new.asked new.work (cache_of new)) (entry_of seat op seen) (plan_asks new.asked new.work (cache_of new) op waits);
}

-- a call goes on as its step says
pub acts : (old mid new : BlockCall) (limit : ℕ) (follows : Onward) (made : List Entry) (step : Step) (done : Act BlockOutcome) → mid.asked ≡ old.asked → ActsAs mid step done new
    → Leads old.asked (cache_of mid) limit follows (Ok step)
    → ((entries : List Entry) (end : Option BlockOutcome) (left : Cache) → follows entries end left → may_at old.asked old.work (cache_of old) (made ++ entries) end left)
    → GoesOn may_call asked_call old made (Ok done) new
acts old mid new limit follows made (Wait op work) done same (is, works, asks_same, caches) leads on =
    subst (λ a. GoesOn may_call asked_call old made (Ok a) new) (sym is)
    (asks_held old new made op leads.lawful (ap (λ q. asked_at q.ulid new.work) (asks_same ∙ same) ∙ ap (λ w. asked_at old.asked.ulid w) works ∙ leads.asks)
    (λ entries end last run. on entries end (cache_of last) (leads.onward entries end (cache_of last) (moved new old old.asked work (cache_of mid) entries end (cache_of last) (asks_same ∙ same) works (ap held caches) run))))
acts old mid new limit follows made (Done end) done same (is, caches) leads on =
    subst (λ a. GoesOn may_call asked_call old made (Ok a) new) (sym is)
    (subst (λ c. may_at old.asked old.work (cache_of old) made (Some end) c) (sym (ap held caches))
    (subst (λ es. may_at old.asked old.work (cache_of old) es (Some end) (cache_of mid)) (append-nil made) (on [] (Some end) (cache_of mid) leads)))

pub acts_fall : (old mid new : BlockCall) (limit : ℕ) (follows : Onward) (step : Step) (done : Act BlockOutcome) → ActsAs mid step done new → Leads old.asked (cache_of mid) limit follows (Ok step)
    → Falls limit (Ok done) (count_call new)
acts_fall old mid new limit follows (Wait op work) done (is, works, asks_same, caches) leads =
    subst (λ a. Falls limit (Ok a) (count_call new)) (sym is) (subst (λ w. count_at w < limit) (sym works) leads.falls)
acts_fall old mid new limit follows (Done end) done (is, caches) leads = subst (λ a. Falls limit (Ok a) (count_call new)) (sym is) tt

-- a call is begun
pub begins : (call mid new : BlockCall) (limit : ℕ) (step : Step) (done : Act BlockOutcome) → call.work ≡ Fresh → mid.asked ≡ call.asked → ActsAs mid step done new
    → Leads call.asked (cache_of mid) limit (Leading (left_in call.asked Fresh (cache_of call))) (Ok step) → GoesOn may_call asked_call call [] (Ok done) new
begins call mid new limit step done fresh same acting leads =
    acts call mid new limit (Leading (left_in call.asked Fresh (cache_of call))) [] step done same acting leads
    (λ entries end left run. subst (λ w. may_at call.asked w (cache_of call) entries end left) (sym fresh) (λ holds. run))

-- a call goes on after an entry
pub steps : (call mid new : BlockCall) (seat : ℕ) (op : Op) (seen : Seen) (step : Step) (done : Act BlockOutcome) → asked_call call ≡ Some op → mid.asked ≡ call.asked → ActsAs mid step done new
    → Leads call.asked (cache_of mid) (count_call call) (goes_after call.asked call.work (cache_of call) (entry_of seat op seen)) (Ok step)
    → GoesOn may_call asked_call call (entry_of seat op seen ∷ []) (Ok done) new
steps call mid new seat op seen step done is same acting leads =
    acts call mid new (count_call call) (goes_after call.asked call.work (cache_of call) (entry_of seat op seen)) (entry_of seat op seen ∷ []) step done same acting leads
    (λ entries end left run holds. on_entry (left_in call.asked call.work (cache_of call)) left (entry_of seat op seen) entries end (plan_asks call.asked call.work (cache_of call) op is) (run holds))

-- or memory is wanting
pub stops : (call new : BlockCall) (seat : ℕ) (op : Op) (seen : Seen) → asked_call call ≡ Some op → may_call call (entry_of seat op seen ∷ []) None new
stops call new seat op seen is = λ holds. answered (left_in call.asked call.work (cache_of call)) (entry_of seat op seen) (plan_asks call.asked call.work (cache_of call) op is)

-- it asks for fewer operations from then on
pub begins_fall : (call mid new : BlockCall) (step : Step) (done : Act BlockOutcome) → call.work ≡ Fresh → ActsAs mid step done new
    → Leads call.asked (cache_of mid) (9 * most * most) (Leading (left_in call.asked Fresh (cache_of call))) (Ok step) → Falls (count_call call) (Ok done) (count_call new)
begins_fall call mid new step done fresh acting leads =
    subst (λ w. Falls (count_at w) (Ok done) (count_call new)) (sym fresh)
    (acts_fall call mid new (9 * most * most) (Leading (left_in call.asked Fresh (cache_of call))) step done acting leads)

-- the same of a step behind what was waited for, which was taken out before
pub steps_on : (call mid new : BlockCall) (seat : ℕ) (op : Op) (seen : Seen) (work : Work) (step : Step) (done : Act BlockOutcome) → asked_call call ≡ Some op → work ≡ call.work → mid.asked ≡ call.asked → ActsAs mid step done new
    → (asked_at call.asked.ulid work ≡ Some op → Leads call.asked (cache_of mid) (count_at work) (goes_after call.asked work (cache_of call) (entry_of seat op seen)) (Ok step))
    → GoesOn may_call asked_call call (entry_of seat op seen ∷ []) (Ok done) new
steps_on call mid new seat op seen work step done is taken same acting leads =
    steps call mid new seat op seen step done is same acting
    (subst (λ w. asked_at call.asked.ulid w ≡ Some op → Leads call.asked (cache_of mid) (count_at w) (goes_after call.asked w (cache_of call) (entry_of seat op seen)) (Ok step)) taken leads is)

some_asked : (waits : Option Op) (seen : Seen) → IsSomeAnd waits (λ op. IsAnswer op seen) → (op : Op) × (waits ≡ Some op)
some_asked (Some op) seen is = (op, refl)
some_asked None seen is = absurd is

pub steps_fall : (call mid new : BlockCall) (seen : Seen) (work : Work) (step : Step) (done : Act BlockOutcome) → IsSomeAnd (asked_call call) (λ op. IsAnswer op seen) → work ≡ call.work → mid.asked ≡ call.asked → ActsAs mid step done new
    → ((seat : ℕ) (op : Op) → asked_at call.asked.ulid work ≡ Some op → Leads call.asked (cache_of mid) (count_at work) (goes_after call.asked work (cache_of call) (entry_of seat op seen)) (Ok step))
    → Falls (count_call call) (Ok done) (count_call new)
steps_fall call mid new seen work step done answer taken same acting leads =
    let op = some_asked (asked_call call) seen answer in
    acts_fall call mid new (count_call call) (goes_after call.asked call.work (cache_of call) (entry_of 0 op.0 seen)) step done acting
    (subst (λ w. asked_at call.asked.ulid w ≡ Some op.0 → Leads call.asked (cache_of mid) (count_at w) (goes_after call.asked w (cache_of call) (entry_of 0 op.0 seen)) (Ok step)) taken (leads 0 op.0) op.1)

-- memory is wanting
pub steps_stop : (call new : BlockCall) (seat : ℕ) (op : Op) (seen : Seen) (r : Result (Act BlockOutcome) NoMemory) (none : NoMemory) → r ≡ Err none → asked_call call ≡ Some op → GoesOn may_call asked_call call (entry_of seat op seen ∷ []) r new
steps_stop call new seat op seen r none wanting is = subst (λ (one : Result (Act BlockOutcome) NoMemory). GoesOn may_call asked_call call (entry_of seat op seen ∷ []) one new) (sym wanting) (stops call new seat op seen is)
