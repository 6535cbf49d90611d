-- Every lawful journal of a lawful script is an acting one: gateways do nothing but read, each at a seat of its own.
use Rattle.std.proofs.Common.{◌≡◌, ◌≢◌, inl, inr, ℕ, zero, suc, ◌+◌, ◌<◌, ◌≤◌, ◌==◌, Bool, IsTrue, true, false, List, [], ◌∷◌, length, map, Contains, Option, Some, None, refl, sym, ◌∙◌, ap, subst, arith}
use Rattle.std.specs.Prelude.{is_none, option_map, slice_get}
use Rattle.std.specs.List.{All, AllByRecursion, filter}
use Rattle.std.proofs.lemmas.Bool.Decides.{nat_tests}
use Rattle.std.proofs.lemmas.List.{length-append}
use Rattle.std.proofs.lemmas.List.Elements.{All-append, All-contains, All-contains_itself, All-from_recursion, All-nil, All-weaker, recursion_from_All}
use Rattle.std.proofs.lemmas.Option.{slice_get_within}
use Rattle.base.proofs.Membership.{member_passes, of_filter, of_map, place_of_member}
use Rattle.base.proofs.Lists.{slice_get-below}
use Rattle.world_core.specs.declared.entry.Entry.{Entry}
use Rattle.querier.specs.declared.asking.Ask.{Ask}
use Rattle.store_ranges.specs.Reads.{Query as Question}
use Rattle.script_core.proofs.SeatLaws.{are_seated}
use Rattle.script_core.specs.Lawful.{IsLawfulScript}
use Rattle.script_core.specs.Workers.{workers_before, workers_of}
use Rattle.script_core.specs.declared.script.Script.{Script}
use Rattle.script_workers.specs.Hands.{gateway_count, gateway_of, hands_of}
use Rattle.script_workers.specs.Staff.{IsWorkerOf}
use Rattle.script_workers.specs.Whose.{IsFor, IsTaskOf, does_alone, syncs, asks}
use Rattle.script_workers.specs.Works.{asks_all}
use Rattle.script_workers.specs.declared.hand.Hand.{Hand}
use Rattle.script_workers.specs.declared.hand.Hand.TheVariants as hands
use Rattle.script_workers.specs.declared.phase.Phase.{Phase}
use Rattle.script_workers.specs.declared.task.Task.{Task}
use Rattle.script_workers.specs.declared.work.Work.{Work}
use Rattle.script_workers.specs.declared.work.Work.TheVariants.{Upload, Sync, Compact, Clean, Query}
use Rattle.script_workers.specs.declared.worker.Worker.{Worker}
use Rattle.lifecycle_core.specs.Acting.{HasActors, IsActing, IsNumbering, IsReading, ReadsApart, actors}
use Rattle.world_core.specs.Journals.{of_seat}
use Rattle.lifecycle_core.specs.Conducts.{Assigned, TasksAt, TasksRun, Who, WorkerRun, who_of}
use Rattle.lifecycle_core.specs.Holdings.{Holding, Holdings, Use, holding_of, none_held, nothing_held}
use Rattle.lifecycle_core.specs.Phases.{IsRunOf, by_script}
use Rattle.lifecycle_core.specs.Setting.{Setting}
use Rattle.lifecycle_core.specs.Tasks.{End, PartTask, QueryTask, TaskRun, ask_to, sync_rules, synced_with}
use Rattle.lifecycle_core.proofs.phases.Acted.{conduct_acts, no_gateway, seats_kept}
use Rattle.lifecycle_core.proofs.phases.GatewayParts.{part_entries, query_is}
use Rattle.lifecycle_core.proofs.misses.GatewayEntries.{call_reads, sync_reads}

-- ---- seats

-- where a worker of a phase stands, and which hand's it is
record Stands (script : Script) (number : ℕ) (worker : Worker) : Type 0 where
  place : ℕ
  at : slice_get (workers_of script number) place ≡ Some worker
  within : place < length (workers_of script number)
  seat : worker.seat ≡ length (workers_before script number) + place + 1
  phase : Phase
  is : slice_get script.phases number ≡ Some phase
  hand : Hand
  own : IsWorkerOf (gateway_count script.gateways) phase.tasks hand (length (workers_before script number) + place + 1) worker

stands_by : (script : Script) (number : ℕ) (worker : Worker) → IsLawfulScript script → Contains (workers_of script number) worker → (o : Option Phase) → slice_get script.phases number ≡ o → Stands script number worker
stands_by script number worker lawful among None is =
    let none : workers_of script number ≡ [] = rw is refl in
    let lost : Contains [] worker = subst (λ ws. Contains ws worker) none among in
    absurd (omega (arith, lost.1))
stands_by script number worker lawful among (Some phase) is =
    let at = place_of_member (workers_of script number) worker among in
    let within = slice_get_within (workers_of script number) at.0 worker at.1 in
    let seated = are_seated script number phase lawful is in
    let hand = slice_get-below (hands_of (gateway_count script.gateways) phase.tasks) at.0 (omega (arith, within, seated.count)) in
    let own = seated.each at.0 hand.0 worker hand.1 at.1 in
    record { place = at.0; at = at.1; within = within; seat = own.seat; phase = phase; is = is; hand = hand.0; own = own }

stands : (script : Script) (number : ℕ) (worker : Worker) → IsLawfulScript script → Contains (workers_of script number) worker → Stands script number worker
stands script number worker lawful among = stands_by script number worker lawful among (slice_get script.phases number) refl

grows_by : (script : Script) (one other : ℕ) (b : Bool) → (one == other) ≡ b → one < suc other
    → (one < other → length (workers_before script one) + length (workers_of script one) ≤ length (workers_before script other)) → length (workers_before script one) + length (workers_of script one) ≤ length (workers_before script (suc other))
grows_by script one other true is below rest =
    let same : one ≡ other = grind (arith, nat_tests, is) in
    let here : length (workers_before script one) + length (workers_of script one) ≡ length (workers_before script other) + length (workers_of script other) = ap (λ n. length (workers_before script n) + length (workers_of script n)) same in
    omega (arith, here, length-append (workers_before script other) (workers_of script other))
grows_by script one other false is below rest =
    let differ : one ≢ other = λ q. absurd (grind (arith, nat_tests, is, q)) in
    let more = rest (omega (arith, below, differ)) in
    omega (arith, more, length-append (workers_before script other) (workers_of script other))

-- the workers of a phase are among those before a later one
grows : (script : Script) (one other : ℕ) → one < other → length (workers_before script one) + length (workers_of script one) ≤ length (workers_before script other)
grows script one zero below = absurd (omega (arith, below))
grows script one (suc other) below = grows_by script one other (one == other) refl below (grows script one other)

same_place : (script : Script) (number : ℕ) (one other : Worker) → (a : Stands script number one) (b : Stands script number other) → one.seat ≡ other.seat → one ≡ other
same_place script number one other a b same =
    let place : a.place ≡ b.place = omega (arith, a.seat, b.seat, same) in
    let at : Some one ≡ Some other = sym a.at ∙ ap (slice_get (workers_of script number)) place ∙ b.at in
    cc (at)

order : (one other : ℕ) → (one < other → ⊥) → (other < one → ⊥) → one ≡ other
order one other less more = omega (arith, less, more)

-- no two workers have one seat
one_seat : (script : Script) (n m : ℕ) (one other : Worker) → Stands script n one → Stands script m other → one.seat ≡ other.seat → n ≡ m
one_seat script n m one other a b same =
    order n m
    (λ below. let more = grows script n m below in absurd (omega (arith, more, a.seat, b.seat, a.within, same)))
    (λ below. let more = grows script m n below in absurd (omega (arith, more, a.seat, b.seat, b.within, same)))

one_worker : (script : Script) (n m : ℕ) (one other : Worker) → (a : Stands script n one) → Stands script m other → one.seat ≡ other.seat → one ≡ other
one_worker script n m one other a b same =
    let number : m ≡ n = sym (one_seat script n m one other a b same) in
    same_place script n one other a (subst (λ k. Stands script k other) number b) same

-- ---- a gateway's worker reads

pub is_gateway : (hand : Hand) (gateway : ℕ) → gateway_of hand ≡ Some gateway → hand ≡ hands.Gateway gateway
is_gateway (hands.Alone place) gateway is = absurd (cc (is))
is_gateway (hands.Gateway own) gateway is = ap hands.Gateway (cc (is))

-- a work of a gateway, which reads alone
abbrev IsOther : Work → Type 0
IsOther (Upload ulid stop) = ⊥
IsOther (Sync gateway) = Unit {0}
IsOther (Compact stop) = ⊥
IsOther (Clean stop) = ⊥
IsOther (Query low high selector) = Unit {0}

asking_other : (w : Work) → IsTrue (asks_all w) → IsOther w
asking_other (Upload ulid stop) is = absurd (cc (is))
asking_other (Sync gateway) is = tt
asking_other (Compact stop) is = absurd (cc (is))
asking_other (Clean stop) is = absurd (cc (is))
asking_other (Query low high selector) is = tt

for_gateway : (gateways gateway place : ℕ) (w : Work) → IsFor gateways (hands.Gateway gateway) place w → IsOther w
for_gateway gateways gateway place w (does_alone none apart who) = absurd (cc (who))
for_gateway gateways gateway place w (syncs own is who) = subst IsOther (sym is) tt
for_gateway gateways gateway place w (asks own is who below) = asking_other w is

abbrev AllRead : List Entry → Type 0
AllRead entries = All (λ (e : Entry). IsReading e.op) entries

none_read : (entries : List Entry) → entries ≡ [] → AllRead entries
none_read entries nil = subst AllRead (sym nil) (All-nil (λ (e : Entry). IsReading e.op))

query_reads : (used : Option Use) (asked : Option Question) (before after : Holding) (entries : List Entry) (end : Option End) → QueryTask used asked before entries end after → AllRead entries
query_reads used asked before after entries end run = elim (query_is used asked before entries end after run) [
  | inl none ↦ none_read entries none.0.0
  | inr call ↦ All-from_recursion (λ (e : Entry). IsReading e.op) entries (call_reads call.from.view call.question before.cache entries call.own call.run)
]

task_reads : (setting : Setting) (who : Who) (place : ℕ) (w : Work) (held after : Holding) (entries : List Entry) (end : Option End) → IsOther w → TaskRun setting who place w held entries end after → AllRead entries
task_reads setting who place (Upload ulid stop) held after entries end other run = absurd other
task_reads setting who place (Sync gateway) held after entries end other (own, run, is, left) =
    All-from_recursion (λ (e : Entry). IsReading e.op) entries (sync_reads (sync_rules setting gateway) entries own run)
task_reads setting who place (Compact stop) held after entries end other run = absurd other
task_reads setting who place (Clean stop) held after entries end other run = absurd other
task_reads setting who place (Query low high selector) held after entries end other run =
    part_entries setting selector AllRead (ask_to setting who.gateway low high) held after entries end (none_read [] refl) (λ asked own. query_reads held.used asked held after entries end own) run

abbrev AreOthers : List Assigned → Type 0
AreOthers own = AllByRecursion (λ (a : Assigned). IsOther a.task.work) own

tasks_read : (setting : Setting) (who : Who) (all : List Entry) (held last : Holding) (tasks : List Assigned) (entries : List Entry) (ends : List End) → AreOthers tasks → TasksRun (by_script setting) who all held tasks entries ends last → AllRead entries
tasks_read setting who all held last [] entries ends none run = none_read entries run.0
tasks_read setting who all held last (own ∷ tasks) entries ends none (inl (made, others, end, later, next, parts, run, is, rest)) =
    subst AllRead (sym parts) (All-append (λ (e : Entry). IsReading e.op) made others (task_reads setting who own.place own.task.work held next made (Some end) none.0 run)
    (tasks_read setting who all next last tasks others later none.1 rest))
tasks_read setting who all held last (own ∷ tasks) entries ends none (inr (run, is)) = task_reads setting who own.place own.task.work held last entries None none.0 run

-- the tasks at a gateway's places are the gateway's
are_others : (gateways gateway : ℕ) (tasks : List Task) (places : List ℕ) (own : List Assigned) → AllByRecursion (IsTaskOf gateways tasks (hands.Gateway gateway)) places → TasksAt tasks places own → AreOthers own
are_others gateways gateway tasks [] own each at = subst AreOthers (sym at) tt
are_others gateways gateway tasks (place ∷ places) [] each at = tt
are_others gateways gateway tasks (place ∷ places) (a ∷ own) each at =
    let task = each.0 in
    let same : task.task ≡ a.task = cc (task.is, (at.0).1) in
    (subst (λ (t : Task). IsOther t.work) same (for_gateway gateways gateway place (task.task).work task.whose), are_others gateways gateway tasks places own each.1 at.1)

-- ---- the script's own conduct

abbrev same_seat : ℕ → ℕ
same_seat seat = seat

-- a worker at its own seat
abbrev again : Worker → Worker
again worker = record { seat = same_seat worker.seat; gateway = worker.gateway; tasks = worker.tasks }

all_again : (ws : List Worker) → ws ≡ map again ws
all_again [] = refl
all_again (w ∷ ws) = ap (λ (rest : List Worker). w ∷ rest) (all_again ws)

-- an end counts as itself
abbrev same_end : End → End
same_end end = end

kept_end : (end : Option End) → end ≡ option_map same_end end
kept_end None = refl
kept_end (Some end) = refl

a_gateway : (o : Option ℕ) → o ≢ None → (g : ℕ) × (o ≡ Some g)
a_gateway None is = absurd (is refl)
a_gateway (Some g) is = (g, refl)

-- what a worker without a gateway does asks for nothing that it holds
done_by : (setting : Setting) (who : Who) (place : ℕ) (w : Work) (before after held : Holding) (made : List Entry) (end : Option End) → who.gateway ≡ None → TaskRun setting who place w before made end after → (left : Holding) × TaskRun setting who place w held made end left
done_by setting who place (Upload ulid stop) before after held made end none run = (held, (run.0, refl))
done_by setting who place (Sync gateway) before after held made end none (own, run, is, left) = (synced_with held made own, (own, run, is, refl))
done_by setting who place (Compact stop) before after held made end none run = (held, (run.0, refl))
done_by setting who place (Clean stop) before after held made end none run = (held, (run.0, refl))
done_by setting who place (Query low high selector) before after held made end none run =
    let unasked : ask_to setting who.gateway low high ≡ None = ap (λ (by : Option ℕ). ask_to setting by low high) none in
    let own : PartTask setting selector None before made end after = subst (λ (o : Option Ask). PartTask setting selector o before made end after) unasked run in
    (held, subst (λ (o : Option Ask). PartTask setting selector o held made end held) (sym unasked) (own.0, refl))

module _ (setting : Setting) (lawful : IsLawfulScript setting.script) where
  pub own_numbering : IsNumbering setting same_seat
  own_numbering = record {
    above = λ seat (number, worker, among, none, sits). let s = stands setting.script number worker lawful among in omega (arith, s.seat, sits);
    apart = λ one other a b same. same;
  }

  -- no worker of one task alone has a gateway's seat
  apart_from_actors : (number : ℕ) (worker : Worker) (g : ℕ) → Contains (workers_of setting.script number) worker → worker.gateway ≡ Some g → (other : ℕ) → Contains (map (λ (w : Worker). w.seat) (actors setting same_seat other)) worker.seat → ⊥
  apart_from_actors number worker g among is other sits =
      let one = of_map (λ (w : Worker). w.seat) (actors setting same_seat other) worker.seat sits in
      let two = of_map again (filter (λ (x : Worker). is_none x.gateway) (workers_of setting.script other)) one.0 one.1 in
      let whose = two.0 in
      let inside : Contains (workers_of setting.script other) whose = of_filter (λ (x : Worker). is_none x.gateway) (workers_of setting.script other) whose two.1 in
      let alone : is_none whose.gateway ≡ true = member_passes (λ (x : Worker). is_none x.gateway) (workers_of setting.script other) whose two.1 in
      let seat : whose.seat ≡ worker.seat = ap (λ (w : Worker). w.seat) two.2 ∙ one.2 in
      let same : whose ≡ worker = one_worker setting.script other number whose worker (stands setting.script other whose lawful inside) (stands setting.script number worker lawful among) seat in
      cc (ap (λ (w : Worker). w.gateway) same, is, no_gateway whose.gateway alone)

  gateway_reads : (number : ℕ) (phase : Phase) (at : slice_get setting.script.phases number ≡ Some phase) (views after : Holdings) (made : List Entry) (worker : Worker) (g : ℕ) (own : List End) → Contains (workers_of setting.script number) worker → worker.gateway ≡ Some g → WorkerRun (by_script setting) phase.tasks views made after worker own → AllRead (of_seat worker.seat made)
  gateway_reads number phase at views after made worker g own among is w =
      let s = stands setting.script number worker lawful among in
      let same_phase : s.phase ≡ phase = cc (s.is, at) in
      let hand : s.hand ≡ hands.Gateway g = is_gateway s.hand g (sym s.own.gateway ∙ is) in
      let each : All (IsTaskOf (gateway_count setting.script.gateways) phase.tasks (hands.Gateway g)) worker.tasks =
      subst (λ (p : Phase). All (IsTaskOf (gateway_count setting.script.gateways) p.tasks (hands.Gateway g)) worker.tasks) same_phase
      (subst (λ (h : Hand). All (IsTaskOf (gateway_count setting.script.gateways) s.phase.tasks h) worker.tasks) hand s.own.places.only) in
      tasks_read setting (who_of worker) made (holding_of views worker.gateway) w.last w.own (of_seat worker.seat made) own
      (are_others (gateway_count setting.script.gateways) g phase.tasks worker.tasks w.own (recursion_from_All (IsTaskOf (gateway_count setting.script.gateways) phase.tasks (hands.Gateway g)) worker.tasks each) w.are) w.runs

  reads_apart : (number : ℕ) (phase : Phase) (worker : Worker) (views after : Holdings) (made : List Entry) (own : List End) → slice_get setting.script.phases number ≡ Some phase → Contains (workers_of setting.script number) worker → worker.gateway ≢ None → WorkerRun (by_script setting) phase.tasks views made after worker own → All (ReadsApart setting same_seat) (of_seat worker.seat made)
  reads_apart number phase worker views after made own at among some w =
      let g = a_gateway worker.gateway some in
      let s = stands setting.script number worker lawful among in
      All-weaker (Contains (of_seat worker.seat made)) (ReadsApart setting same_seat)
      (λ e inside.
      let test = member_passes (λ (x : Entry). x.seat == worker.seat) made e inside in
      let seat : e.seat ≡ worker.seat = grind (arith, nat_tests, test) in (
        (λ zero_seat. absurd (omega (arith, s.seat, seat, zero_seat))),
        All-contains (λ (x : Entry). IsReading x.op) (of_seat worker.seat made) e (gateway_reads number phase at views after made worker g.0 own among g.1 w) inside,
        (λ other sits. apart_from_actors number worker g.0 among g.1 other (subst (Contains (map (λ (x : Worker). x.seat) (actors setting same_seat other))) seat sits)),
      ))
      (of_seat worker.seat made) (All-contains_itself (of_seat worker.seat made))

  script_acts : HasActors setting same_seat (by_script setting)
  script_acts = record {
    actors_are = λ number. all_again (filter (λ (worker : Worker). is_none worker.gateway) (workers_of setting.script number));
    end_as = same_end;
    does = λ who place work all before made end after none run held.
        subst (λ (own : Option End). (left : Holding) × TaskRun setting who place work held made own left) (kept_end end) (done_by setting who place work before after held made end none run);
    reads = λ number phase worker before after made ends at among some w. reads_apart number phase worker before after made ends at among some w;
    bystanders = λ e none. absurd none;
  }

-- a lawful journal is acting
pub runs_act : (setting : Setting) (journal : List Entry) (ends : List (List (List End))) → IsLawfulScript setting.script → IsRunOf setting journal ends → IsActing setting journal
runs_act setting journal ends lawful run = conduct_acts setting same_seat (by_script setting) (script_acts setting lawful) (own_numbering setting lawful) journal none_held ends run.kept run.phases

-- at its own seats
pub seats_stay : (setting : Setting) (journal : List Entry) (ends : List (List (List End))) (lawful : IsLawfulScript setting.script) (run : IsRunOf setting journal ends) (seat : ℕ) → (runs_act setting journal ends lawful run).seats seat ≡ seat
unfolding runs_act
seats_stay setting journal ends lawful run seat = seats_kept setting same_seat (by_script setting) (script_acts setting lawful) (own_numbering setting lawful) journal none_held ends run.kept run.phases seat
