-- Which of the runs do their tasks in the order of their lines.
use Rattle.std.proofs.Common.{◌≡◌, inl, inr, ℕ, List, [], ◌∷◌, ◌++◌, length, Option, Some, None, refl, sym, ◌∙◌, ap, subst, append-nil, arith, lit<}
use Rattle.std.specs.Prelude.{option_map, pos}
use Rattle.std.specs.List.{All}
use Rattle.std.proofs.lemmas.List.Elements.{All-from_recursion, All-head}
use Rattle.block_keys.specs.declared.key.Key.TheVariants as key
use Rattle.world_core.specs.declared.entry.Entry.{Entry}
use Rattle.meta_fetcher.specs.Syncs.{SyncRun}
use Rattle.meta_fetcher.specs.declared.rules.SyncRules.{SyncRules}
use Rattle.meta_fetcher.specs.declared.sync.SyncEnd.{SyncEnd}
use Rattle.meta_fetcher.specs.declared.sync.SyncEnd.TheVariants as fetched
use Rattle.shipper.specs.declared.upload.UploadEnd.TheVariants as shipped
use Rattle.store_calls.specs.declared.series_call.SeriesEnd.TheVariants as called
use Rattle.script_workers.specs.Hands.{hands_of_task, with_hands, hands_from, places_from, workers_from, seats_from}
use Rattle.script_workers.specs.declared.hand.Hand.{Hand}
use Rattle.script_workers.specs.declared.hand.Hand.TheVariants as hands
use Rattle.script_workers.specs.declared.phase.Phase.{Phase}
use Rattle.script_workers.specs.declared.task.Task.{Task}
use Rattle.script_workers.specs.declared.work.Work.TheVariants as works
use Rattle.script_core.specs.Workers.{workers_of}
use Rattle.lifecycle_core.specs.Holdings.{Holdings, none_held, nothing_held, with_holding}
use Rattle.lifecycle_core.specs.InLine.{Duty, InLine, IsInLine, duties_from, duties_of, in_line, seat_of}
use Rattle.lifecycle_core.specs.Tasks.{End, answered, sync_rules, synced, uploaded}
use Rattle.lifecycle_core.specs.Ways.{PhasesRun}
use Rattle.tests_worked.specs.Entries.{absent, clock}
use Rattle.tests_worked.specs.OneBlock as one
use Rattle.tests_worked.specs.SideBySide as side
use Rattle.tests_worked.specs.SmallBlock as small
use Rattle.tests_worked.proofs.small.SmallCalls.{called_by}
use Rattle.tests_worked.proofs.one.OneBlock.{first_tasks, holding, kept, query_end, second_tasks, sync_end, upload_end}

abbrev duty_at : ℕ → Hand → Task → Duty
duty_at place hand task = record { place = place; hand = hand; task = task }

-- ---- the run of one block

abbrev first_phase : Phase
first_phase = record { line = 5; moment = record { ms = 0 }; tasks = first_tasks }

abbrev second_phase : Phase
second_phase = record { line = 7; moment = record { ms = 1_800_000 }; tasks = second_tasks }

abbrev first_duties : List Duty
first_duties = duty_at 0 (hands.Alone 0) (record { line = 6; work = works.Upload small.a None }) ∷ []

abbrev second_duties : List Duty
second_duties =
    duty_at 0 (hands.Gateway 0) (record { line = 8; work = works.Sync 0 })
    ∷ duty_at 1 (hands.Gateway 0) (record { line = 9; work = works.Query (pos 0) (pos 5000) 0 })
    ∷ []

first_are : duties_of one.setting first_phase ≡ first_duties
unfolding duties_from hands_of_task
first_are = refl

second_are : duties_of one.setting second_phase ≡ second_duties
unfolding duties_from hands_of_task
second_are = refl

abbrev first_seats : Hand → ℕ
first_seats hand = seat_of (workers_of one.script 0) hand

abbrev second_seats : Hand → ℕ
second_seats hand = seat_of (workers_of one.script 1) hand

upload_seat : first_seats (hands.Alone 0) ≡ 1
unfolding seat_of hands_of_task with_hands hands_from places_from workers_from seats_from
upload_seat = refl

gateway_seat : second_seats (hands.Gateway 0) ≡ 2
unfolding seat_of hands_of_task with_hands hands_from places_from workers_from seats_from
gateway_seat = refl

abbrev first_ends : List End
first_ends = uploaded (shipped.Done 3) ∷ []

abbrev second_ends : List End
second_ends = synced (fetched.View one.view) ∷ answered one.used (called.Answer (small.up ∷ []) (small.a ∷ [])) ∷ []

-- what gateways hold after the sync, and after the query
abbrev after_sync : Holdings
after_sync = with_holding none_held (Some 0) holding

abbrev after_query : Holdings
after_query = with_holding after_sync (Some 0) (called_by one.used)

first_run : InLine one.setting first_seats none_held first_duties one.upload first_ends none_held
first_run = inl (
  one.upload,
  [],
  uploaded (shipped.Done 3),
  [],
  nothing_held,
  refl,
  All-from_recursion (λ (e : Entry). e.seat ≡ first_seats (hands.Alone 0)) one.upload (sym upload_seat, (sym upload_seat, (sym upload_seat, (sym upload_seat, tt)))),
  (upload_end, refl),
  refl,
  (refl, refl, refl),
)

second_run : InLine one.setting second_seats none_held second_duties (one.sync ++ one.query) second_ends after_query
second_run = inl (
  one.sync,
  one.query,
  synced (fetched.View one.view),
  answered one.used (called.Answer (small.up ∷ []) (small.a ∷ [])) ∷ [],
  holding,
  refl,
  All-from_recursion (λ (e : Entry). e.seat ≡ second_seats (hands.Gateway 0)) one.sync (sym gateway_seat, (sym gateway_seat, (sym gateway_seat, tt))),
  sync_end,
  refl,
  inl (
    one.query,
    [],
    answered one.used (called.Answer (small.up ∷ []) (small.a ∷ [])),
    [],
    called_by one.used,
    refl,
    All-from_recursion (λ (e : Entry). e.seat ≡ second_seats (hands.Gateway 0)) one.query (sym gateway_seat, (sym gateway_seat, (sym gateway_seat, (sym gateway_seat, (sym gateway_seat, (sym gateway_seat, tt)))))),
    query_end,
    refl,
    (refl, refl, refl),
  ),
)

phases : PhasesRun (in_line one.setting) 0 none_held one.script.phases one.journal (first_ends ∷ second_ends ∷ [])
phases = inr (
  clock 1 0,
  one.upload,
  clock 6 1_800_000 ∷ one.sync ++ one.query,
  first_ends,
  second_ends ∷ [],
  none_held,
  refl,
  record { seat = refl; sets = refl },
  subst (λ (ds : List Duty). InLine one.setting first_seats none_held ds one.upload first_ends none_held) (sym first_are) first_run,
  refl,
  inr (
    clock 6 1_800_000,
    one.sync ++ one.query,
    [],
    second_ends,
    [],
    after_query,
    refl,
    record { seat = refl; sets = refl },
    subst (λ (ds : List Duty). InLine one.setting second_seats none_held ds (one.sync ++ one.query) second_ends after_query) (sym second_are) second_run,
    refl,
    (refl, refl),
  ),
)

first_done : length first_ends ≡ length (duties_of one.setting first_phase)
first_done = sym (ap (length {A = Duty}) first_are)

pub one_in_line : IsInLine one.setting one.journal
one_in_line = (first_ends ∷ second_ends ∷ [], record { kept = kept; phases = phases; turns = ((λ more. first_done), ((λ none. absurd (none refl)), tt)) })

-- ---- the run side by side

-- a sync without an entry has no end
no_end : (rules : SyncRules) (end : SyncEnd) → ¬ SyncRun rules [] (Some end)
no_end rules end run = cc (run.1)

not_ended : (rules : SyncRules) (own : Option SyncEnd) (end : End) → SyncRun rules [] own → ¬ (Some end ≡ option_map synced own)
not_ended rules None end run is = cc (is)
not_ended rules (Some own) end run is = no_end rules own run

abbrev side_phase : Phase
side_phase = record { line = 7; moment = record { ms = 0 }; tasks = side.tasks }

-- the first duty, and those after it
abbrev side_duties : List Duty
side_duties =
    duty_at 0 (hands.Gateway 0) (record { line = 8; work = works.Sync 0 })
    ∷ duty_at 1 (hands.Gateway 0) (record { line = 9; work = works.Query (pos 0) (pos 5000) 0 })
    ∷ duty_at 2 (hands.Alone 2) (record { line = 10; work = works.Upload small.a None })
    ∷ duty_at 3 (hands.Alone 3) (record { line = 11; work = works.Upload side.b None })
    ∷ []

side_are : duties_of side.setting side_phase ≡ side_duties
unfolding duties_from hands_of_task
side_are = refl

abbrev side_seats : Hand → ℕ
side_seats hand = seat_of (workers_of side.script 0) hand

side_seat : side_seats (hands.Gateway 0) ≡ 1
unfolding seat_of hands_of_task with_hands hands_from places_from workers_from seats_from
side_seat = refl

-- the first entry of the phase is an upload's
abbrev first_entry : Entry
first_entry = absent 2 2 1 (key.Meta small.a)

abbrev IsGateways : Entry → Type 0
IsGateways e = e.seat ≡ side_seats (hands.Gateway 0)

not_gateways : (e : Entry) → first_entry ≡ e → ¬ IsGateways e
not_gateways e is sits = let seat : 2 ≡ e.seat = ap (λ (x : Entry). x.seat) is in omega (arith, seat, sits, side_seat)

not_in_line : (made : List Entry) (ends : List End) (after : Holdings) → made ≡ side.made → InLine side.setting side_seats none_held side_duties made ends after → ⊥
not_in_line made ends after is (inl ([], others, end, later, held, parts, seats, task, same, rest)) = not_ended (sync_rules side.setting 0) task.0 end task.1 task.2
not_in_line made ends after is (inl (e ∷ own, others, end, later, held, parts, seats, task, same, rest)) =
    let first : first_entry ≡ e = cc (sym is ∙ parts) in not_gateways e first (All-head IsGateways e own seats)
not_in_line made ends after is (inr (held, seats, task, none, same)) =
    let all : All IsGateways side.made = subst (All IsGateways) is seats in not_gateways first_entry refl (all 0 first_entry (lit< tt))

no_run : (ends : List (List End)) → PhasesRun (in_line side.setting) 0 none_held side.script.phases side.journal ends → ⊥
no_run ends (inl none) = absurd (cc (none.0))
no_run ends (inr r) =
    let rest : side.made ≡ r.1 ++ r.2 = cc (r.6) in
    let all : r.1 ≡ side.made = sym (append-nil r.1) ∙ ap (λ (es : List Entry). r.1 ++ es) (sym (r.10).0) ∙ sym rest in
    not_in_line r.1 r.3 r.5 all (subst (λ (ds : List Duty). InLine side.setting side_seats none_held ds r.1 r.3 r.5) side_are r.8)

pub not_side_by_side : ¬ IsInLine side.setting side.journal
not_side_by_side line = no_run line.0 line.1.phases
