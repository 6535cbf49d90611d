-- One task of a script: its parts, one after another, and what it came to.
use Rattle.std.proofs.Common.{◌≡◌, ◌≢◌, ℕ, zero, suc, ◌+◌, ◌<◌, ◌≤◌, Bool, true, false, List, [], ◌∷◌, ◌++◌, length, length-append, map, drop, refl, sym, ◌∙◌, ap, subst, inl, inr, arith, append_assoc}
use Rattle.std.specs.Prelude.{◌==◌, if◌then◌else◌, Option, Some, None, option_map, slice_get, IfOk, IfSome, Result, Ok, Err}
use Rattle.std.specs.List.{All, AllZip, range_with_len}
use Rattle.std.proofs.Math.ListN.{set}
use Rattle.std.proofs.lemmas.List.Elements.{All-cons, All-nil, All-push}
use Rattle.std.proofs.lemmas.Bool.Decides.{nat_tests}
use Rattle.std.proofs.lemmas.List.{append-nil, drop_all, length-map}
use Rattle.std.proofs.lemmas.List.FromFn.{length-map-range_with_len}
use Rattle.std.proofs.lemmas.Option.{slice_get_within}
use Rattle.base.proofs.Lists.{drop_none, drop_place, slice_get-set_other}
use Rattle.base.proofs.Pairs.{AllZip-push}
use Rattle.world_core.specs.Operations.{entry_of}
use Rattle.world_core.specs.declared.entry.Entry.{Entry}
use Rattle.script_core.specs.Lawful.{IsLawfulScript, IsLawfulWork}
use Rattle.script_core.specs.declared.script.Script.{Script}
use Rattle.script_workers.specs.Hands.{gateway_count, gateway_of, hands_of_task, own_hand}
use Rattle.script_workers.specs.Works.{asks_all}
use Rattle.script_workers.specs.declared.hand.Hand.{Hand}
use Rattle.script_workers.specs.declared.hand.Hand.TheVariants as hands
use Rattle.script_workers.specs.declared.task.Task.{Task}
use Rattle.script_workers.specs.declared.work.Work.{Work}
use Rattle.script_workers.specs.declared.work.Work.TheVariants as works
use Rattle.report_lines.specs.lifecycle_core.specs.Conducts.{Assigned}
use Rattle.report_lines.specs.lifecycle_core.specs.Holdings.{Holding, Holdings, holding_of, nothing_held, with_holding}
use Rattle.report_lines.specs.lifecycle_core.specs.InLine.{Duty, InLine, duties_from, who_does}
use Rattle.report_lines.specs.lifecycle_core.specs.Setting.{Setting}
use Rattle.report_lines.specs.lifecycle_core.specs.Tasks.{End, TaskRun}
use Rattle.report_lines.specs.lifecycle_core.proofs.phases.Joined.{MayAllBegin, duties_begin, nothing}
use Rattle.report_lines.specs.lifecycle_core.proofs.phases.RunsInLine.{may_begin}
use Rattle.report_lines.specs.lifecycle_core.specs.Ways.{IsDueAfter}
use Rattle.report_lines.specs.script_running.specs.Outcomes.{IsOutcome, IsOutcomeOf, IsPart, Outcome, Part}
use Rattle.report_lines.specs.script_running.specs.Sights.{Sees}
use Rattle.report_lines.specs.script_running.specs.Tasks.{CameBy, Does, HasDone, WhenDone, WhenFull}
use Rattle.report_lines.specs.script_running.specs.declared.came.Broken.{Broken}
use Rattle.report_lines.specs.script_running.specs.declared.came.Broken.TheVariants as broken
use Rattle.report_lines.specs.script_running.specs.declared.sight.Sight.{Sight}
use Rattle.report_lines.specs.script_running.proofs.TaskSteps.{when_done}
use Rattle.line_running.specs.Progress.{IsDueInLine, IsWhole, Line, PartStep, TaskStep, duties_at}
use Rattle.report_lines.specs.script_running.specs.Beside.{AreSeen}

-- in line by this setting, from these seats
abbrev pub line : Setting → (Hand → ℕ) → Line
line setting seat = record { setting = setting; seat = seat }

-- the task at a place
abbrev pub one_of : ℕ → Task → Assigned
one_of place task = record { place = place; task = task }

-- what a hand of a task has to do
abbrev pub duty_of : ℕ → Task → Hand → Duty
duty_of place task hand = record { place = place; hand = hand; task = task }

-- ---- one part

done_by : {X : Type 0} (came : Result X Broken) (P Q : Type 0) → (P → Q) → WhenDone came P → WhenDone came Q
done_by (Ok o) P Q f holds = f holds
done_by (Err why) P Q f holds = tt

-- a worker's part that it did from its seat
pub part_step : (setting : Setting) (seat : Hand → ℕ) (own : ℕ) (place : ℕ) (task : Task) (hand : Hand) (views : Holdings) (gateways : List Sight) (old new : List Entry) (sight : Sight) (came : Result Part Broken) → own ≡ seat hand
    → (d : HasDone (TaskRun setting (who_does seat hand) place task.work (holding_of views (gateway_of hand))) (IsPart task.work) own old new sight came) → WhenDone came (AreSeen (with_holding views (gateway_of hand) d.after) gateways) → PartStep (line setting seat) (duty_of place task hand) views gateways old new came
part_step setting seat own place task hand views gateways old new sight came same d shows = record {
  made = d.made;
  entries = d.entries;
  seats = subst (λ (s : ℕ). All (λ (e : Entry). e.seat ≡ s) d.made) same d.seats;
  end = d.end;
  after = d.after;
  run = d.run;
  shows = shows;
  by = d.by;
  due = subst (λ (s : ℕ). WhenFull came (IsDueAfter (Does (TaskRun setting (who_does seat hand) place task.work (holding_of views (gateway_of hand)))) s d.made)) same d.due;
}

pub alone_step : (setting : Setting) (seat : Hand → ℕ) (own : ℕ) (place number : ℕ) (task : Task) (hand : Hand) (views : Holdings) (gateways : List Sight) (old new : List Entry) (sight : Sight) (came : Result Part Broken) → hand ≡ hands.Alone number → own ≡ seat hand
    → HasDone (TaskRun setting (who_does seat (hands.Alone number)) place task.work nothing_held) (IsPart task.work) own old new sight came → AreSeen views gateways → PartStep (line setting seat) (duty_of place task hand) views gateways old new came
alone_step setting seat own place number task hand views gateways old new sight came is same d shows =
    subst (λ (h : Hand). PartStep (line setting seat) (duty_of place task h) views gateways old new came) (sym is)
    (part_step setting seat own place task (hands.Alone number) views gateways old new sight came (same ∙ ap seat is) d (when_done came (AreSeen views gateways) shows))

-- ---- a gateway's task

get_same : {X : Type 0} (xs : List X) (i : ℕ) (a x : X) → slice_get (set xs i a) i ≡ Some x → a ≡ x
get_same [] i a x at = absurd (cc (at))
get_same (y ∷ ys) zero a x at = cc (at)
get_same (y ∷ ys) (suc i) a x at = get_same ys i a x at

shows_at : (views : Holdings) (number : ℕ) (held : Holding) (gateways : List Sight) (gateway : Sight) (place : ℕ) (x : Sight) (b : Bool) → (place == number) ≡ b → AreSeen views gateways
    → Sees held gateway → slice_get (set gateways number gateway) place ≡ Some x → Sees (with_holding views (Some number) held place) x
shows_at views number held gateways gateway place x true e shows is at =
    let same : place ≡ number = grind (arith, nat_tests) in
    let own : gateway ≡ x = get_same gateways number gateway x (subst (λ (p : ℕ). slice_get (set gateways number gateway) p ≡ Some x) same at) in
    rw e (subst (Sees held) own is)
shows_at views number held gateways gateway place x false e shows is at =
    let differ : place ≢ number = λ q. absurd (grind (arith, nat_tests, q, e)) in
    rw e (shows place x (sym (slice_get-set_other gateways number place gateway differ) ∙ at))

-- a gateway that sees by this from now on
set_shows : (views : Holdings) (number : ℕ) (held : Holding) (gateways : List Sight) (gateway : Sight) → AreSeen views gateways → Sees held gateway → AreSeen (with_holding views (Some number) held) (set gateways number gateway)
set_shows views number held gateways gateway shows is = λ place x at. shows_at views number held gateways gateway place x (place == number) refl shows is at

pub gateway_step : (setting : Setting) (seat : Hand → ℕ) (own : ℕ) (place : ℕ) (task : Task) (hand : Hand) (views : Holdings) (gateways : List Sight) (old new : List Entry) (came : Result Part Broken) (number : ℕ) (before gateway : Sight) → hand ≡ hands.Gateway number
    → own ≡ seat hand → slice_get gateways number ≡ Some before
    → ((held : Holding) → Sees held before → HasDone (TaskRun setting (who_does seat (hands.Gateway number)) place task.work held) (IsPart task.work) own old new gateway came)
    → AreSeen views gateways → PartStep (line setting seat) (duty_of place task hand) views (set gateways number gateway) old new came
gateway_step setting seat own place task hand views gateways old new came number before gateway is same at done shows =
    let d = done (views number) (shows number before at) in
    subst (λ (h : Hand). PartStep (line setting seat) (duty_of place task h) views (set gateways number gateway) old new came) (sym is)
    (part_step setting seat own place task (hands.Gateway number) views (set gateways number gateway) old new gateway came (same ∙ ap seat is) d
    (done_by came (Sees d.after gateway) (AreSeen (with_holding views (Some number) d.after) (set gateways number gateway)) (set_shows views number d.after gateways gateway shows) d.sees))

-- ---- who is next

alone_within : (gateways place : ℕ) (hand : Hand) → Some (hands.Alone place) ≡ Some hand → IfSome (gateway_of hand) (λ gateway. gateway < gateways)
alone_within gateways place hand at = let same : hands.Alone place ≡ hand = cc (at) in subst (λ (h : Hand). IfSome (gateway_of h) (λ gateway. gateway < gateways)) same tt

-- the hand of a number has a gateway that there is
pub hand_within : (gateways place number : ℕ) (w : Work) (hand : Hand) → slice_get (hands_of_task gateways place w) number ≡ Some hand → ((gateway : ℕ) → w ≡ works.Sync gateway → gateway < gateways) → IfSome (gateway_of hand) (λ gateway. gateway < gateways)
unfolding hands_of_task
hand_within gateways place zero (works.Upload ulid stop) hand at within = alone_within gateways place hand at
hand_within gateways place (suc number) (works.Upload ulid stop) hand at within = absurd (cc (at))
hand_within gateways place zero (works.Compact stop) hand at within = alone_within gateways place hand at
hand_within gateways place (suc number) (works.Compact stop) hand at within = absurd (cc (at))
hand_within gateways place zero (works.Clean stop) hand at within = alone_within gateways place hand at
hand_within gateways place (suc number) (works.Clean stop) hand at within = absurd (cc (at))
hand_within gateways place zero (works.Sync gateway) hand at within = let same : hands.Gateway gateway ≡ hand = cc (at) in subst (λ (h : Hand). IfSome (gateway_of h) (λ g. g < gateways)) same (within gateway refl)
hand_within gateways place (suc number) (works.Sync gateway) hand at within = absurd (cc (at))
hand_within gateways place number (works.Query low high selector) hand at within = asked_within gateways 0 gateways number hand at (omega arith)
  where
    asked_within : (all first count number : ℕ) (hand : Hand) → slice_get (map hands.Gateway (range_with_len first count)) number ≡ Some hand → first + count ≤ all → IfSome (gateway_of hand) (λ gateway. gateway < all)
    asked_within all first zero number hand at few = absurd (cc (at))
    asked_within all first (suc count) zero hand at few = let same : hands.Gateway first ≡ hand = cc (at) in subst (λ (h : Hand). IfSome (gateway_of h) (λ gateway. gateway < all)) same (omega (arith, few))
    asked_within all first (suc count) (suc number) hand at few = asked_within all (first + 1) count number hand at (omega (arith, few))

-- so many do a task
pub count_all : (gateways place : ℕ) (w : Work) → asks_all w ≡ true → gateways ≡ length (hands_of_task gateways place w)
unfolding hands_of_task
count_all gateways place w all =
    subst (λ (b : Bool). gateways ≡ length (if b then map hands.Gateway (range_with_len 0 gateways) else own_hand place w ∷ [])) (sym all) (sym (length-map-range_with_len hands.Gateway 0 gateways))

pub count_one : (gateways place : ℕ) (w : Work) → asks_all w ≡ false → ◌≡◌ {A = ℕ} 1 (length (hands_of_task gateways place w))
unfolding hands_of_task
count_one gateways place w one = subst (λ (b : Bool). ◌≡◌ {A = ℕ} 1 (length (if b then map hands.Gateway (range_with_len 0 gateways) else own_hand place w ∷ []))) (sym one) refl

-- and this is the hand of a number
the_only : (hand : Hand) (number : ℕ) → number < 1 → slice_get (hand ∷ []) number ≡ Some hand
the_only hand zero less = refl
the_only hand (suc number) less = absurd (omega (arith, less))

the_gateway : (first count number : ℕ) → number < count → slice_get (map hands.Gateway (range_with_len first count)) number ≡ Some (hands.Gateway (first + number))
the_gateway first zero number less = absurd (omega (arith, less))
the_gateway first (suc count) zero less = let same : first ≡ first + 0 = omega arith in ap (λ (n : ℕ). Some (hands.Gateway n)) same
the_gateway first (suc count) (suc number) less =
    let same : first + 1 + number ≡ first + suc number = omega arith in the_gateway (first + 1) count number (omega (arith, less)) ∙ ap (λ (n : ℕ). Some (hands.Gateway n)) same

pub hand_all : (gateways place number : ℕ) (w : Work) → asks_all w ≡ true → number < length (hands_of_task gateways place w) → slice_get (hands_of_task gateways place w) number ≡ Some (hands.Gateway number)
unfolding hands_of_task
hand_all gateways place number w all =
    subst (λ (b : Bool). number < length (if b then map hands.Gateway (range_with_len 0 gateways) else own_hand place w ∷ []) → slice_get (if b then map hands.Gateway (range_with_len 0 gateways) else own_hand place w ∷ []) number ≡ Some (hands.Gateway number)) (sym all)
    (λ less. let long = length-map-range_with_len hands.Gateway 0 gateways in let same : 0 + number ≡ number = omega arith in the_gateway 0 gateways number (omega (arith, less, long)) ∙ ap (λ (n : ℕ). Some (hands.Gateway n)) same)

pub hand_one : (gateways place number : ℕ) (w : Work) → asks_all w ≡ false → number < length (hands_of_task gateways place w) → slice_get (hands_of_task gateways place w) number ≡ Some (own_hand place w)
unfolding hands_of_task
hand_one gateways place number w one =
    subst (λ (b : Bool). number < length (if b then map hands.Gateway (range_with_len 0 gateways) else own_hand place w ∷ []) → slice_get (if b then map hands.Gateway (range_with_len 0 gateways) else own_hand place w ∷ []) number ≡ Some (own_hand place w)) (sym one)
    (λ less. the_only (own_hand place w) number less)

-- as many as were counted do the task
pub counted : (script : Script) → IsLawfulScript script → (w : Work) (place : ℕ) (gateways : List Sight) (number count : ℕ) → length gateways ≡ length script.gateways → number ≡ length gateways → count ≡ length (hands_of_task number place w) → count ≡ length (hands_of_task (gateway_count script.gateways) place w)
counted script lawful w place gateways number count same long is =
    let all : number ≡ gateway_count script.gateways = omega (arith, same, long, lawful.few_gateways) in is ∙ ap (λ (n : ℕ). length (hands_of_task n place w)) all

sync_lawful : (script : Script) (w : Work) (gateway : ℕ) → w ≡ works.Sync gateway → IsLawfulWork script.gateways script.blocks (length script.selectors) w → gateway < length script.gateways
sync_lawful script w gateway is allowed = subst (λ (x : Work). IsLawfulWork script.gateways script.blocks (length script.selectors) x) is allowed

pub sync_within : (script : Script) → IsLawfulScript script → (place number : ℕ) (w : Work) (hand : Hand) → IsLawfulWork script.gateways script.blocks (length script.selectors) w → slice_get (hands_of_task (gateway_count script.gateways) place w) number ≡ Some hand
    → (gateways : List Sight) → length gateways ≡ length script.gateways → IfSome (gateway_of hand) (λ gateway. gateway < length gateways)
sync_within script lawful place number w hand allowed at gateways same =
    let all : gateway_count script.gateways ≡ length gateways = omega (arith, same, lawful.few_gateways) in
    subst (λ (n : ℕ). IfSome (gateway_of hand) (λ gateway. gateway < n)) all
    (hand_within (gateway_count script.gateways) place number w hand at (λ gateway is. let less = sync_lawful script w gateway is allowed in omega (arith, less, lawful.few_gateways)))

pub gateway_inside : (hand : Hand) (number : ℕ) (gateways : List Sight) → hand ≡ hands.Gateway number → IfSome (gateway_of hand) (λ gateway. gateway < length gateways) → number < length gateways
gateway_inside hand number gateways is within = subst (λ (h : Hand). IfSome (gateway_of h) (λ gateway. gateway < length gateways)) is within

-- what was gathered is the outcome
pub gathered_is : (w : Work) (parts : List Part) (o : Result Outcome Broken) → IfOk o (IsOutcomeOf w parts) → (outcome : Outcome) → o ≡ Ok outcome → IsOutcomeOf w parts outcome
gathered_is w parts (Ok own) holds outcome is = let same : own ≡ outcome = cc (is) in subst (IsOutcomeOf w parts) same holds
gathered_is w parts (Err why) holds outcome is = absurd (cc (is))

-- its duty is that of the number
pub duty_at : (setting : Setting) (place number : ℕ) (task : Task) (hand : Hand) → slice_get (hands_of_task (gateway_count setting.script.gateways) place task.work) number ≡ Some hand
    → slice_get (duties_at setting place (task ∷ [])) number ≡ Some (record { place = place; hand = hand; task = task })
unfolding duties_from
duty_at setting place number task hand at = mapped (hands_of_task (gateway_count setting.script.gateways) place task.work) number at
  where
    mapped : (hs : List Hand) (number : ℕ) → slice_get hs number ≡ Some hand → slice_get (map (duty_of place task) hs ++ []) number ≡ Some (duty_of place task hand)
    mapped [] number at = absurd (cc (at))
    mapped (h ∷ hs) zero at = ap (λ (o : Option Hand). option_map (duty_of place task) o) at
    mapped (h ∷ hs) (suc number) at = mapped hs number at

-- as many duties as hands
pub duties_long : (setting : Setting) (place : ℕ) (task : Task) → length (duties_at setting place (task ∷ [])) ≡ length (hands_of_task (gateway_count setting.script.gateways) place task.work)
unfolding duties_from
duties_long setting place task =
    ap (length {A = Duty}) (append-nil (map (duty_of place task) (hands_of_task (gateway_count setting.script.gateways) place task.work)))
    ∙ length-map (hands_of_task (gateway_count setting.script.gateways) place task.work) (duty_of place task)

-- the duties behind one may begin
begins_behind : (setting : Setting) (ds : List Duty) (number : ℕ) (d : Duty) → slice_get ds number ≡ Some d → MayAllBegin setting ds → MayAllBegin setting (drop (number + 1) ds)
begins_behind setting [] number d at all = absurd (cc (at))
begins_behind setting (x ∷ ds) zero d at all = all.1
begins_behind setting (x ∷ ds) (suc number) d at all = let e : suc number + 1 ≡ suc (number + 1) = omega arith in rw e (begins_behind setting ds number d at all.1)

-- those of a task that the script allows may
pub task_begins : (setting : Setting) (place : ℕ) (task : Task) → IsLawfulScript setting.script → IsLawfulWork setting.script.gateways setting.script.blocks (length setting.script.selectors) task.work → MayAllBegin setting (duties_at setting place (task ∷ []))
task_begins setting place task lawful allowed =
    duties_begin setting (gateway_count setting.script.gateways) place (task ∷ []) (may_begin setting (task ∷ []) lawful (All-cons (λ t. IsLawfulWork setting.script.gateways setting.script.blocks (length setting.script.selectors) t.work) task [] allowed (All-nil (λ t. IsLawfulWork setting.script.gateways setting.script.blocks (length setting.script.selectors) t.work))))

-- ---- one part after another

module _ (setting : Setting) (seat : Hand → ℕ) (place : ℕ) (task : Task) (views : Holdings) where
  abbrev duties : List Duty
  duties = duties_at setting place (task ∷ [])

  abbrev own_duty : Hand → Duty
  own_duty hand = record { place = place; hand = hand; task = task }

  -- So many parts were done to their ends. What completes the rest completes them all.
  pub record Front (number : ℕ) (gateways : List Sight) (old new : List Entry) (parts : List Part) : Type 0 where
    pub made : List Entry
    pub entries : new ≡ old ++ made
    pub ends : List End
    pub count : length ends ≡ number
    pub after : Holdings
    pub onward : (entries : List Entry) (later : List End) (last : Holdings) → InLine setting seat after (drop number duties) entries later last → InLine setting seat views duties (made ++ entries) (ends ++ later) last
    pub shows : AreSeen after gateways
    pub all : AllZip (IsPart task.work) ends parts

  pub none_done : (gateways : List Sight) (journal : List Entry) (parts : List Part) → parts ≡ [] → AreSeen views gateways → Front 0 gateways journal journal parts
  none_done gateways journal parts none shows = subst (λ (l : List Part). Front 0 gateways journal journal l) (sym none) (record {
    made = [];
    entries = sym (append-nil journal);
    ends = [];
    count = refl;
    after = views;
    onward = λ entries later last run. subst (λ (ds : List Duty). InLine setting seat views ds entries later last) (drop_none duties) run;
    shows = shows;
    all = tt;
  })

  both : (one two : List Entry) (old mid new : List Entry) → mid ≡ old ++ one → new ≡ mid ++ two → new ≡ old ++ (one ++ two)
  both one two old mid new first later = later ∙ ap (λ (l : List Entry). l ++ two) first ∙ append_assoc old one two

  module _ (number : ℕ) (hand : Hand) (shown gateways : List Sight) (old mid new : List Entry) (parts : List Part) (f : Front number shown old mid parts) (at : slice_get duties number ≡ Some (own_duty hand)) where
    next : drop number duties ≡ own_duty hand ∷ drop (number + 1) duties
    next = drop_place duties number (own_duty hand) at

    one_more : (one : Part) (p : PartStep (line setting seat) (duty_of place task hand) f.after gateways mid new (Ok one)) (end : Option End) → p.end ≡ end → CameBy task.work end (Ok one) → Front (number + 1) gateways old new (parts ++ one ∷ [])
    one_more one p None is by = absurd by
    one_more one p (Some end) is by = record {
      made = f.made ++ p.made;
      entries = both f.made p.made old mid new f.entries p.entries;
      ends = f.ends ++ end ∷ [];
      count = omega (arith, length-append f.ends (end ∷ []), f.count);
      after = with_holding f.after (gateway_of hand) p.after;
      onward = λ entries later last run.
          subst (λ (es : List Entry). InLine setting seat views duties es ((f.ends ++ end ∷ []) ++ later) last) (sym (append_assoc f.made p.made entries))
          (subst (λ (l : List End). InLine setting seat views duties (f.made ++ (p.made ++ entries)) l last) (sym (append_assoc f.ends (end ∷ []) later))
          (f.onward (p.made ++ entries) (end ∷ later) last
          (subst (λ (ds : List Duty). InLine setting seat f.after ds (p.made ++ entries) (end ∷ later) last) (sym next)
          (inl (p.made, entries, end, later, p.after, refl, p.seats, subst (λ (e : Option End). TaskRun setting (who_does seat hand) place task.work (holding_of f.after (gateway_of hand)) p.made e p.after) is p.run, refl, run)))));
      shows = p.shows;
      all = AllZip-push (IsPart task.work) f.ends parts end one f.all by;
    }

    pub part_more : (came : Result Part Broken) (one : Part) (made : List Part) → came ≡ Ok one → made ≡ parts ++ one ∷ [] → PartStep (line setting seat) (duty_of place task hand) f.after gateways mid new came → Front (number + 1) gateways old new made
    part_more came one made ok is p =
        let q = subst (λ (c : Result Part Broken). PartStep (line setting seat) (duty_of place task hand) f.after gateways mid new c) ok p in
        subst (λ (l : List Part). Front (number + 1) gateways old new l) (sym is) (one_more one q q.end refl q.by)

    -- what an operation of the part leads to
    on_end : (begin : MayAllBegin setting duties) (made : List Entry) (end : Option End) (held : Holding) → All (λ (e : Entry). e.seat ≡ seat hand) made → TaskRun setting (who_does seat hand) place task.work (holding_of f.after (gateway_of hand)) made end held
        → (run : List End × Holdings) × InLine setting seat views duties (f.made ++ made) run.0 run.1
    on_end begin made None held seats run = (
      (f.ends ++ [], with_holding f.after (gateway_of hand) held),
      f.onward made [] (with_holding f.after (gateway_of hand) held)
          (subst (λ (ds : List Duty). InLine setting seat f.after ds made [] (with_holding f.after (gateway_of hand) held)) (sym next) (inr (held, seats, run, refl, refl))),
    )
    on_end begin made (Some end) held seats run =
        let last = with_holding f.after (gateway_of hand) held in (
          (f.ends ++ end ∷ [], last),
          f.onward made (end ∷ []) last
              (subst (λ (ds : List Duty). InLine setting seat f.after ds made (end ∷ []) last) (sym next)
              (inl (made, [], end, [], held, sym (append-nil made), seats, run, refl, nothing setting seat last (drop (number + 1) duties) (begins_behind setting duties number (own_duty hand) at begin)))),
        )

    none_by : (end : Option End) (why : Broken) → CameBy task.work end (Err why) → end ≡ None
    none_by None why by = refl
    none_by (Some end) broken.Full by = absurd by
    none_by (Some end) broken.NoMemory by = absurd by

    pub part_broken : (begin : MayAllBegin setting duties) (came : Result Part Broken) (why : Broken) → came ≡ Err why → PartStep (line setting seat) (duty_of place task hand) f.after gateways mid new came → TaskStep (line setting seat) (one_of place task) views gateways old new (Err why)
    part_broken begin came why is p =
        let q = subst (λ (c : Result Part Broken). PartStep (line setting seat) (duty_of place task hand) f.after gateways mid new c) is p in
        let last = with_holding f.after (gateway_of hand) q.after in
        let within : number < length duties = slice_get_within duties number (own_duty hand) at in
        record {
          made = f.made ++ q.made;
          entries = both f.made q.made old mid new f.entries q.entries;
          ends = f.ends ++ [];
          after = last;
          run = f.onward q.made [] last (subst (λ (ds : List Duty). InLine setting seat f.after ds q.made [] last) (sym next) (inr (q.after, q.seats, subst (λ (e : Option End). TaskRun setting (who_does seat hand) place task.work (holding_of f.after (gateway_of hand)) q.made e q.after) (none_by q.end why q.by) q.run, refl, refl)));
          shows = tt;
          whole = cut why (omega (arith, within, f.count, length-append f.ends []));
          due = broke why q;
        }
      where
        cut : (why : Broken) → length (f.ends ++ []) < length duties → IsWhole setting place task (f.ends ++ []) (Err why)
        cut broken.Full less = less
        cut broken.NoMemory less = tt

        broke : (why : Broken) (q : PartStep (line setting seat) (duty_of place task hand) f.after gateways mid new (Err why)) → WhenFull {X = Outcome} (Err why) (IsDueInLine setting seat views duties (f.made ++ q.made))
        broke broken.NoMemory q = tt
        broke broken.Full q = (
          seat hand,
          (
            (q.due).0,
            (q.due).1,
            λ seen answer.
                let e = entry_of (seat hand) (q.due).0 seen in
                let next = (q.due).2 seen answer in
                let on = on_end begin (q.made ++ e ∷ []) next.0 next.1.0 (All-push (λ (x : Entry). x.seat ≡ seat hand) q.made e q.seats refl) next.1.1 in
                (on.0, subst (λ (es : List Entry). InLine setting seat views duties es on.0.0 on.0.1) (sym (append_assoc f.made q.made (e ∷ []))) on.1),
          ),
        )

  -- all parts were done, and what they came to was gathered, or memory was wanting for that
  pub all_done : (number : ℕ) (gateways : List Sight) (old new : List Entry) (parts : List Part) (o : Result Outcome Broken) → Front number gateways old new parts → number ≡ length duties → o ≢ Err broken.Full
      → ((outcome : Outcome) → o ≡ Ok outcome → IsOutcomeOf task.work parts outcome) → TaskStep (line setting seat) (one_of place task) views gateways old new o
  all_done number gateways old new parts o f all why is = record {
    made = f.made;
    entries = f.entries;
    ends = f.ends;
    after = f.after;
    run = subst (λ (es : List Entry). InLine setting seat views duties es f.ends f.after) (append-nil f.made) (subst (λ (l : List End). InLine setting seat views duties (f.made ++ []) l f.after) (append-nil f.ends)
        (f.onward [] [] f.after (subst (λ (ds : List Duty). InLine setting seat f.after ds [] [] f.after) (sym (drop_all number duties (omega (arith, all)))) (refl, refl, refl))));
    shows = when_done o (AreSeen f.after gateways) f.shows;
    whole = came o why (λ outcome same. (f.count ∙ all, (parts, f.all, is outcome same)));
    due = none_due o why;
  }
    where
      came : (o : Result Outcome Broken) → o ≢ Err broken.Full → ((outcome : Outcome) → o ≡ Ok outcome → (length f.ends ≡ length duties) × IsOutcome task.work f.ends outcome) → IsWhole setting place task f.ends o
      came (Ok outcome) why is = is outcome refl
      came (Err broken.Full) why is = absurd (why refl)
      came (Err broken.NoMemory) why is = tt

      none_due : (o : Result Outcome Broken) → o ≢ Err broken.Full → WhenFull o (IsDueInLine setting seat views duties f.made)
      none_due (Ok outcome) why = tt
      none_due (Err broken.Full) why = absurd (why refl)
      none_due (Err broken.NoMemory) why = tt

  -- memory was wanting before the first part
  pub none_begun : (gateways : List Sight) (journal : List Entry) → MayAllBegin setting duties → TaskStep (line setting seat) (one_of place task) views gateways journal journal (Err broken.NoMemory)
  none_begun gateways journal begin = record {
    made = [];
    entries = sym (append-nil journal);
    ends = [];
    after = views;
    run = nothing setting seat views duties begin;
    shows = tt;
    whole = tt;
    due = tt;
  }
