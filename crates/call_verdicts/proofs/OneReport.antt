-- A journal tells the report: two whole runs of one script that leave one journal print the same.
use Rattle.base.proofs.Membership.{any_of_member, contains_first, contains_later, each_member, member_cases, no_member}
use Rattle.base.proofs.Pairs.{first_in_zip}
use Rattle.std.proofs.Common.{◌≡◌, inl, inr, ℕ, ◌+◌, Bool, true, false, List, [], ◌∷◌, ◌++◌, Contains, Option, Some, None, refl, sym, ◌∙◌, ap, ap₂, subst, arith}
use Rattle.std.specs.Prelude.{slice_get}
use Rattle.std.specs.List.{AllZip, list_all, list_any, zip}
use Rattle.std.specs.List.Sorted.{IsStrictlySortedBy}
use Rattle.std.specs.Ordering.{nat_cmp}
use Rattle.std.specs.declared.cmp.Ordering.TheVariants.{Less}
use Rattle.std.proofs.lemmas.Bool.Decides.{nat_tests}
use Rattle.std.proofs.lemmas.Option.{same_Some}
use Rattle.std.proofs.lemmas.List.Elements.{All-contains}
use Rattle.label_sets.specs.declared.series.Series.{Series}
use Rattle.world_core.specs.declared.entry.Entry.{Entry}
use Rattle.script_workers.specs.Hands.{gateway_count, gateway_of, hands_of, hands_of_task, places_from, same_hand, seats_after, worker_of, workers_from}
use Rattle.script_workers.specs.Whose.{IsFor, IsTaskOf, does_alone, asks, syncs}
use Rattle.script_workers.specs.declared.hand.Hand.{Hand}
use Rattle.script_workers.specs.declared.hand.Hand.TheVariants as hands
use Rattle.script_workers.specs.declared.phase.Phase.{Phase}
use Rattle.script_workers.specs.declared.task.Task.{Task}
use Rattle.script_workers.specs.Works.{asks_all}
use Rattle.script_workers.specs.declared.work.Work.{Work}
use Rattle.script_workers.specs.declared.work.Work.TheVariants as work
use Rattle.script_workers.specs.declared.worker.Worker.{Worker}
use Rattle.script_workers.proofs.HandLaws.{itself}
use Rattle.script_workers.proofs.StaffLaws.{are_places}
use Rattle.script_core.specs.Workers.{seats_before, workers_after, workers_of}
use Rattle.script_core.specs.declared.script.Script.{Script}
use Rattle.report_lines.specs.lifecycle_core.specs.Conducts.{CameTo}
use Rattle.report_lines.specs.lifecycle_core.specs.Setting.{Setting}
use Rattle.report_lines.specs.lifecycle_core.specs.Tasks.{End, answered, cleaned, compacted, not_asked, refused, stopped, synced, uploaded, without_view}
use Rattle.vertical_merge.proofs.OneMerge.{one_merge}
use Rattle.report_lines.specs.lifecycle_core.proofs.phases.HandLists.{Apart, joins_from}
use Rattle.report_lines.specs.lifecycle_core.proofs.phases.OneCut.{cut_is_unfinished, cuts_tell}
use Rattle.report_lines.specs.lifecycle_core.proofs.phases.OneEnding.{ends_tell}
use Rattle.report_lines.specs.script_running.specs.Outcomes.{IsOutcome, IsOutcomeOf, IsPart, IsQueryOutcome, IsWhole, Outcome, OutcomeBy, Part, PhasesCame, TaskCame, TasksCame, answers_of, is_as_asked}
use Rattle.report_lines.specs.script_running.proofs.GivenParts.{same_parts}
use Rattle.report_lines.specs.script_running.specs.declared.outcome.NoAnswer.{NoAnswer}
use Rattle.report_lines.specs.script_running.specs.declared.came.Came.TheVariants as outcome
use Rattle.report_lines.specs.script_running.specs.declared.outcome.QueryOutcome.{QueryOutcome}
use Rattle.report_lines.specs.script_running.specs.declared.outcome.QueryOutcome.TheVariants as query
use Rattle.report_lines.specs.script_running.specs.declared.outcome.QueryPart.{QueryPart}
use Rattle.querier.specs.Gathered.{IsGathered, gathered_samples}
use Rattle.querier.specs.declared.answer.Answer.{Answer}
use Rattle.querier.specs.declared.answer.Names.{Names}
use Rattle.report_lines.specs.breach_finding.specs.declared.found.Breach.{Breach}
use Rattle.report_lines.specs.breach_finding.proofs.OneAnswer.{one_answer}
use Rattle.script_core.specs.Lawful.{IsLawfulScript}
use Rattle.report_lines.specs.BreachLines.{breach_text}
use Rattle.call_verdicts.specs.Verdicts.{IsFullRun, IsReport, IsWholeRun}
use Rattle.report_lines.specs.Telling.{report_of, tasks_of}

-- ---- one worker does a task

not_less : (n : ℕ) → nat_cmp n n ≡ Less → ⊥
not_less n less = grind (arith, nat_tests, less)

zip_once : (places : List ℕ) (own : List End) (place : ℕ) (one other : End) → IsStrictlySortedBy nat_cmp places → Contains (zip places own) (place, one) → Contains (zip places own) (place, other) → one ≡ other
unfolding IsStrictlySortedBy
zip_once [] own place one other up a b = absurd (no_member (place, one) a)
zip_once (p ∷ ps) [] place one other up a b = absurd (no_member (place, one) a)
zip_once (p ∷ ps) (x ∷ own) place one other up a b =
    let apart : (e : End) → p ≡ place → Contains (zip ps own) (place, e) → ⊥ =
    λ e same later. not_less place (subst (λ (n : ℕ). nat_cmp n place ≡ Less) same (each_member (λ (y : ℕ). nat_cmp p y ≡ Less) ps place up.0 (first_in_zip ps own place e later))) in
    elim (member_cases (p, x) (place, one) (zip ps own) a) [
      | inl first ↦ elim (member_cases (p, x) (place, other) (zip ps own) b) [ inl second ↦ sym (ap (λ (e : ℕ × End). e.1) first) ∙ ap (λ (e : ℕ × End). e.1) second | inr later ↦ absurd (apart other (ap (λ (e : ℕ × End). e.0) first) later) ]
      | inr early ↦ elim (member_cases (p, x) (place, other) (zip ps own) b) [ inl second ↦ absurd (apart one (ap (λ (e : ℕ × End). e.0) second) early) | inr later ↦ zip_once ps own place one other up.1 early later ]
    ]

module _ (gateways : ℕ) (tasks : List Task) where
  alone_at : (own place : ℕ) (w : Work) → IsFor gateways (hands.Alone own) place w → own ≡ place
  alone_at own place w (does_alone none apart hand) = cc (hand)
  alone_at own place w (syncs gateway is hand) = absurd (cc (hand))
  alone_at own place w (asks gateway is hand below) = absurd (cc (hand))

  hand_by : (one other : Hand) (place : ℕ) (w v : Work) → gateway_of one ≡ gateway_of other → IsFor gateways one place w → IsFor gateways other place v → one ≡ other
  hand_by (hands.Alone a) (hands.Alone b) place w v same is so = ap hands.Alone (alone_at a place w is ∙ sym (alone_at b place v so))
  hand_by (hands.Alone a) (hands.Gateway b) place w v same is so = absurd (cc (same))
  hand_by (hands.Gateway a) (hands.Alone b) place w v same is so = absurd (cc (same))
  hand_by (hands.Gateway a) (hands.Gateway b) place w v same is so = ap hands.Gateway (cc (same))

  -- of one gateway, or of none, one hand does the task at a place
  one_hand : (one other : Hand) (place : ℕ) → gateway_of one ≡ gateway_of other → Contains (places_from gateways one 0 tasks) place → Contains (places_from gateways other 0 tasks) place → one ≡ other
  one_hand one other place same a b =
      let is = All-contains (IsTaskOf gateways tasks one) (places_from gateways one 0 tasks) place (are_places gateways tasks one).only a in
      let so = All-contains (IsTaskOf gateways tasks other) (places_from gateways other 0 tasks) place (are_places gateways tasks other).only b in
      hand_by one other place is.task.work so.task.work same is.whose so.whose

  -- a worker is that of a hand
  record IsHands (hs : List Hand) (worker : Worker) : Type 0 where
    hand : Hand
    among : Contains hs hand
    gateway : worker.gateway ≡ gateway_of hand
    places : worker.tasks ≡ places_from gateways hand 0 tasks

  hand_among : (before : ℕ) (hs : List Hand) (ends : List (List End)) (worker : Worker) (own : List End) → Contains (zip (workers_from gateways before tasks hs) ends) (worker, own) → IsHands hs worker
  unfolding workers_from
  hand_among before [] ends worker own among = absurd (no_member (worker, own) among)
  hand_among before (h ∷ hs) [] worker own among = absurd (no_member (worker, own) among)
  hand_among before (h ∷ hs) (x ∷ ends) worker own among =
      elim (member_cases (worker_of gateways (seats_after before 1) h tasks, x) (worker, own) (zip (workers_from gateways (seats_after before 1) tasks hs) ends) among) [
        | inl first ↦ let same : worker_of gateways (seats_after before 1) h tasks ≡ worker = ap (λ (e : Worker × List End). e.0) first in
            record { hand = h; among = contains_first h hs; gateway = ap (λ (w : Worker). w.gateway) (sym same); places = ap (λ (w : Worker). w.tasks) (sym same) }
        | inr later ↦ let rest = hand_among (seats_after before 1) hs ends worker own later in
            record { hand = rest.hand; among = contains_later h rest.hand hs rest.among; gateway = rest.gateway; places = rest.places }
      ]

  -- a worker in whose tasks the place is, of the hand's gateway, is none of the others
  apart_from : (before : ℕ) (h : Hand) (hs : List Hand) (ends : List (List End)) (worker : Worker) (own : List End) (place : ℕ) (end : End) → list_any (same_hand h) hs ≡ false → Contains (places_from gateways h 0 tasks) place
      → Contains (zip (workers_from gateways before tasks hs) ends) (worker, own) → worker.gateway ≡ gateway_of h → Contains (zip worker.tasks own) (place, end) → ⊥
  apart_from before h hs ends worker own place end none here among of came =
      let by = hand_among before hs ends worker own among in
      let there : Contains (places_from gateways by.hand 0 tasks) place = subst (λ (ps : List ℕ). Contains ps place) by.places (first_in_zip worker.tasks own place end came) in
      let same : h ≡ by.hand = one_hand h by.hand place (sym of ∙ by.gateway) here there in
      let found : list_any (same_hand h) hs ≡ true = any_of_member (same_hand h) hs by.hand by.among (subst (λ (x : Hand). same_hand h x ≡ true) same (itself h)) in
      let clash : true ≡ false = sym found ∙ none in absurd (cc (clash))

  -- what a worker came to is what the same worker, written otherwise, came to
  came_at : (head worker : Worker) (x own : List End) (place : ℕ) (end : End) → ◌≡◌ {A = Worker × List End} (head, x) (worker, own) → Contains (zip worker.tasks own) (place, end) → Contains (zip head.tasks x) (place, end)
  came_at head worker x own place end same came = subst (λ (p : Worker × List End). Contains (zip p.0.tasks p.1) (place, end)) (sym same) came

  -- the head's worker and one of the others, of one gateway, did not both come to a task
  head_apart : (before : ℕ) (h : Hand) (hs : List Hand) (x : List End) (ends : List (List End)) (gateway : Option ℕ) (place : ℕ) (one other : End) (head w v : Worker) (own also : List End)
      → head ≡ worker_of gateways before h tasks → list_any (same_hand h) hs ≡ false → ◌≡◌ {A = Worker × List End} (head, x) (w, own) → Contains (zip (workers_from gateways before tasks hs) ends) (v, also) → w.gateway ≡ gateway → v.gateway ≡ gateway
      → Contains (zip w.tasks own) (place, one) → Contains (zip v.tasks also) (place, other) → ⊥
  head_apart before h hs x ends gateway place one other head w v own also by none first later is so came went =
      let of : w.gateway ≡ gateway_of h = sym (ap (λ (p : Worker × List End). p.0.gateway) first) ∙ ap (λ (u : Worker). u.gateway) by in
      let here : Contains head.tasks place = first_in_zip head.tasks x place one (came_at head w x own place one first came) in
      apart_from before h hs ends v also place other none (subst (λ (u : Worker). Contains u.tasks place) by here) later (so ∙ sym is ∙ of) went

  came_by : (before : ℕ) (hs : List Hand) (ends : List (List End)) (gateway : Option ℕ) (place : ℕ) (one other : End) → Apart hs → (w v : Worker) (own also : List End)
      → Contains (zip (workers_from gateways before tasks hs) ends) (w, own) → Contains (zip (workers_from gateways before tasks hs) ends) (v, also) → w.gateway ≡ gateway → v.gateway ≡ gateway
      → Contains (zip w.tasks own) (place, one) → Contains (zip v.tasks also) (place, other) → one ≡ other
  unfolding workers_from
  came_by before [] ends gateway place one other apart w v own also a b is so came went = absurd (no_member (w, own) a)
  came_by before (h ∷ hs) [] gateway place one other apart w v own also a b is so came went = absurd (no_member (w, own) a)
  came_by before (h ∷ hs) (x ∷ ends) gateway place one other apart w v own also a b is so came went =
      let seat = seats_after before 1 in
      let head : Worker = worker_of gateways seat h tasks in
      let later : List (Worker × List End) = zip (workers_from gateways seat tasks hs) ends in
      elim (member_cases (head, x) (w, own) later a) [
        | inl first ↦ elim (member_cases (head, x) (v, also) later b) [
          | inl second ↦ zip_once head.tasks x place one other (are_places gateways tasks h).ascend (came_at head w x own place one first came) (came_at head v x also place other second went)
          | inr next ↦ absurd (head_apart seat h hs x ends gateway place one other head w v own also refl apart.0 first next is so came went)
        ]
        | inr early ↦ elim (member_cases (head, x) (v, also) later b) [
          | inl second ↦ absurd (head_apart seat h hs x ends gateway place other one head v w also own refl apart.0 second early so is went came)
          | inr next ↦ came_by seat hs ends gateway place one other apart.1 w v own also early next is so came went
        ]
      ]

-- ---- outcomes

part_once : (w : Work) (end : End) (one other : Part) → IsPart w end one → IsPart w end other → one ≡ other
part_once (work.Upload ulid stop) (uploaded end) one other is so = is ∙ sym so
part_once (work.Upload ulid stop) (refused cause) one other is so = is ∙ sym so
part_once (work.Upload ulid stop) (stopped count) one other is so = is ∙ sym so
part_once (work.Sync gateway) (synced end) one other is so = is ∙ sym so
part_once (work.Compact stop) (compacted end) one other is so = is ∙ sym so
part_once (work.Compact stop) (stopped count) one other is so = is ∙ sym so
part_once (work.Clean stop) (cleaned end) one other is so = is ∙ sym so
part_once (work.Clean stop) (stopped count) one other is so = is ∙ sym so
part_once (work.Query low high selector) (answered used end) one other is so = is ∙ sym so
part_once (work.Query low high selector) without_view one other is so = is ∙ sym so
part_once (work.Query low high selector) not_asked one other is so = is ∙ sym so
part_once w end one other is so = absurd is

parts_once : (w : Work) (ends : List End) (one other : List Part) → AllZip (IsPart w) ends one → AllZip (IsPart w) ends other → one ≡ other
parts_once w [] [] [] a b = refl
parts_once w [] [] (q ∷ other) a b = absurd b
parts_once w [] (p ∷ one) other a b = absurd a
parts_once w (end ∷ ends) [] other a b = absurd a
parts_once w (end ∷ ends) (p ∷ one) [] a b = absurd b
parts_once w (end ∷ ends) (p ∷ one) (q ∷ other) a b =
    ap (λ (x : Part). x ∷ one) (part_once w end p q a.0 b.0) ∙ ap (λ (l : List Part). q ∷ l) (parts_once w ends one other a.1 b.1)

-- one answer is gathered
answer_once : (answers : List Answer) (one other : Answer) → IsGathered answers one → IsGathered answers other → one ≡ other
answer_once answers one other a b =
    ap (λ (s : List Series). record { series = s; sources = one.sources }) (one_merge (gathered_samples answers) one.series other.series a.merged b.merged)
    ∙ ap (λ (l : List ℕ). record { series = other.series; sources = l }) (a.sources ∙ sym b.sources)

query_once : (own : List QueryPart) (one other : QueryOutcome) → IsQueryOutcome own one → IsQueryOutcome own other → one ≡ other
query_once own (query.NoAnswer gateway why) (query.NoAnswer other because) is so =
    let same : ◌≡◌ {A = ℕ × NoAnswer} (gateway, why) (other, because) = same_Some (gateway, why) (other, because) (sym is ∙ so) in
    ap (λ (p : ℕ × NoAnswer). query.NoAnswer p.0 p.1) same
query_once own (query.NoAnswer gateway why) (query.Answer other names) is so = absurd (cc (is, so.0))
query_once own (query.Answer one names) (query.NoAnswer gateway why) is so = absurd (cc (is.0, so))
query_once own (query.Answer one names) (query.Answer other others) is so =
    ap (λ (x : Answer). query.Answer x names) (answer_once (answers_of own) one other is.1 so.1)
    ∙ ap (λ (l : List Names). query.Answer other l) (is.2 ∙ sym so.2)

whole_once : (part : Part) (one other : Outcome) → IsWhole part one → IsWhole part other → one ≡ other
whole_once (outcome.Upload end) one other is so = is ∙ sym so
whole_once (outcome.Unshipped cause) one other is so = is ∙ sym so
whole_once (outcome.Sync end) one other is so = is ∙ sym so
whole_once (outcome.Compact end) one other is so = is ∙ sym so
whole_once (outcome.Clean end) one other is so = is ∙ sym so
whole_once (outcome.Query own) one other is so = absurd is

alone_once : (parts : List Part) (own too : Part) (one other : Outcome) → parts ≡ own ∷ [] → parts ≡ too ∷ [] → IsWhole own one → IsWhole too other → one ≡ other
alone_once parts own too one other are also is so =
    let same : own ≡ too = cc (are, also) in whole_once own one other is (subst (λ (p : Part). IsWhole p other) (sym same) so)

once_by : (all : Bool) (parts : List Part) (one other : Outcome) → OutcomeBy all parts one → OutcomeBy all parts other → one ≡ other
once_by false parts one other (own, are, is) (too, also, so) = alone_once parts own too one other are also is so
once_by true parts one other (own, end, are, is, o) (too, also, so_are, so, p) =
    let same : own ≡ too = same_parts own too (sym are ∙ so_are) in
    o ∙ ap outcome.Query (query_once own end also is (subst (λ (l : List QueryPart). IsQueryOutcome l also) (sym same) so)) ∙ sym p

of_once : (w : Work) (parts : List Part) (one other : Outcome) → IsOutcomeOf w parts one → IsOutcomeOf w parts other → one ≡ other
of_once w parts one other is so = once_by (asks_all w) parts one other is so

pub outcome_once : (w : Work) (own : List End) (one other : Outcome) → IsOutcome w own one → IsOutcome w own other → one ≡ other
outcome_once w own one other (parts, zipped, of) (others, also, so) =
    of_once w parts one other of (subst (λ (l : List Part). IsOutcomeOf w l other) (sym (parts_once w own parts others zipped also)) so)

module _ (script : Script) where
  came_after : (before : ℕ) (o : Option Phase) (ends : List (List End)) (gateway : Option ℕ) (place : ℕ) (one other : End) → CameTo (workers_after script before o) ends gateway place one → CameTo (workers_after script before o) ends gateway place other → one ≡ other
  came_after before None ends gateway place one other a b = absurd (no_member (a.worker, a.own) a.among)
  came_after before (Some phase) ends gateway place one other a b =
      let gateways = gateway_count script.gateways in
      came_by gateways phase.tasks before (hands_of gateways phase.tasks) ends gateway place one other ((joins_from (λ (h : Hand). Unit {0}) gateways [] 0 phase.tasks).apart tt) a.worker b.worker a.own b.own a.among b.among a.is b.is a.came b.came

  module _ (number : ℕ) (ends : List (List End)) where
    own_once : (place : ℕ) (hs : List Hand) (one other : List End) → AllZip (λ hand end. CameTo (workers_of script number) ends (gateway_of hand) place end) hs one → AllZip (λ hand end. CameTo (workers_of script number) ends (gateway_of hand) place end) hs other → one ≡ other
    own_once place [] [] [] a b = refl
    own_once place [] [] (z ∷ other) a b = absurd b
    own_once place [] (x ∷ one) other a b = absurd a
    own_once place (h ∷ hs) [] other a b = absurd a
    own_once place (h ∷ hs) (x ∷ one) [] a b = absurd b
    own_once place (h ∷ hs) (x ∷ one) (z ∷ other) a b =
        let first = came_after (seats_before script number) (slice_get script.phases number) ends (gateway_of h) place x z a.0 b.0 in
        let rest = own_once place hs one other a.1 b.1 in
        λ i. first i ∷ rest i

    task_once : (place : ℕ) (task : Task) (one other : Outcome) → TaskCame script (workers_of script number) ends place task one → TaskCame script (workers_of script number) ends place task other → one ≡ other
    task_once place task one other a b =
        let same = own_once place (hands_of_task (gateway_count script.gateways) place task.work) a.own b.own a.came b.came in
        outcome_once task.work a.own one other a.is (subst (λ (own : List End). IsOutcome task.work own other) (sym same) b.is)

    tasks_once : (place : ℕ) (tasks : List Task) (one other : List Outcome) → TasksCame script (workers_of script number) ends place tasks one → TasksCame script (workers_of script number) ends place tasks other → one ≡ other
    tasks_once place [] one other a b = a ∙ sym b
    tasks_once place (task ∷ tasks) [] other a b = absurd a
    tasks_once place (task ∷ tasks) (x ∷ one) [] a b = absurd b
    tasks_once place (task ∷ tasks) (x ∷ one) (z ∷ other) a b =
        let first = task_once place task x z a.0 b.0 in
        let rest = tasks_once (place + 1) tasks one other a.1 b.1 in
        λ i. first i ∷ rest i

  pub phases_once : (number : ℕ) (phases : List Phase) (ends : List (List (List End))) (one other : List Outcome) → PhasesCame script number phases ends one → PhasesCame script number phases ends other → one ≡ other
  phases_once number [] ends one other a b = a.1 ∙ sym b.1
  phases_once number (phase ∷ phases) [] one other a b = absurd a
  phases_once number (phase ∷ phases) (first ∷ later) one other (own, others, parts, tasks, rest) (own', others', parts', tasks', rest') =
      let here = tasks_once number first 0 phase.tasks own own' tasks tasks' in
      let there = phases_once (number + 1) phases later others others' rest rest' in
      parts ∙ ap₂ (λ (xs ys : List Outcome). xs ++ ys) here there ∙ sym parts'

-- ---- reports

pub report_once : (script : Script) (phases : List Phase) (ends : List (List (List End))) (one other : Bool) (text also : List ℕ) → IsReport script phases ends one text → IsReport script phases ends other also → (one ≡ other) × (text ≡ also)
report_once script phases ends one other text also a b =
    let same = phases_once script 0 phases ends a.outcomes b.outcomes a.came b.came in (
      a.flag ∙ ap (list_all is_as_asked) same ∙ sym b.flag,
      a.lines ∙ ap (report_of script (tasks_of phases)) same ∙ sym b.lines,
    )

pub journal_tells : (setting : Setting) (journal : List Entry) (one other : Bool) (text also : List ℕ) → IsLawfulScript setting.script → IsWholeRun setting one text journal → IsWholeRun setting other also journal → (one ≡ other) × (text ≡ also)
journal_tells setting journal one other text also lawful a b =
    let same = ends_tell setting journal a.ends b.ends a.run b.run a.finished b.finished in
    let told = report_once setting.script setting.script.phases a.ends one other a.lines b.lines a.report (subst (λ (ends : List (List (List End))). IsReport setting.script setting.script.phases ends other b.lines) (sym same) b.report) in
    let breach = one_answer setting setting.script.rules.tick.ms journal lawful (a.run).kept a.breach b.breach (a.breaks setting.shelf) (b.breaks setting.shelf) in (
      told.0,
      a.text_is ∙ ap (λ (l : List ℕ). l ++ breach_text a.breach) told.1 ∙ ap (λ (o : Option Breach). b.lines ++ breach_text o) breach ∙ sym b.text_is,
    )

-- ---- runs that the full journal broke off

pub full_journal_tells : (setting : Setting) (journal : List Entry) (text other : List ℕ) → IsFullRun setting text journal → IsFullRun setting other journal → text ≡ other
full_journal_tells setting journal text other a b =
    let same = cuts_tell setting journal a.done b.done a.told b.told a.cut b.cut in
    let report : IsReport setting.script a.done a.told b.as_asked other =
    subst (λ (phases : List Phase). IsReport setting.script phases a.told b.as_asked other) (sym same.0) (subst (λ (ends : List (List (List End))). IsReport setting.script b.done ends b.as_asked other) (sym same.1) b.report) in
    (report_once setting.script a.done a.told a.as_asked b.as_asked text other a.report report).1

pub full_is_not_whole : (setting : Setting) (journal : List Entry) (as_asked : Bool) (text other : List ℕ) → IsWholeRun setting as_asked text journal → IsFullRun setting other journal → ⊥
full_is_not_whole setting journal as_asked text other whole full =
    cut_is_unfinished setting journal full.done full.told whole.ends full.cut whole.run whole.finished
