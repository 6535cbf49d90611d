-- One phase more of a run beside: where it broke off, and how it goes on.
use Rattle.std.proofs.Common.{◌≡◌, ◌≢◌, inl, inr, ℕ, suc, ◌+◌, ◌<◌, List, [], ◌∷◌, ◌++◌, ◌^◌, length, map, take, drop, Contains, Option, None, Some, refl, sym, ◌∙◌, ap, subst, append-nil, arith, le_refl}
use Rattle.std.specs.Prelude.{Bool, true, false, MatchBool, Ok, Err, IfSome, OnOk, Result, slice_get}
use Rattle.std.specs.List.{All, AllZip}
use Rattle.std.proofs.lemmas.List.{length-append, length-take-le, take-append-drop}
use Rattle.std.proofs.lemmas.List.Elements.{All-contains, All-from_recursion, All-head, All-weaker}
use Rattle.std.proofs.lemmas.Option.{slice_get_within}
use Rattle.base.proofs.Lists.{drop_place, take_place}
use Rattle.base.proofs.Membership.{all_members, contains_place, place_of_member}
use Rattle.base.proofs.Pairs.{AllZip-as_long}
use Rattle.world_core.specs.Operations.{entry_of}
use Rattle.world_core.specs.declared.act.Acted.TheVariants.{Done, Full, NoMemory}
use Rattle.world_core.specs.declared.entry.Entry.{Entry}
use Rattle.world_core.specs.declared.op.Op.TheVariants.{Clock}
use Rattle.world_core.specs.declared.seen.Seen.{Seen}
use Rattle.world_turn.specs.Passes.{view_of}
use Rattle.world_turn.specs.Closing.{AllJoined}
use Rattle.world_turn.specs.Turns.{Acts, IsLater, IsSame}
use Rattle.world_turn.specs.declared.pass.Pass.{Pass}
use Rattle.world_turn.specs.declared.view.View.{View as Known}
use Rattle.phase_runner.specs.Phases.{HasRun, Runs}
use Rattle.script_workers.specs.Hands.{gateway_count, hands_of, places_from}
use Rattle.script_workers.specs.Staff.{IsWorkerOf}
use Rattle.script_workers.specs.Whose.{IsFor, IsTaskOf, does_alone, asks, syncs}
use Rattle.script_workers.specs.declared.hand.Hand.{Hand}
use Rattle.script_workers.specs.declared.hand.Hand.TheVariants as hands
use Rattle.script_workers.specs.declared.phase.Phase.{Phase}
use Rattle.script_workers.specs.declared.task.Task.{Task}
use Rattle.script_workers.specs.declared.work.Work.{Work}
use Rattle.script_workers.specs.declared.worker.Worker.{Worker}
use Rattle.script_workers.proofs.StaffLaws.{is_staff}
use Rattle.script_core.proofs.SeatLaws.{are_seated, room, seats_taken}
use Rattle.script_core.specs.Lawful.{IsLawfulPhase, IsLawfulScript, IsLawfulWork}
use Rattle.script_core.specs.Workers.{seats_before, workers_after, workers_before, workers_of}
use Rattle.script_core.specs.declared.script.Script.{Script}
use Rattle.lifecycle_core.specs.Conducts.{AreDone}
use Rattle.lifecycle_core.specs.Holdings.{Holdings}
use Rattle.lifecycle_core.specs.Setting.{Setting}
use Rattle.lifecycle_core.specs.Ways.{BeginsPhase}
use Rattle.lifecycle_core.proofs.phases.ActingRuns.{is_gateway}
use Rattle.lifecycle_core.proofs.phases.Fronts.{AreApart as Apart, apart_of, script_is_cut_well}
use Rattle.moment_core.specs.Limits.{moment_limit}
use Rattle.script_running.specs.Begun.{AreLeft, Made, WasBegun, ends_in, kept_in, workers_in}
use Rattle.script_running.specs.Cutting.{KnowsPhases, Passed}
use Rattle.script_running.specs.Ended.{AreInRow, HaveEnded, IsPostOf}
use Rattle.script_running.specs.Gathering.{HasGathered, HaveCome, HaveOwnGateways, Joined}
use Rattle.script_running.specs.Going.{HasCome, HasGone, HasReached, HasSeenFull, HasStopped, IfFull, IsClockSet, Met}
use Rattle.script_running.specs.Outcomes.{Outcome, PhasesCame, TasksCame}
use Rattle.script_running.specs.Lending.{Loan}
use Rattle.script_running.specs.Reporting.{tasks_in}
use Rattle.script_running.specs.Shelves.{setting_by}
use Rattle.script_running.specs.Workers.{IsAtWork, MayWork, Post}
use Rattle.script_running.specs.declared.came.Broken.{Broken}
use Rattle.script_running.specs.declared.came.Broken.TheVariants as broken
use Rattle.script_running.specs.declared.progress.Progress.{Progress}
use Rattle.script_running.specs.declared.shelf.ShelfBlock.{ShelfBlock}
use Rattle.script_running.specs.declared.sight.Sight.{Sight}
use Rattle.script_running.specs.declared.worker.WorkerEnd.{WorkerEnd}
use Rattle.script_running.proofs.Ending.{have_ended, was_begun, were_kept}
use Rattle.script_running.proofs.Gathered.{same_place}
use Rattle.script_running.proofs.Going.{gone_more}
use Rattle.script_running.proofs.JobSteps.{allowed}
use Rattle.script_running.proofs.Knowing.{knows_more, knows_on}
use Rattle.script_running.proofs.Reporting.{still_same, tasks_more}
use Rattle.script_running.proofs.Rows.{workers_in_row}

abbrev Kept : Type 0
Kept = ℕ × List Entry

-- one of two, by a test that is known
pub if_true : {P : Type 0} (Q : Type 0) (b : Bool) → b ≡ true → MatchBool b P Q → P
if_true Q true is p = p
if_true Q false is p = absurd (cc (is))

pub if_false : {Q : Type 0} (P : Type 0) (b : Bool) → b ≡ false → MatchBool b P Q → Q
if_false P true is q = absurd (cc (is))
if_false P false is q = q

-- every pass is still joined
pub joined_on : (v w : Known) → IsSame v w → AllJoined v → AllJoined w
joined_on v w same all = λ seat some less. subst (λ (ks : List Kept). Contains (map (λ (k : Kept). k.0) ks) seat) (sym same.joined) (all seat some (subst (λ (n : ℕ). seat < n) same.seats less))

-- no two workers of a phase are of one gateway
are_apart : (workers : List Worker) → Apart workers → HaveOwnGateways workers
are_apart [] apart = tt
are_apart (w ∷ workers) apart = (apart.0, are_apart workers apart.1)

pub phase_apart : (setting : Setting) (number : ℕ) → HaveOwnGateways (workers_of setting.script number)
phase_apart setting number = are_apart (workers_of setting.script number) (apart_of setting number)

within_some : (o : Option ℕ) (count : ℕ) → ((gateway : ℕ) → o ≡ Some gateway → gateway < count) → IfSome o (λ gateway. gateway < count)
within_some None count less = tt
within_some (Some gateway) count less = less gateway refl

-- ---- the workers of a phase

module _ (script : Script) (lawful : IsLawfulScript script) (place : ℕ) (phase : Phase) (at : slice_get script.phases place ≡ Some phase) where
  abbrev gateways : ℕ
  gateways = gateway_count script.gateways

  pub moment_lawful : phase.moment.ms < moment_limit
  moment_lawful = (All-contains (IsLawfulPhase script.gateways script.blocks (length script.selectors)) script.phases phase (lawful.phases).each (contains_place script.phases place phase at)).moment

  pub row : (splits : ℕ) → splits ≡ seats_before script place → AreInRow (splits + 1) (workers_of script place)
  row splits is =
      let inside = slice_get_within script.phases place phase at in
      let taken : seats_before script place ≡ length (workers_before script place) = seats_taken script place phase lawful (omega (arith, inside)) in
      subst (λ (n : ℕ). AreInRow (n + 1) (workers_of script place)) (sym (is ∙ taken)) (workers_in_row script place phase lawful at)

  pub next_seats : (before after count : ℕ) → before ≡ seats_before script place → count ≡ length (workers_of script place) → after ≡ before + count → after ≡ seats_before script (place + 1)
  next_seats before after count is counted sum =
      let inside = slice_get_within script.phases place phase at in
      let taken = seats_taken script place phase lawful (omega (arith, inside)) in
      let more = seats_taken script (suc place) phase lawful (omega (arith, inside)) in
      let both = length-append (workers_before script place) (workers_of script place) in
      let one_more : suc place ≡ place + 1 = omega arith in
      let next : seats_before script (suc place) ≡ seats_before script (place + 1) = ap (seats_before script) one_more in
      omega (arith, taken, more, both, next, is, counted, sum)

  pub few_seats : (before count : ℕ) → before ≡ seats_before script place → count ≡ length (workers_of script place) → before + count < 2 ^ 32
  few_seats before count is counted =
      let fit = room script place phase lawful at in
      let same = (are_seated script place phase lawful at).count in
      omega (arith, fit, same, is, counted)

  -- a worker's gateway is one of the script's
  gateway_of_hand : (h : Hand) (g : ℕ) → Contains (hands_of gateways phase.tasks) h → h ≡ hands.Gateway g → g < length script.gateways
  gateway_of_hand h g among is =
      let staff = is_staff gateways phase.tasks in
      some_task (places_from gateways h 0 phase.tasks) (All-contains (λ (x : Hand). places_from gateways x 0 phase.tasks ≢ []) (hands_of gateways phase.tasks) h staff.needed among) (staff.places h).only
    where
      of_task : (spot : ℕ) → IsTaskOf gateways phase.tasks h spot → g < length script.gateways
      of_task spot t = by_work (t.task).work t.whose (All-contains (λ (x : Task). IsLawfulWork script.gateways script.blocks (length script.selectors) x.work) phase.tasks t.task
          (allowed script place phase lawful at) (contains_place phase.tasks spot t.task t.is))
        where
          by_work : (w : Work) → IsFor gateways h spot w → IsLawfulWork script.gateways script.blocks (length script.selectors) w → g < length script.gateways
          by_work w (does_alone none apart whose) may = absurd (cc (whose, is))
          by_work w (syncs gateway one whose) may =
              let same : gateway ≡ g = cc (whose, is) in
              let less : gateway < length script.gateways = subst (IsLawfulWork script.gateways script.blocks (length script.selectors)) one may in
              omega (arith, same, less)
          by_work w (asks gateway one whose less) may = let same : gateway ≡ g = cc (whose, is) in omega (arith, same, less)

      some_task : (places : List ℕ) → places ≢ [] → All (IsTaskOf gateways phase.tasks h) places → g < length script.gateways
      some_task [] some only = absurd (some refl)
      some_task (p ∷ places) some only = of_task p (All-head (IsTaskOf gateways phase.tasks h) p places only)

-- ---- the phases behind a place

module _ (script : Script) (shelf : List ShelfBlock) (place : ℕ) (phase : Phase) (at : slice_get script.phases place ≡ Some phase) where
  abbrev own : Setting
  own = setting_by script shelf

  abbrev front_phases : List Phase
  front_phases = take place script.phases

  long : length front_phases ≡ place
  long = let inside = slice_get_within script.phases place phase at in length-take-le place script.phases (omega (arith, inside))

  parts : script.phases ≡ front_phases ++ phase ∷ drop (place + 1) script.phases
  parts = sym (take-append-drop place script.phases) ∙ ap (λ (l : List Phase). front_phases ++ l) (drop_place script.phases place phase at)

  module _ (before : Known) (sights : List Sight) (outcomes : List Outcome) (g : HasGone own before front_phases sights outcomes) where
    -- the phase was not begun
    unbegun : (now : Known) (why : Broken) → KnowsPhases now g.passed → IfFull why (HasSeenFull now) → HasStopped own now outcomes why
    unbegun now why knows full = record {
      done = front_phases;
      phase = phase;
      left = drop (place + 1) script.phases;
      phases = parts;
      passed = g.passed;
      held = g.held;
      so_far = g.so_far;
      came = g.came;
      stands = inl (knows, full);
    }

    pub no_room : HasStopped own before outcomes broken.NoMemory
    no_room = unbegun before broken.NoMemory g.knows tt

    pub clock_full : (after : Known) → Acts before (Clock phase.moment) Full after → IsLater before after → HasStopped own after outcomes broken.Full
    clock_full after acts later =
        unbegun after broken.Full (knows_on before after g.passed (acts.own ∙ append-nil before.own) acts.same.joined later.front g.knows)
        (acts.journal, ([], append-nil acts.journal ∙ sym acts.front), acts.full.0 refl)

    pub clock_wanting : (after : Known) → Acts before (Clock phase.moment) NoMemory after → IsLater before after → HasStopped own after outcomes broken.NoMemory
    clock_wanting after acts later = unbegun after broken.NoMemory (knows_on before after g.passed (acts.own ∙ append-nil before.own) acts.same.joined later.front g.knows) tt

    pub clock_refused : (after : Known) (why : Broken) → IsClockSet phase before after (Err why) → IsLater before after → HasStopped own after outcomes why
    clock_refused after broken.Full set later = clock_full after set later
    clock_refused after broken.NoMemory set later = clock_wanting after set later

  module _ (root : Pass) (sights : List Sight) (outcomes : List Outcome) (g : HasGone own (view_of root) front_phases sights outcomes) (first : root.seat ≡ 0) (set : Pass) (seen : Seen) (acts : Acts (view_of root) (Clock phase.moment) (Done seen) (view_of set)) where
    begins : BeginsPhase phase (entry_of (view_of root).seat (Clock phase.moment) seen)
    begins = record { seat = root.rests.sits ∙ first; sets = refl }

    -- none of its workers was begun
    pub idled : set.seat ≡ 0 → HasStopped own (view_of set) outcomes broken.NoMemory
    idled sits =
        let none : HasRun set set 0 [] = record {
          table = refl;
          root = sits;
          splits = omega arith;
          own = refl;
          front = ([], append-nil (view_of set).front);
          known = le_refl (view_of set).known;
          joined = sym (append-nil (view_of set).joined);
          tick = refl;
        } in
        record {
          done = front_phases;
          phase = phase;
          left = drop (place + 1) script.phases;
          phases = parts;
          passed = g.passed;
          held = g.held;
          so_far = g.so_far;
          came = g.came;
          stands = inr (inr (
            refl,
            record {
              one = record { clock = entry_of (view_of root).seat (Clock phase.moment) seen; kept = [] };
              begins = begins;
              none = refl;
              knows = knows_more {J = Post} {E = WorkerEnd} MayWork root set set (Clock phase.moment) seen 0 [] 1 [] [] g.passed g.knows acts none (omega arith) tt;
            },
          ));
        }

    module _ (loan : Loan) (lent : loan.script ≡ script) (its : loan.shelf ≡ shelf) (lawful : IsLawfulScript script) (splits : ℕ) (splits_are : splits ≡ seats_before script place) (workers : List Worker) (workers_are : workers ≡ workers_of script place) (posts : List Post) (sent : AllZip (IsPostOf loan place g.held) workers posts)
        (after : Pass) (count : ℕ) (kept : List Kept) (run : HasRun set after count kept) (others : List WorkerEnd) (runs : Runs MayWork (view_of set).known (view_of after).front (splits + 1) posts others kept) where
      abbrev one : Passed
      one = record { clock = entry_of (view_of root).seat (Clock phase.moment) seen; kept = kept }

      ended : (made : List Made) × (workers_in made ≡ workers) × (kept_in made ≡ kept) × HaveEnded own phase.tasks g.held (view_of after).front made others
      ended = have_ended script shelf loan lent its place phase g.held at (view_of set).known (view_of after).front (splits + 1) workers posts others kept sent (subst (AreInRow (splits + 1)) (sym workers_are) (row script lawful place phase at splits splits_are)) runs

      abbrev made : List Made
      made = ended.0

      -- by the number of the finished phases
      staff : workers_in made ≡ workers_of script (length front_phases)
      staff = ended.1 ∙ workers_are ∙ ap (workers_of script) (sym long)

      next : (holdings : Holdings) × AreLeft g.held made holdings × WasBegun own (length front_phases) phase g.held one (ends_in made) holdings
      next = was_begun own (script_is_cut_well own) (length front_phases) phase g.held one made staff ended.2 begins (were_kept own phase.tasks g.held (view_of after).front made others ended.3)

      knows : KnowsPhases (view_of after) (g.passed ++ one ∷ [])
      knows = knows_more {J = Post} {E = WorkerEnd} MayWork root set after (Clock phase.moment) seen count kept (splits + 1) posts others g.passed g.knows acts run (omega arith) runs

      in_row : AreInRow (splits + 1) (workers_in made)
      in_row = subst (AreInRow (splits + 1)) (sym (ended.1 ∙ workers_are)) (row script lawful place phase at splits splits_are)

      broke : (why : Broken) (later : List Outcome) → (later ≡ outcomes) × Met why others → HasStopped own (view_of after) later why
      broke why later met = record {
        done = front_phases;
        phase = phase;
        left = drop (place + 1) script.phases;
        phases = parts;
        passed = g.passed;
        held = g.held;
        so_far = g.so_far;
        came = subst (λ (os : List Outcome). PhasesCame script 0 front_phases (g.so_far).told os) (sym met.0) g.came;
        stands = inr (inl (record { one = one; begins = begins; others = others; made = made; workers = staff; kept = ended.2; have = ended.3; seat = splits + 1; row = in_row; knows = knows; met = met.1 }));
      }

      -- ---- what the phase comes to, by what its workers' ends come to together, and by the report

      abbrev joined_of : Holdings → List Made → Joined
      joined_of holdings made = record { number = place; phase = phase; before = g.held; after = holdings; front = (view_of after).front; made = made }

      module _ {P : Type 0} (tells : P → Script → List Task → List Outcome → Type 0) (report : P) (told : tells report script (tasks_in front_phases) outcomes) (mid new : Progress P) (same : mid.report ≡ report) (each : length new.sights.items ≡ length sights) where
        whole : HasGathered tells own (joined_of next.0 made) mid new → HasReached tells own (view_of after) (take (place + 1) script.phases) new
        whole h =
            let here : workers_of script place ≡ workers_of script (length front_phases) = ap (workers_of script) (sym long) in
            let ahead = take_place script.phases place phase at in
            record {
              outcomes = outcomes ++ h.own;
              gone = subst (λ (ps : List Phase). HasGone own (view_of after) ps new.sights.items (outcomes ++ h.own)) (sym ahead)
                  (gone_more own (view_of root) (view_of after) front_phases sights new.sights.items outcomes h.own phase one (ends_in made) next.0 g next.2 (subst (λ (ws : List Worker). AreDone ws (ends_in made)) here h.done) (subst (λ (ws : List Worker). TasksCame script ws (ends_in made) 0 phase.tasks h.own) here h.came) knows each h.seen);
              told = subst (λ (ts : List Task). tells new.report script ts (outcomes ++ h.own)) (tasks_more front_phases phase ∙ ap tasks_in (sym ahead))
                  (h.told (tasks_in front_phases) outcomes (subst (λ (r : P). tells r script (tasks_in front_phases) outcomes) (sym same) told));
            }

        comes : (came : Result (Unit {0}) Broken) → HaveCome others came → (came ≡ Err broken.Full → new.report ≡ mid.report) → OnOk came (HasGathered tells own (joined_of next.0 made) mid new) → HasCome tells own (view_of after) (take (place + 1) script.phases) new came
        comes (Ok done) met keeps h = whole h
        comes (Err why) met keeps h = record {
          outcomes = outcomes;
          stopped = broke why outcomes (refl, met);
          told = (report, still_same report new.report why (λ full. keeps full ∙ same), (front_phases, phase ∷ drop (place + 1) script.phases, parts, told));
        }

        pub phase_comes : (came : Result (Unit {0}) Broken) → HaveCome others came → (came ≡ Err broken.Full → new.report ≡ mid.report)
            → ((holdings : Holdings) (made : List Made) → workers_in made ≡ workers → HaveEnded own phase.tasks g.held (view_of after).front made others → AreLeft g.held made holdings → OnOk came (HasGathered tells own (joined_of holdings made) mid new))
            → HasCome tells own (view_of after) (take (place + 1) script.phases) new came
        phase_comes came met keeps gathers = comes came met keeps (gathers next.0 made ended.1 ended.3 next.1)

-- ---- the jobs

module _ (script : Script) (lawful : IsLawfulScript script) (place : ℕ) (phase : Phase) (at : slice_get script.phases place ≡ Some phase) where
  seats_of : (w : Worker) → Contains (workers_of script place) w → (h : Hand) × (n : ℕ) × Contains (hands_of (gateway_count script.gateways) phase.tasks) h × IsWorkerOf (gateway_count script.gateways) phase.tasks h n w
  seats_of w among =
      let s = are_seated script place phase lawful at in
      let k = place_of_member (workers_of script place) w among in
      let h = same_place (workers_of script place) (hands_of (gateway_count script.gateways) phase.tasks) k.0 w s.count k.1 in
      (h.0, length (workers_before script place) + k.0 + 1, contains_place (hands_of (gateway_count script.gateways) phase.tasks) k.0 h.0 h.1, s.each k.0 h.0 w h.1 k.1)

  each_worker : (P : Worker → Type 0) → ((w : Worker) → Contains (workers_of script place) w → P w) → (workers : List Worker) → workers ≡ workers_of script place → All P workers
  each_worker P each workers are = subst (All P) (sym are) (All-from_recursion P (workers_of script place) (all_members P (workers_of script place) each))

  has_tasks : (w : Worker) → Contains (workers_of script place) w → All (λ p. p < length phase.tasks) w.tasks
  has_tasks w among =
      let s = seats_of w among in
      All-weaker (IsTaskOf (gateway_count script.gateways) phase.tasks s.0) (λ p. p < length phase.tasks) (λ p t. slice_get_within phase.tasks p t.task t.is) w.tasks ((s.3).places).only

  pub within_tasks : (workers : List Worker) (tasks : List Task) → workers ≡ workers_of script place → tasks ≡ phase.tasks → All (λ (w : Worker). All (λ p. p < length tasks) w.tasks) workers
  within_tasks workers tasks are same = subst (λ (ts : List Task). All (λ (w : Worker). All (λ p. p < length ts) w.tasks) workers) (sym same) (each_worker (λ (w : Worker). All (λ p. p < length phase.tasks) w.tasks) has_tasks workers are)

  pub at_work : (workers : List Worker) (loan : Loan) → loan.script ≡ script → workers ≡ workers_of script place → All (λ (w : Worker). IsAtWork loan.script place w phase.tasks) workers
  at_work workers loan lent are = subst (λ (s : Script). All (λ (w : Worker). IsAtWork s place w phase.tasks) workers) (sym lent)
      (each_worker (λ (w : Worker). IsAtWork script place w phase.tasks) (λ w among. record { lawful = lawful; phase = phase; at = at; own = refl; within = has_tasks w among }) workers are)

  pub within_gateways : (workers : List Worker) (count : ℕ) → workers ≡ workers_of script place → count ≡ length script.gateways → All (λ (w : Worker). IfSome w.gateway (λ gateway. gateway < count)) workers
  within_gateways workers count are same = each_worker (λ (w : Worker). IfSome w.gateway (λ gateway. gateway < count))
      (λ w among. let s = seats_of w among in within_some w.gateway count (λ g is.
      let less = gateway_of_hand script lawful place phase at s.0 g s.2 (is_gateway s.0 g (sym (s.3).gateway ∙ is)) in
      omega (arith, less, same))) workers are

runs_long : (above : ℕ) (front : List Entry) (seat : ℕ) (posts : List Post) (others : List WorkerEnd) (kept : List Kept) → Runs {J = Post} {E = WorkerEnd} MayWork above front seat posts others kept → length posts ≡ length others
runs_long above front seat [] [] [] runs = refl
runs_long above front seat [] [] (k ∷ kept) runs = absurd runs
runs_long above front seat [] (o ∷ others) kept runs = absurd runs
runs_long above front seat (p ∷ posts) [] kept runs = absurd runs
runs_long above front seat (p ∷ posts) (o ∷ others) [] runs = absurd runs
runs_long above front seat (p ∷ posts) (o ∷ others) (k ∷ kept) runs = ap suc (runs_long above front (seat + 1) posts others kept runs.1)

pub ends_long : (loan : Loan) (number : ℕ) (held : Holdings) (workers : List Worker) (above : ℕ) (front : List Entry) (seat : ℕ) (posts : List Post) (others : List WorkerEnd) (kept : List Kept) → AllZip (IsPostOf loan number held) workers posts → Runs {J = Post} {E = WorkerEnd} MayWork above front seat posts others kept
    → length workers ≡ length others
ends_long loan number held workers above front seat posts others kept sent runs = AllZip-as_long (IsPostOf loan number held) workers posts sent ∙ runs_long above front seat posts others kept runs

pub workers_here : (script : Script) (place splits : ℕ) (staff workers : List Worker) → workers ≡ staff → staff ≡ workers_after script splits (slice_get script.phases place) → splits ≡ seats_before script place → workers ≡ workers_of script place
workers_here script place splits staff workers same are is = same ∙ are ∙ ap (λ (n : ℕ). workers_after script n (slice_get script.phases place)) is

pub always : {P : Type 0} (came : Result (Unit {0}) Broken) → P → OnOk came P
always (Ok done) p = p
always (Err why) p = tt
