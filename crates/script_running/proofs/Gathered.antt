-- The ends of a phase's workers, in the order of their turns, are what its tasks came to.
use Rattle.std.proofs.Common.{◌≡◌, ◌≢◌, inl, inr, ℕ, zero, suc, ◌+◌, Bool, true, false, List, [], ◌∷◌, ◌++◌, length, map, get_or, Contains, Option, Some, refl, sym, ◌∙◌, ap, subst, arith}
use Rattle.std.specs.Prelude.{Ok, Result, slice_get}
use Rattle.std.specs.List.{All, AllByRecursion, AllZip, IsDistinct, zip}
use Rattle.std.proofs.lemmas.List.Elements.{All-contains, All-head, All-map, All-tail}
use Rattle.std.proofs.lemmas.List.Sorted.{All-permutation, Contains-permutation, IsPermutation-sym}
use Rattle.std.proofs.lemmas.Map.Keys.{IsDistinct-IsPermutation, IsDistinct-from_apart}
use Rattle.std.proofs.lemmas.Option.{slice_get_within}
use Rattle.std.proofs.lemmas.Slice.Zip.{AllZip-long}
use Rattle.base.proofs.Bools.{by_bool}
use Rattle.base.proofs.Lists.{cons_same, zip_firsts}
use Rattle.base.proofs.Membership.{contains_first, contains_later, contains_place, member_cases, no_member, place_of_member}
use Rattle.base.proofs.Pairs.{AllZip-as_long, beside_first, first_in_zip, second_in_zip}
use Rattle.base.proofs.Options.{one_value}
use Rattle.script_workers.specs.Hands.{gateway_count, gateway_of, hands_of, hands_of_task}
use Rattle.script_workers.specs.Staff.{AreSeated, IsStaff, IsWorkerOf}
use Rattle.script_workers.specs.Whose.{IsFor, IsTaskOf}
use Rattle.script_workers.specs.declared.hand.Hand.{Hand}
use Rattle.script_workers.specs.declared.phase.Phase.{Phase}
use Rattle.script_workers.specs.declared.task.Task.{Task}
use Rattle.script_workers.specs.declared.work.Work.{Work}
use Rattle.script_workers.specs.declared.worker.Worker.{Worker}
use Rattle.script_workers.proofs.HandLaws.{contained, does_for, for_does, tested}
use Rattle.script_core.specs.Lawful.{IsLawfulScript}
use Rattle.script_core.proofs.SeatLaws.{few_gateways}
use Rattle.world_core.specs.declared.entry.Entry.{Entry}
use Rattle.lifecycle_core.specs.Conducts.{AreDone, Assigned, CameTo, TasksAt, who_of}
use Rattle.lifecycle_core.specs.Holdings.{Holding, Holdings, holding_of}
use Rattle.lifecycle_core.specs.Setting.{Setting}
use Rattle.lifecycle_core.specs.Tasks.{End}
use Rattle.lifecycle_core.proofs.phases.TaskRuns.{tasks_long}
use Rattle.script_running.specs.Begun.{AreLeft, Made, ends_in, workers_in}
use Rattle.script_running.specs.Beside.{AreSeen}
use Rattle.script_running.specs.Ended.{HasEnded, HaveEnded}
use Rattle.script_running.specs.Gathering.{AreInTurn, AreSeenBeside, AreTakenIn, AreTold, IsToldBy, own_parts, parts_at, parts_of, turn_by, turn_of}
use Rattle.script_running.specs.Outcomes.{IsPart, Outcome, Part, TaskCame, TasksCame}
use Rattle.script_running.proofs.AllParts.{all_parts, few_parts}
use Rattle.script_running.proofs.Turns.{AreOf, aligned, clash, clash_flips, clash_says, hands_rise, has_it, has_none, has_place, has_yes, no_twice, one_for, paired_once, turns_alike, turns_rise, zip_first_at}
use Rattle.script_running.specs.Sights.{Sees}
use Rattle.script_running.specs.Tasks.{WhenDone}
use Rattle.script_running.specs.declared.came.Broken.{Broken}
use Rattle.script_running.specs.Workers.{AreParts, IsBrokenOff, OwnRun}
use Rattle.script_running.specs.declared.gathering.TaskParts.{TaskParts}
use Rattle.script_running.specs.declared.sight.Sight.{Sight}
use Rattle.script_running.specs.declared.worker.WorkerEnd.{WorkerEnd}

-- ---- lists beside each other

pub same_place : {A B : Type 0} (xs : List A) (ys : List B) (k : ℕ) (x : A) → length xs ≡ length ys → slice_get xs k ≡ Some x → (y : B) × (slice_get ys k ≡ Some y)
same_place [] ys k x long at = absurd (let w = slice_get_within [] k x at in omega (arith, w))
same_place (a ∷ xs) [] k x long at = absurd (omega (arith, long))
same_place (a ∷ xs) (b ∷ ys) zero x long at = (b, refl)
same_place (a ∷ xs) (b ∷ ys) (suc k) x long at = same_place xs ys k x (omega (arith, long)) at

-- ---- one worker's parts

pub parts_long : (own : List Assigned) (ends : List End) (os : List Part) → AreParts own ends os → length os ≡ length ends
parts_long own [] os are = ap length are
parts_long [] (end ∷ ends) os are = absurd are
parts_long (a ∷ own) (end ∷ ends) [] are = absurd are
parts_long (a ∷ own) (end ∷ ends) (o ∷ os) are = ap suc (parts_long own ends os are.1)

-- the task at a place came to an end by which it came out so
record Came (tasks : List Task) (places : List ℕ) (ends : List End) (place : ℕ) (o : Part) : Type 0 where
  task : Task
  at : slice_get tasks place ≡ Some task
  end : End
  among : Contains (zip places ends) (place, end)
  is : IsPart task.work end o

came_later : (tasks : List Task) (p : ℕ) (places : List ℕ) (x : End) (ends : List End) (place : ℕ) (o : Part) → Came tasks places ends place o → Came tasks (p ∷ places) (x ∷ ends) place o
came_later tasks p places x ends place o c = record { task = c.task; at = c.at; end = c.end; among = contains_later (p, x) (place, c.end) (zip places ends) c.among; is = c.is }

part_at : (tasks : List Task) (places : List ℕ) (own : List Assigned) (ends : List End) (os : List Part) (place : ℕ) (o : Part) → TasksAt tasks places own → AreParts own ends os → Contains (zip places os) (place, o) → Came tasks places ends place o
part_at tasks [] own ends os place o are outs among = absurd (no_member (place, o) among)
part_at tasks (p ∷ places) [] ends os place o are outs among = absurd are
part_at tasks (p ∷ places) (a ∷ own) ends [] place o are outs among = absurd (no_member (place, o) among)
part_at tasks (p ∷ places) (a ∷ own) [] (x ∷ os) place o are outs among = absurd (cc (outs))
part_at tasks (p ∷ places) (a ∷ own) (end ∷ ends) (x ∷ os) place o are outs among = elim (member_cases (p, x) (place, o) (zip places os) among) [
  | inl same ↦
      let sp : p ≡ place = ap (λ (r : ℕ × Part). r.0) same in
      let so : x ≡ o = ap (λ (r : ℕ × Part). r.1) same in
      record {
        task = a.task;
        at = ap (slice_get tasks) (sym sp) ∙ (are.0).1;
        end = end;
        among = subst (λ (q : ℕ). Contains ((p, end) ∷ zip places ends) (q, end)) sp (contains_first (p, end) (zip places ends));
        is = subst (IsPart a.task.work end) so outs.0;
      }
  | inr later ↦ came_later tasks p places end ends place o (part_at tasks places own ends os place o are.1 outs.1 later)
]

-- ---- the workers of a phase

-- what a worker made is among what all made
made_among : (made : List Made) (one : Made) → Contains made one → Contains (zip (workers_in made) (ends_in made)) (one.worker, one.ends)
made_among [] one among = absurd (no_member one among)
made_among (x ∷ made) one among = elim (member_cases x one made among) [
  | inl same ↦ subst (λ (y : Made). Contains ((x.worker, x.ends) ∷ zip (workers_in made) (ends_in made)) (y.worker, y.ends)) same (contains_first (x.worker, x.ends) (zip (workers_in made) (ends_in made)))
  | inr later ↦ contains_later (x.worker, x.ends) (one.worker, one.ends) (zip (workers_in made) (ends_in made)) (made_among made one later)
]

module _ (setting : Setting) (tasks : List Task) (before : Holdings) (front : List Entry) (after : Holdings) where
  -- what a worker made that came back with this
  record Comes (made : List Made) (w : Worker) (e : WorkerEnd) : Type 0 where
    one : Made
    among : Contains made one
    is : one.worker ≡ w
    has : HasEnded setting tasks before front one e
    left : (gateway : ℕ) → one.worker.gateway ≡ Some gateway → after gateway ≡ one.last

  comes : (made : List Made) (others : List WorkerEnd) (w : Worker) (e : WorkerEnd)
      → HaveEnded setting tasks before front made others → AllByRecursion (λ (one : Made). (gateway : ℕ) → one.worker.gateway ≡ Some gateway → after gateway ≡ one.last) made → Contains (zip (workers_in made) others) (w, e) → Comes made w e
  comes [] others w e have left among = absurd (no_member (w, e) among)
  comes (x ∷ made) [] w e have left among = absurd (no_member (w, e) among)
  comes (x ∷ made) (y ∷ others) w e have left among = elim (member_cases (x.worker, y) (w, e) (zip (workers_in made) others) among) [
    | inl same ↦
        let se : y ≡ e = ap (λ (r : Worker × WorkerEnd). r.1) same in
        record {
          one = x;
          among = contains_first x made;
          is = ap (λ (r : Worker × WorkerEnd). r.0) same;
          has = subst (λ (z : WorkerEnd). HasEnded setting tasks before front x z) se have.0;
          left = left.0;
        }
    | inr later ↦
        let c = comes made others w e have.1 left.1 later in
        record { one = c.one; among = contains_later x c.one made c.among; is = c.is; has = c.has; left = c.left }
  ]

  one_done : (one : Made) (e : WorkerEnd) → HasEnded setting tasks before front one e → e.came ≡ Ok tt → (length one.worker.tasks ≡ length one.ends) × (length one.worker.tasks ≡ length e.parts.items)
  one_done one e h done =
      let count : length one.ends ≡ length (h.was).own = subst (IsBrokenOff (OwnRun setting (who_of one.worker) (holding_of before one.worker.gateway) (h.was).own) (length (h.was).own) one.worker.seat one.kept.1 one.ends) done h.cut in
      let first : length one.worker.tasks ≡ length one.ends = sym (count ∙ tasks_long tasks one.worker.tasks (h.was).own (h.was).are) in
      (first, first ∙ sym (parts_long (h.was).own one.ends e.parts.items h.parts))

  are_done : (made : List Made) (others : List WorkerEnd) → HaveEnded setting tasks before front made others → All (λ (e : WorkerEnd). e.came ≡ Ok tt) others → AreDone (workers_in made) (ends_in made) × (length (workers_in made) ≡ length others)
  are_done [] [] have done = (refl, refl)
  are_done [] (e ∷ others) have done = absurd have
  are_done (one ∷ made) [] have done = absurd have
  are_done (one ∷ made) (e ∷ others) have done =
      let rest = are_done made others have.1 (All-tail (λ (x : WorkerEnd). x.came ≡ Ok tt) e others done) in (
        cons_same (length one.worker.tasks) (length one.ends) (map (λ (x : Worker). length x.tasks) (workers_in made)) (map length (ends_in made)) (one_done one e have.0 (All-head (λ (x : WorkerEnd). x.came ≡ Ok tt) e others done)).0 rest.0,
        ap suc rest.1,
      )

not_yes : (b : Bool) → (b ≡ true → ⊥) → b ≡ false
not_yes b never = by_bool b (λ is. absurd (never is)) (λ isnt. isnt)

-- ---- all tasks

-- the ends of those who do a task, and their parts
record ByHands (w : Work) (place : ℕ) (workers : List Worker) (ends : List (List End)) (hs : List Hand) (parts : List Part) : Type 0 where
  own : List End
  came : AllZip (λ hand end. CameTo workers ends (gateway_of hand) place end) hs own
  are : AllZip (IsPart w) own parts

module _ (w : Work) (place : ℕ) (workers : List Worker) (ends : List (List End)) where
  -- the part of one who does a task
  abbrev Gave : Hand → List Part → Type 0
  Gave h parts = (end : End) × (one : Part) × (parts ≡ one ∷ []) × CameTo workers ends (gateway_of h) place end × IsPart w end one

  by_hands : (hs : List Hand) (parts : List Part) → AreOf Gave hs parts → ByHands w place workers ends hs parts
  by_hands [] parts none = record { own = []; came = tt; are = subst (λ (l : List Part). AllZip (IsPart w) [] l) (sym none) tt }
  by_hands (h ∷ hs) parts (first, rest, is, (end, one, only, came, part), more) =
      let by = by_hands hs rest more in
      let whole : one ∷ rest ≡ parts = ap (λ (l : List Part). l ++ rest) (sym only) ∙ sym is in
      record { own = end ∷ by.own; came = (came, by.came); are = subst (λ (l : List Part). AllZip (IsPart w) (end ∷ by.own) l) whole (part, by.are) }

-- a worker that was not broken off sees by what it holds
seen_by : (last : Holding) (end : WorkerEnd) → end.came ≡ Ok tt → WhenDone end.came (Sees last end.sight) → Sees last end.sight
seen_by last end done sees = subst (λ (r : Result (Unit {0}) Broken). WhenDone r (Sees last end.sight)) done sees

module _ (setting : Setting) (number : ℕ) (phase : Phase) (taken : ℕ)
    (staff : IsStaff (gateway_count setting.script.gateways) phase.tasks (hands_of (gateway_count setting.script.gateways) phase.tasks)) (made : List Made)
    (seated : AreSeated (gateway_count setting.script.gateways) phase.tasks (hands_of (gateway_count setting.script.gateways) phase.tasks) taken (workers_in made))
    (before after : Holdings) (front : List Entry) (others : List WorkerEnd) (have : HaveEnded setting phase.tasks before front made others) (left : AreLeft before made after)
    (lawful : IsLawfulScript setting.script) (all : All (λ (e : WorkerEnd). e.came ≡ Ok tt) others) (backs : List (Worker × WorkerEnd)) (turns : AreInTurn (workers_in made) others backs) where
  abbrev workers : List Worker
  workers = workers_in made

  abbrev ends : List (List End)
  ends = ends_in made

  abbrev gateways : ℕ
  gateways = gateway_count setting.script.gateways

  abbrev own_hands : List Hand
  own_hands = hands_of gateways phase.tasks

  done : AreDone workers ends × (length workers ≡ length others)
  done = are_done setting phase.tasks before front after made others have all

  among : (back : Worker × WorkerEnd) → Contains backs back → Contains (zip workers others) back
  among back here = Contains-permutation backs (zip workers others) back (IsPermutation-sym (zip workers others) backs turns.same) here

  -- a worker is a hand's
  of_hand : (w : Worker) → Contains workers w → (h : Hand) × (n : ℕ) × IsWorkerOf gateways phase.tasks h n w
  of_hand w here =
      let at = place_of_member workers w here in
      let h = same_place workers own_hands at.0 w seated.count at.1 in
      (h.0, taken + at.0 + 1, seated.each at.0 h.0 w h.1 at.1)

  module _ (place : ℕ) (task : Task) (at : slice_get phase.tasks place ≡ Some task) where
    abbrev hs : List Hand
    hs = hands_of_task gateways place task.work

    for_hand : (w : Worker) (h : Hand) (n : ℕ) → IsWorkerOf gateways phase.tasks h n w → Contains w.tasks place → IsFor gateways h place task.work
    for_hand w h n of inside =
        let t = All-contains (IsTaskOf gateways phase.tasks h) w.tasks place (of.places).only inside in
        subst (λ (x : Task). IsFor gateways h place x.work) (one_value t.task task (slice_get phase.tasks place) t.is at) t.whose

    -- whoever has the task at its places is a hand of it, and gave its part
    gave : (back : Worker × WorkerEnd) → Contains backs back → Contains back.0.tasks place → (h : Hand) × Contains hs h × (turn_by (gateway_of h) ≡ turn_of back) × Gave task.work place workers ends h (own_parts place back)
    gave (w, e) here inside =
        let there = among (w, e) here in
        let of = of_hand w (first_in_zip workers others w e there) in
        let h = of.0 in
        let c = comes setting phase.tasks before front after made others w e have left.own there in
        let whole = one_done setting phase.tasks before front after c.one e c.has (All-contains (λ (x : WorkerEnd). x.came ≡ Ok tt) others e all (second_in_zip workers others w e there)) in
        let long : length w.tasks ≡ length e.parts.items = subst (λ (v : Worker). length v.tasks ≡ length e.parts.items) c.is whole.1 in
        let one = paired_once place w.tasks e.parts.items long ((of.2).places).ascend inside in
        let came = part_at phase.tasks (c.one).worker.tasks ((c.has).was).own (c.one).ends e.parts.items place one.0 ((c.has).was).are (c.has).parts (subst (λ (v : Worker). Contains (zip v.tasks e.parts.items) (place, one.0)) (sym c.is) one.2) in
        let same : came.task ≡ task = one_value came.task task (slice_get phase.tasks place) came.at at in
        let own : w.gateway ≡ gateway_of h = (of.2).gateway in (
          h,
          contained hs h (for_does gateways h place task.work (for_hand w h of.1 of.2 inside)),
          sym (ap turn_by own),
          (
            came.end,
            one.0,
            one.1,
            record { worker = (c.one).worker; own = (c.one).ends; among = made_among made c.one c.among; is = ap (λ (v : Worker). v.gateway) c.is ∙ own; came = came.among },
            subst (λ (x : Task). IsPart x.work came.end one.0) same came.is,
          ),
        )

    -- and each hand of it has a worker
    has_worker : (h : Hand) → Contains hs h → (back : Worker × WorkerEnd) × Contains backs back × (turn_of back ≡ turn_by (gateway_of h)) × Contains back.0.tasks place
    has_worker h inside =
        let t : IsTaskOf gateways phase.tasks h place = record { task = task; is = at; whose = does_for gateways h place task.work (tested hs h inside) } in
        let k = place_of_member own_hands h (staff.enough h place t) in
        let w = same_place own_hands workers k.0 h (sym seated.count) k.1 in
        let of = seated.each k.0 h w.0 k.1 w.1 in
        let e = beside_first workers others w.0 done.1 (contains_place workers k.0 w.0 w.1) in
        ((w.0, e.0), Contains-permutation (zip workers others) backs (w.0, e.0) turns.same e.1, ap turn_by of.gateway, (of.places).each place t)

    -- no two of them have one turn
    apart : IsDistinct (clash place) backs
    apart = IsDistinct-IsPermutation (clash place) (clash_flips place) (zip workers others) backs turns.same
        (IsDistinct-from_apart (clash place) (zip workers others) (λ i j d less below. not_yes (clash place (get_or (zip workers others) i d) (get_or (zip workers others) j d)) (λ yes.
        let v = get_or (zip workers others) i d in
        let w = get_or (zip workers others) j d in
        let here = zip_first_at workers others i d (omega (arith, less, below)) in
        let there = zip_first_at workers others j d below in
        let one = same_place workers own_hands i v.0 seated.count here in
        let other = same_place workers own_hands j w.0 seated.count there in
        let its = seated.each i one.0 v.0 one.1 here in
        let others_is = seated.each j other.0 w.0 other.1 there in
        let both = clash_says place v w yes in
        no_twice own_hands i j one.0 other.0 less one.1 other.1
        (one_for gateways place task.work one.0 other.0 (for_hand v.0 one.0 (taken + i + 1) its both.0) (for_hand w.0 other.0 (taken + j + 1) others_is both.1)
        (turns_alike (gateway_of one.0) (gateway_of other.0) (sym (ap turn_by its.gateway) ∙ both.2 ∙ ap turn_by others_is.gateway))) staff.once)))

    task_came : (o : Outcome) → IsToldBy task.work (parts_of place backs) o → TaskCame setting.script workers ends place task o
    task_came o told =
        let lined = aligned turn_of (λ (h : Hand). turn_by (gateway_of h)) (own_parts place) (Gave task.work place workers ends) (has_place place) backs hs (turns_rise turn_of backs turns.ascend) (hands_rise gateways place task.work) apart
        (λ back here yes. gave back here (has_it place back yes)) (has_none place)
        (λ h inside. let b = has_worker h inside in (b.0, b.1, b.2, has_yes place b.0 b.3)) in
        let by = by_hands task.work place workers ends hs (parts_of place backs) lined in
        let count : length by.own ≡ length hs = AllZip-long (λ hand end. CameTo workers ends (gateway_of hand) place end) hs by.own by.came in
        let many : length by.own ≡ length (parts_of place backs) = AllZip-as_long (IsPart task.work) by.own (parts_of place backs) by.are in
        let few = few_parts task.work gateways place (few_gateways setting.script lawful) in
        record { own = by.own; came = by.came; is = (parts_of place backs, by.are, told (all_parts task.work gateways place by.own (parts_of place backs) count by.are) (omega (arith, count, many, few))) }

  tasks_came : (parts : ℕ → List Part) → ((place : ℕ) → parts place ≡ parts_of place backs) → (place : ℕ) (tasks : List Task) (outcomes : List Outcome) → AreTold parts place tasks outcomes
      → ((k : ℕ) (task : Task) → slice_get tasks k ≡ Some task → slice_get phase.tasks (place + k) ≡ Some task) → TasksCame setting.script workers ends place tasks outcomes
  tasks_came parts are place [] outcomes told each = told
  tasks_came parts are place (t ∷ tasks) [] told each = told
  tasks_came parts are place (t ∷ tasks) (o ∷ outcomes) told each =
      let first : place + 0 ≡ place = omega arith in (
        task_came place t (subst (λ (n : ℕ). slice_get phase.tasks n ≡ Some t) first (each 0 t refl)) o (subst (λ (l : List Part). IsToldBy t.work l o) (are place) told.0),
        tasks_came parts are (place + 1) tasks outcomes told.1 (λ k task at.
            let same : place + suc k ≡ place + 1 + k = omega arith in
            subst (λ (n : ℕ). slice_get phase.tasks n ≡ Some task) same (each (suc k) task at)),
      )

  sees : (sights seen : List Sight) (lists : List TaskParts) → AreTakenIn backs sights seen lists → AreSeenBeside before workers sights → AreSeen after seen
  sees sights seen lists taken_in beside place sight is = elim (taken_in.sights_are place sight is) [
    | inl ((w, e), here, gateway, same) ↦
        let there = among (w, e) here in
        let c = comes setting phase.tasks before front after made others w e have left.own there in
        let one = c.one in
        subst (λ (held : Holding). Sees held sight) (sym (c.left place (ap (λ (v : Worker). v.gateway) c.is ∙ gateway))) (subst (Sees one.last) same (seen_by one.last e (All-contains (λ (x : WorkerEnd). x.came ≡ Ok tt) others e all (second_in_zip workers others w e there)) (c.has).sees))
    | inr (older, none) ↦
        let apart = subst (All (λ (w : Worker). w.gateway ≢ Some place)) (zip_firsts workers others done.1)
        (All-map (λ (w : Worker). w.gateway ≢ Some place) (λ (b : Worker × WorkerEnd). b.0) (zip workers others) (All-permutation (λ (b : Worker × WorkerEnd). b.0.gateway ≢ Some place) backs (zip workers others) (IsPermutation-sym (zip workers others) backs turns.same) none)) in
        subst (λ (held : Holding). Sees held sight) (sym (left.others place apart)) (beside place sight older apart)
  ]

  pub gathered : (sights seen : List Sight) (lists : List TaskParts) (outcomes : List Outcome) → AreTakenIn backs sights seen lists → AreTold (parts_at lists) 0 phase.tasks outcomes → AreSeenBeside before workers sights
      → AreDone workers ends × AreSeen after seen × TasksCame setting.script workers ends 0 phase.tasks outcomes
  gathered sights seen lists outcomes taken_in told beside = (
    done.0,
    sees sights seen lists taken_in beside,
    tasks_came (parts_at lists) taken_in.parts_are 0 phase.tasks outcomes told (λ k task at. let same : k ≡ 0 + k = omega arith in subst (λ (n : ℕ). slice_get phase.tasks n ≡ Some task) same at),
  )
