-- Tasks that were done one after another, and how they came out.
use Rattle.std.proofs.Common.{◌≡◌, ℕ, zero, suc, ◌+◌, ◌<◌, ◌≤◌, List, [], ◌∷◌, ◌++◌, length, map, get_or, take, drop, refl, sym, ◌∙◌, ap, subst, append_assoc, arith}
use Rattle.std.specs.Prelude.{Result, Ok, Err, OnErr, OnOk}
use Rattle.std.specs.List.{All, AllZip}
use Rattle.std.proofs.lemmas.List.{append-nil, length-append, length-map, take_more}
use Rattle.world_core.specs.Operations.{entry_of}
use Rattle.world_core.specs.declared.entry.Entry.{Entry}
use Rattle.script_workers.specs.Hands.{gateway_count, gateway_of, hands_of_task}
use Rattle.script_core.specs.Lawful.{IsLawfulScript, IsLawfulWork}
use Rattle.script_workers.specs.declared.hand.Hand.{Hand}
use Rattle.script_workers.specs.declared.task.Task.{Task}
use Rattle.script_workers.specs.declared.worker.Worker.{Worker}
use Rattle.report_lines.specs.lifecycle_core.specs.Conducts.{CameTo}
use Rattle.report_lines.specs.lifecycle_core.specs.Holdings.{Holdings}
use Rattle.report_lines.specs.lifecycle_core.specs.InLine.{Duty, InLine, duties_from}
use Rattle.report_lines.specs.lifecycle_core.specs.Setting.{Setting}
use Rattle.script_core.specs.declared.script.Script.{Script}
use Rattle.report_lines.specs.script_running.specs.Shelves.{setting_by}
use Rattle.report_lines.specs.script_running.specs.declared.shelf.ShelfBlock.{ShelfBlock}
use Rattle.report_lines.specs.lifecycle_core.specs.Tasks.{End}
use Rattle.report_lines.specs.lifecycle_core.proofs.phases.Joined.{both, cut, duties_begin, duties_more, duties_parts}
use Rattle.report_lines.specs.lifecycle_core.proofs.phases.RunsInLine.{may_begin}
use Rattle.report_lines.specs.lifecycle_core.proofs.phases.TaskRuns.{MayBegin}
use Rattle.std.proofs.lemmas.List.Elements.{All-drop}
use Rattle.report_lines.specs.script_running.specs.Outcomes.{IsOutcome, Outcome, TasksCame}
use Rattle.report_lines.specs.script_running.specs.declared.sight.Sight.{Sight}
use Rattle.line_running.specs.Progress.{IsDueInLine, TaskStep, TasksBroken, TasksDone, TasksTold, duties_at}
use Rattle.report_lines.specs.script_running.specs.Beside.{AreSeen}
use Rattle.line_running.proofs.Steps.{duties_long, line, one_of}
use Rattle.report_lines.specs.script_running.specs.declared.came.Broken.{Broken}
use Rattle.report_lines.specs.script_running.specs.declared.came.Broken.TheVariants as broken

-- one task more
told_more : (setting : Setting) (place : ℕ) (tasks : List Task) (task : Task) (ends own : List End) (outcomes : List Outcome) (o : Outcome) → TasksTold setting place tasks ends outcomes
    → length own ≡ length (duties_at setting (place + length tasks) (task ∷ [])) → IsOutcome task.work own o → TasksTold setting place (tasks ++ task ∷ []) (ends ++ own) (outcomes ++ o ∷ [])
told_more setting place [] task ends own outcomes o told same is =
    let at : place + length {A = Task} [] ≡ place = omega arith in (
      own,
      [],
      o,
      [],
      ap (λ (l : List End). l ++ own) told.0 ∙ sym (append-nil own),
      same ∙ ap (λ n. length (duties_at setting n (task ∷ []))) at,
      is,
      ap (λ (l : List Outcome). l ++ o ∷ []) told.1,
      (refl, refl),
    )
told_more setting place (t ∷ tasks) task ends own outcomes o told same is =
    let at : place + length (t ∷ tasks) ≡ place + 1 + length tasks = omega arith in (
      told.0,
      told.1 ++ own,
      told.2,
      told.3 ++ o ∷ [],
      ap (λ (l : List End). l ++ own) told.4 ∙ append_assoc told.0 told.1 own,
      told.5,
      told.6,
      ap (λ (l : List Outcome). l ++ o ∷ []) told.7,
      told_more setting (place + 1) tasks task told.1 own told.3 o told.8 (same ∙ ap (λ n. length (duties_at setting n (task ∷ []))) at) is,
    )

pub told_outcomes : (setting : Setting) (place : ℕ) (tasks : List Task) (ends : List End) (outcomes : List Outcome) → TasksTold setting place tasks ends outcomes → length outcomes ≡ length tasks
told_outcomes setting place [] ends outcomes told = ap (length {A = Outcome}) told.1
told_outcomes setting place (t ∷ tasks) ends outcomes told = ap (length {A = Outcome}) told.7 ∙ ap suc (told_outcomes setting (place + 1) tasks told.1 told.3 told.8)

abbrev duties_by : ℕ → Task → List Hand → List Duty
duties_by place task hs = map (λ hand. record { place = place; hand = hand; task = task }) hs

pub told_length : (setting : Setting) (place : ℕ) (tasks : List Task) (ends : List End) (outcomes : List Outcome) → TasksTold setting place tasks ends outcomes → length ends ≡ length (duties_at setting place tasks)
unfolding duties_from
told_length setting place [] ends outcomes told = ap (length {A = End}) told.0
told_length setting place (task ∷ tasks) ends outcomes told =
    let hs = hands_of_task (gateway_count setting.script.gateways) place task.work in
    let rest = told_length setting (place + 1) tasks told.1 told.3 told.8 in
    let n : length (duties_by place task hs) ≡ length hs = length-map hs (λ hand. record { place = place; hand = hand; task = task }) in
    omega (
      arith,
      ap (length {A = End}) told.4,
      length-append told.0 told.1,
      told.5,
      duties_long setting place task,
      n,
      rest,
      length-append (duties_by place task hs) (duties_from (gateway_count setting.script.gateways) (place + 1) tasks),
    )

-- ---- from one task to the next

-- a step by what is lent of the script
pub lent_step : (one other : Script) (shelf : List ShelfBlock) (seat : Hand → ℕ) (place : ℕ) (task : Task) (views : Holdings) (gateways : List Sight) (old new : List Entry) (came : Result Outcome Broken) → one ≡ other
    → TaskStep (line (setting_by one shelf) seat) (one_of place task) views gateways old new came → TaskStep (line (setting_by other shelf) seat) (one_of place task) views gateways old new came
lent_step one other shelf seat place task views gateways old new came same step = subst (λ (s : Script). TaskStep (line (setting_by s shelf) seat) (one_of place task) views gateways old new came) same step

module _ {R : Type 0} (tells : R → Script → List Task → List Outcome → Type 0) (setting : Setting) (seat : Hand → ℕ) (place : ℕ) (tasks : List Task) (task : Task) (views : Holdings) (shown gateways : List Sight) (start mid new : List Entry) (report : R)
    (within : place < length tasks) (is : task ≡ get_or tasks place task) where
  front_more : take (place + 1) tasks ≡ take place tasks ++ task ∷ []
  front_more = take_more tasks place task within ∙ ap (λ (t : Task). take place tasks ++ t ∷ []) (sym is)

  -- the runs of both
  both_run : (d : TasksDone (tells report) (line setting seat) (take place tasks) views shown start mid) (made : List Entry) (ends : List End) (after : Holdings)
      → InLine setting seat d.after (duties_at setting place (task ∷ [])) made ends after → InLine setting seat views (duties_at setting 0 (take (place + 1) tasks)) (d.made ++ made) (d.ends ++ ends) after
  both_run d made ends after run =
      let whole = told_length setting 0 (take place tasks) d.ends d.outcomes d.told in
      subst (λ (ds : List Duty). InLine setting seat views ds (d.made ++ made) (d.ends ++ ends) after) (sym (duties_more (gateway_count setting.script.gateways) place tasks task within is))
      (both setting seat views d.after after (duties_at setting 0 (take place tasks)) (duties_at setting place (task ∷ [])) d.made made d.ends ends d.run whole run)

  both_entries : (one other : List Entry) → mid ≡ start ++ one → new ≡ mid ++ other → new ≡ start ++ (one ++ other)
  both_entries one other first later = later ∙ ap (λ (l : List Entry). l ++ other) first ∙ append_assoc start one other

  front_length : (n : ℕ) (ts : List Task) → n < length ts → length (take n ts) ≡ n
  front_length zero ts below = refl
  front_length (suc n) [] below = absurd (omega (arith, below))
  front_length (suc n) (t ∷ ts) below = ap suc (front_length n ts (omega (arith, below)))

  pub done_more : (o : Outcome) (more : R) → (d : TasksDone (tells report) (line setting seat) (take place tasks) views shown start mid)
      → ((v : Holdings) → AreSeen v shown → TaskStep (line setting seat) (one_of place task) v gateways mid new (Ok o))
      → ((ts : List Task) (os : List Outcome) → tells report setting.script ts os → tells more setting.script (ts ++ task ∷ []) (os ++ o ∷ [])) → TasksDone (tells more) (line setting seat) (take (place + 1) tasks) views gateways start new
  done_more o more d step adds =
      let s = step d.after d.shows in
      let at : 0 + length (take place tasks) ≡ place = omega (arith, front_length place tasks within) in
      let told = told_more setting 0 (take place tasks) task d.ends s.ends d.outcomes o d.told ((s.whole).0 ∙ ap (λ n. length (duties_at setting n (task ∷ []))) (sym at)) (s.whole).1 in
      record {
        made = d.made ++ s.made;
        entries = both_entries d.made s.made d.entries s.entries;
        ends = d.ends ++ s.ends;
        after = s.after;
        run = both_run d s.made s.ends s.after s.run;
        shows = s.shows;
        outcomes = d.outcomes ++ o ∷ [];
        told = subst (λ (ts : List Task). TasksTold setting 0 ts (d.ends ++ s.ends) (d.outcomes ++ o ∷ [])) (sym front_more) told;
        report_is = subst (λ (ts : List Task). tells more setting.script ts (d.outcomes ++ o ∷ [])) (sym front_more) (adds (take place tasks) d.outcomes d.report_is);
      }

  cut_run : All (λ t. MayBegin setting t.work) (drop (place + 1) tasks) → (d : TasksDone (tells report) (line setting seat) (take place tasks) views shown start mid) (made : List Entry) (ends : List End) (after : Holdings)
      → InLine setting seat d.after (duties_at setting place (task ∷ [])) made ends after → InLine setting seat views (duties_at setting 0 tasks) (d.made ++ made) (d.ends ++ ends) after
  cut_run begin d made ends after run =
      subst (λ (ds : List Duty). InLine setting seat views ds (d.made ++ made) (d.ends ++ ends) after) (sym (duties_parts (gateway_count setting.script.gateways) (place + 1) tasks))
      (cut setting seat views after (duties_at setting 0 (take (place + 1) tasks)) (duties_from (gateway_count setting.script.gateways) (0 + length (take (place + 1) tasks)) (drop (place + 1) tasks)) (d.made ++ made) (d.ends ++ ends)
      (duties_begin setting (gateway_count setting.script.gateways) (0 + length (take (place + 1) tasks)) (drop (place + 1) tasks) begin) (both_run d made ends after run))

  -- an operation that is due in the task is due in all of them
  cut_due : All (λ t. MayBegin setting t.work) (drop (place + 1) tasks) → (d : TasksDone (tells report) (line setting seat) (take place tasks) views shown start mid) (made : List Entry)
      → IsDueInLine setting seat d.after (duties_at setting place (task ∷ [])) made → IsDueInLine setting seat views (duties_at setting 0 tasks) (d.made ++ made)
  cut_due begin d made due = (
    due.0,
    (
      due.1.0,
      due.1.1,
      λ seen answer.
          let e = entry_of due.0 due.1.0 seen in
          let next = due.1.2 seen answer in (
            (d.ends ++ next.0.0, next.0.1),
            subst (λ (es : List Entry). InLine setting seat views (duties_at setting 0 tasks) es (d.ends ++ next.0.0) next.0.1) (sym (append_assoc d.made made (e ∷ [])))
                (cut_run begin d (made ++ e ∷ []) next.0.0 next.0.1 next.1),
          ),
    ),
  )

  -- broken off for want of memory
  pub cut_short : (came : Result Outcome Broken) → All (λ t. MayBegin setting t.work) (drop (place + 1) tasks) → (d : TasksDone (tells report) (line setting seat) (take place tasks) views shown start mid)
      → ((v : Holdings) → AreSeen v shown → TaskStep (line setting seat) (one_of place task) v gateways mid new came) → TasksBroken (line setting seat) tasks views start new broken.NoMemory
  cut_short came begin d step =
      let s = step d.after d.shows in
      record { made = d.made ++ s.made; entries = both_entries d.made s.made d.entries s.entries; ends = d.ends ++ s.ends; after = s.after; run = cut_run begin d s.made s.ends s.after s.run; short = tt }

  too_few : (d : TasksDone (tells report) (line setting seat) (take place tasks) views shown start mid) (own : List End) → length own < length (duties_at setting place (task ∷ [])) → length (d.ends ++ own) < length (duties_at setting 0 tasks)
  too_few d own less =
      let gateways = gateway_count setting.script.gateways in
      omega (
        arith,
        less,
        length-append d.ends own,
        told_length setting 0 (take place tasks) d.ends d.outcomes d.told,
        ap (length {A = Duty}) (duties_more gateways place tasks task within is),
        length-append (duties_at setting 0 (take place tasks)) (duties_at setting place (task ∷ [])),
        ap (length {A = Duty}) (duties_parts gateways (place + 1) tasks),
        length-append (duties_at setting 0 (take (place + 1) tasks)) (duties_from gateways (0 + length (take (place + 1) tasks)) (drop (place + 1) tasks)),
      )

  -- broken off by the full journal
  cut_full : All (λ t. MayBegin setting t.work) (drop (place + 1) tasks) → (d : TasksDone (tells report) (line setting seat) (take place tasks) views shown start mid)
      → ((v : Holdings) → AreSeen v shown → TaskStep (line setting seat) (one_of place task) v gateways mid new (Err broken.Full)) → TasksBroken (line setting seat) tasks views start new broken.Full
  cut_full begin d step =
      let s = step d.after d.shows in
      record { made = d.made ++ s.made; entries = both_entries d.made s.made d.entries s.entries; ends = d.ends ++ s.ends; after = s.after; run = cut_run begin d s.made s.ends s.after s.run; short = (too_few d s.ends s.whole, cut_due begin d s.made s.due) }

  -- broken off, for whatever cause
  pub cut_off : (why : Broken) → All (λ t. MayBegin setting t.work) (drop (place + 1) tasks) → (d : TasksDone (tells report) (line setting seat) (take place tasks) views shown start mid)
      → ((v : Holdings) → AreSeen v shown → TaskStep (line setting seat) (one_of place task) v gateways mid new (Err why)) → TasksBroken (line setting seat) tasks views start new why
  cut_off broken.Full begin d step = cut_full begin d step
  cut_off broken.NoMemory begin d step = cut_short (Err broken.NoMemory) begin d step

take_none : (tasks : List Task) → take 0 tasks ≡ []
take_none [] = refl
take_none (t ∷ ts) = refl

-- before the first task
pub done_none : {R : Type 0} (tells : R → Script → List Task → List Outcome → Type 0) (setting : Setting) (seat : Hand → ℕ) (tasks : List Task) (views : Holdings) (gateways : List Sight) (journal : List Entry) (report : R) → AreSeen views gateways → tells report setting.script [] []
    → TasksDone (tells report) (line setting seat) (take 0 tasks) views gateways journal journal
unfolding duties_from
done_none tells setting seat tasks views gateways journal report shows none = record {
  made = [];
  entries = sym (append-nil journal);
  ends = [];
  after = views;
  run = subst (λ (ts : List Task). InLine setting seat views (duties_at setting 0 ts) [] [] views) (sym (take_none tasks)) (refl, refl, refl);
  shows = shows;
  outcomes = [];
  told = subst (λ (ts : List Task). TasksTold setting 0 ts [] []) (sym (take_none tasks)) (refl, refl);
  report_is = subst (λ (ts : List Task). tells report setting.script ts []) (sym (take_none tasks)) none;
}

-- ---- the ends of the workers

zip_parts : {A B : Type 0} (R : A → B → Type 0) (xs ys : List A) (us vs : List B) → length us ≡ length xs → AllZip R (xs ++ ys) (us ++ vs) → AllZip R xs us × AllZip R ys vs
zip_parts R [] ys [] vs same all = (tt, all)
zip_parts R [] ys (u ∷ us) vs same all = absurd (omega (arith, same))
zip_parts R (x ∷ xs) ys [] vs same all = absurd (omega (arith, same))
zip_parts R (x ∷ xs) ys (u ∷ us) vs same all = let rest = zip_parts R xs ys us vs (omega (arith, same)) all.1 in ((all.0, rest.0), rest.1)

by_hands : (workers : List Worker) (all : List (List End)) (place : ℕ) (task : Task) (hs : List Hand) (ends : List End) → AllZip (λ d e. CameTo workers all (gateway_of d.hand) d.place e) (duties_by place task hs) ends
    → AllZip (λ hand end. CameTo workers all (gateway_of hand) place end) hs ends
by_hands workers all place task [] [] zipped = tt
by_hands workers all place task [] (e ∷ es) zipped = absurd zipped
by_hands workers all place task (h ∷ hs) [] zipped = absurd zipped
by_hands workers all place task (h ∷ hs) (e ∷ es) zipped = (zipped.0, by_hands workers all place task hs es zipped.1)

pub tasks_came : (setting : Setting) (workers : List Worker) (all : List (List End)) (place : ℕ) (tasks : List Task) (ends : List End) (outcomes : List Outcome) → TasksTold setting place tasks ends outcomes
    → AllZip (λ d e. CameTo workers all (gateway_of d.hand) d.place e) (duties_at setting place tasks) ends → TasksCame setting.script workers all place tasks outcomes
unfolding duties_from
tasks_came setting workers all place [] ends outcomes told zipped = told.1
tasks_came setting workers all place (task ∷ tasks) ends outcomes told zipped =
    let hs = hands_of_task (gateway_count setting.script.gateways) place task.work in
    let rest = duties_from (gateway_count setting.script.gateways) (place + 1) tasks in
    let zipped' = subst (λ (l : List End). AllZip (λ d e. CameTo workers all (gateway_of d.hand) d.place e) (duties_by place task hs ++ rest) l) told.4 zipped in
    let same : length told.0 ≡ length (duties_by place task hs) = told.5 ∙ duties_long setting place task ∙ sym (length-map hs (λ hand. record { place = place; hand = hand; task = task })) in
    let parts = zip_parts (λ d e. CameTo workers all (gateway_of d.hand) d.place e) (duties_by place task hs) rest told.0 told.1 same zipped' in
    subst (λ (os : List Outcome). TasksCame setting.script workers all place (task ∷ tasks) os) (sym told.7) (
      record { own = told.0; came = by_hands workers all place task hs told.0 parts.0; is = told.6 },
      tasks_came setting workers all (place + 1) tasks told.1 told.3 told.8 parts.1,
    )

-- the tasks from a place on may begin, where the script is lawful
pub later_begin : (setting : Setting) (n : ℕ) (tasks : List Task) → IsLawfulScript setting.script → All (λ t. IsLawfulWork setting.script.gateways setting.script.blocks (length setting.script.selectors) t.work) tasks → All (λ t. MayBegin setting t.work) (drop n tasks)
later_begin setting n tasks lawful all = All-drop (λ t. MayBegin setting t.work) n tasks (may_begin setting tasks lawful all)

-- the same of what is lent of the script
pub lent_begin : (loan script : Script) (shelf : List ShelfBlock) (n : ℕ) (tasks : List Task) → loan ≡ script → IsLawfulScript loan → All (λ t. IsLawfulWork loan.gateways loan.blocks (length loan.selectors) t.work) tasks → All (λ t. MayBegin (setting_by script shelf) t.work) (drop n tasks)
lent_begin loan script shelf n tasks same lawful all =
    later_begin (setting_by script shelf) n tasks (subst IsLawfulScript same lawful) (subst (λ (s : Script). All (λ (t : Task). IsLawfulWork s.gateways s.blocks (length s.selectors) t.work) tasks) same all)

pub take_whole : (tasks : List Task) (n : ℕ) → length tasks ≤ n → take n tasks ≡ tasks
take_whole [] zero below = refl
take_whole [] (suc n) below = refl
take_whole (t ∷ ts) zero below = absurd (omega (arith, below))
take_whole (t ∷ ts) (suc n) below = ap (λ l. t ∷ l) (take_whole ts n (omega (arith, below)))

pub on_ok : {T E : Type 0} (P : Type 0) (r : Result T E) (x : T) → r ≡ Ok x → OnOk r P → P
on_ok P (Ok y) x is m = m
on_ok P (Err y) x is m = absurd (cc (is))

pub on_err : {T E : Type 0} (P : Type 0) (r : Result T E) (x : E) → r ≡ Err x → OnErr r P → P
on_err P (Ok y) x is m = absurd (cc (is))
on_err P (Err y) x is m = m
