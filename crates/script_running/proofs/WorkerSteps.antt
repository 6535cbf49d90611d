-- A worker's tasks, one after another.
use Rattle.std.proofs.Common.{◌≡◌, true, ℕ, zero, suc, ◌+◌, ◌<◌, List, [], ◌∷◌, ◌++◌, length, take, drop, get_or, refl, sym, ◌∙◌, ap, subst, inl, inr, append_assoc, arith}
use Rattle.std.specs.Prelude.{Option, Some, None, Ok, Err, Result, slice_get}
use Rattle.std.specs.List.{All}
use Rattle.std.proofs.lemmas.List.{append-nil, length-append, take_more}
use Rattle.std.proofs.lemmas.Option.{slice_get-get_or}
use Rattle.std.proofs.lemmas.List.Elements.{All-append, All-cons, All-drop, All-nil}
use Rattle.world_core.specs.Operations.{entry_of}
use Rattle.world_core.specs.declared.entry.Entry.{Entry}
use Rattle.script_core.specs.Lawful.{IsLawfulScript, IsLawfulWork}
use Rattle.script_workers.specs.declared.task.Task.{Task}
use Rattle.script_workers.specs.declared.work.Work.{Work}
use Rattle.lifecycle_core.specs.Conducts.{Assigned, TasksAt, Who}
use Rattle.lifecycle_core.specs.Holdings.{Holding}
use Rattle.lifecycle_core.specs.Setting.{Setting}
use Rattle.lifecycle_core.specs.Tasks.{End, TaskRun}
use Rattle.lifecycle_core.proofs.phases.RunsInLine.{may_begin}
use Rattle.lifecycle_core.proofs.phases.TaskRuns.{MayBegin}
use Rattle.script_running.specs.Outcomes.{IsPart, Part}
use Rattle.script_running.specs.Sights.{Sees}
use Rattle.script_running.specs.Tasks.{CameBy, HasDone, WhenDone, is_full_came}
use Rattle.script_running.specs.Workers.{AreParts, HasWorked, IsBrokenOff, OwnRun}
use Rattle.script_running.specs.declared.came.Broken.{Broken}
use Rattle.script_running.specs.declared.came.Broken.TheVariants as broken
use Rattle.script_running.specs.declared.sight.Sight.{Sight}
use Rattle.script_running.specs.declared.worker.WorkerEnd.{WorkerEnd}
use Rattle.base.proofs.Membership.{All-place}
use Rattle.base.proofs.Lists.{slice_get-below}

-- ---- the tasks at places

-- the tasks at places that the list has
pub assigned : (tasks : List Task) (places : List ℕ) → All (λ place. place < length tasks) places → (own : List Assigned) × TasksAt tasks places own
assigned tasks [] within = ([], refl)
assigned tasks (place ∷ places) within =
    let first = slice_get-below tasks place (within 0 place (omega arith)) in
    let rest = assigned tasks places (λ k d below. within (suc k) d (omega (arith, below))) in
    (record { place = place; task = first.0 } ∷ rest.0, ((refl, first.1), rest.1))

at_more : (tasks : List Task) (places : List ℕ) (own : List Assigned) (place : ℕ) (task : Task) → TasksAt tasks places own → slice_get tasks place ≡ Some task → TasksAt tasks (places ++ place ∷ []) (own ++ record { place = place; task = task } ∷ [])
at_more tasks [] [] place task are is = ((refl, is), refl)
at_more tasks [] (a ∷ own) place task are is = absurd (cc (are))
at_more tasks (p ∷ places) [] place task are is = absurd are
at_more tasks (p ∷ places) (a ∷ own) place task are is = (are.0, at_more tasks places own place task are.1 is)

at_both : (tasks : List Task) (places others : List ℕ) (own more : List Assigned) → TasksAt tasks places own → TasksAt tasks others more → TasksAt tasks (places ++ others) (own ++ more)
at_both tasks [] others [] more are and = and
at_both tasks [] others (a ∷ own) more are and = absurd (cc (are))
at_both tasks (p ∷ places) others [] more are and = absurd are
at_both tasks (p ∷ places) others (a ∷ own) more are and = (are.0, at_both tasks places others own more are.1 and)

-- ---- what tasks came to

parts_more : (own : List Assigned) (ends : List End) (parts : List Part) (task : Assigned) (end : End) (o : Part) → AreParts own ends parts → length ends ≡ length own → IsPart task.task.work end o
    → AreParts (own ++ task ∷ []) (ends ++ end ∷ []) (parts ++ o ∷ [])
parts_more [] [] [] task end o are same is = (is, refl)
parts_more [] [] (x ∷ xs) task end o are same is = absurd (cc (are))
parts_more [] (e ∷ ends) parts task end o are same is = absurd are
parts_more (a ∷ own) [] parts task end o are same is = absurd (omega (arith, same))
parts_more (a ∷ own) (e ∷ ends) [] task end o are same is = absurd are
parts_more (a ∷ own) (e ∷ ends) (x ∷ xs) task end o are same is = (are.0, parts_more own ends xs task end o are.1 (omega (arith, same)) is)

-- tasks that follow have no parts yet
parts_on : (own more : List Assigned) (ends : List End) (parts : List Part) → AreParts own ends parts → AreParts (own ++ more) ends parts
parts_on own more [] parts are = are
parts_on [] more (e ∷ ends) parts are = absurd are
parts_on (a ∷ own) more (e ∷ ends) [] are = absurd are
parts_on (a ∷ own) more (e ∷ ends) (o ∷ parts) are = (are.0, parts_on own more ends parts are.1)

pub full_end : (came : Result (Unit {0}) Broken) → is_full_came came ≡ true → came ≡ Err broken.Full
full_end (Ok tt) is = absurd (cc (is))
full_end (Err broken.Full) is = refl
full_end (Err broken.NoMemory) is = absurd (cc (is))

-- ---- from one task to the next

-- The tasks at these places were done to their ends. What completes the rest completes them all.
pub record Worked (setting : Setting) (tasks : List Task) (who : Who) (places : List ℕ) (before : Holding) (seat : ℕ) (old new : List Entry) (sight : Sight) (parts : List Part) : Type 0 where
  pub made : List Entry
  pub entries : new ≡ old ++ made
  pub seats : All (λ e. e.seat ≡ seat) made
  pub own : List Assigned
  pub are : TasksAt tasks places own
  pub ends : List End
  pub whole : length ends ≡ length own
  pub next : Holding
  pub onward : (more : List Assigned) (entries : List Entry) (later : List End) (last : Holding) → OwnRun setting who next more entries later last → OwnRun setting who before (own ++ more) (made ++ entries) (ends ++ later) last
  pub told : AreParts own ends parts
  pub sees : Sees next sight

-- before the first task
pub none_worked : (setting : Setting) (tasks : List Task) (who : Who) (before : Holding) (seat : ℕ) (journal : List Entry) (sight : Sight) (places : List ℕ) (parts : List Part) → places ≡ [] → parts ≡ [] → Sees before sight
    → Worked setting tasks who places before seat journal journal sight parts
none_worked setting tasks who before seat journal sight places parts none none_told sees = record {
  made = [];
  entries = sym (append-nil journal);
  seats = All-nil (λ e. e.seat ≡ seat);
  own = [];
  are = subst (λ (ps : List ℕ). TasksAt tasks ps []) (sym none) refl;
  ends = [];
  whole = refl;
  next = before;
  onward = λ more entries later last run. run;
  told = none_told;
  sees = sees;
}

module _ (setting : Setting) (tasks : List Task) (who : Who) (places : List ℕ) (before : Holding) (seat : ℕ) (old mid new : List Entry) (shown sight : Sight) (parts : List Part) (place : ℕ) (task : Task)
    (at : slice_get tasks place ≡ Some task) (w : Worked setting tasks who places before seat old mid shown parts) where
  abbrev this : Assigned
  this = record { place = place; task = task }

  both_entries : (made : List Entry) → new ≡ mid ++ made → new ≡ old ++ (w.made ++ made)
  both_entries made is = is ∙ ap (λ (l : List Entry). l ++ made) w.entries ∙ append_assoc old w.made made

  -- a task more that came to its end
  both_onward : (made : List Entry) (end : End) (after : Holding) → TaskRun setting who place task.work w.next made (Some end) after
      → (more : List Assigned) (entries : List Entry) (later : List End) (last : Holding) → OwnRun setting who after more entries later last
      → OwnRun setting who before ((w.own ++ this ∷ []) ++ more) ((w.made ++ made) ++ entries) ((w.ends ++ end ∷ []) ++ later) last
  both_onward made end after run more entries later last rest =
      subst (λ (own : List Assigned). OwnRun setting who before own ((w.made ++ made) ++ entries) ((w.ends ++ end ∷ []) ++ later) last) (sym (append_assoc w.own (this ∷ []) more))
      (subst (λ (es : List Entry). OwnRun setting who before (w.own ++ this ∷ more) es ((w.ends ++ end ∷ []) ++ later) last) (sym (append_assoc w.made made entries))
      (subst (λ (ends : List End). OwnRun setting who before (w.own ++ this ∷ more) (w.made ++ (made ++ entries)) ends last) (sym (append_assoc w.ends (end ∷ []) later))
      (w.onward (this ∷ more) (made ++ entries) (end ∷ later) last (λ all. inl (made, entries, end, later, after, refl, run, refl, rest all)))))

  more_from : (o : Part) (end : End) (made : List Entry) (after : Holding) → new ≡ mid ++ made → All (λ e. e.seat ≡ seat) made → TaskRun setting who place task.work w.next made (Some end) after → Sees after sight → IsPart task.work end o
      → Worked setting tasks who (places ++ place ∷ []) before seat old new sight (parts ++ o ∷ [])
  more_from o end made after is seats run sees by = record {
    made = w.made ++ made;
    entries = both_entries made is;
    seats = All-append (λ (e : Entry). e.seat ≡ seat) w.made made w.seats seats;
    own = w.own ++ this ∷ [];
    are = at_more tasks places w.own place task w.are at;
    ends = w.ends ++ end ∷ [];
    whole = omega (arith, length-append w.ends (end ∷ []), length-append w.own (this ∷ []), w.whole);
    next = after;
    onward = both_onward made end after run;
    told = parts_more w.own w.ends parts this end o w.told w.whole by;
    sees = sees;
  }

  more_by : (o : Part) (end : Option End) (made : List Entry) (after : Holding) → new ≡ mid ++ made → All (λ e. e.seat ≡ seat) made → TaskRun setting who place task.work w.next made end after → Sees after sight → CameBy task.work end (Ok o)
      → Worked setting tasks who (places ++ place ∷ []) before seat old new sight (parts ++ o ∷ [])
  more_by o (Some end) made after is seats run sees by = more_from o end made after is seats run sees by
  more_by o None made after is seats run sees by = absurd by

  pub more_worked : (o : Part) → HasDone (TaskRun setting who place task.work w.next) (IsPart task.work) seat mid new sight (Ok o) → Worked setting tasks who (places ++ place ∷ []) before seat old new sight (parts ++ o ∷ [])
  more_worked o d = more_by o d.end d.made d.after d.entries d.seats d.run d.sees d.by

  -- ---- the task that was broken off

  cut_run : (more : List Assigned) (made : List Entry) (end : Option End) (after : Holding) → TaskRun setting who place task.work w.next made end after → end ≡ None → OwnRun setting who before (w.own ++ this ∷ more) (w.made ++ made) (w.ends ++ []) after
  cut_run more made end after run none = w.onward (this ∷ more) made [] after (λ all. inr (subst (λ (e : Option End). TaskRun setting who place task.work w.next made e after) none run, refl))

  -- an operation that is due in the task: its entry goes on with the run, be it to the task's end
  on_by : (more : List Assigned) (made : List Entry) (end : Option End) (after : Holding) → All (λ (a : Assigned). MayBegin setting a.task.work) more → TaskRun setting who place task.work w.next made end after
      → (run : List End × Holding) × OwnRun setting who before (w.own ++ this ∷ more) (w.made ++ made) run.0 run.1
  on_by more made None after begin run = ((w.ends ++ [], after), cut_run more made None after run refl)
  on_by [] made (Some end) after begin run =
      ((w.ends ++ end ∷ [], after), w.onward (this ∷ []) made (end ∷ []) after (λ all. inl (made, [], end, [], after, sym (append-nil made), run, refl, (refl, refl, refl))))
  on_by (a ∷ more) made (Some end) after begin run =
      ((w.ends ++ end ∷ [], after), w.onward (this ∷ a ∷ more) made (end ∷ []) after (λ all. inl (made, [], end, [], after, sym (append-nil made), run, refl, inr (begin 0 a (omega arith) who a.place after, refl))))

  none_by : (work : Work) (end : Option End) (why : Broken) → CameBy work end (Err why) → end ≡ None
  none_by work None why by = refl
  none_by work (Some end) broken.Full by = absurd by
  none_by work (Some end) broken.NoMemory by = absurd by

  cut_off : (more : List Assigned) (why : Broken) → All (λ (a : Assigned). MayBegin setting a.task.work) more → (d : HasDone (TaskRun setting who place task.work w.next) (IsPart task.work) seat mid new sight (Err why))
      → IsBrokenOff (OwnRun setting who before (w.own ++ this ∷ more)) (length (w.own ++ this ∷ more)) seat (w.made ++ d.made) (w.ends ++ []) (Err why)
  cut_off more broken.NoMemory begin d = tt
  cut_off more broken.Full begin d = (
    omega (arith, length-append w.own (this ∷ more), length-append w.ends [], w.whole),
    (
      (d.due).0,
      (d.due).1,
      λ seen answer.
          let e = entry_of seat (d.due).0 seen in
          let next = (d.due).2 seen answer in
          let on = on_by more (d.made ++ e ∷ []) next.0 next.1.0 begin next.1.1 in
          (on.0, subst (λ (es : List Entry). OwnRun setting who before (w.own ++ this ∷ more) es on.0.0 on.0.1) (sym (append_assoc w.made d.made (e ∷ []))) on.1),
    ),
  )

  pub broken_worked : (all : List ℕ) (others : List ℕ) (more : List Assigned) (why : Broken) (end : WorkerEnd) → all ≡ places ++ place ∷ others → TasksAt tasks others more → All (λ (a : Assigned). MayBegin setting a.task.work) more
      → end.parts.items ≡ parts → end.came ≡ Err why → HasDone (TaskRun setting who place task.work w.next) (IsPart task.work) seat mid new sight (Err why) → HasWorked (TasksAt tasks all) (OwnRun setting who before) seat old new end
  broken_worked all others more why end split are begin told came d = record {
    made = w.made ++ d.made;
    entries = both_entries d.made d.entries;
    seats = All-append (λ (e : Entry). e.seat ≡ seat) w.made d.made w.seats d.seats;
    own = w.own ++ this ∷ more;
    are = subst (λ (ps : List ℕ). TasksAt tasks ps (w.own ++ this ∷ more)) (sym split) (at_both tasks places (place ∷ others) w.own (this ∷ more) w.are ((refl, at), are));
    ends = w.ends ++ [];
    last = d.after;
    run = cut_run more d.made d.end d.after d.run (none_by task.work d.end why d.by);
    parts = subst (AreParts (w.own ++ this ∷ more) (w.ends ++ [])) (sym told) (subst (λ (es : List End). AreParts (w.own ++ this ∷ more) es parts) (sym (append-nil w.ends)) (parts_on w.own (this ∷ more) w.ends parts w.told));
    sees = subst (λ (r : Result (Unit {0}) Broken). WhenDone r (Sees d.after end.sight)) (sym came) tt;
    broken = subst (IsBrokenOff (OwnRun setting who before (w.own ++ this ∷ more)) (length (w.own ++ this ∷ more)) seat (w.made ++ d.made) (w.ends ++ [])) (sym came) (cut_off more why begin d);
  }

-- all tasks were done
pub all_worked : (setting : Setting) (tasks : List Task) (who : Who) (places all : List ℕ) (before : Holding) (seat : ℕ) (old new : List Entry) (sight : Sight) (parts : List Part) (end : WorkerEnd) → places ≡ all
    → end.parts.items ≡ parts → end.came ≡ Ok tt → end.sight ≡ sight → Worked setting tasks who places before seat old new sight parts → HasWorked (TasksAt tasks all) (OwnRun setting who before) seat old new end
all_worked setting tasks who places all before seat old new sight parts end is told came same w = record {
  made = w.made;
  entries = w.entries;
  seats = w.seats;
  own = w.own;
  are = subst (λ (ps : List ℕ). TasksAt tasks ps w.own) is w.are;
  ends = w.ends;
  last = w.next;
  run = subst (λ (own : List Assigned). OwnRun setting who before own w.made w.ends w.next) (append-nil w.own)
      (subst (λ (es : List Entry). OwnRun setting who before (w.own ++ []) es w.ends w.next) (append-nil w.made)
      (subst (λ (ends : List End). OwnRun setting who before (w.own ++ []) (w.made ++ []) ends w.next) (append-nil w.ends)
      (w.onward [] [] [] w.next (λ all. (refl, refl, refl)))));
  parts = subst (AreParts w.own w.ends) (sym told) w.told;
  sees = subst (λ (r : Result (Unit {0}) Broken). WhenDone r (Sees w.next end.sight)) (sym came) (subst (Sees w.next) (sym same) w.sees);
  broken = subst (IsBrokenOff (OwnRun setting who before w.own) (length w.own) seat w.made w.ends) (sym came) w.whole;
}

-- ---- where nothing was done

pub tasks_begin : (setting : Setting) (tasks : List Task) → All (λ t. MayBegin setting t.work) tasks → (places : List ℕ) (own : List Assigned) → TasksAt tasks places own → All (λ (a : Assigned). MayBegin setting a.task.work) own
tasks_begin setting tasks begin [] [] are = All-nil (λ (a : Assigned). MayBegin setting a.task.work)
tasks_begin setting tasks begin [] (a ∷ own) are = absurd (cc (are))
tasks_begin setting tasks begin (p ∷ places) [] are = absurd are
tasks_begin setting tasks begin (p ∷ places) (a ∷ own) are = All-cons (λ (a : Assigned). MayBegin setting a.task.work) a own (All-place (λ (t : Task). MayBegin setting t.work) tasks p a.task begin are.0.1) (tasks_begin setting tasks begin places own are.1)

pub none_run : (setting : Setting) (who : Who) (before : Holding) (own : List Assigned) → All (λ (a : Assigned). MayBegin setting a.task.work) own → OwnRun setting who before own [] [] before
none_run setting who before [] begin = λ all. (refl, refl, refl)
none_run setting who before (a ∷ own) begin = λ all. inr (begin 0 a (omega arith) who a.place before, refl)

-- for want of memory
pub none_done : (setting : Setting) (tasks : List Task) (who : Who) (places : List ℕ) (before : Holding) (seat : ℕ) (journal : List Entry) (end : WorkerEnd) → IsLawfulScript setting.script
    → All (λ t. IsLawfulWork setting.script.gateways setting.script.blocks (length setting.script.selectors) t.work) tasks → All (λ place. place < length tasks) places
    → end.parts.items ≡ [] → end.came ≡ Err broken.NoMemory → HasWorked (TasksAt tasks places) (OwnRun setting who before) seat journal journal end
none_done setting tasks who places before seat journal end lawful allowed within told came =
    let own = assigned tasks places within in
    let begin = tasks_begin setting tasks (may_begin setting tasks lawful allowed) places own.0 own.1 in
    record {
      made = [];
      entries = sym (append-nil journal);
      seats = All-nil (λ e. e.seat ≡ seat);
      own = own.0;
      are = own.1;
      ends = [];
      last = before;
      run = none_run setting who before own.0 begin;
      parts = told;
      sees = subst (λ (r : Result (Unit {0}) Broken). WhenDone r (Sees before end.sight)) (sym came) tt;
      broken = subst (IsBrokenOff (OwnRun setting who before own.0) (length own.0) seat [] []) (sym came) tt;
    }

-- ---- a turn of the loop

at_place : (tasks : List Task) (place : ℕ) (task : Task) → place < length tasks → task ≡ get_or tasks place task → slice_get tasks place ≡ Some task
at_place tasks place task within is = slice_get-get_or tasks place task within ∙ ap Some (sym is)

front_more : (places : List ℕ) (number place : ℕ) → number < length places → place ≡ get_or places number place → take (number + 1) places ≡ take number places ++ place ∷ []
front_more places number place below is = take_more places number place below ∙ ap (λ (p : ℕ). take number places ++ p ∷ []) (sym is)

parts_at : (places : List ℕ) (number place : ℕ) → number < length places → place ≡ get_or places number place → places ≡ take number places ++ place ∷ drop (number + 1) places
parts_at [] number place below is = absurd (omega (arith, below))
parts_at (p ∷ places) zero place below is = ap (λ (x : ℕ). x ∷ places) (sym is)
parts_at (p ∷ places) (suc number) place below is = let e : suc number + 1 ≡ suc (number + 1) = omega arith in rw e (ap (λ l. p ∷ l) (parts_at places number place (omega (arith, below)) is))

pub place_within : (tasks : List Task) (places : List ℕ) (number place : ℕ) → number < length places → place ≡ get_or places number place → All (λ p. p < length tasks) places → place < length tasks
place_within tasks places number place below is within = subst (λ (p : ℕ). p < length tasks) (sym is) (within number place below)

module _ (setting : Setting) (tasks : List Task) (who : Who) (places : List ℕ) (before : Holding) (seat own_seat : ℕ) (old mid new : List Entry) (shown sight : Sight) (parts : List Part) (number place : ℕ) (task : Task)
    (below : number < length places) (is : place ≡ get_or places number place) (within : All (λ p. p < length tasks) places) (at : task ≡ get_or tasks place task) (same : own_seat ≡ seat)
    (w : Worked setting tasks who (take number places) before seat old mid shown parts) where
  found : slice_get tasks place ≡ Some task
  found = at_place tasks place task (place_within tasks places number place below is within) at

  pub step_worked : (outs : List Part) (o : Part) (came : Result Part Broken) → came ≡ Ok o → outs ≡ parts ++ o ∷ [] → ((held : Holding) → Sees held shown → HasDone (TaskRun setting who place task.work held) (IsPart task.work) own_seat mid new sight came)
      → Worked setting tasks who (take (number + 1) places) before seat old new sight outs
  step_worked outs o came ok told done =
      let d = subst (λ (s : ℕ). HasDone (TaskRun setting who place task.work w.next) (IsPart task.work) s mid new sight (Ok o)) same (subst (λ (x : Result Part Broken). HasDone (TaskRun setting who place task.work w.next) (IsPart task.work) own_seat mid new sight x) ok (done w.next w.sees)) in
      subst (λ (os : List Part). Worked setting tasks who (take (number + 1) places) before seat old new sight os) (sym told)
      (subst (λ (ps : List ℕ). Worked setting tasks who ps before seat old new sight (parts ++ o ∷ [])) (sym (front_more places number place below is))
      (more_worked setting tasks who (take number places) before seat old mid new shown sight parts place task found w o d))

  pub step_broken : (why : Broken) (came : Result Part Broken) (end : WorkerEnd) → IsLawfulScript setting.script → All (λ t. IsLawfulWork setting.script.gateways setting.script.blocks (length setting.script.selectors) t.work) tasks
      → came ≡ Err why → end.parts.items ≡ parts → end.came ≡ Err why → ((held : Holding) → Sees held shown → HasDone (TaskRun setting who place task.work held) (IsPart task.work) own_seat mid new sight came)
      → HasWorked (TasksAt tasks places) (OwnRun setting who before) seat old new end
  step_broken why came end lawful allowed err told broke done =
      let d = subst (λ (s : ℕ). HasDone (TaskRun setting who place task.work w.next) (IsPart task.work) s mid new sight (Err why)) same (subst (λ (x : Result Part Broken). HasDone (TaskRun setting who place task.work w.next) (IsPart task.work) own_seat mid new sight x) err (done w.next w.sees)) in
      let more = assigned tasks (drop (number + 1) places) (All-drop (λ p. p < length tasks) (number + 1) places within) in
      let begin = tasks_begin setting tasks (may_begin setting tasks lawful allowed) (drop (number + 1) places) more.0 more.1 in
      broken_worked setting tasks who (take number places) before seat old mid new shown sight parts place task found w places (drop (number + 1) places) more.0 why end
      (parts_at places number place below is) more.1 begin told broke d
