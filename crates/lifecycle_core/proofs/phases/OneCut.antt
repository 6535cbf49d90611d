-- A journal tells which phases were done: so two runs over one journal that were broken off while an operation was due, and such a run is no finished one.
use Rattle.base.proofs.Membership.{member_cases, no_member}
use Rattle.base.proofs.Lists.{middle_not_nil}
use Rattle.std.proofs.Common.{◌≡◌, ◌≢◌, ◌⊎◌, inl, inr, ℕ, ◌+◌, ◌==◌, Bool, true, false, List, [], ◌∷◌, ◌++◌, length, map, All, Contains, Option, Some, None, refl, sym, ◌∙◌, ap, subst, arith, append_assoc, append-nil}
use Rattle.std.specs.List.{AllZip}
use Rattle.std.proofs.lemmas.Bool.Decides.{nat_tests}
use Rattle.std.proofs.lemmas.List.Elements.{filter-append}
use Rattle.world_core.specs.Operations.{IsAnswer, entry_of}
use Rattle.world_core.specs.declared.op.Op.{Op}
use Rattle.world_core.specs.declared.op.Op.TheVariants.{Clock, Put, Get, GetRange, Delete, RootPage, BlockPage}
use Rattle.world_core.specs.declared.reply.Reply.{Reply}
use Rattle.world_core.specs.declared.reply.Reply.TheVariants as reply
use Rattle.world_core.specs.declared.seen.Seen.{Seen}
use Rattle.world_core.specs.declared.entry.Entry.{Entry}
use Rattle.script_core.specs.Workers.{workers_of}
use Rattle.script_workers.specs.declared.phase.Phase.{Phase}
use Rattle.script_workers.specs.declared.task.Task.{Task}
use Rattle.script_workers.specs.declared.worker.Worker.{Worker}
use Rattle.world_core.specs.Journals.{of_seat}
use Rattle.lifecycle_core.specs.Conducts.{AreDone, Assigned, PhaseRun, TasksRun, Who, WorkerRun, who_of}
use Rattle.lifecycle_core.specs.Cuts.{IsCutBehind}
use Rattle.lifecycle_core.specs.Holdings.{Holding, Holdings, holding_of, none_held}
use Rattle.lifecycle_core.specs.Phases.{IsFinished, IsRunOf, by_script, by_workers}
use Rattle.lifecycle_core.specs.Setting.{Setting}
use Rattle.lifecycle_core.specs.Tasks.{End, TaskRun}
use Rattle.lifecycle_core.specs.Ways.{AreFinished, IsOperationDue, PhasesRun}
use Rattle.lifecycle_core.proofs.phases.OneEnding.{alike, first_longer, second_longer, at_tells, begun_tell, made_above, no_further, parted, phase_tells, starts, task_once, task_tells, within}
use Rattle.lifecycle_core.proofs.phases.TaskRuns.{tasks_long}

-- ---- an answer to an operation

abbrev answer_of : Op → Reply
answer_of (Clock moment) = reply.Clocked
answer_of (Put key bytes) = reply.Stored
answer_of (Get key) = reply.Absent
answer_of (GetRange key low len) = reply.Absent
answer_of (Delete key) = reply.Deleted
answer_of (RootPage after limit) = reply.Names []
answer_of (BlockPage ulid after limit) = reply.Names []

abbrev some_seen : Op → Seen
some_seen op = record { seq = 1; moment = record { ms = 0 }; reply = answer_of op }

some_answer : (op : Op) → IsAnswer op (some_seen op)
some_answer (Clock moment) = record { kind = tt; moment = omega arith }
some_answer (Put key bytes) = record { kind = tt; moment = omega arith }
some_answer (Get key) = record { kind = tt; moment = omega arith }
some_answer (GetRange key low len) = record { kind = tt; moment = omega arith }
some_answer (Delete key) = record { kind = tt; moment = omega arith }
some_answer (RootPage after limit) = record { kind = tt; moment = omega arith }
some_answer (BlockPage ulid after limit) = record { kind = tt; moment = omega arith }

-- ---- lists

some_first : {X : Type 0} (xs : List X) (y : X) (rest : List X) → (z : X) × (zs : List X) × (xs ++ y ∷ rest ≡ z ∷ zs)
some_first [] y rest = (y, rest, refl)
some_first (x ∷ xs) y rest = (x, xs ++ y ∷ rest, refl)

same_seat : (n m : ℕ) → n ≡ m → (m == n) ≡ true
same_seat n m is = grind (arith, nat_tests, is)

own_entry : (seat : ℕ) (e : Entry) → seat ≡ e.seat → (b : Bool) → (e.seat == seat) ≡ b → of_seat seat (e ∷ []) ≡ e ∷ []
own_entry seat e is true test = cc (test)
own_entry seat e is false test = absurd (let yes : (e.seat == seat) ≡ true = same_seat seat e.seat is in cc (test, yes))

-- the entries of a seat that made one more
with_own : (seat : ℕ) (made : List Entry) (e : Entry) → seat ≡ e.seat → of_seat seat (made ++ e ∷ []) ≡ of_seat seat made ++ e ∷ []
with_own seat made e is =
    filter-append (λ (x : Entry). x.seat == seat) made (e ∷ []) ∙ ap (λ (es : List Entry). of_seat seat made ++ es) (own_entry seat e is (e.seat == seat) refl)

module _ (setting : Setting) where
  -- ---- workers

  abbrev Did : Who → List Entry → Holding → List Assigned → List Entry → List End → Holding → Type 0
  Did = TasksRun (by_script setting)

  abbrev Does : Who → Assigned → Holding → List Entry → Option End → Holding → Type 0
  Does who own held made end after = TaskRun setting who own.place own.task.work held made end after

  -- a worker whose tasks have come to their ends makes no entry more
  tasks_once : (who : Who) (all all' : List Entry) (held : Holding) (tasks : List Assigned) (entries : List Entry) (y : Entry) (rest : List Entry) (one other : List End) (last also : Holding)
      → Did who all held tasks entries one last → Did who all' held tasks (entries ++ y ∷ rest) other also → length one ≡ length tasks → ⊥
  tasks_once who all all' held [] entries y rest one other last also run more full = middle_not_nil entries y rest more.0
  tasks_once who all all' held (own ∷ tasks) entries y rest one other last also (inr (run, none)) more full = absurd (omega (arith, full, ap (λ (l : List End). length l) none))
  tasks_once who all all' held (own ∷ tasks) entries y rest one other last also (inl (made, others, end, later, next, parts, run, is, go)) (inr (more, none)) full =
      let first = some_first others y rest in
      let whole : entries ++ y ∷ rest ≡ made ++ first.0 ∷ first.1 = ap (λ (es : List Entry). es ++ y ∷ rest) parts ∙ append_assoc made others (y ∷ rest) ∙ ap (λ (es : List Entry). made ++ es) first.2 in
      task_once setting who own.place own.task.work held next also made first.0 first.1 end None run (subst (λ (es : List Entry). Does who own held es None also) whole more)
  tasks_once who all all' held (own ∷ tasks) entries y rest one other last also (inl (made, others, end, later, next, parts, run, is, go)) (inl (made', others', end', later', next', parts', run', so, go')) full =
      elim (parted made (others ++ y ∷ rest) made' others' (sym (ap (λ (es : List Entry). es ++ y ∷ rest) parts ∙ append_assoc made others (y ∷ rest)) ∙ parts')) [
        | alike first second ↦
            let same = task_tells setting who own.place own.task.work held next next' made end end' run (subst (λ (es : List Entry). Does who own held es (Some end') next') (sym first) run') in
            tasks_once who all all' next tasks others y rest later later' last also go
            (subst (λ (es : List Entry). Did who all' next tasks es later' also) (sym second) (subst (λ (h : Holding). Did who all' h tasks others' later' also) (sym same.1) go'))
            (omega (arith, full, ap (λ (l : List End). length l) is))
        | first_longer z zs first second ↦ task_once setting who own.place own.task.work held next' next made' z zs end' (Some end) run' (subst (λ (es : List Entry). Does who own held es (Some end) next) first run)
        | second_longer z zs first second ↦ task_once setting who own.place own.task.work held next next' made z zs end (Some end') run (subst (λ (es : List Entry). Does who own held es (Some end') next') first run')
      ]

  module _ (tasks : List Task) (before : Holdings) (made : List Entry) (e : Entry) (after later : Holdings) where
    abbrev Worked : Worker → List End → Type 0
    Worked = WorkerRun (by_script setting) tasks before made after

    -- with one entry more
    abbrev WorkedOn : Worker → List End → Type 0
    WorkedOn = WorkerRun (by_script setting) tasks before (made ++ e ∷ []) later

    worker_once : (worker : Worker) (one other : List End) → Worked worker one → WorkedOn worker other → length worker.tasks ≡ length one → worker.seat ≡ e.seat → ⊥
    worker_once worker one other run more full seat =
        let same : run.own ≡ more.own = at_tells setting tasks worker.tasks run.own more.own run.are more.are in
        let count = tasks_long tasks worker.tasks run.own run.are in
        tasks_once (who_of worker) made (made ++ e ∷ []) (holding_of before worker.gateway) run.own (of_seat worker.seat made) e [] one other run.last more.last run.runs
        (subst (λ (es : List Entry). Did (who_of worker) (made ++ e ∷ []) (holding_of before worker.gateway) run.own es other more.last) (with_own worker.seat made e seat)
        (subst (λ (os : List Assigned). Did (who_of worker) (made ++ e ∷ []) (holding_of before worker.gateway) os (of_seat worker.seat (made ++ e ∷ [])) other more.last) (sym same) more.runs))
        (sym full ∙ sym count)

    workers_once : (workers : List Worker) (one other : List (List End)) → AllZip Worked workers one → AllZip WorkedOn workers other → AreDone workers one → Contains (map (λ (w : Worker). w.seat) workers) e.seat → ⊥
    workers_once [] one other all also full among = no_member e.seat among
    workers_once (w ∷ ws) [] other all also full among = all
    workers_once (w ∷ ws) (x ∷ one) [] all also full among = also
    workers_once (w ∷ ws) (x ∷ one) (z ∷ other) all also full among = elim (member_cases w.seat e.seat (map (λ (v : Worker). v.seat) ws) among) [
      | inl first ↦ worker_once w x z all.0 also.0 (cc (full)) first
      | inr rest ↦ workers_once ws one other all.1 also.1 (cc (full)) rest
    ]

  -- ---- phases

  abbrev Works : ℕ → Phase → Holdings → List Entry → List (List End) → Holdings → Type 0
  Works number phase = PhaseRun (by_script setting) phase.tasks (workers_of setting.script number)

  -- a phase that is done makes no entry more
  phase_once : (number : ℕ) (phase : Phase) (before after later : Holdings) (made : List Entry) (e : Entry) (one other : List (List End)) → Works number phase before made one after → Works number phase before (made ++ e ∷ []) other later
      → AreDone (workers_of setting.script number) one → ⊥
  phase_once number phase before after later made e one other run more full =
      elim (within (λ (x : Entry). Contains (map (λ (w : Worker). w.seat) (workers_of setting.script number)) x.seat ⊎ ⊥) made e [] more.seats) [
        | inl among ↦ workers_once phase.tasks before made e after later (workers_of setting.script number) one other run.runs more.runs full among
        | inr none ↦ none
      ]

  abbrev Ran : ℕ → Holdings → List Phase → List Entry → List (List (List End)) → Type 0
  Ran = PhasesRun (by_workers setting)

  abbrev Finished : ℕ → List Phase → List (List (List End)) → Type 0
  Finished = AreFinished (by_workers setting)

  -- where there are no entries there are no ends, and the other way round
  nothing_begun : (number : ℕ) (before : Holdings) (phases : List Phase) (ends : List (List (List End))) → Ran number before phases [] ends → ends ≡ []
  nothing_begun number before [] ends run = run.1
  nothing_begun number before (phase ∷ phases) ends (inl none) = none.1
  nothing_begun number before (phase ∷ phases) ends (inr (clock, made, others, first, later, after, parts, begins, run, are, go)) = absurd (cc (parts))

  no_ends : (number : ℕ) (before : Holdings) (phases : List Phase) (entries : List Entry) → Ran number before phases entries [] → entries ≡ []
  no_ends number before [] entries run = run.0
  no_ends number before (phase ∷ phases) entries (inl none) = none.0
  no_ends number before (phase ∷ phases) entries (inr (clock, made, others, first, later, after, parts, begins, run, are, go)) = absurd (cc (are))

  -- phases that are finished have ends
  some_ends : (number : ℕ) (phases : List Phase) (phase : Phase) (more : List Phase) (told untold : List (List (List End))) → Finished number (phases ++ phase ∷ more) told → told ++ untold ≡ [] → ⊥
  some_ends number [] phase more [] untold full none = full
  some_ends number [] phase more (x ∷ told) untold full none = cc (none)
  some_ends number (p ∷ phases) phase more [] untold full none = full
  some_ends number (p ∷ phases) phase more (x ∷ told) untold full none = cc (none)

  -- a run that has begun a phase begins it where another list of entries, of which these are the first, goes on
  starts_later : (number : ℕ) (before : Holdings) (phases : List Phase) (entries back : List Entry) (ends : List (List (List End))) (y : Entry) (zs others : List Entry)
      → entries ++ back ≡ y ∷ zs ++ others → Ran number before phases entries ends → (ends ≡ [] → ⊥) → y.seat ≡ 0
  starts_later number before phases [] back ends y zs others is run some = absurd (some (nothing_begun number before phases ends run))
  starts_later number before phases (c ∷ cs) back ends y zs others is run some =
      let same : y ≡ c = cc (is) in ap (λ (e : Entry). e.seat) same ∙ starts setting number before phases c cs ends run

  -- a phase that is done in the one run makes no entry more in the other
  one_rest : (number : ℕ) (phase : Phase) (before after later : Holdings) (left : List Phase) (made others made' : List Entry) (e : Entry) (one other : List (List End)) (ends : List (List (List End)))
      → made ++ (others ++ e ∷ []) ≡ made' → Works number phase before made one after → Works number phase before made' other later → Ran (number + 1) after left others ends → AreDone (workers_of setting.script number) one → ⊥
  one_rest number phase before after later left made [] made' e one other ends is run more go full =
      phase_once number phase before after later made e one other run (subst (λ (m : List Entry). Works number phase before m other later) (sym is) more) full
  one_rest number phase before after later left made (c ∷ cs) made' e one other ends is run more go full =
      within (λ (x : Entry). x.seat ≢ 0) made c (cs ++ e ∷ []) (subst (All (λ (x : Entry). x.seat ≢ 0)) (sym is) (made_above setting number phase before later made' other more)) (starts setting (number + 1) after left c cs ends go)

  one_more : (number : ℕ) (before : Holdings) (phase : Phase) (finished left others : List Phase) (entries : List Entry) (e : Entry) (told untold : List (List (List End))) (own : List (List End))
      → Ran number before (phase ∷ left) entries (told ++ untold) → Ran number before (phase ∷ others) (entries ++ e ∷ []) (own ∷ []) → Finished number (phase ∷ finished) told → ⊥
  one_more number before phase finished left others entries e [] untold own run on full = full
  one_more number before phase finished left others entries e (x ∷ told) untold own (inl none) on full = cc (none.1)
  one_more number before phase finished left others entries e (x ∷ told) untold own (inr run) (inl none) full = cc (none.1)
  one_more number before phase finished left others entries e (x ∷ told) untold own (inr (clock, made, rest, first, later, after, parts, begins, run, are, go)) (inr (clock', made', rest', first', later', after', parts', begins', run', are', go')) full =
      let ended : rest' ≡ [] = no_ends (number + 1) after' others rest' (subst (λ (es : List (List (List End))). Ran (number + 1) after' others rest' es) (cc (are')) go') in
      let all : clock ∷ (made ++ rest) ++ e ∷ [] ≡ clock' ∷ made' ++ rest' = sym (ap (λ (es : List Entry). es ++ e ∷ []) parts) ∙ parts' in
      let both : (made ++ rest) ++ e ∷ [] ≡ made' ++ rest' = cc (all) in
      one_rest number phase before after after' left made rest made' e x first' later (sym (append_assoc made rest (e ∷ [])) ∙ both ∙ ap (λ (es : List Entry). made' ++ es) ended ∙ append-nil made')
      (subst (λ (es : List (List End)). Works number phase before made es after) (sym (cc (are))) run) run' go full.0

  -- two runs, behind the phases that both have finished
  record Behind (left others : List Phase) (back : List Entry) (done : List Phase) (untold more : List (List (List End))) : Type 0 where
    number : ℕ
    before : Holdings
    entries : List Entry
    told : List (List (List End))
    run : Ran number before (done ++ left) entries (told ++ untold)
    on : Ran number before others (entries ++ back) more
    full : Finished number done told

  -- Of two runs, the second of which may have made entries more, the first has finished a phase behind those that both have finished.
  behind : (number : ℕ) (before : Holdings) (done : List Phase) (phase : Phase) (finished left others_left : List Phase) (entries back : List Entry) (told untold also more : List (List (List End)))
      → Ran number before ((done ++ phase ∷ finished) ++ left) entries (told ++ untold) → Ran number before (done ++ others_left) (entries ++ back) (also ++ more)
      → Finished number (done ++ phase ∷ finished) told → Finished number done also → Behind left others_left back (phase ∷ finished) untold more
  behind number before [] phase finished left others_left entries back told untold also more run on full whole = record {
    number = number;
    before = before;
    entries = entries;
    told = told;
    run = run;
    on = subst (λ (es : List (List (List End))). Ran number before others_left (entries ++ back) (es ++ more)) whole on;
    full = full;
  }
  behind number before (d ∷ done) phase finished left others_left entries back [] untold also more run on full whole = absurd full
  behind number before (d ∷ done) phase finished left others_left entries back (x ∷ told) untold [] more run on full whole = absurd whole
  behind number before (d ∷ done) phase finished left others_left entries back (x ∷ told) untold (z ∷ also) more (inl none) on full whole = absurd (cc (none.1))
  behind number before (d ∷ done) phase finished left others_left entries back (x ∷ told) untold (z ∷ also) more (inr run) (inl none) full whole = absurd (cc (none.1))
  behind number before (d ∷ done) phase finished left others_left entries back (x ∷ told) untold (z ∷ also) more (inr (clock, made, others, first, later, after, parts, begins, run, are, go)) (inr (clock', made', others', first', later', after', parts', begins', run', are', go')) full whole =
      let one : x ≡ first = cc (are) in
      let rest : told ++ untold ≡ later = cc (are) in
      let one' : z ≡ first' = cc (are') in
      let rest' : also ++ more ≡ later' = cc (are') in
      let own : Works number d before made x after = subst (λ (es : List (List End)). Works number d before made es after) (sym one) run in
      let own' : Works number d before made' z after' = subst (λ (es : List (List End)). Works number d before made' es after') (sym one') run' in
      let onward : Ran (number + 1) after ((done ++ phase ∷ finished) ++ left) others (told ++ untold) = subst (λ (es : List (List (List End))). Ran (number + 1) after ((done ++ phase ∷ finished) ++ left) others es) (sym rest) go in
      let onward' : Ran (number + 1) after' (done ++ others_left) others' (also ++ more) = subst (λ (es : List (List (List End))). Ran (number + 1) after' (done ++ others_left) others' es) (sym rest') go' in
      let all : clock ∷ (made ++ others) ++ back ≡ clock' ∷ made' ++ others' = sym (ap (λ (es : List Entry). es ++ back) parts) ∙ parts' in
      elim (parted made (others ++ back) made' others' (sym (append_assoc made others back) ∙ cc (all))) [
        | alike same same' ↦
            let phases = phase_tells setting number d before made x z after after' own (subst (λ (m : List Entry). Works number d before m z after') (sym same) own') full.0 whole.0 in
            behind (number + 1) after done phase finished left others_left others back told untold also more onward
            (subst (λ (h : Holdings). Ran (number + 1) h (done ++ others_left) (others ++ back) (also ++ more)) (sym phases.1) (subst (λ (es : List Entry). Ran (number + 1) after' (done ++ others_left) es (also ++ more)) (sym same') onward')) full.1 whole.1
        | first_longer y zs is so ↦ absurd (no_further setting number d before after after' (done ++ others_left) made' y zs others' made (others ++ back) x (also ++ more) is so own onward')
        | second_longer y zs is so ↦ absurd
            (within (λ (e : Entry). e.seat ≢ 0) made y zs (subst (All (λ (e : Entry). e.seat ≢ 0)) is (made_above setting number d before after' made' z own'))
            (starts_later (number + 1) after ((done ++ phase ∷ finished) ++ left) others back (told ++ untold) y zs others' so onward (some_ends (number + 1) done phase finished told untold full.1)))
      ]

  -- A run that was broken off behind some phases while an operation was due, and a run that finished one of the phases left.
  no_more : (journal : List Entry) (done : List Phase) (phase : Phase) (finished left others : List Phase) (told untold also more : List (List (List End)))
      → Ran 0 none_held ((done ++ phase ∷ finished) ++ left) journal (told ++ untold) → Finished 0 (done ++ phase ∷ finished) told
      → Ran 0 none_held (done ++ phase ∷ others) journal (also ++ more) → Finished 0 done also
      → (more ≢ [] → IsOperationDue (by_workers setting) none_held (done ++ phase ∷ others) journal also) → ⊥
  no_more journal done phase finished left others told untold also [] run full on whole due =
      let back = behind 0 none_held done phase finished left (phase ∷ others) journal [] told untold also []
      run (subst (λ (es : List Entry). Ran 0 none_held (done ++ phase ∷ others) es (also ++ [])) (sym (append-nil journal)) on) full whole in
      let none : back.entries ≡ [] = sym (append-nil back.entries) ∙ no_ends back.number back.before (phase ∷ others) (back.entries ++ []) back.on in
      some_ends back.number [] phase finished back.told untold back.full
      (nothing_begun back.number back.before (phase ∷ finished ++ left) (back.told ++ untold) (subst (λ (es : List Entry). Ran back.number back.before (phase ∷ finished ++ left) es (back.told ++ untold)) none back.run))
  no_more journal done phase finished left others told untold also (own ∷ more) run full on whole due =
      let is = due (λ none. cc (none)) in
      let seen = some_seen is.1.0 in
      let next = is.1.2 seen (some_answer is.1.0) in
      let e = entry_of is.0 is.1.0 seen in
      let back = behind 0 none_held done phase finished left (phase ∷ others) journal (e ∷ []) told untold also (next.0 ∷ []) run next.1 full whole in
      one_more back.number back.before phase finished (finished ++ left) others back.entries e back.told untold next.0 back.run back.on back.full

  -- what is behind the phases that a broken off run finished
  abbrev Cut : List Entry → List Phase → List (List (List End)) → Type 0
  Cut = IsCutBehind setting

  -- no run over the journal has finished a phase behind those
  no_further_phase : (journal : List Entry) (done : List Phase) (also : List (List (List End))) (cut : Cut journal done also) (phase : Phase) (finished left : List Phase) (told untold : List (List (List End)))
      → cut.left ≡ phase ∷ finished ++ left → setting.script.phases ≡ (done ++ phase ∷ finished) ++ left
      → Ran 0 none_held setting.script.phases journal (told ++ untold) → Finished 0 (done ++ phase ∷ finished) told → ⊥
  no_further_phase journal done also cut phase finished left told untold is all run full =
      let phases : setting.script.phases ≡ done ++ phase ∷ (finished ++ left) = cut.phases ∙ ap (λ (ps : List Phase). done ++ ps) is in
      no_more journal done phase finished left (finished ++ left) told untold also cut.untold
      (subst (λ (ps : List Phase). Ran 0 none_held ps journal (told ++ untold)) all run) full
      (subst (λ (ps : List Phase). Ran 0 none_held ps journal (also ++ cut.untold)) phases (cut.run).phases) cut.finished
      (λ some. subst (λ (ps : List Phase). IsOperationDue (by_workers setting) none_held ps journal also) phases (cut.due some))

  -- two runs that were broken off
  pub cuts_tell : (journal : List Entry) (done also : List Phase) (one other : List (List (List End))) → Cut journal done one → Cut journal also other → (done ≡ also) × (one ≡ other)
  cuts_tell journal done also one other cut on =
      elim (parted done cut.left also on.left (sym cut.phases ∙ on.phases)) [
        | alike same left ↦ (
          same,
          begun_tell setting journal done cut.left one other cut.untold on.untold cut.phases cut.run on.run cut.finished (subst (λ (ps : List Phase). Finished 0 ps other) (sym same) on.finished),
        )
        | first_longer y zs same left ↦ absurd
            (no_further_phase journal also other on y zs cut.left one cut.untold left (cut.phases ∙ ap (λ (ps : List Phase). ps ++ cut.left) same) (cut.run).phases (subst (λ (ps : List Phase). Finished 0 ps one) same cut.finished))
        | second_longer y zs same left ↦ absurd
            (no_further_phase journal done one cut y zs on.left other on.untold left (on.phases ∙ ap (λ (ps : List Phase). ps ++ on.left) same) (on.run).phases (subst (λ (ps : List Phase). Finished 0 ps other) same on.finished))
      ]

  -- a run that was broken off is no finished run
  pub cut_is_unfinished : (journal : List Entry) (done : List Phase) (told ends : List (List (List End))) → Cut journal done told → IsRunOf setting journal ends → IsFinished setting ends → ⊥
  cut_is_unfinished journal done told ends cut run full =
      let whole : setting.script.phases ≡ setting.script.phases ++ [] = sym (append-nil setting.script.phases) in
      elim (parted done cut.left setting.script.phases [] (sym cut.phases ∙ whole)) [
        | alike same left ↦ cut.more left
        | first_longer y zs same left ↦ cc (left)
        | second_longer y zs same left ↦
            no_further_phase journal done told cut y zs [] ends [] left (whole ∙ ap (λ (ps : List Phase). ps ++ []) same)
            (subst (λ (es : List (List (List End))). Ran 0 none_held setting.script.phases journal es) (sym (append-nil ends)) run.phases) (subst (λ (ps : List Phase). Finished 0 ps ends) same full)
      ]
