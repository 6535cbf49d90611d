-- The entries of a worker tell the operation that it asks for next, and what it holds.
use Rattle.base.proofs.Lists.{middle_not_nil}
use Rattle.std.proofs.Common.{◌≡◌, ◌⊎◌, inl, inr, ℕ, List, [], ◌∷◌, ◌++◌, length, Option, Some, None, refl, sym, ◌∙◌, ap, subst, arith, append_assoc, append-nil}
use Rattle.world_core.specs.declared.entry.Entry.{Entry}
use Rattle.world_core.specs.declared.op.Op.{Op}
use Rattle.lifecycle_core.specs.Conducts.{Assigned, TasksRun, Who}
use Rattle.lifecycle_core.specs.Holdings.{Holding, Use}
use Rattle.querier.specs.declared.asking.Ask.{Ask}
use Rattle.store_ranges.specs.Reads.{Query as Question}
use Rattle.script_workers.specs.declared.work.Work.{Work}
use Rattle.script_workers.specs.declared.work.Work.TheVariants.{Upload, Sync, Compact, Clean, Query}
use Rattle.lifecycle_core.specs.Phases.{by_script}
use Rattle.lifecycle_core.specs.Setting.{Setting}
use Rattle.lifecycle_core.specs.Tasks.{End, PartTask, QueryTask, TaskRun, ask_to, question_of}
use Rattle.lifecycle_core.proofs.phases.OneEnding.{alike, first_longer, second_longer, parted, task_once, task_tells}
use Rattle.lifecycle_core.proofs.phases.RunFronts.{task_cut}
use Rattle.told_journals.specs.Told.{as_told}
use Rattle.told_journals.proofs.NextOps.{task_asks}

module _ (setting : Setting) (who : Who) where
  abbrev Does : Assigned → Holding → List Entry → Option End → Holding → Type 0
  Does own held made end after = TaskRun setting who own.place own.task.work held made end after

  abbrev pub Did : List Entry → Holding → List Assigned → List Entry → List End → Holding → Type 0
  Did all = TasksRun (by_script setting) who all

  -- the same, each run taken at its word
  abbrev pub Told : List Entry → Holding → List Assigned → List Entry → List End → Holding → Type 0
  Told all = TasksRun (as_told setting) who all

  -- A worker that has made these entries asks for the operation: some first tasks have come to their ends, and a run of the next one
  -- goes on with it.
  abbrev pub Asks : Holding → List Assigned → List Entry → Op → Type 0
  Asks held [] entries op = ⊥
  Asks held (own ∷ tasks) entries op =
      ((made : List Entry) × (others : List Entry) × (end : End) × (next : Holding) × (entries ≡ made ++ others) × Does own held made (Some end) next × Asks next tasks others op)
      ⊎ ((e : Entry) × (more : List Entry) × (end : Option End) × (after : Holding) × (e.op ≡ op) × Does own held (entries ++ e ∷ more) end after)

  -- a run that goes on asks for what it goes on with
  pub goes_on : (all : List Entry) (held last : Holding) (tasks : List Assigned) (xs : List Entry) (y : Entry) (rest : List Entry) (ends : List End) → Did all held tasks (xs ++ y ∷ rest) ends last → Asks held tasks xs y.op
  goes_on all held last [] xs y rest ends run = middle_not_nil xs y rest run.0
  goes_on all held last (own ∷ tasks) xs y rest ends (inr (run, none)) = inr (y, rest, None, last, refl, run)
  goes_on all held last (own ∷ tasks) xs y rest ends (inl (made, others, end, later, next, parts, run, is, go)) =
      elim (parted xs (y ∷ rest) made others parts) [
        | alike one two ↦
            inl (made, [], end, next, one ∙ sym (append-nil made), run, goes_on all next last tasks [] y rest later (subst (λ (es : List Entry). Did all next tasks es later last) (sym two) go))
        | first_longer w ws one two ↦
            inl (made, w ∷ ws, end, next, one, run, goes_on all next last tasks (w ∷ ws) y rest later (subst (λ (es : List Entry). Did all next tasks es later last) two go))
        | second_longer w ws one two ↦
            let same : w ≡ y = cc (two) in
            inr (w, ws, Some end, next, ap (λ (e : Entry). e.op) same, subst (λ (es : List Entry). Does own held es (Some end) next) one run)
      ]

  -- a task that came to its end does not go on
  past : (own : Assigned) (held : Holding) (made others : List Entry) (end : End) (next : Holding) (entries : List Entry) (e : Entry) (more : List Entry) (last : Option End) (later : Holding)
      → entries ≡ made ++ others → Does own held made (Some end) next → Does own held (entries ++ e ∷ more) last later → ⊥
  past own held made [] end next entries e more last later parts run on =
      task_once setting who own.place own.task.work held next later made e more end last run
      (subst (λ (es : List Entry). Does own held (es ++ e ∷ more) last later) (parts ∙ append-nil made) on)
  past own held made (w ∷ ws) end next entries e more last later parts run on =
      task_once setting who own.place own.task.work held next later made w (ws ++ e ∷ more) end last run
      (subst (λ (es : List Entry). Does own held es last later) (ap (λ (es : List Entry). es ++ e ∷ more) parts ∙ append_assoc made (w ∷ ws) (e ∷ more)) on)

  -- a worker asks for one operation
  pub asks_one : (held : Holding) (tasks : List Assigned) (entries : List Entry) (one other : Op) → Asks held tasks entries one → Asks held tasks entries other → one ≡ other
  asks_one held [] entries one other a b = absurd a
  asks_one held (own ∷ tasks) entries one other (inr (e, more, end, after, is, run)) (inr (f, others, last, later, so, on)) =
      sym is ∙ task_asks setting who own.place own.task.work held after later entries e f more others end last run on ∙ so
  asks_one held (own ∷ tasks) entries one other (inl (made, others, end, next, parts, run, go)) (inr (f, more, last, later, so, on)) =
      absurd (past own held made others end next entries f more last later parts run on)
  asks_one held (own ∷ tasks) entries one other (inr (e, more, last, later, is, on)) (inl (made, others, end, next, parts, run, go)) =
      absurd (past own held made others end next entries e more last later parts run on)
  asks_one held (own ∷ tasks) entries one other (inl (made, others, end, next, parts, run, go)) (inl (made', others', end', next', parts', run', go')) =
      elim (parted made others made' others' (sym parts ∙ parts')) [
        | alike same rest ↦
            let told = task_tells setting who own.place own.task.work held next next' made end end' run (subst (λ (es : List Entry). Does own held es (Some end') next') (sym same) run') in
            asks_one next tasks others one other go (subst (λ (es : List Entry). Asks next tasks es other) (sym rest) (subst (λ (h : Holding). Asks h tasks others' other) (sym told.1) go'))
        | first_longer w ws same rest ↦ absurd (task_once setting who own.place own.task.work held next' next made' w ws end' (Some end) run' (subst (λ (es : List Entry). Does own held es (Some end) next) same run))
        | second_longer w ws same rest ↦ absurd (task_once setting who own.place own.task.work held next next' made w ws end (Some end') run (subst (λ (es : List Entry). Does own held es (Some end') next') same run'))
      ]

  -- a worker whose tasks all came to their ends asks for nothing
  pub asks_none : (all : List Entry) (held last : Holding) (tasks : List Assigned) (entries : List Entry) (ends : List End) (op : Op) → Did all held tasks entries ends last → length ends ≡ length tasks → Asks held tasks entries op → ⊥
  asks_none all held last [] entries ends op run full asks = asks
  asks_none all held last (own ∷ tasks) entries ends op (inr (run, none)) full asks = absurd (omega (arith, full, ap (λ (l : List End). length l) none))
  asks_none all held last (own ∷ tasks) entries ends op (inl (made, others, end, later, next, parts, run, is, go)) full (inr (f, more, left, after, so, on)) =
      past own held made others end next entries f more left after parts run on
  asks_none all held last (own ∷ tasks) entries ends op (inl (made, others, end, later, next, parts, run, is, go)) full (inl (made', others', end', next', parts', run', go')) =
      elim (parted made others made' others' (sym parts ∙ parts')) [
        | alike same rest ↦
            let told = task_tells setting who own.place own.task.work held next next' made end end' run (subst (λ (es : List Entry). Does own held es (Some end') next') (sym same) run') in
            asks_none all next last tasks others later op go (omega (arith, full, ap (λ (l : List End). length l) is))
            (subst (λ (es : List Entry). Asks next tasks es op) (sym rest) (subst (λ (h : Holding). Asks h tasks others' op) (sym told.1) go'))
        | first_longer w ws same rest ↦ task_once setting who own.place own.task.work held next' next made' w ws end' (Some end) run' (subst (λ (es : List Entry). Does own held es (Some end) next) same run)
        | second_longer w ws same rest ↦ task_once setting who own.place own.task.work held next next' made w ws end (Some end') run (subst (λ (es : List Entry). Does own held es (Some end') next') same run')
      ]

  -- a worker that asks for an operation has made a run that is taken at its word: the task that waits came to no end by what it did
  pub told_so_far : (all : List Entry) (held : Holding) (tasks : List Assigned) (entries : List Entry) (op : Op) → Asks held tasks entries op → (ends : List End) × (last : Holding) × Told all held tasks entries ends last
  told_so_far all held [] entries op asks = absurd asks
  told_so_far all held (own ∷ tasks) entries op (inr (e, more, end, after, is, run)) =
      ([], held, inr ((task_cut setting who own.place own.task.work held after entries e more end run, λ none last later on. task_once setting who own.place own.task.work held later after entries e more last end on run), refl))
  told_so_far all held (own ∷ tasks) entries op (inl (made, others, end, next, parts, run, go)) =
      let rest = told_so_far all next tasks others op go in
      (end ∷ rest.0, rest.1, inl (made, others, end, rest.0, next, parts, (run, λ never. absurd (cc (never))), refl, rest.2))

  -- and so is a run that came to all its ends
  pub told_whole : (all : List Entry) (held last : Holding) (tasks : List Assigned) (entries : List Entry) (ends : List End) → Did all held tasks entries ends last → length ends ≡ length tasks → Told all held tasks entries ends last
  told_whole all held last [] entries ends run full = run
  told_whole all held last (own ∷ tasks) entries ends (inr (run, none)) full = absurd (omega (arith, full, ap (λ (l : List End). length l) none))
  told_whole all held last (own ∷ tasks) entries ends (inl (made, others, end, later, next, parts, run, is, go)) full =
      inl (made, others, end, later, next, parts, (run, λ never. absurd (cc (never))), is, told_whole all next last tasks others later go (omega (arith, full, ap (λ (l : List End). length l) is)))

  -- what is taken at its word is a run
  pub untold : (all : List Entry) (held last : Holding) (tasks : List Assigned) (entries : List Entry) (ends : List End) → Told all held tasks entries ends last → Did all held tasks entries ends last
  untold all held last [] entries ends run = run
  untold all held last (own ∷ tasks) entries ends (inr (run, none)) = inr (run.0, none)
  untold all held last (own ∷ tasks) entries ends (inl (made, others, end, later, next, parts, run, is, go)) = inl (made, others, end, later, next, parts, run.0, is, untold all next last tasks others later go)

  -- a run that broke off leaves what was held
  query_off : (used : Option Use) (asked : Option Question) (before after : Holding) (made : List Entry) → QueryTask used asked before made None after → after ≡ before
  query_off None asked before after made run = run.1
  query_off (Some used) None before after made run = absurd run
  query_off (Some used) (Some asked) before after made (None, run, is, left) = left
  query_off (Some used) (Some asked) before after made (Some call, run, is, left) = absurd (cc (is))

  part_off : (selector : ℕ) (ask : Option Ask) (before after : Holding) (made : List Entry) → PartTask setting selector ask before made None after → after ≡ before
  part_off selector None before after made run = run.1
  part_off selector (Some ask) before after made run = query_off before.used (question_of setting selector ask) before after made run

  task_off : (place : ℕ) (w : Work) (before after : Holding) (made : List Entry) → TaskRun setting who place w before made None after → after ≡ before
  task_off place (Upload ulid stop) before after made run = run.1
  task_off place (Sync gateway) before after made (None, run, is, left) = left
  task_off place (Sync gateway) before after made (Some end, run, is, left) = absurd (cc (is))
  task_off place (Compact stop) before after made run = run.1
  task_off place (Clean stop) before after made run = run.1
  task_off place (Query low high selector) before after made run = part_off selector (ask_to setting who.gateway low high) before after made run

  -- a run that is taken at its word and broke off is not one that came to its end, with or without entries of later tasks behind it
  unended : (own : Assigned) (held last next : Holding) (entries made others : List Entry) (end : End) → entries ≡ made ++ others
      → Does own held entries None last → ((end : End) (later : Holding) → ¬ Does own held entries (Some end) later) → Does own held made (Some end) next → ⊥
  unended own held last next entries made [] end parts run never on = never end next (subst (λ (es : List Entry). Does own held es (Some end) next) (sym (parts ∙ append-nil made)) on)
  unended own held last next entries made (w ∷ ws) end parts run never on =
      task_once setting who own.place own.task.work held next last made w ws end None on (subst (λ (es : List Entry). Does own held es None last) parts run)

  -- the entries tell the ends, and what the worker holds last
  pub told_once : (all also : List Entry) (held last later : Holding) (tasks : List Assigned) (entries : List Entry) (one other : List End) → Told all held tasks entries one last → Told also held tasks entries other later → (one ≡ other) × (last ≡ later)
  told_once all also held last later [] entries one other a b = (a.1 ∙ sym b.1, a.2 ∙ sym b.2)
  told_once all also held last later (own ∷ tasks) entries one other (inr (run, none)) (inr (on, nil)) =
      (none ∙ sym nil, task_off own.place own.task.work held last entries run.0 ∙ sym (task_off own.place own.task.work held later entries on.0))
  told_once all also held last later (own ∷ tasks) entries one other (inr (run, none)) (inl (made, others, end, ends, next, parts, on, is, go)) = absurd (unended own held last next entries made others end parts run.0 (run.1 refl) on.0)
  told_once all also held last later (own ∷ tasks) entries one other (inl (made, others, end, ends, next, parts, on, is, go)) (inr (run, none)) = absurd (unended own held later next entries made others end parts run.0 (run.1 refl) on.0)
  told_once all also held last later (own ∷ tasks) entries one other (inl (made, others, end, ends, next, parts, run, is, go)) (inl (made', others', end', ends', next', parts', run', so, go')) =
      elim (parted made others made' others' (sym parts ∙ parts')) [
        | alike same rest ↦
            let told = task_tells setting who own.place own.task.work held next next' made end end' run.0 (subst (λ (es : List Entry). Does own held es (Some end') next') (sym same) run'.0) in
            let others_told = told_once all also next last later tasks others ends ends' go (subst (λ (es : List Entry). Told also next tasks es ends' later) (sym rest) (subst (λ (h : Holding). Told also h tasks others' ends' later) (sym told.1) go')) in
            let joined : end ∷ ends ≡ end' ∷ ends' = λ i. told.0 i ∷ others_told.0 i in
            (is ∙ joined ∙ sym so, others_told.1)
        | first_longer w ws same rest ↦ absurd (task_once setting who own.place own.task.work held next' next made' w ws end' (Some end) run'.0 (subst (λ (es : List Entry). Does own held es (Some end) next) same run.0))
        | second_longer w ws same rest ↦ absurd (task_once setting who own.place own.task.work held next next' made w ws end (Some end') run.0 (subst (λ (es : List Entry). Does own held es (Some end') next') same run'.0))
      ]

pub worker_asks : (setting : Setting) (who : Who) (place_all also : List Entry) (held last later : Holding) (tasks : List Assigned) (xs : List Entry) (y z : Entry) (rest others : List Entry) (ends more : List End)
    → TasksRun (by_script setting) who place_all held tasks (xs ++ y ∷ rest) ends last → TasksRun (by_script setting) who also held tasks (xs ++ z ∷ others) more later → y.op ≡ z.op
worker_asks setting who all also held last later tasks xs y z rest others ends more one two =
    asks_one setting who held tasks xs y.op z.op (goes_on setting who all held last tasks xs y rest ends one) (goes_on setting who also held later tasks xs z others more two)
