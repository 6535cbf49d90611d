-- What one worker does of a phase whose tasks are done in line.
use Rattle.std.proofs.Common.{◌≡◌, ◌≢◌, ℕ, Bool, true, false, cond, List, [], ◌∷◌, ◌++◌, refl, sym, ◌∙◌, ap, subst, inl, inr, arith}
use Rattle.std.specs.Prelude.{◌==◌, Option, Some, None}
use Rattle.std.specs.List.{All, AllByRecursion}
use Rattle.std.proofs.lemmas.Bool.Decides.{nat_tests}
use Rattle.world_core.specs.declared.entry.Entry.{Entry}
use Rattle.script_workers.specs.Hands.{same_hand, gateway_of}
use Rattle.script_workers.specs.declared.hand.Hand.{Hand}
use Rattle.script_workers.specs.declared.hand.Hand.TheVariants as hands
use Rattle.script_workers.proofs.HandLaws.{hands_equal}
use Rattle.world_core.specs.Journals.{of_seat}
use Rattle.lifecycle_core.specs.Conducts.{TasksRun, Who}
use Rattle.lifecycle_core.specs.Holdings.{Holding, Holdings, holding_of, nothing_held, with_holding}
use Rattle.lifecycle_core.specs.InLine.{Duty, InLine, who_does}
use Rattle.lifecycle_core.specs.Phases.{by_script}
use Rattle.lifecycle_core.specs.Setting.{Setting}
use Rattle.lifecycle_core.specs.Tasks.{End, TaskRun}
use Rattle.lifecycle_core.proofs.phases.Duties.{part, part_own, part_other, ends_by, ends_own, ends_other, ends_none, tasks_of}
use Rattle.lifecycle_core.proofs.phases.Seats.{own_first, others_first}
use Rattle.lifecycle_core.proofs.phases.TaskRuns.{IsAlone, MayBegin, alone_keeps}
use Rattle.std.proofs.lemmas.List.{append-nil}

-- the duty may begin, the hand of one task alone has such a task, and the hand's seat is no other's
pub record Fits (setting : Setting) (seat : Hand → ℕ) (hand : Hand) (own : ℕ) (duty : Duty) : Type 0 where
  pub same : same_hand hand duty.hand ≡ true → seat duty.hand ≡ own
  pub other : same_hand hand duty.hand ≡ false → seat duty.hand ≢ own
  pub alone : (place : ℕ) → duty.hand ≡ hands.Alone place → IsAlone duty.task.work
  pub begins : MayBegin setting duty.task.work

-- what is set is held, where it is a gateway's
set_holding : (views : Holdings) (gateway : ℕ) (held : Holding) → with_holding views (Some gateway) held gateway ≡ held
set_holding views gateway held = let e : (gateway == gateway) ≡ true = grind (arith, nat_tests) in rw e refl

other_gateway : (views : Holdings) (gateway other : ℕ) (held : Holding) → gateway ≢ other → with_holding views (Some gateway) held other ≡ views other
other_gateway views gateway other held differ = let e : (other == gateway) ≡ false = grind (arith, nat_tests, differ) in rw e refl

-- what a hand holds after a duty of its own
held_own : (setting : Setting) (seat : Hand → ℕ) (hand : Hand) (own : ℕ) (views : Holdings) (duty : Duty) (who : Who) (made : List Entry) (end : Option End) (held : Holding) (h : Hand) → duty.hand ≡ h
    → Fits setting seat hand own duty → TaskRun setting who duty.place duty.task.work (holding_of views (gateway_of h)) made end held
    → holding_of (with_holding views (gateway_of h) held) (gateway_of h) ≡ held
held_own setting seat hand own views duty who made end held (hands.Gateway g) is fits run = set_holding views g held
held_own setting seat hand own views duty who made end held (hands.Alone p) is fits run =
    sym (alone_keeps setting who duty.place nothing_held held duty.task.work made end (fits.alone p is) run)

-- and after a duty of another hand
held_other : (views : Holdings) (one other : Hand) (held : Holding) → same_hand one other ≡ false → holding_of (with_holding views (gateway_of other) held) (gateway_of one) ≡ holding_of views (gateway_of one)
held_other views (hands.Alone a) (hands.Alone b) held e = refl
held_other views (hands.Alone a) (hands.Gateway b) held e = refl
held_other views (hands.Gateway a) (hands.Alone b) held e = refl
held_other views (hands.Gateway a) (hands.Gateway b) held e = other_gateway views b a held (grind (arith, nat_tests, e))

module _ (setting : Setting) (seat : Hand → ℕ) (hand : Hand) (own : ℕ) (all : List Entry) where
  abbrev who : Who
  who = record { seat = own; gateway = gateway_of hand }

  -- runs of these duties by the hand
  abbrev Runs : Holding → List Duty → List Entry → List End → Holding → Type 0
  Runs before duties entries ends last = TasksRun (by_script setting) who all before (tasks_of duties) entries ends last

  no_task_first : (before : Holding) (duty : Duty) (duties : List Duty) → MayBegin setting duty.task.work → Runs before (part hand duties) [] [] before
      → (b : Bool) → Runs before (cond b (duty ∷ part hand duties) (part hand duties)) [] [] before
  no_task_first before duty duties begins later true = inr (begins who duty.place before, refl)
  no_task_first before duty duties begins later false = later

  -- where nothing was done, the tasks of a hand have not begun
  no_task_yet : (before : Holding) (duties : List Duty) → AllByRecursion (Fits setting seat hand own) duties → Runs before (part hand duties) [] [] before
  unfolding part
  no_task_yet before [] fits = (refl, refl, refl)
  no_task_yet before (duty ∷ duties) fits =
      no_task_first before duty duties (fits.0).begins (no_task_yet before duties fits.1) (same_hand hand duty.hand)

  -- who does a duty of the hand
  own_run : (views : Holdings) (duty : Duty) (made : List Entry) (end : Option End) (held : Holding) → Fits setting seat hand own duty → same_hand hand duty.hand ≡ true
      → TaskRun setting (who_does seat duty.hand) duty.place duty.task.work (holding_of views (gateway_of duty.hand)) made end held
      → TaskRun setting who duty.place duty.task.work (holding_of views (gateway_of hand)) made end held
  own_run views duty made end held fits is run =
      let h : duty.hand ≡ hand = sym (hands_equal hand duty.hand is) in
      let by_hand = subst (λ (x : Hand). TaskRun setting (record { seat = seat duty.hand; gateway = gateway_of x }) duty.place duty.task.work (holding_of views (gateway_of x)) made end held) h run in
      subst (λ (n : ℕ). TaskRun setting (record { seat = n; gateway = gateway_of hand }) duty.place duty.task.work (holding_of views (gateway_of hand)) made end held) (fits.same is) by_hand

  own_held : (views : Holdings) (duty : Duty) (made : List Entry) (end : Option End) (held : Holding) → Fits setting seat hand own duty → same_hand hand duty.hand ≡ true
      → TaskRun setting (who_does seat duty.hand) duty.place duty.task.work (holding_of views (gateway_of duty.hand)) made end held
      → holding_of (with_holding views (gateway_of duty.hand) held) (gateway_of hand) ≡ held
  own_held views duty made end held fits is run =
      let h : duty.hand ≡ hand = sym (hands_equal hand duty.hand is) in
      subst (λ (x : Hand). holding_of (with_holding views (gateway_of x) held) (gateway_of hand) ≡ held) (sym h)
      (held_own setting seat hand own views duty who made end held hand h fits (own_run views duty made end held fits is run))

  -- a run in line, from a duty that was done
  own_done : (views : Holdings) (duty : Duty) (duties : List Duty) (entries made others : List Entry) (end : End) (ends later : List End) (held : Holding) (after : Holdings)
      → Fits setting seat hand own duty → same_hand hand duty.hand ≡ true → entries ≡ made ++ others → All (λ e. e.seat ≡ seat duty.hand) made
      → TaskRun setting (who_does seat duty.hand) duty.place duty.task.work (holding_of views (gateway_of duty.hand)) made (Some end) held → ends ≡ end ∷ later
      → Runs (holding_of (with_holding views (gateway_of duty.hand) held) (gateway_of hand)) (part hand duties) (of_seat own others) (ends_by hand duties later) (holding_of after (gateway_of hand))
      → Runs (holding_of views (gateway_of hand)) (duty ∷ part hand duties) (of_seat own entries) (end ∷ ends_by hand duties later) (holding_of after (gateway_of hand))
  own_done views duty duties entries made others end ends later held after fits is both seats run are onward =
      let onward' = subst (λ (v : Holding). Runs v (part hand duties) (of_seat own others) (ends_by hand duties later) (holding_of after (gateway_of hand))) (own_held views duty made (Some end) held fits is run) onward in
      inl (made, of_seat own others, end, ends_by hand duties later, held, ap (of_seat own) both ∙ own_first own (seat duty.hand) made others seats (fits.same is), own_run views duty made (Some end) held fits is run, refl, onward')

  other_done : (views : Holdings) (duty : Duty) (duties : List Duty) (entries made others : List Entry) (held : Holding) (later : List End) (after : Holdings)
      → Fits setting seat hand own duty → same_hand hand duty.hand ≡ false → entries ≡ made ++ others → All (λ e. e.seat ≡ seat duty.hand) made
      → Runs (holding_of (with_holding views (gateway_of duty.hand) held) (gateway_of hand)) (part hand duties) (of_seat own others) (ends_by hand duties later) (holding_of after (gateway_of hand))
      → Runs (holding_of views (gateway_of hand)) (part hand duties) (of_seat own entries) (ends_by hand duties later) (holding_of after (gateway_of hand))
  other_done views duty duties entries made others held later after fits is both seats onward =
      let onward' = subst (λ (v : Holding). Runs v (part hand duties) (of_seat own others) (ends_by hand duties later) (holding_of after (gateway_of hand))) (held_other views hand duty.hand held is) onward in
      subst (λ (es : List Entry). Runs (holding_of views (gateway_of hand)) (part hand duties) es (ends_by hand duties later) (holding_of after (gateway_of hand)))
      (sym (ap (of_seat own) both ∙ others_first own (seat duty.hand) made others seats (fits.other is))) onward'

  own_broken : (views : Holdings) (duty : Duty) (duties : List Duty) (entries : List Entry) (held : Holding) (after : Holdings)
      → Fits setting seat hand own duty → same_hand hand duty.hand ≡ true → All (λ e. e.seat ≡ seat duty.hand) entries
      → TaskRun setting (who_does seat duty.hand) duty.place duty.task.work (holding_of views (gateway_of duty.hand)) entries None held → after ≡ with_holding views (gateway_of duty.hand) held
      → Runs (holding_of views (gateway_of hand)) (duty ∷ part hand duties) (of_seat own entries) [] (holding_of after (gateway_of hand))
  own_broken views duty duties entries held after fits is seats run same =
      let all_own : of_seat own entries ≡ entries = sym (ap (of_seat own) (append-nil entries)) ∙ own_first own (seat duty.hand) entries [] seats (fits.same is) ∙ append-nil entries in
      let left : holding_of after (gateway_of hand) ≡ held = ap (λ (v : Holdings). holding_of v (gateway_of hand)) same ∙ own_held views duty entries None held fits is run in
      inr (
        subst (λ (es : List Entry). TaskRun setting who duty.place duty.task.work (holding_of views (gateway_of hand)) es None (holding_of after (gateway_of hand))) (sym all_own)
            (subst (λ (x : Holding). TaskRun setting who duty.place duty.task.work (holding_of views (gateway_of hand)) entries None x) (sym left) (own_run views duty entries None held fits is run)),
        refl,
      )

  other_broken : (views : Holdings) (duty : Duty) (duties : List Duty) (entries : List Entry) (held : Holding) (after : Holdings)
      → AllByRecursion (Fits setting seat hand own) (duty ∷ duties) → same_hand hand duty.hand ≡ false → All (λ e. e.seat ≡ seat duty.hand) entries → after ≡ with_holding views (gateway_of duty.hand) held
      → Runs (holding_of views (gateway_of hand)) (part hand duties) (of_seat own entries) [] (holding_of after (gateway_of hand))
  other_broken views duty duties entries held after fits is seats same =
      let none : of_seat own entries ≡ [] = sym (ap (of_seat own) (append-nil entries)) ∙ others_first own (seat duty.hand) entries [] seats ((fits.0).other is) in
      let left : holding_of after (gateway_of hand) ≡ holding_of views (gateway_of hand) = ap (λ (v : Holdings). holding_of v (gateway_of hand)) same ∙ held_other views hand duty.hand held is in
      let yet = no_task_yet (holding_of views (gateway_of hand)) duties fits.1 in
      subst (λ (es : List Entry). Runs (holding_of views (gateway_of hand)) (part hand duties) es [] (holding_of after (gateway_of hand))) (sym none)
      (subst (λ (v : Holding). Runs (holding_of views (gateway_of hand)) (part hand duties) [] [] v) (sym left) yet)

  -- what a hand did of a run in line
  abbrev Did : Holdings → List Duty → List Entry → List End → Holdings → Type 0
  Did views duties entries ends after =
      Runs (holding_of views (gateway_of hand)) (part hand duties) (of_seat own entries) (ends_by hand duties ends) (holding_of after (gateway_of hand))

  told : (views after : Holdings) (entries : List Entry) (ps qs : List Duty) (es fs : List End) → ps ≡ qs → es ≡ fs
      → Runs (holding_of views (gateway_of hand)) ps (of_seat own entries) es (holding_of after (gateway_of hand))
      → Runs (holding_of views (gateway_of hand)) qs (of_seat own entries) fs (holding_of after (gateway_of hand))
  told views after entries ps qs es fs p q run =
      subst (λ (ds : List Duty). Runs (holding_of views (gateway_of hand)) ds (of_seat own entries) fs (holding_of after (gateway_of hand))) p
      (subst (λ (x : List End). Runs (holding_of views (gateway_of hand)) ps (of_seat own entries) x (holding_of after (gateway_of hand))) q run)

  first_done : (views : Holdings) (duty : Duty) (duties : List Duty) (entries made others : List Entry) (end : End) (ends later : List End) (held : Holding) (after : Holdings) (b : Bool) → same_hand hand duty.hand ≡ b
      → Fits setting seat hand own duty → entries ≡ made ++ others → All (λ e. e.seat ≡ seat duty.hand) made
      → TaskRun setting (who_does seat duty.hand) duty.place duty.task.work (holding_of views (gateway_of duty.hand)) made (Some end) held → ends ≡ end ∷ later
      → Did (with_holding views (gateway_of duty.hand) held) duties others later after
      → Did views (duty ∷ duties) entries ends after
  first_done views duty duties entries made others end ends later held after true is fits both seats run are onward =
      told views after entries (duty ∷ part hand duties) (part hand (duty ∷ duties)) (end ∷ ends_by hand duties later) (ends_by hand (duty ∷ duties) ends)
      (sym (part_own hand duty duties is)) (sym (ap (ends_by hand (duty ∷ duties)) are ∙ ends_own hand duty duties end later is))
      (own_done views duty duties entries made others end ends later held after fits is both seats run are onward)
  first_done views duty duties entries made others end ends later held after false is fits both seats run are onward =
      told views after entries (part hand duties) (part hand (duty ∷ duties)) (ends_by hand duties later) (ends_by hand (duty ∷ duties) ends)
      (sym (part_other hand duty duties is)) (sym (ap (ends_by hand (duty ∷ duties)) are ∙ ends_other hand duty duties end later is))
      (other_done views duty duties entries made others held later after fits is both seats onward)

  first_broken : (views : Holdings) (duty : Duty) (duties : List Duty) (entries : List Entry) (ends : List End) (held : Holding) (after : Holdings) (b : Bool) → same_hand hand duty.hand ≡ b
      → AllByRecursion (Fits setting seat hand own) (duty ∷ duties) → All (λ e. e.seat ≡ seat duty.hand) entries
      → TaskRun setting (who_does seat duty.hand) duty.place duty.task.work (holding_of views (gateway_of duty.hand)) entries None held → ends ≡ [] → after ≡ with_holding views (gateway_of duty.hand) held
      → Did views (duty ∷ duties) entries ends after
  first_broken views duty duties entries ends held after true is fits seats run are same =
      told views after entries (duty ∷ part hand duties) (part hand (duty ∷ duties)) [] (ends_by hand (duty ∷ duties) ends)
      (sym (part_own hand duty duties is)) (sym (ap (ends_by hand (duty ∷ duties)) are ∙ ends_none hand (duty ∷ duties)))
      (own_broken views duty duties entries held after fits.0 is seats run same)
  first_broken views duty duties entries ends held after false is fits seats run are same =
      told views after entries (part hand duties) (part hand (duty ∷ duties)) [] (ends_by hand (duty ∷ duties) ends)
      (sym (part_other hand duty duties is)) (sym (ap (ends_by hand (duty ∷ duties)) are ∙ ends_none hand (duty ∷ duties)))
      (other_broken views duty duties entries held after fits is seats same)

  -- A hand's entries in a run in line are the runs of its tasks.
  pub did : (views : Holdings) (duties : List Duty) (entries : List Entry) (ends : List End) (after : Holdings) → AllByRecursion (Fits setting seat hand own) duties
      → InLine setting seat views duties entries ends after → Did views duties entries ends after
  unfolding part ends_by
  did views [] entries ends after fits run = (ap (of_seat own) run.0, refl, ap (λ (v : Holdings). holding_of v (gateway_of hand)) run.2)
  did views (duty ∷ duties) entries ends after fits (inl r) =
      first_done views duty duties entries r.0 r.1 r.2 ends r.3 r.4 after (same_hand hand duty.hand) refl fits.0 r.5 r.6 r.7 r.8
      (did (with_holding views (gateway_of duty.hand) r.4) duties r.1 r.3 after fits.1 r.9)
  did views (duty ∷ duties) entries ends after fits (inr r) =
      first_broken views duty duties entries ends r.0 after (same_hand hand duty.hand) refl fits r.1 r.2 r.3 r.4
