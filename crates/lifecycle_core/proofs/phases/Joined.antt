-- Runs in line one after another.
use Rattle.std.proofs.Common.{◌≡◌, ℕ, zero, suc, ◌+◌, ◌<◌, ◌≤◌, ◌==◌, Bool, true, false, cond, Option, Some, None, List, [], ◌∷◌, ◌++◌, length, map, take, drop, get_or, refl, sym, ◌∙◌, ap, subst, inl, inr, arith, append_assoc, take-append-drop}
use Rattle.std.specs.List.{All, AllByRecursion}
use Rattle.std.proofs.lemmas.Bool.Decides.{nat_tests}
use Rattle.std.proofs.lemmas.List.Elements.{All-head, All-nil, All-tail}
use Rattle.std.proofs.lemmas.List.{take_more}
use Rattle.world_core.specs.declared.entry.Entry.{Entry}
use Rattle.script_workers.specs.Hands.{gateway_of, hands_of_task}
use Rattle.script_workers.specs.declared.hand.Hand.{Hand}
use Rattle.script_workers.specs.declared.task.Task.{Task}
use Rattle.lifecycle_core.specs.Holdings.{Holdings, holding_of, with_holding}
use Rattle.lifecycle_core.specs.InLine.{Duty, InLine, duties_from, who_does}
use Rattle.lifecycle_core.specs.Setting.{Setting}
use Rattle.lifecycle_core.specs.Tasks.{End}
use Rattle.lifecycle_core.proofs.phases.TaskRuns.{MayBegin}

-- the work of each duty may begin
abbrev pub MayAllBegin : Setting → List Duty → Type 0
MayAllBegin setting duties = AllByRecursion (λ d. MayBegin setting d.task.work) duties

at_gateway : (views : Holdings) (gateway other : ℕ) (b : Bool) → (other == gateway) ≡ b → views other ≡ cond b (views gateway) (views other)
at_gateway views gateway other true is = let same : other ≡ gateway = grind (arith, nat_tests, is) in ap views same
at_gateway views gateway other false is = refl

-- what is held stays so where it is set
pub same_holdings : (views : Holdings) (o : Option ℕ) → views ≡ with_holding views o (holding_of views o)
same_holdings views None = refl
same_holdings views (Some gateway) = λ i other. at_gateway views gateway other (other == gateway) refl i

module _ (setting : Setting) (seat : Hand → ℕ) where
  -- one after the other, where the first came to all its ends
  pub both : (views mid after : Holdings) (one other : List Duty) (made more : List Entry) (ends later : List End)
      → InLine setting seat views one made ends mid → length ends ≡ length one → InLine setting seat mid other more later after
      → InLine setting seat views (one ++ other) (made ++ more) (ends ++ later) after
  both views mid after [] other made more ends later first same rest =
      subst (λ (es : List Entry). InLine setting seat views other (es ++ more) (ends ++ later) after) (sym first.0)
      (subst (λ (l : List End). InLine setting seat views other more (l ++ later) after) (sym first.1)
      (subst (λ (v : Holdings). InLine setting seat v other more later after) first.2 rest))
  both views mid after (d ∷ ds) other made more ends later (inl r) same rest =
      let n : length r.3 ≡ length ds = omega (arith, same, ap (length {A = End}) r.8) in
      inl (
        r.0,
        r.1 ++ more,
        r.2,
        r.3 ++ later,
        r.4,
        ap (λ (l : List Entry). l ++ more) r.5 ∙ append_assoc r.0 r.1 more,
        r.6,
        r.7,
        ap (λ (l : List End). l ++ later) r.8,
        both (with_holding views (gateway_of d.hand) r.4) mid after ds other r.1 more r.3 later r.9 n rest,
      )
  both views mid after (d ∷ ds) other made more ends later (inr r) same rest = absurd (omega (arith, same, ap (length {A = End}) r.3))

  pub nothing : (views : Holdings) (duties : List Duty) → MayAllBegin setting duties → InLine setting seat views duties [] [] views
  nothing views [] begins = (refl, refl, refl)
  nothing views (d ∷ ds) begins =
      let held = holding_of views (gateway_of d.hand) in
      inr (held, All-nil (λ e. e.seat ≡ seat d.hand), begins.0 (who_does seat d.hand) d.place held, refl, same_holdings views (gateway_of d.hand))

  -- and nothing after it
  pub cut : (views after : Holdings) (one other : List Duty) (made : List Entry) (ends : List End) → MayAllBegin setting other
      → InLine setting seat views one made ends after → InLine setting seat views (one ++ other) made ends after
  cut views after [] other made ends begins first =
      subst (λ (es : List Entry). InLine setting seat views other es ends after) (sym first.0)
      (subst (λ (l : List End). InLine setting seat views other [] l after) (sym first.1)
      (subst (λ (v : Holdings). InLine setting seat views other [] [] v) (sym first.2) (nothing views other begins)))
  cut views after (d ∷ ds) other made ends begins (inl r) =
      inl (r.0, r.1, r.2, r.3, r.4, r.5, r.6, r.7, r.8, cut (with_holding views (gateway_of d.hand) r.4) after ds other r.1 r.3 begins r.9)
  cut views after (d ∷ ds) other made ends begins (inr r) = inr r

-- ---- the duties of tasks

abbrev own_duties : ℕ → ℕ → Task → List Duty
own_duties gateways place task = map (λ hand. record { place = place; hand = hand; task = task }) (hands_of_task gateways place task.work)

duties_append : (gateways place : ℕ) (one other : List Task) → duties_from gateways place (one ++ other) ≡ duties_from gateways place one ++ duties_from gateways (place + length one) other
unfolding duties_from
duties_append gateways place [] other = ap (λ n. duties_from gateways n other) (omega arith)
duties_append gateways place (task ∷ one) other =
    let n : place + 1 + length one ≡ place + length (task ∷ one) = omega arith in
    ap (λ l. own_duties gateways place task ++ l) (duties_append gateways (place + 1) one other ∙ ap (λ k. duties_from gateways (place + 1) one ++ duties_from gateways k other) n)
    ∙ sym (append_assoc (own_duties gateways place task) (duties_from gateways (place + 1) one) (duties_from gateways (place + length (task ∷ one)) other))

length_front : (n : ℕ) (tasks : List Task) → n ≤ length tasks → length (take n tasks) ≡ n
length_front zero tasks below = refl
length_front (suc n) [] below = absurd (omega (arith, below))
length_front (suc n) (t ∷ ts) below = ap suc (length_front n ts (omega (arith, below)))

-- one task more
pub duties_more : (gateways place : ℕ) (tasks : List Task) (task : Task) → place < length tasks → task ≡ get_or tasks place task
    → duties_from gateways 0 (take (place + 1) tasks) ≡ duties_from gateways 0 (take place tasks) ++ duties_from gateways place (task ∷ [])
duties_more gateways place tasks task below is =
    let e : take (place + 1) tasks ≡ take place tasks ++ task ∷ [] = take_more tasks place task below ∙ ap (λ (t : Task). take place tasks ++ t ∷ []) (sym is) in
    let n : 0 + length (take place tasks) ≡ place = omega (arith, length_front place tasks (omega (arith, below))) in
    ap (duties_from gateways 0) e ∙ duties_append gateways 0 (take place tasks) (task ∷ []) ∙ ap (λ k. duties_from gateways 0 (take place tasks) ++ duties_from gateways k (task ∷ [])) n

-- the duties of the first tasks, and those of the others
pub duties_parts : (gateways place : ℕ) (tasks : List Task) → duties_from gateways 0 tasks ≡ duties_from gateways 0 (take place tasks) ++ duties_from gateways (0 + length (take place tasks)) (drop place tasks)
duties_parts gateways place tasks = ap (duties_from gateways 0) (sym (take-append-drop place tasks)) ∙ duties_append gateways 0 (take place tasks) (drop place tasks)

one_begins : (setting : Setting) (place : ℕ) (task : Task) (hs : List Hand) (rest : List Duty) → MayBegin setting task.work
    → MayAllBegin setting rest → MayAllBegin setting (map (λ hand. record { place = place; hand = hand; task = task }) hs ++ rest)
one_begins setting place task [] rest begins all = all
one_begins setting place task (h ∷ hs) rest begins all = (begins, one_begins setting place task hs rest begins all)

-- the duties of tasks that may begin may begin
pub duties_begin : (setting : Setting) (gateways place : ℕ) (tasks : List Task) → All (λ t. MayBegin setting t.work) tasks
    → MayAllBegin setting (duties_from gateways place tasks)
unfolding duties_from
duties_begin setting gateways place [] all = tt
duties_begin setting gateways place (task ∷ tasks) all =
    one_begins setting place task (hands_of_task gateways place task.work) (duties_from gateways (place + 1) tasks) (All-head (λ t. MayBegin setting t.work) task tasks all)
    (duties_begin setting gateways (place + 1) tasks (All-tail (λ t. MayBegin setting t.work) task tasks all))
