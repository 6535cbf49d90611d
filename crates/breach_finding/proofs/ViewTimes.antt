-- Which view a gateway has along a journal, and what the rule of time on views refuses.
use Rattle.base.proofs.Membership.{of_filter}
use Rattle.std.proofs.Common.{◌≡◌, ◌⊎◌, inl, inr, ℕ, ◌+◌, ◌<◌, ◌==◌, List, [], ◌∷◌, ◌++◌, Contains, Option, Some, None, refl, sym, ◌∙◌, ap, subst, arith}
use Rattle.std.proofs.lemmas.Bool.{cases_lt}
use Rattle.std.proofs.lemmas.List.Elements.{Contains-append_left, Contains-append_right}
use Rattle.std.proofs.lemmas.List.Sums.{fold-append}
use Rattle.moment_core.specs.declared.moment.Moment.{Moment}
use Rattle.world_core.specs.Limits.{most_listed}
use Rattle.world_core.specs.declared.entry.Entry.{Entry}
use Rattle.world_core.proofs.PlanParts.{noted_end}
use Rattle.meta_fetcher.specs.Syncs.{Course, IsEnd, SyncRun, Synced, listing, with_entry}
use Rattle.meta_fetcher.specs.Syncs as told_so
use Rattle.meta_fetcher.specs.declared.rules.SyncRules.{SyncRules}
use Rattle.meta_fetcher.specs.declared.sync.SyncEnd.TheVariants as ended
use Rattle.meta_fetcher.specs.declared.view.View.{View}
use Rattle.meta_fetcher.proofs.SyncLaws.{course_of_all}
use Rattle.script_core.specs.Lawful.{IsLawfulScript}
use Rattle.lifecycle_core.specs.Breaches.{IsOver, IsSeatOf, IsSyncIn, IsViewAt, ReadsSamples, Refuses, view_time}
use Rattle.lifecycle_core.specs.Setting.{Setting}
use Rattle.lifecycle_core.specs.Tasks.{last_number, sync_rules}
use Rattle.lifecycle_core.proofs.journals.OneViewAt.{one_view}
use Rattle.lifecycle_core.proofs.journals.Positions.{stands_in}
use Rattle.lifecycle_core.proofs.journals.Told.{Rises}
use Rattle.lifecycle_core.proofs.journals.Unbroken.{ends_with}
use Rattle.lifecycle_core.proofs.phases.OneSeat.{one_gateway}
use Rattle.lifecycle_core.proofs.phases.TasksMade.{no_listing}
use Rattle.lifecycle_core.proofs.deeds.Orders.{one_entry}
use Rattle.breach_finding.specs.Told.{IsTold}
use Rattle.breach_finding.specs.Views.{IsLastView, IsViewAnswer}

-- ---- when a view begins

module _ (rules : SyncRules) (first : Entry) (v : View) where
  by_end : (last : Synced) (course : Option Course) (all : Course) → IsEnd rules (last, course) (ended.View v) → course ≡ Some all → all.begin ≡ first.moment → v.begin ≡ first.moment
  by_end (told_so.sighted sightings) (Some course) all (view, same, is) eq begins =
      let one : v ≡ view = cc (same) in
      let own : course ≡ all = cc (eq) in
      ap (λ (w : View). w.begin) one ∙ is.begin ∙ ap (λ (c : Course). c.begin) own ∙ begins
  by_end (told_so.sighted sightings) None all is eq begins = absurd is
  by_end (told_so.fault number) course all is eq begins = cc (is)
  by_end (told_so.damaged number) course all is eq begins = cc (is)
  by_end told_so.too_many course all is eq begins = cc (is)

  pub view_begins : (others : List Entry) → SyncRun rules (first ∷ others) (Some (ended.View v)) → v.begin ≡ first.moment
  view_begins others ((last, course), run, is) =
      let plain = noted_end with_entry None (listing rules most_listed []) (first ∷ others) last course run in
      by_end last course _ is (plain.1 ∙ course_of_all first others) refl

-- ---- the last entry

pub record HasLast (entries : List Entry) : Type 0 where
  pub front : List Entry
  pub entry : Entry
  pub parts : entries ≡ front ++ entry ∷ []
  pub number : last_number entries ≡ entry.seq

number_of : (front : List Entry) (e : Entry) → last_number (front ++ e ∷ []) ≡ e.seq
number_of front e = fold-append (λ (last : ℕ) (x : Entry). x.seq) 0 front (e ∷ [])

pub last_of : (rules : SyncRules) (entries : List Entry) (view : View) → SyncRun rules entries (Some (ended.View view)) → HasLast entries
last_of rules [] view run = absurd (no_listing rules 999_999 run.0 run.1)
last_of rules (e ∷ entries) view run =
    let tail = ends_with e entries in
    record { front = tail.0; entry = tail.1; parts = tail.2; number = ap last_number tail.2 ∙ number_of tail.0 tail.1 }

module _ (setting : Setting) (lawful : IsLawfulScript setting.script) (journal : List Entry) (rises : Rises journal) (e : Entry) (among : Contains journal e) where
  -- a sync that gave a view, whose last entry has the number of this one, ends with this one
  ends_at : (gateway : ℕ) (entries : List Entry) (view : View) → IsSyncIn setting journal gateway entries (Some (ended.View view)) → last_number entries ≡ e.seq → (front : List Entry) × (entries ≡ front ++ e ∷ [])
  ends_at gateway entries view s is =
      let last = last_of (sync_rules setting gateway) entries view s.sync.run in
      let inside : Contains entries last.entry = subst (λ (es : List Entry). Contains es last.entry) (sym last.parts) (stands_in last.front [] last.entry) in
      let own : Contains ((s.sync.before ++ entries) ++ s.sync.after) last.entry = Contains-append_left (s.sync.before ++ entries) s.sync.after last.entry (Contains-append_right s.sync.before entries last.entry inside) in
      let there : Contains journal last.entry = of_filter (λ (x : Entry). x.seat == s.seat) journal last.entry (subst (λ (es : List Entry). Contains es last.entry) (sym s.sync.parts) own) in
      let same : last.entry ≡ e = one_entry journal rises last.entry e there among (sym last.number ∙ is) in
      (last.front, last.parts ∙ ap (λ (x : Entry). last.front ++ x ∷ []) same)

  -- no sync of the gateway that gave a view ends with the entry
  abbrev pub NoViewEnds : ℕ → Type 0
  NoViewEnds gateway = (entries front : List Entry) (view : View) → IsSyncIn setting journal gateway entries (Some (ended.View view)) → entries ≡ front ++ e ∷ [] → ⊥

  earlier : (n : ℕ) → n < e.seq + 1 → (n < e.seq) ⊎ (n ≡ e.seq)
  earlier n less = elim (cases_lt n e.seq) [ inl below ↦ inl below | inr above ↦ inr (omega (arith, less, above)) ]

  module _ (gateway : ℕ) (none : NoViewEnds gateway) where
    back_at : (view : View) → IsViewAt setting journal gateway (e.seq + 1) view → IsViewAt setting journal gateway e.seq view
    back_at view v = record {
      entries = v.entries;
      gave = v.gave;
      before = elim (earlier (last_number v.entries) v.before) [
        | inl below ↦ below
        | inr same ↦ (let at = ends_at gateway v.entries view v.gave same in absurd (none v.entries at.0 view v.gave at.1))
      ];
      last = λ others other gave before. v.last others other gave (omega (arith, before));
    }

    on_at : (view : View) → IsViewAt setting journal gateway e.seq view → IsViewAt setting journal gateway (e.seq + 1) view
    on_at view v = record {
      entries = v.entries;
      gave = v.gave;
      before = let less = v.before in omega (arith, less);
      last = λ others other gave before. elim (earlier (last_number others) before) [
        | inl below ↦ v.last others other gave below
        | inr same ↦ (let at = ends_at gateway others other gave same in absurd (none others at.0 other gave at.1))
      ];
    }

    -- the gateway's view stays
    pub view_stays : (o : Option ℕ) → IsLastView setting journal gateway e.seq o → IsLastView setting journal gateway (e.seq + 1) o
    view_stays None is = λ view v. is view (back_at view v)
    view_stays (Some begin) (view, v, begins) = (view, on_at view v, begins)

  -- the gateway has a new view
  pub view_given : (gateway : ℕ) (first : Entry) (others front : List Entry) (view : View) → IsSyncIn setting journal gateway (first ∷ others) (Some (ended.View view)) → first ∷ others ≡ front ++ e ∷ [] → IsLastView setting journal gateway (e.seq + 1) (Some first.moment.ms)
  view_given gateway first others front view s ends =
      let number : last_number (first ∷ others) ≡ e.seq = ap last_number ends ∙ number_of front e in (
        view,
        record {
          entries = first ∷ others;
          gave = s;
          before = omega (arith, number);
          last = λ more other gave before. omega (arith, number, before);
        },
        ap (λ (m : Moment). m.ms) (view_begins (sync_rules setting gateway) first view others s.sync.run),
      )

-- ---- reads

module _ (setting : Setting) (journal before : List Entry) (e : Entry) where
  -- what reads no samples is not refused
  pub not_read : (ReadsSamples e → ⊥) → (x y : ℕ) → Refuses setting journal view_time before e x y → ⊥
  not_read none x y (view, (gateway, (sits, reads), at), over) = none reads

  -- nor is what is made at no gateway's seat
  pub not_seated : ((gateway : ℕ) → IsSeatOf setting gateway e.seat → ⊥) → (x y : ℕ) → Refuses setting journal view_time before e x y → ⊥
  not_seated none x y (view, (gateway, (sits, reads), at), over) = none gateway sits

  module _ (lawful : IsLawfulScript setting.script) (rises : Rises journal) (gateway : ℕ) (sits : IsSeatOf setting gateway e.seat) (reads : ReadsSamples e) where
    abbrev Late : ℕ → ℕ → ℕ → Type 0
    Late begin x y = IsOver (e.moment.ms + setting.script.rules.ignore.ms) (begin + setting.script.rules.delete.ms) x y

    own_view : (x y : ℕ) → Refuses setting journal view_time before e x y → (view : View) × IsViewAt setting journal gateway e.seq view × Late view.begin.ms x y
    own_view x y (view, (other, (sits', reads'), at), over) =
        let same : other ≡ gateway = one_gateway setting lawful gateway other e.seat sits sits' in
        (view, subst (λ (g : ℕ). IsViewAt setting journal g e.seq view) same at, over)

    -- what is answered is what the rule refuses
    pub view_told : (o : Option ℕ) → IsLastView setting journal gateway e.seq o → (answer : Option (ℕ × ℕ))
        → IsViewAnswer o (e.moment.ms + setting.script.rules.ignore.ms) setting.script.rules.delete.ms answer → IsTold (Refuses setting journal view_time before e) answer
    view_told None none answer asked = subst (IsTold (Refuses setting journal view_time before e)) (sym asked) (λ x y refuses. let own = own_view x y refuses in none own.0 own.1)
    view_told (Some begin) (view, at, begins) None none = λ x y refuses.
        let own = own_view x y refuses in
        let same : own.0 ≡ view = one_view setting journal rises gateway e.seq view own.0 at own.1 in
        none x y (subst (λ (b : ℕ). Late b x y) (ap (λ (w : View). w.begin.ms) same ∙ begins) own.2)
    view_told (Some begin) (view, at, begins) (Some (x, y)) over =
        (view, (gateway, (sits, reads), at), subst (λ (b : ℕ). Late b x y) (sym begins) over)
