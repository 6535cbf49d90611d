-- From one phase to the next, in a record that is played again.
use Rattle.base.proofs.Lists.{drop_place, take_place}
use Rattle.std.proofs.Common.{◌≡◌, ◌≢◌, ◌⊎◌, inl, inr, ℕ, ◌+◌, ◌-◌, ◌<◌, ◌≤◌, List, [], ◌∷◌, ◌++◌, length, map, take, drop, All, Contains, Option, Some, None, refl, sym, ◌∙◌, ap, subst, arith, append-nil, append_assoc}
use Rattle.std.specs.Prelude.{slice_get}
use Rattle.std.proofs.lemmas.List.Elements.{All-cons, All-contains, All-nil, All-weaker}
use Rattle.world_core.specs.declared.entry.Entry.{Entry}
use Rattle.script_core.specs.Workers.{workers_after, workers_of, seats_before}
use Rattle.script_workers.specs.Hands.{gateway_count, hands_of, seats_after, workers_from}
use Rattle.script_workers.specs.declared.hand.Hand.{Hand}
use Rattle.script_workers.specs.declared.phase.Phase.{Phase}
use Rattle.script_workers.specs.declared.task.Task.{Task}
use Rattle.script_workers.specs.declared.worker.Worker.{Worker}
use Rattle.lifecycle_core.specs.Conducts.{PhaseRun}
use Rattle.lifecycle_core.specs.Holdings.{Holdings}
use Rattle.lifecycle_core.specs.Setting.{Setting}
use Rattle.lifecycle_core.specs.Tasks.{End}
use Rattle.lifecycle_core.specs.Ways.{BeginsPhase}
use Rattle.lifecycle_core.proofs.phases.FirstPhases.{no_phase}
use Rattle.lifecycle_core.proofs.phases.OneEnding.{alike, first_longer, second_longer, parted, within}
use Rattle.told_journals.proofs.PhasesOnce.{phase_once}
use Rattle.told_journals.specs.SoFar.{BeginsAnew, IsRefusedAt, IsSoFar, Ran, RanAll}
use Rattle.told_journals.specs.Told.{as_told, told_way}

-- ---- seats

seats_above : (gateways before : ℕ) (tasks : List Task) (hs : List Hand) → All (λ (n : ℕ). n ≢ 0) (map (λ (w : Worker). w.seat) (workers_from gateways before tasks hs))
unfolding workers_from
seats_above gateways before tasks [] = All-nil (λ (n : ℕ). n ≢ 0)
seats_above gateways before tasks (hand ∷ hs) =
    All-cons (λ (n : ℕ). n ≢ 0) (seats_after before 1) (map (λ (w : Worker). w.seat) (workers_from gateways (seats_after before 1) tasks hs)) (λ is. omega (arith, is)) (seats_above gateways (seats_after before 1) tasks hs)

module _ (setting : Setting) where
  above_after : (before : ℕ) (o : Option Phase) → All (λ (n : ℕ). n ≢ 0) (map (λ (w : Worker). w.seat) (workers_after setting.script before o))
  above_after before None = All-nil (λ (n : ℕ). n ≢ 0)
  above_after before (Some phase) = seats_above (gateway_count setting.script.gateways) before phase.tasks (hands_of (gateway_count setting.script.gateways) phase.tasks)

  abbrev pub Works : ℕ → Phase → Holdings → List Entry → List (List End) → Holdings → Type 0
  Works number phase = PhaseRun (as_told setting) phase.tasks (workers_of setting.script number)

  abbrev pub Above : List Entry → Type 0
  Above entries = All (λ (e : Entry). e.seat ≢ 0) entries

  -- the workers of a phase have no entry of the clock
  made_above : (number : ℕ) (phase : Phase) (before after : Holdings) (entries : List Entry) (ends : List (List End)) → Works number phase before entries ends after → Above entries
  made_above number phase before after entries ends run =
      All-weaker (λ (e : Entry). Contains (map (λ (w : Worker). w.seat) (workers_of setting.script number)) e.seat ⊎ ⊥) (λ (e : Entry). e.seat ≢ 0) (λ e how.
      elim how [
        | inl among ↦ All-contains (λ (n : ℕ). n ≢ 0) (map (λ (w : Worker). w.seat) (workers_of setting.script number)) e.seat (above_after (seats_before setting.script number) (slice_get setting.script.phases number)) among
        | inr none ↦ absurd none
      ]) entries run.seats

  no_inside : (xs : List Entry) (y : Entry) (zs : List Entry) → Above (xs ++ y ∷ zs) → y.seat ≡ 0 → ⊥
  no_inside xs y zs all zero = within (λ (e : Entry). e.seat ≢ 0) xs y zs all zero

  pub starts : (number : ℕ) (before : Holdings) (phases : List Phase) (y : Entry) (zs : List Entry) (ends : List (List (List End))) → Ran setting number before phases (y ∷ zs) ends → y.seat ≡ 0
  starts number before [] y zs ends run = absurd (cc (run.0))
  starts number before (phase ∷ phases) y zs ends (inl none) = absurd (cc (none.0))
  starts number before (phase ∷ phases) y zs ends (inr (clock, made, others, first, later, after, parts, begins, run, are, go)) =
      let same : y ≡ clock = cc (parts) in ap (λ (e : Entry). e.seat) same ∙ begins.seat

  -- ---- one phase

  module _ (number : ℕ) (held : Holdings) (phase : Phase) (later : List Phase) (clock : Entry) (begins : BeginsPhase phase clock) where
    pub begun_on : (made rest : List Entry) (own : List (List End)) (after : Holdings) (ends : List (List (List End))) → Works number phase held made own after → Ran setting (number + 1) after later rest ends
        → Ran setting number held (phase ∷ later) (clock ∷ made ++ rest) (own ∷ ends)
    begun_on made rest own after ends works run = inr (clock, made, rest, own, ends, after, refl, begins, works, refl, run)

    pub begun_back : (made rest : List Entry) (own : List (List End)) (after : Holdings) (all : List (List (List End))) → Works number phase held made own after → BeginsAnew rest → Ran setting number held (phase ∷ later) (clock ∷ made ++ rest) all
        → (ends : List (List (List End))) × Ran setting (number + 1) after later rest ends × (all ≡ own ∷ ends)
    begun_back made rest own after all works anew (inl none) = absurd (cc (none.0))
    begun_back made rest own after all works anew (inr (clock', made', others, first, more, after', parts, begun, run, are, go)) =
        elim (parted made rest made' others (cc (parts))) [
          | alike same back ↦
              let told = phase_once setting number phase.tasks held made after after' own first works (subst (λ es. Works number phase held es first after') (sym same) run) in
              (more, subst (λ es. Ran setting (number + 1) after later es more) (sym back) (subst (λ h. Ran setting (number + 1) h later others more) (sym told.1) go), are ∙ ap (λ ends. ends ∷ more) (sym told.0))
          | first_longer y zs same back ↦
              absurd (no_inside made' y zs (subst Above same (made_above number phase held after made own works)) (starts (number + 1) after' later y (zs ++ rest) more (subst (λ es. Ran setting (number + 1) after' later es more) back go)))
          | second_longer y zs same back ↦
              absurd (no_inside made y zs (subst Above same (made_above number phase held after' made' first run)) (anew y (ap (λ es. slice_get es 0) back)))
        ]

    -- behind the clock stand entries of which no run of the phase goes on with the last
    pub begun_barred : (made : List Entry) → Above made → ((ends : List (List End)) (after : Holdings) → ¬ Works number phase held made ends after) → (ends : List (List (List End))) → ¬ Ran setting number held (phase ∷ later) (clock ∷ made) ends
    begun_barred made sits bar ends (inl none) = cc (none.0)
    begun_barred made sits bar ends (inr (clock', own, others, first, more, after, parts, begun, works, are, go)) = behind own others after more first (cc (parts)) works go
      where
        -- what stands behind a phase begins with a clock
        behind : (own others : List Entry) (after : Holdings) (more : List (List (List End))) (first : List (List End)) → made ≡ own ++ others → Works number phase held own first after → Ran setting (number + 1) after later others more → ⊥
        behind own [] after more first parts works go = bar first after (subst (λ es. Works number phase held es first after) (sym (parts ∙ append-nil own)) works)
        behind own (y ∷ zs) after more first parts works go = no_inside own y zs (subst Above parts sits) (starts (number + 1) after later y zs more go)

  -- an entry that does not begin the phase
  not_begun : (number : ℕ) (held : Holdings) (phase : Phase) (later : List Phase) (y : Entry) (ends : List (List (List End))) → ¬ BeginsPhase phase y → ¬ Ran setting number held (phase ∷ later) (y ∷ []) ends
  not_begun number held phase later y ends never (inl none) = cc (none.0)
  not_begun number held phase later y ends never (inr (clock, own, others, first, more, after, parts, begun, works, are, go)) =
      let same : y ≡ clock = cc (parts) in never (subst (BeginsPhase phase) (sym same) begun)

  -- ---- all phases so far

  module _ (entries : List Entry) (number : ℕ) (at : ℕ) (held : Holdings) (told : List (List (List End))) (s : IsSoFar setting entries number at held told) where
    -- the entries so far are a run's
    pub so_far : (ends : List (List (List End))) × RanAll setting (take at entries) ends
    so_far = (told ++ [], subst (λ es. RanAll setting es (told ++ [])) (append-nil (take at entries)) (s.onward [] [] (no_phase (told_way setting) number held (drop number setting.script.phases))))

    -- an entry that no run of the later phases begins with
    pub refused_next : (y : Entry) → slice_get entries at ≡ Some y → (at ≡ 0) ⊎ BeginsAnew (drop at entries) → ((ends : List (List (List End))) → ¬ Ran setting number held (drop number setting.script.phases) (y ∷ []) ends)
        → at < length entries → IsRefusedAt setting entries (at + 1)
    refused_next y here anew bar below = record {
      from = omega arith;
      to = omega (arith, below);
      before = let n : at + 1 - 1 ≡ at = omega arith in subst (λ k. (ends : List (List (List End))) × RanAll setting (take k entries) ends) (sym n) so_far;
      here = λ ends run.
          let back = s.back (y ∷ []) ends (first_anew anew) (subst (λ es. RanAll setting es ends) (take_place entries at y here) run) in
          bar back.0 back.1;
    }
      where
        first_anew : (at ≡ 0) ⊎ BeginsAnew (drop at entries) → (at ≡ 0) ⊎ BeginsAnew (y ∷ [])
        first_anew (inl zero) = inl zero
        first_anew (inr new) = inr (λ e is. let seat = new y (subst (λ es. slice_get es 0 ≡ Some y) (sym (drop_place entries at y here)) refl) in let same : y ≡ e = cc (is) in ap (λ (x : Entry). x.seat) (sym same) ∙ seat)

    module _ (phase : Phase) (later : List Phase) (left : drop number setting.script.phases ≡ phase ∷ later) where
      on_phase : (rest : List Entry) (ends : List (List (List End))) → Ran setting number held (phase ∷ later) rest ends → RanAll setting (take at entries ++ rest) (told ++ ends)
      on_phase rest ends run = s.onward rest ends (subst (λ ps. Ran setting number held ps rest ends) (sym left) run)

      back_phase : (rest : List Entry) (all : List (List (List End))) → (at ≡ 0) ⊎ BeginsAnew rest → RanAll setting (take at entries ++ rest) all → (ends : List (List (List End))) × Ran setting number held (phase ∷ later) rest ends × (all ≡ told ++ ends)
      back_phase rest all anew run = let b = s.back rest all anew run in (b.0, subst (λ ps. Ran setting number held ps rest b.0) left b.1, b.2)

      pub refused_clock : (y : Entry) → slice_get entries at ≡ Some y → (at ≡ 0) ⊎ BeginsAnew (drop at entries) → ¬ BeginsPhase phase y → at < length entries → IsRefusedAt setting entries (at + 1)
      refused_clock y here anew never below = refused_next y here anew (λ ends run. not_begun number held phase later y ends never (subst (λ ps. Ran setting number held ps (y ∷ []) ends) left run)) below

      module _ (clock : Entry) (begins : BeginsPhase phase clock) where
        clock_anew : (es : List Entry) → BeginsAnew (clock ∷ es)
        clock_anew es e is = let same : clock ≡ e = cc (is) in ap (λ (x : Entry). x.seat) (sym same) ∙ begins.seat

        -- the phase was done by all of these entries
        pub phase_on : (made : List Entry) (next : ℕ) (own : List (List End)) (after : Holdings) → take next entries ≡ take at entries ++ clock ∷ made → later ≡ drop (number + 1) setting.script.phases → 0 < next → Works number phase held made own after
            → IsSoFar setting entries (number + 1) next after (told ++ own ∷ [])
        phase_on made next own after parts is above works = record {
          onward = λ rest ends run.
              subst (λ es. RanAll setting es ((told ++ own ∷ []) ++ ends)) (sym (ap (λ es. es ++ rest) parts ∙ append_assoc (take at entries) (clock ∷ made) rest))
              (subst (λ all. RanAll setting (take at entries ++ (clock ∷ made ++ rest)) all) (sym (append_assoc told (own ∷ []) ends))
              (on_phase (clock ∷ made ++ rest) (own ∷ ends) (begun_on number held phase later clock begins made rest own after ends works (subst (λ ps. Ran setting (number + 1) after ps rest ends) (sym is) run))));
          back = λ rest all anew run.
              let b = back_phase (clock ∷ made ++ rest) all (inr (clock_anew (made ++ rest))) (subst (λ es. RanAll setting es all) (ap (λ es. es ++ rest) parts ∙ append_assoc (take at entries) (clock ∷ made) rest) run) in
              let one = begun_back number held phase later clock begins made rest own after b.0 works (only_anew anew) b.1 in
              (one.0, subst (λ ps. Ran setting (number + 1) after ps rest one.0) is one.1, b.2 ∙ ap (λ ends. told ++ ends) one.2 ∙ sym (append_assoc told (own ∷ []) one.0));
        }
          where
            only_anew : {A : Type 0} → (next ≡ 0) ⊎ A → A
            only_anew (inl zero) = absurd (omega (arith, zero, above))
            only_anew (inr new) = new

        -- no run of the phase goes on with the entry behind these
        pub refused_inside : (front : List Entry) (y : Entry) (count : ℕ) (own : List (List End)) (after : Holdings) → take (count - 1) entries ≡ take at entries ++ clock ∷ front → take count entries ≡ take at entries ++ clock ∷ (front ++ y ∷ [])
            → Works number phase held front own after → Above (front ++ y ∷ []) → ((ends : List (List End)) (last : Holdings) → ¬ Works number phase held (front ++ y ∷ []) ends last) → 1 ≤ count → count ≤ length entries → IsRefusedAt setting entries count
        refused_inside front y count own after parts all works sits bar from to = record {
          from = from;
          to = to;
          before = (
            told ++ own ∷ [],
            subst (λ es. RanAll setting es (told ++ own ∷ [])) (ap (λ es. take at entries ++ clock ∷ es) (append-nil front) ∙ sym parts)
                (on_phase (clock ∷ front ++ []) (own ∷ []) (begun_on number held phase later clock begins front [] own after [] works (no_phase (told_way setting) (number + 1) after later))),
          );
          here = λ ends run.
              let b = back_phase (clock ∷ (front ++ y ∷ [])) ends (inr (clock_anew (front ++ y ∷ []))) (subst (λ es. RanAll setting es ends) all run) in
              begun_barred number held phase later clock begins (front ++ y ∷ []) sits bar b.0 b.1;
        }
