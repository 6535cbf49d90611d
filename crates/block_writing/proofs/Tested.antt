-- Series that are tested one by one may be built, or one of them may not.
use Rattle.std.proofs.Common.{◌≡◌, ℕ, zero, suc, ◌+◌, ◌<◌, ◌≤◌, Bool, true, false, List, [], ◌∷◌, length, map, get_or, take, sym, subst, arith}
use Rattle.std.specs.Prelude.{IsTrue, ◌↔◌, ◌==◌}
use Rattle.std.specs.List.{AllByRecursion}
use Rattle.std.proofs.lemmas.List.{take_more, take_all}
use Rattle.std.specs.Ordering.{int_cmp}
use Rattle.std.specs.List.Sorted.{IsStrictlySortedBy}
use Rattle.base.proofs.Lists.{AllByRecursion-push, length-some}
use Rattle.label_sets.specs.Labels.{compare_sets}
use Rattle.label_sets.specs.declared.sample.Sample.{Sample}
use Rattle.label_sets.specs.declared.series.Series.{Series}
use Rattle.label_sets.specs.Times.{IsWithin}
use Rattle.block_writing.specs.Put.{PlanFields}
use Rattle.block_writing.specs.Built.{AreOfBlock, AreBuildable}

module _ {A : Type 0} (P : A → Type 0) where
  pub tested_more : (xs : List A) (k : ℕ) (x d : A) → k < length xs → x ≡ get_or xs k d → AllByRecursion P (take k xs) → P x → AllByRecursion P (take (k + 1) xs)
  tested_more xs k x d within at all p =
      subst (AllByRecursion P) (sym (take_more xs k d within)) (AllByRecursion-push P (take k xs) (get_or xs k d) all (subst P at p))

  pub tested_all : (xs : List A) (k : ℕ) → length xs ≤ k → AllByRecursion P (take k xs) → AllByRecursion P xs
  tested_all xs k all tested = subst (AllByRecursion P) (take_all k xs all) tested

  pub refused_at : (xs : List A) (k : ℕ) (x d : A) → k < length xs → x ≡ get_or xs k d → AllByRecursion P xs → P x
  refused_at [] k x d within at all = absurd (omega (arith, within))
  refused_at (y ∷ xs) zero x d within at all = subst P (sym at) all.0
  refused_at (y ∷ xs) (suc k) x d within at all = refused_at xs k x d (omega (arith, within)) at all.1

-- ---- what a test tells

pub told : (b : Bool) (P : Type 0) → IsTrue b ↔ P → b ≡ true → P
told b P is e = is.0 e

pub not_told : (b : Bool) (P : Type 0) → IsTrue b ↔ P → b ≡ false → P → ⊥
not_told b P is e p = let yes : b ≡ true = is.1 p in absurd cc

pub never : (P : Type 0) → (P → ⊥) → IsTrue false ↔ P
never P none = (λ told. absurd cc, λ p. absurd (none p))

-- ---- samples of a block

some_there : (samples : List Sample) (b : Bool) → b ≡ (length samples == 0) → b ≡ false → 0 < length samples
some_there [] b is e = absurd cc
some_there (s ∷ samples) b is e = omega arith

pub none_refused : (plan : PlanFields) (samples : List Sample) (b : Bool) → b ≡ (length samples == 0) → b ≡ true → IsTrue false ↔ AreOfBlock plan samples
none_refused plan [] b is e = never (AreOfBlock plan []) (λ are. absurd (omega (arith, are.some)))
none_refused plan (s ∷ samples) b is e = let some : (length (s ∷ samples) == 0) ≡ false = length-some (s ∷ samples) (λ none. absurd cc) in absurd cc

pub sample_refused : (plan : PlanFields) (samples : List Sample) (k : ℕ) (x d : Sample) (b : Bool) → k < length samples → x ≡ get_or samples k d → IsTrue b ↔ IsWithin plan.min_time plan.max_time x → b ≡ false → IsTrue false ↔ AreOfBlock plan samples
sample_refused plan samples k x d b within at is e = never (AreOfBlock plan samples) (λ are. not_told b (IsWithin plan.min_time plan.max_time x) is e (refused_at (IsWithin plan.min_time plan.max_time) samples k x d within at are.within))

pub samples_tested : (plan : PlanFields) (samples : List Sample) (k : ℕ) (b c : Bool) → b ≡ (length samples == 0) → b ≡ false → length samples ≤ k → AllByRecursion (IsWithin plan.min_time plan.max_time) (take k samples) → IsTrue c ↔ IsStrictlySortedBy int_cmp (map (λ s. s.time) samples) → IsTrue c ↔ AreOfBlock plan samples
samples_tested plan samples k b c empty e all tested rises =
    (λ yes. record { some = some_there samples b empty e; ascend = rises.0 yes; within = tested_all (IsWithin plan.min_time plan.max_time) samples k all tested }, λ are. rises.1 are.ascend)

-- ---- series of a block

pub series_refused : (plan : PlanFields) (series items : List Series) (k : ℕ) (x d : Series) (samples : List Sample) (b : Bool) → items ≡ series → k < length items → x ≡ get_or items k d → samples ≡ x.samples → IsTrue b ↔ AreOfBlock plan samples → b ≡ false → IsTrue false ↔ AreBuildable plan series
series_refused plan series items k x d samples b same within at seen is e =
    never (AreBuildable plan series) (λ are. not_told b (AreOfBlock plan samples) is e
    (subst (AreOfBlock plan) (sym seen) (refused_at (λ (s : Series). AreOfBlock plan s.samples) items k x d within at (subst (λ (l : List Series). AllByRecursion (λ s. AreOfBlock plan s.samples) l) (sym same) are.samples))))

pub series_more : (plan : PlanFields) (items : List Series) (k : ℕ) (x d : Series) (samples : List Sample) (b : Bool) → k < length items → x ≡ get_or items k d → samples ≡ x.samples → IsTrue b ↔ AreOfBlock plan samples → b ≡ true → AllByRecursion (λ s. AreOfBlock plan s.samples) (take k items) → AllByRecursion (λ s. AreOfBlock plan s.samples) (take (k + 1) items)
series_more plan items k x d samples b within at seen is e tested =
    tested_more (λ (s : Series). AreOfBlock plan s.samples) items k x d within at tested (subst (AreOfBlock plan) seen (is.0 e))

pub series_tested : (plan : PlanFields) (series items : List Series) (k : ℕ) (c : Bool) → items ≡ series → length items ≤ k → AllByRecursion (λ s. AreOfBlock plan s.samples) (take k items) → IsTrue c ↔ IsStrictlySortedBy compare_sets (map (λ s. s.labels) items) → IsTrue c ↔ AreBuildable plan series
series_tested plan series items k c same all tested rises =
    let each : AllByRecursion (λ s. AreOfBlock plan s.samples) series = subst (λ (l : List Series). AllByRecursion (λ s. AreOfBlock plan s.samples) l) same (tested_all (λ (s : Series). AreOfBlock plan s.samples) items k all tested) in
    let order : IsTrue c ↔ IsStrictlySortedBy compare_sets (map (λ s. s.labels) series) = subst (λ (l : List Series). IsTrue c ↔ IsStrictlySortedBy compare_sets (map (λ s. s.labels) l)) same rises in
    (λ yes. record { ascend = order.0 yes; samples = each }, λ are. order.1 are.ascend)
