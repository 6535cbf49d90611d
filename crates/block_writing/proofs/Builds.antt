-- A block that is put series by series.
use Rattle.std.proofs.Common.{◌≡◌, ℕ, zero, suc, ◌+◌, ◌-◌, ◌^◌, ◌<◌, ◌≤◌, List, [], ◌∷◌, ◌++◌, length, map, get_or, take, Option, Some, Result, Ok, Err, refl, sym, ap, subst, ◌∙◌, arith}
use Rattle.std.specs.Prelude.{IfOk, slice_get, option_map}
use Rattle.std.specs.List.{AllByRecursion, sum_by, AllZip}
use Rattle.std.specs.List.Sorted.{IsStrictlySortedBy}
use Rattle.std.proofs.lemmas.List.{take_more, take_all, length-take}
use Rattle.std.proofs.lemmas.List.Sums.{sum_by-append}
use Rattle.std.proofs.lemmas.Option.{slice_get-map, slice_get_within}
use Rattle.base.proofs.Lists.{slice_get-take}
use Rattle.base.proofs.Order.{Less-at_places}
use Rattle.base.proofs.Pairs.{AllZip-append, AllZip-as_long}
use Rattle.label_sets.specs.Counts.{sample_count}
use Rattle.label_sets.specs.Labels.{compare_sets}
use Rattle.label_sets.specs.declared.label.Label.{Label}
use Rattle.label_sets.specs.declared.series.Series.{Series}
use Rattle.block_meta.specs.Lawful.{AreLawfulTimes}
use Rattle.block_writing.specs.Put.{PlanFields, Put, IsAfterSeries, nothing_put}
use Rattle.block_meta.specs.declared.block_plan.BlockPlan.{BlockPlan}
use Rattle.block_meta.specs.declared.block_files.BlockFiles.{BlockFiles}
use Rattle.block_meta.specs.declared.build_refusal.BuildRefusal.{BuildRefusal}
use Rattle.block_writing.specs.Writing.{plan_fields}
use Rattle.block_writing.specs.WrittenMeta.{IsWritten}
use Rattle.block_writing.specs.Built.{AreOfBlock, AreBuildable, IsPutAs, HasMore, IsPutOf, IsBuilt}

-- ---- lists

same_some : {B : Type 0} (z y : B) → ◌≡◌ {A = Option B} (Some z) (Some y) → z ≡ y
same_some z y e = cc

pub one_sum : (one : Series) → sum_by (λ (s : Series). length s.samples) (one ∷ []) ≡ length one.samples
one_sum one = let e : 0 + length one.samples ≡ length one.samples = omega arith in e

each_got : {A B : Type 0} (R : A → B → Type 0) (xs : List A) (ys : List B) (k : ℕ) (y : B) → AllZip R xs ys → slice_get ys k ≡ Some y → (x : A) × (slice_get xs k ≡ Some x) × R x y
each_got R [] [] k y each at = absurd cc
each_got R [] (z ∷ ys) k y each at = absurd each
each_got R (x ∷ xs) [] k y each at = absurd each
each_got {A} {B} R (x ∷ xs) (z ∷ ys) zero y each at = (x, refl, subst (R x) (same_some z y at) each.0)
each_got R (x ∷ xs) (z ∷ ys) (suc k) y each at = each_got R xs ys k y each.1 at

all_at : {A : Type 0} (P : A → Type 0) (xs : List A) (k : ℕ) (x d : A) → AllByRecursion P xs → k < length xs → x ≡ get_or xs k d → P x
all_at P [] k x d all within at = absurd (omega (arith, within))
all_at P (y ∷ xs) zero x d all within at = subst P (sym at) all.0
all_at P (y ∷ xs) (suc k) x d all within at = all_at P xs k x d all.1 (omega (arith, within)) at

got_at : {A : Type 0} (xs : List A) (k : ℕ) (x d : A) → k < length xs → x ≡ get_or xs k d → slice_get xs k ≡ Some x
got_at [] k x d within at = absurd (omega (arith, within))
got_at (y ∷ xs) zero x d within at = ap Some (sym at)
got_at (y ∷ xs) (suc k) x d within at = got_at xs k x d (omega (arith, within)) at

-- ---- what each series is

pub of_series : (plan : PlanFields) (series : List Series) (k : ℕ) (one d : Series) (now : Put) → AreBuildable plan series → k < length series → one ≡ get_or series k d → IsPutOf plan (take k series) now → AreOfBlock now.plan one.samples
of_series plan series k one d now are within at h =
    subst (λ (p : PlanFields). AreOfBlock p one.samples) (sym h.plan_is) (all_at (λ (s : Series). AreOfBlock plan s.samples) series k one d are.samples within at)

pub of_times : (plan : PlanFields) (series : List Series) (now : Put) → AreLawfulTimes plan.min_time plan.max_time → IsPutOf plan series now → AreLawfulTimes now.plan.min_time now.plan.max_time
of_times plan series now lawful h = subst (λ (p : PlanFields). AreLawfulTimes p.min_time p.max_time) (sym h.plan_is) lawful

pub after_series : (plan : PlanFields) (series : List Series) (k : ℕ) (one d : Series) (now : Put) → IsStrictlySortedBy compare_sets (map (λ (s : Series). s.labels) series) → k < length series → one ≡ get_or series k d → IsPutOf plan (take k series) now → IsAfterSeries now.series one.labels
after_series plan series k one d now ascend within at h last there =
    let got = each_got IsPutAs (take k series) now.series (length now.series - 1) last h.series_are there in
    let size : length now.series ≡ k = sym (AllZip-as_long IsPutAs (take k series) now.series h.series_are) ∙ omega (arith, within, length-take k series) in
    let below : length now.series - 1 < k = omega (arith, size, slice_get_within now.series (length now.series - 1) last there) in
    let before : slice_get series (length now.series - 1) ≡ Some got.0 = slice_get-take series k (length now.series - 1) got.0 got.1 in
    let one_there : slice_get series k ≡ Some one = got_at series k one d within at in
    let first : slice_get (map (λ (s : Series). s.labels) series) (length now.series - 1) ≡ Some got.0.labels = slice_get-map (λ (s : Series). s.labels) series (length now.series - 1) ∙ ap (option_map (λ (s : Series). s.labels)) before in
    let second : slice_get (map (λ (s : Series). s.labels) series) k ≡ Some one.labels = slice_get-map (λ (s : Series). s.labels) series k ∙ ap (option_map (λ (s : Series). s.labels)) one_there in
    ap (λ (l : List Label). compare_sets l one.labels) got.2.labels ∙ Less-at_places compare_sets (map (λ (s : Series). s.labels) series) (length now.series - 1) k got.0.labels one.labels ascend below first second

-- ---- series by series

pub none_put : (plan : PlanFields) (begin : Put) → begin ≡ nothing_put plan → IsPutOf plan [] begin
unfolding sample_count
none_put plan begin e = record {
  plan_is = ap (λ (p : Put). p.plan) e;
  series_are = subst (AllZip IsPutAs []) (sym (ap (λ (p : Put). p.series) e)) tt;
  nothing_left = ap (λ (p : Put). p.chunks) e;
  samples_are = ap (λ (p : Put). p.samples) e;
}

pub few_counted : (plan : PlanFields) (series : List Series) (now : Put) → IsPutOf plan series now → now.samples < 2 ^ 64
unfolding sample_count
few_counted plan series now h = omega (arith, h.samples_are)

pub one_more : (plan : PlanFields) (series : List Series) (k : ℕ) (one d : Series) (now new : Put) → k < length series → one ≡ get_or series k d → IsPutOf plan (take k series) now → HasMore now one new → IsPutOf plan (take (k + 1) series) new
unfolding sample_count
one_more plan series k one d now new within at h more =
    let split : take (k + 1) series ≡ take k series ++ one ∷ [] = take_more series k d within ∙ ap (λ (s : Series). take k series ++ s ∷ []) (sym at) in
    let are : AllZip IsPutAs (take k series ++ one ∷ []) (now.series ++ more.put ∷ []) = AllZip-append IsPutAs (take k series) (one ∷ []) now.series (more.put ∷ []) h.series_are (more.put_is, tt) in
    let sum : sum_by (λ (s : Series). length s.samples) (take (k + 1) series) ≡ sum_by (λ (s : Series). length s.samples) (take k series) + length one.samples =
    ap (sum_by (λ (s : Series). length s.samples)) split ∙ sum_by-append (λ (s : Series). length s.samples) (take k series) (one ∷ []) ∙ ap (λ (n : ℕ). sum_by (λ (s : Series). length s.samples) (take k series) + n) (one_sum one) in
    record {
      plan_is = more.plan_is ∙ h.plan_is;
      series_are = subst (λ (l : List Series). AllZip IsPutAs l new.series) (sym split) (subst (AllZip IsPutAs (take k series ++ one ∷ [])) (sym more.series_is) are);
      nothing_left = more.nothing_left;
      samples_are = omega (arith, more.samples_is, h.samples_are, sum);
    }

pub all_put : (plan : PlanFields) (items series : List Series) (k : ℕ) (now : Put) → items ≡ series → length items ≤ k → IsPutOf plan (take k items) now → IsPutOf plan series now
all_put plan items series k now same all h = subst (λ (l : List Series). IsPutOf plan l now) (take_all k items all ∙ same) h

pub built_from : (r : Result BlockFiles BuildRefusal) (plan : BlockPlan) (series : List Series) (put : Put) → IsPutOf (plan_fields plan) series put → IfOk r (IsWritten put) → IfOk r (IsBuilt plan series)
built_from (Ok block) plan series put is written = record { put = put; put_is = is; block_is = written }
built_from (Err e) plan series put is written = tt
