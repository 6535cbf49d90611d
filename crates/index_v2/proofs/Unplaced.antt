-- Which labels symbol numbers have does not depend on where the numbers stand.
use Rattle.std.proofs.Common.{◌≡◌, ℕ, List, [], ◌∷◌, length, Bool, true, false, Option, Some, None, Result, Ok, Err, refl}
use Rattle.std.specs.Prelude.{slice_get, nat_lt}
use Rattle.std.specs.Ordering.{is_lt}
use Rattle.std.specs.Option.{ok_or}
use Rattle.std.specs.Result.{result_ok}
use Rattle.base.specs.Reading.{◌>>=◌, ◌>>◌, unless}
use Rattle.label_sets.specs.Labels.{compare_texts}
use Rattle.index_parts.specs.declared.raw_series.RawLabel.{RawLabel}
use Rattle.index_parts.specs.SeriesReading.{names_of, values_of}
use Rattle.index_v2.specs.SeriesLabels.{label_of, labels_of, unplaced, all_unplaced}

-- the same value, or none
abbrev Alike : {A E : Type 0} → Result A E → Result A E → Type 0
Alike r s = result_ok r ≡ result_ok s

bind_alike : {A B E : Type 0} (r s : Result A E) (f g : A → Result B E) → Alike r s → ((x : A) → Alike (f x) (g x)) → Alike (r >>= f) (s >>= g)
bind_alike (Ok x) (Ok y) f g same alike = let is : y ≡ x = cc (same) in rw is (alike x)
bind_alike (Ok x) (Err e) f g same alike = absurd (cc (same))
bind_alike (Err d) (Ok y) f g same alike = absurd (cc (same))
bind_alike (Err d) (Err e) f g same alike = refl

unless_alike : {A E : Type 0} (b : Bool) (d e : E) (r s : Result A E) → Alike r s → Alike (unless b d >> r) (unless b e >> s)
unless_alike true d e r s same = same
unless_alike false d e r s same = refl

found_alike : {A E : Type 0} (o : Option A) (d e : E) → Alike (ok_or o d) (ok_or o e)
found_alike (Some x) d e = refl
found_alike None d e = refl

label_alike : (symbols : List (List ℕ)) (before : List ℕ) (raw : RawLabel) → Alike (label_of symbols before (unplaced raw.name.number raw.value.number)) (label_of symbols before raw)
unfolding label_of
label_alike symbols before raw =
    bind_alike _ _ _ _ (found_alike (slice_get symbols raw.name.number) _ _) (λ name.
    unless_alike (is_lt (compare_texts before name)) _ _ _ _
    (bind_alike _ _ _ _ (found_alike (slice_get symbols raw.value.number) _ _) (λ value.
    unless_alike (nat_lt 0 (length value)) _ _ _ _ refl)))

pub labels_alike : (symbols : List (List ℕ)) (before : List ℕ) (raws : List RawLabel) → Alike (labels_of symbols before (all_unplaced (names_of raws) (values_of raws))) (labels_of symbols before raws)
unfolding labels_of
labels_alike symbols before [] = refl
labels_alike symbols before (raw ∷ others) =
    bind_alike _ _ _ _ (label_alike symbols before raw) (λ label.
    bind_alike _ _ _ _ (labels_alike symbols label.name others) (λ labels. refl))
