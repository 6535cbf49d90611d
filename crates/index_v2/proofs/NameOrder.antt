-- Names of labels ascend where their symbol numbers do.
use Rattle.std.proofs.Common.{◌≡◌, ℕ, ◌<◌, Bool, true, false, List, [], ◌∷◌, length, get_or, Option, Some, None, Ok, Err, refl, sym, ap, subst, ◌∙◌, arith}
use Rattle.std.specs.Prelude.{slice_get, unwrap_or, nat_lt, IfSome}
use Rattle.std.specs.Ordering.{is_lt}
use Rattle.std.proofs.lemmas.Bool.{lt-ltb}
use Rattle.std.proofs.lemmas.Option.{slice_get-get_or, slice_get_within}
use Rattle.label_sets.specs.Labels.{compare_texts}
use Rattle.label_sets.specs.declared.label.Label.{Label}
use Rattle.index_parts.specs.declared.raw_series.RawLabel.{RawLabel}
use Rattle.index_parts.specs.declared.refusal.PartRefusal.TheVariants.{Unordered}
use Rattle.index_v2.specs.SeriesLabels.{label_of}
use Rattle.index_v2.specs.Ranks.{AreSymbols, name_before}
use Rattle.index_v2.proofs.LabelReading.{label_parts}
use Rattle.index_v2.proofs.LabelTexts.{AreTextsSoFar}
use Rattle.wire_bytes.specs.Position.{Position}
use Rattle.index_v2.proofs.SymbolRanks.{number_order}

some_text : (name : List ℕ) (b : Bool) → b ≡ nat_lt 0 (length name) → b ≡ is_lt (compare_texts [] name)
some_text [] b e = e
some_text (n ∷ name) b e = e ∙ lt-ltb 0 (length (n ∷ name)) (omega arith)

pub first_name : (symbols : List (List ℕ)) (o : Option ℕ) (name : List ℕ) (b : Bool) → o ≡ None → b ≡ nat_lt 0 (length name) → b ≡ is_lt (compare_texts (name_before symbols o) name)
first_name symbols None name b none e = some_text name b e
first_name symbols (Some n) name b none e = absurd cc

pub name_behind : (symbols : List (List ℕ)) (o : Option ℕ) (before number : ℕ) (name : List ℕ) (b : Bool) → o ≡ Some before → AreSymbols symbols → slice_get symbols number ≡ Some name → IfSome o (λ n. n < length symbols) → b ≡ nat_lt before number → b ≡ is_lt (compare_texts (name_before symbols o) name)
name_behind symbols None before number name b some are at within e = absurd cc
name_behind symbols (Some n) before number name b some are at within e =
    let same : n ≡ before = ap (λ (o : Option ℕ). unwrap_or o before) some in
    let there = slice_get-get_or symbols n [] within in
    let told : unwrap_or (slice_get symbols n) [] ≡ get_or symbols n [] = ap (λ (o : Option (List ℕ)). unwrap_or o []) there in
    e ∙ ap (λ (m : ℕ). nat_lt m number) (sym same) ∙ number_order symbols n number (get_or symbols n []) name are there at ∙ ap (λ (t : List ℕ). is_lt (compare_texts t name)) (sym told)

-- ---- what was read of a label tells the name before the next one

pub number_within : (symbols : List (List ℕ)) (before : List ℕ) (raw : RawLabel) (label : Label) → label_of symbols before raw ≡ Ok label → raw.name.number < length symbols
number_within symbols before raw label e = slice_get_within symbols raw.name.number label.name (label_parts symbols before raw label e).name_is

pub named_by : (symbols : List (List ℕ)) (before : List ℕ) (raw : RawLabel) (label : Label) → label_of symbols before raw ≡ Ok label → label.name ≡ name_before symbols (Some raw.name.number)
named_by symbols before raw label e = sym (ap (λ (o : Option (List ℕ)). unwrap_or o []) (label_parts symbols before raw label e).name_is)

-- ---- what is refused

module _ (symbols : List (List ℕ)) (before : List ℕ) (raw : RawLabel) where
  pub no_name : slice_get symbols raw.name.number ≡ None → label_of symbols before raw ≡ Err (Unordered raw.name.place)
  unfolding label_of
  no_name e = rw e refl

  module _ (name : List ℕ) (stands : slice_get symbols raw.name.number ≡ Some name) where
    pub low_name : is_lt (compare_texts before name) ≡ false → label_of symbols before raw ≡ Err (Unordered raw.name.place)
    unfolding label_of
    low_name e = rw (stands, e) refl

    module _ (ordered : is_lt (compare_texts before name) ≡ true) where
      pub no_value : slice_get symbols raw.value.number ≡ None → label_of symbols before raw ≡ Err (Unordered raw.value.place)
      unfolding label_of
      no_value e = rw (stands, ordered, e) refl

      pub empty_value : (value : List ℕ) → slice_get symbols raw.value.number ≡ Some value → nat_lt 0 (length value) ≡ false → label_of symbols before raw ≡ Err (Unordered raw.value.place)
      unfolding label_of
      empty_value value e f = rw (stands, ordered, e, f) refl

      pub some_label : (value : List ℕ) → slice_get symbols raw.value.number ≡ Some value → nat_lt 0 (length value) ≡ true → label_of symbols before raw ≡ Ok (record { name = name; value = value })
      unfolding label_of
      some_label value e f = rw (stands, ordered, e, f) refl

pub step_named : (symbols : List (List ℕ)) (count : ℕ) (start : Position) (before : List ℕ) (place : ℕ) (labels : List Label) (p : Position) (raw : RawLabel) (label : Label) → label_of symbols before raw ≡ Ok label → AreTextsSoFar symbols count start label.name place labels p → AreTextsSoFar symbols count start (name_before symbols (Some raw.name.number)) place labels p
step_named symbols count start before place labels p raw label e far = subst (λ (t : List ℕ). AreTextsSoFar symbols count start t place labels p) (named_by symbols before raw label e) far
