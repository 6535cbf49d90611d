-- A row of a postings table that has the name of the row before it.
use Rattle.std.proofs.Common.{◌≡◌, ℕ, ◌-◌, Bool, true, false, List, length, Some, Ok, Err, refl, sym, ap, subst, ◌∙◌}
use Rattle.std.specs.Str.{is_utf8, bytes_eq}
use Rattle.std.specs.Ordering.{is_lt}
use Rattle.std.proofs.lemmas.Slice.Eq.{bytes_eq-Decides}
use Rattle.base.specs.Reading.{◌>>◌, unless}
use Rattle.label_sets.specs.Labels.{compare_texts}
use Rattle.label_sets.proofs.LabelValues.{compare_self}
use Rattle.index_parts.specs.declared.refusal.PartRefusal.TheVariants.{Unordered, NotText}
use Rattle.index_parts.specs.declared.postings_row.PostingsRow.{PostingsRow}
use Rattle.index_parts.specs.RowsReading.{row_told}

-- bytes that were found equal to those of a text
pub same_bytes : (text bytes other : List ℕ) (same : Bool) → bytes ≡ text → same ≡ bytes_eq bytes other → same ≡ true → text ≡ other
same_bytes _ _ _ _ are test holds = sym are ∙ (bytes_eq-Decides _ _).0 (sym test ∙ holds)

module _ (before : PostingsRow) (place : ℕ) (name : List ℕ) (name_end : ℕ) (value : List ℕ) (value_end offset : ℕ) (same : before.name ≡ name) (utf8 : is_utf8 name ≡ true) where
  -- the values alone decide the order, and the name is a text already
  by_value : row_told (Some before) place name_end value_end (record { name = name; value = value; offset = offset }) ≡ (unless (is_lt (compare_texts before.value value)) (Unordered place) >> (unless (is_utf8 value) (NotText (value_end - length value)) >> Ok (record { name = before.name; value = value; offset = offset })))
  by_value =
      let text = subst (λ n. is_utf8 n ≡ true) (sym same) utf8 in
      rw (← same, compare_self, text) refl

  pub same_row : (text : List ℕ) (less : Bool) → text ≡ value → less ≡ is_lt (compare_texts before.value text) → less ≡ true → is_utf8 value ≡ true
      → row_told (Some before) place name_end value_end (record { name = name; value = value; offset = offset }) ≡ Ok (record { name = before.name; value = text; offset = offset })
  same_row _ _ is test holds value_utf8 =
      let up = ap (λ t. is_lt (compare_texts before.value t)) (sym is) ∙ sym test ∙ holds in
      by_value ∙ rw (up, value_utf8, ← is) refl

  pub same_text : (less : Bool) → less ≡ is_lt (compare_texts before.value value) → less ≡ true → is_utf8 value ≡ false → row_told (Some before) place name_end value_end (record { name = name; value = value; offset = offset }) ≡ Err (NotText (value_end - length value))
  same_text _ test holds value_bad = let up = sym test ∙ holds in by_value ∙ rw (up, value_bad) refl

  pub same_order : (text : List ℕ) (less : Bool) → text ≡ value → less ≡ is_lt (compare_texts before.value text) → less ≡ false → row_told (Some before) place name_end value_end (record { name = name; value = value; offset = offset }) ≡ Err (Unordered place)
  same_order _ _ is test fails =
      let down = ap (λ t. is_lt (compare_texts before.value t)) (sym is) ∙ sym test ∙ fails in
      by_value ∙ rw down refl
