-- Postings tables against their grammar.
use Rattle.std.proofs.Common.{◌≡◌, ℕ, ◌≤◌, true, List, [], ◌∷◌, ◌++◌, length, Option, Some, None, Ok, refl, sym, ap, ◌∙◌, length-append, arith}
use Rattle.std.specs.Prelude.{◌==◌}
use Rattle.std.specs.Int.{w8, to_be_bytes}
use Rattle.std.specs.Str.{is_utf8}
use Rattle.std.proofs.lemmas.Bool.{and_parts, eqb-true}
use Rattle.std.proofs.lemmas.List.{nil_from_length}
use Rattle.std.proofs.lemmas.Str.{is_utf8-from_IsUtf8}
use Rattle.base.proofs.Order.{comes_after_tells}
use Rattle.base.specs.Grammar.{IsBytes, HasFront}
use Rattle.base.proofs.Fronts.{IsBytes-after}
use Rattle.base.proofs.Binds.{bind_ok, unless_ok, ok_is}
use Rattle.wire_bytes.specs.Position.{Position, left}
use Rattle.wire_bytes.specs.FieldTexts.{IsFixed}
use Rattle.wire_bytes.proofs.FixedLaws.{wide8}
use Rattle.index_parts.specs.declared.refusal.PartRefusal.{PartRefusal}
use Rattle.index_parts.specs.declared.refusal.PartRefusal.TheVariants.{Unordered}
use Rattle.index_parts.specs.declared.postings_row.PostingsRow.{PostingsRow}
use Rattle.index_parts.specs.Rows.{compare_rows, MayComeAfter, IsNextRow}
use Rattle.index_parts.specs.RowsReading.{may_come_after, row_told, row_at}
use Rattle.index_parts.proofs.FieldLaws.{fixed_field, uvarint_field, long_field}
use Rattle.index_parts.proofs.TurnLaws.{turn_found}
use Rattle.index_parts.proofs.ListLaws.{IsTurnOf}
use Rattle.index_parts.proofs.SymbolLaws.{text_is, long_is, text_size, uvarint_size}
use Rattle.index_parts.proofs.ChunkLaws.{regroup}

after_found : (before : Option PostingsRow) (row : PostingsRow) → may_come_after before row ≡ true → MayComeAfter before row
after_found None row e =
    let p = and_parts (length row.name == 0) (length row.value == 0) e in
    (nil_from_length _ (eqb-true (length row.name) 0 p.0), nil_from_length _ (eqb-true (length row.value) 0 p.1))
after_found (Some b) row e = (comes_after_tells compare_rows (Some b) row).0 e

after_again : (before : Option PostingsRow) (row : PostingsRow) → MayComeAfter before row → may_come_after before row ≡ true
after_again None _ h = rw (h.0, h.1) refl
after_again (Some b) row h = (comes_after_tells compare_rows (Some b) row).1 h

abbrev row_with : List ℕ × Position → List ℕ × Position → ℕ × Position → PostingsRow
row_with name value offset = record { name = name.0; value = value.0; offset = offset.0 }

-- what a row that is told has passed
record HasPassed (before : Option PostingsRow) (row told : PostingsRow) : Type 0 where
  ordered : may_come_after before row ≡ true
  name_utf8 : is_utf8 row.name ≡ true
  value_utf8 : is_utf8 row.value ≡ true
  same : row ≡ told

told_parts : (before : Option PostingsRow) (place name_end value_end : ℕ) (row told : PostingsRow) → row_told before place name_end value_end row ≡ Ok told → HasPassed before row told
told_parts _ _ _ _ _ _ e =
    let order = unless_ok _ _ _ _ e in
    let name = unless_ok _ _ _ _ order.1 in
    let value = unless_ok _ _ _ _ name.1 in
    record { ordered = order.0; name_utf8 = name.0; value_utf8 = value.0; same = ok_is {E = PartRefusal} _ _ value.1 }

found : (before : Option PostingsRow) (p : Position) (x : PostingsRow) (t : Option PostingsRow × Position) → IsBytes (left p) → row_at (before, p) ≡ Ok (x, t) → HasFront (IsNextRow before) (left p) x (left t.1) × (t.0 ≡ Some x)
unfolding row_at
found before p x t are e =
    let kind = bind_ok _ _ _ e in
    let is_two = unless_ok (kind.0.0 == 2) (Unordered p.place) _ _ kind.2 in
    let name = bind_ok _ _ _ is_two.1 in
    let value = bind_ok _ _ _ name.2 in
    let offset = bind_ok _ _ _ value.2 in
    let row = row_with name.0 value.0 offset.0 in
    let told = bind_ok _ _ _ offset.2 in
    let tests = told_parts before p.place name.0.1.place value.0.1.place row told.0 told.1 in
    let fixed = fixed_field w8 wide8 in
    let f0 = fixed.found p kind.0.1 kind.0.0 are kind.1 in
    let are1 = IsBytes-after f0.0 (left kind.0.1) (left p) f0.2 are in
    let f1 = long_field.found kind.0.1 name.0.1 name.0.0 are1 name.1 in
    let are2 = IsBytes-after f1.0 (left name.0.1) (left kind.0.1) f1.2 are1 in
    let f2 = long_field.found name.0.1 value.0.1 value.0.0 are2 value.1 in
    let are3 = IsBytes-after _ _ _ f2.2 are2 in
    let f3 = uvarint_field.found value.0.1 offset.0.1 offset.0.0 are3 offset.1 in
    let two : f0.0 ≡ 2 ∷ [] = f0.1.digits ∙ ap (to_be_bytes w8) (eqb-true kind.0.0 2 is_two.0) in
    let is : IsNextRow before (2 ∷ (f1.0 ++ f2.0 ++ f3.0)) row = record {
      name = f1.0;
      value = f2.0;
      offset = f3.0;
      name_is = text_is _ _ f1.1 tests.name_utf8;
      value_is = text_is _ _ f2.1 tests.value_utf8;
      offset_is = f3.1;
      text_is = refl;
      ascends = after_found _ _ tests.ordered;
    } in
    let behind = f1.2 ∙ ap (λ a. f1.0 ++ a) (f2.2 ∙ ap (λ a. f2.0 ++ a) f3.2) ∙ sym (regroup f1.0 f2.0 f3.0 (left offset.0.1)) in
    let whole = f0.2 ∙ ap (λ a. a ++ left kind.0.1) two ∙ ap (λ a. 2 ∷ a) behind in
    turn_found IsNextRow before p _ (2 ∷ (f1.0 ++ f2.0 ++ f3.0)) _ x t is whole (ap (λ r. Ok (r, (Some r, offset.0.1))) tests.same ∙ told.2)

again : (before : Option PostingsRow) (p : Position) (text : List ℕ) (x : PostingsRow) (after : List ℕ) → IsNextRow before text x → left p ≡ text ++ after → (q : Position) × (row_at (before, p) ≡ Ok (x, (Some x, q))) × (left q ≡ after)
unfolding row_at
again before p _ x after is e =
    let whole = e ∙ ap (λ a. a ++ after) is.text_is ∙ ap (λ a. 2 ∷ a) (regroup _ _ is.offset after) in
    let fixed = fixed_field w8 wide8 in
    let two : IsFixed w8 (2 ∷ []) 2 = record { digits = refl; fits = omega arith } in
    let kind = fixed.again p (2 ∷ []) 2 (is.name ++ (is.value ++ (is.offset ++ after))) two whole in
    let name = long_field.again kind.0 is.name x.name (is.value ++ (is.offset ++ after)) (long_is is.name x.name is.name_is) kind.2 in
    let value = long_field.again name.0 is.value x.value (is.offset ++ after) (long_is is.value x.value is.value_is) name.2 in
    let offset = uvarint_field.again value.0 is.offset x.offset after is.offset_is value.2 in
    (offset.0, rw (kind.1, name.1, value.1, offset.1, after_again before x is.ascends, is_utf8-from_IsUtf8 x.name is.name_is.utf8, is_utf8-from_IsUtf8 x.value is.value_is.utf8) refl, offset.2)

pub row_turn : IsTurnOf IsNextRow row_at
row_turn = record { found = found; again = again }

pub row_size : (before : Option PostingsRow) (text : List ℕ) (x : PostingsRow) → IsNextRow before text x → 4 ≤ length text
row_size _ _ x is =
    let a = text_size _ _ is.name_is in
    let b = text_size _ _ is.value_is in
    let c = uvarint_size _ _ is.offset_is in
    omega (arith, ap length is.text_is, length-append (is.name ++ is.value) is.offset, length-append is.name is.value)
