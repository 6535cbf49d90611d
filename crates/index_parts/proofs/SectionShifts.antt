-- Sections in a part of an index, and the same in the index.
use Rattle.std.proofs.Common.{◌≡◌, ℕ, ◌+◌, ◌-◌, ◌≤◌, List, ◌++◌, length, take, Option, Some, None, Result, Ok, Err, refl, ap, subst, ◌∙◌, arith}
use Rattle.std.specs.Prelude.{◌==◌, nat_lt}
use Rattle.std.specs.Str.{is_utf8}
use Rattle.std.specs.Int.{w8, w32}
use Rattle.std.proofs.Math.Seq.{take-append-add}
use Rattle.std.proofs.lemmas.List.{length-take}
use Rattle.base.specs.Reading.{refused_as}
use Rattle.base.proofs.Binds.{ok_is, cond_ok}
use Rattle.wire_bytes.specs.declared.varint.WireRefusal.{WireRefusal}
use Rattle.wire_bytes.specs.declared.varint.WireRefusal.TheVariants as wire
use Rattle.wire_bytes.specs.Crc.{crc}
use Rattle.wire_bytes.specs.Position.{Position, left, further}
use Rattle.wire_bytes.specs.Fields.{bytes_at, number_at, uvarint_at}
use Rattle.index_parts.specs.declared.refusal.PartRefusal.{PartRefusal}
use Rattle.index_parts.specs.declared.refusal.PartRefusal.TheVariants.{Short, BadSum, Unordered, NotText}
use Rattle.index_parts.specs.declared.postings_row.PostingsRow.{PostingsRow}
use Rattle.index_parts.specs.Placed.{at_place, field, text_at}
use Rattle.index_parts.specs.Framing.{summed_at, framed_at}
use Rattle.index_parts.specs.ListReading.{turns_at, list_at}
use Rattle.index_parts.specs.SymbolsReading.{symbol_at}
use Rattle.index_parts.specs.PostingsReading.{posting_at}
use Rattle.index_parts.specs.Rows.{row_kind}
use Rattle.index_parts.specs.RowsReading.{may_come_after, row_told, row_at}
use Rattle.index_parts.proofs.Texts.{text_within}
use Rattle.index_parts.specs.Shifting.{shifted_refusal}
use Rattle.index_parts.proofs.Shifts.{IsWithin, IsMoved, IsSame, IsStep, same_value, same_refusal, same_bind, same_step, same_unless, same_members}
use Rattle.index_parts.proofs.FieldShifts.{StepBy, IsField, bytes_field, number_field, uvarint_field, same_field, same_text}

-- a text stands before the position behind it
bytes_long : (count : ℕ) (p q : Position) (text : List ℕ) → bytes_at count p ≡ Ok (text, q) → length text ≤ q.place
unfolding bytes_at
bytes_long count p q text e =
    let read = cond_ok (nat_lt (length (left p)) count) wire.Short (Ok (take count (left p), further count p)) (text, q) e in
    let same : (take count (left p), further count p) ≡ (text, q) = ok_is {E = WireRefusal} _ _ read.1 in
    omega (arith, ap (λ (x : List ℕ × Position). length x.0) same, ap (λ (x : List ℕ × Position). x.1.place) same, length-take count (left p))

module _ (front : List ℕ) (most : ℕ) where
  abbrev Moved : Position → Position → Type 0
  Moved = IsMoved front most

  -- ---- frames

  short_by : {V : Type 0} (at : ℕ) (r s : Result (V × Position) WireRefusal) → at ≤ most → StepBy front most r s → IsSame front most (IsStep front most Moved) (refused_as (λ _. Short at) r) (refused_as (λ _. Short (length front + at)) s)
  short_by at (Ok x) (Ok y) le h = same_value front most (IsStep front most Moved) x y h
  short_by at (Ok x) (Err e) le h = absurd h
  short_by at (Err d) (Ok y) le h = absurd h
  short_by at (Err d) (Err e) le h = same_refusal front most (IsStep front most Moved) (Short at) (Short (length front + at)) refl le

  take_front : (n : ℕ) (bytes : List ℕ) → take (length front + n) (front ++ bytes) ≡ front ++ take n bytes
  take_front n bytes = take-append-add front bytes n

  cut_same : (p q a b : Position) → Moved p q → Moved a b → Moved (at_place (take a.place p.bytes) p.place) (at_place (take b.place q.bytes) q.place)
  cut_same p q a b m h = let f = m.few in record {
    bytes_are = ap (λ (n : ℕ). take n q.bytes) h.place_is ∙ ap (take (length front + a.place)) m.bytes_are ∙ take_front a.place p.bytes;
    place_is = m.place_is;
    few = omega (arith, length-take a.place p.bytes);
    within = m.within;
  }

  same_summed : (at size : ℕ) (p q : Position) → at ≤ most → Moved p q → IsSame front most Moved (summed_at at size p) (summed_at (length front + at) size q)
  unfolding summed_at
  same_summed at size p q le m =
      same_step front most Moved Moved (refused_as (λ _. Short at) (bytes_at size p)) (refused_as (λ _. Short (length front + at)) (bytes_at size q)) _ _
      (short_by at (bytes_at size p) (bytes_at size q) le ((bytes_field front most size).steps p q m))
      (λ content a b e h. same_step front most Moved Moved (refused_as (λ _. Short at) (number_at w32 a)) (refused_as (λ _. Short (length front + at)) (number_at w32 b)) _ _
      (short_by at (number_at w32 a) (number_at w32 b) le ((number_field front most w32).steps a b h))
      (λ kept a' b' e' h'. same_unless front most Moved (kept == crc content) (BadSum kept (crc content)) (BadSum kept (crc content)) _ _ refl tt
      (λ sum. same_value front most Moved (at_place (take a.place p.bytes) p.place) (at_place (take b.place q.bytes) q.place) (cut_same p q a b m h))))

  pub same_framed : (size_at : Position → Result (ℕ × Position) WireRefusal) → IsField front most size_at → (part : List ℕ) (at : ℕ) → length part ≤ most → at ≤ most → IsSame front most Moved (framed_at size_at part at) (framed_at size_at (front ++ part) (length front + at))
  unfolding framed_at
  same_framed size_at is part at few le =
      let begin : Moved (at_place part at) (at_place (front ++ part) (length front + at)) = record { bytes_are = refl; place_is = refl; few = few; within = le } in
      same_step front most Moved Moved (field size_at (at_place part at)) (field size_at (at_place (front ++ part) (length front + at))) _ _ (same_field front most size_at is _ _ begin)
      (λ size p q e h. same_summed at size p q le h)

  -- ---- lists, each of whose members is told from the one before it

  pub record IsTurn {A : Type 0} (s t : Option A × Position) : Type 0 where
    pub before : s.0 ≡ t.0
    pub here : Moved s.1 t.1

  abbrev pub Turned : {A : Type 0} → (Option A × Position → Result (A × (Option A × Position)) PartRefusal) → Type 0
  Turned {A} read = (before : Option A) (p q : Position) → Moved p q → IsSame front most (IsStep front most (IsTurn {A = A})) (read (before, p)) (read (before, q))

  module _ {A : Type 0} (read : Option A × Position → Result (A × (Option A × Position)) PartRefusal) (turned : Turned read) where
    turn_of : (s t : Option A × Position) → IsTurn s t → IsSame front most (IsStep front most IsTurn) (read s) (read t)
    turn_of s t is = subst (λ (b : Option A). IsSame front most (IsStep front most IsTurn) (read s) (read (b, t.1))) is.before (turned s.0 s.1 t.1 is.here)

    pub same_turns : (count : ℕ) (p q : Position) → Moved p q → IsSame front most (λ xs ys. xs ≡ ys) (turns_at read count p) (turns_at read count q)
    unfolding turns_at
    same_turns count p q m =
        same_step front most IsTurn (λ xs ys. xs ≡ ys) _ _ _ _ (same_members front most IsTurn read turn_of count (None, p) (None, q) (record { before = refl; here = m }))
        (λ members s t e h. same_value front most (λ xs ys. xs ≡ ys) members members refl)

    pub same_list : (part : List ℕ) (at : ℕ) → length part ≤ most → at ≤ most → IsSame front most (λ xs ys. xs ≡ ys) (list_at read part at) (list_at read (front ++ part) (length front + at))
    unfolding list_at
    same_list part at few le =
        same_bind front most Moved (λ xs ys. xs ≡ ys) _ _ _ _ (same_framed (number_at w32) (number_field front most w32) part at few le)
        (λ p q e h. same_step front most Moved (λ xs ys. xs ≡ ys) _ _ _ _ (same_field front most (number_at w32) (number_field front most w32) p q h)
        (λ count p' q' e' h'. same_turns count p' q' h'))

  -- ---- symbols, numbers and rows

  pub turned : {A : Type 0} (x : A) (p q : Position) → Moved p q → IsSame front most (IsStep front most (IsTurn {A = A})) (Ok (x, (Some x, p))) (Ok (x, (Some x, q)))
  turned x p q m = same_value front most (IsStep front most IsTurn) _ _ (record { value = refl; state = record { before = refl; here = m } })

  unordered : (p q : Position) → Moved p q → Unordered q.place ≡ shifted_refusal (length front) (Unordered p.place)
  unordered p q m = ap Unordered m.place_is

  not_text : (text : List ℕ) (p q : Position) → length text ≤ p.place → Moved p q → NotText (q.place - length text) ≡ shifted_refusal (length front) (NotText (p.place - length text))
  not_text text p q le m = ap NotText (let e = m.place_is in omega (arith, e))

  before_text : (text : List ℕ) (p q : Position) → Moved p q → IsWithin most (NotText (p.place - length text))
  before_text text p q m = let w = m.within in omega (arith, w)

  pub symbol_turned : Turned symbol_at
  unfolding symbol_at
  symbol_turned before p q m =
      same_step front most Moved (IsStep front most IsTurn) (text_at p) (text_at q) _ _ (same_text front most p q m)
      (λ text a b e h. same_unless front most (IsStep front most IsTurn) _ (Unordered p.place) (Unordered q.place) _ _ (unordered p q m) m.within
      (λ _. same_unless front most (IsStep front most IsTurn) (is_utf8 text) (NotText (a.place - length text)) (NotText (b.place - length text)) _ _ (not_text text a b (text_within p a text e) h) (before_text text a b h)
      (λ _. turned text a b h)))

  pub posting_turned : Turned posting_at
  unfolding posting_at
  posting_turned before p q m =
      same_step front most Moved (IsStep front most IsTurn) _ _ _ _ (same_field front most (number_at w32) (number_field front most w32) p q m)
      (λ number a b e h. same_unless front most (IsStep front most IsTurn) _ (Unordered p.place) (Unordered q.place) _ _ (unordered p q m) m.within
      (λ _. turned number a b h))

  told_same : (before : Option PostingsRow) (p q a b c d : Position) (row : PostingsRow) → Moved p q → Moved a b → Moved c d → length row.name ≤ a.place → length row.value ≤ c.place → IsSame front most (λ x y. x ≡ y) (row_told before p.place a.place c.place row) (row_told before q.place b.place d.place row)
  told_same before p q a b c d row m h k name value =
      same_unless front most (λ x y. x ≡ y) (may_come_after before row) (Unordered p.place) (Unordered q.place) _ _ (unordered p q m) m.within
      (λ _. same_unless front most (λ x y. x ≡ y) (is_utf8 row.name) (NotText (a.place - length row.name)) (NotText (b.place - length row.name)) _ _ (not_text row.name a b name h) (before_text row.name a b h)
      (λ _. same_unless front most (λ x y. x ≡ y) (is_utf8 row.value) (NotText (c.place - length row.value)) (NotText (d.place - length row.value)) _ _ (not_text row.value c d value k) (before_text row.value c d k)
      (λ _. same_value front most (λ x y. x ≡ y) row row refl)))

  pub row_turned : Turned row_at
  unfolding row_at
  row_turned before p q m =
      same_step front most Moved (IsStep front most IsTurn) _ _ _ _ (same_field front most (number_at w8) (number_field front most w8) p q m)
      (λ kind a b e h. same_unless front most (IsStep front most IsTurn) (kind == row_kind) (Unordered p.place) (Unordered q.place) _ _ (unordered p q m) m.within
      (λ _. same_step front most Moved (IsStep front most IsTurn) (text_at a) (text_at b) _ _ (same_text front most a b h)
      (λ name a1 b1 e1 h1. same_step front most Moved (IsStep front most IsTurn) (text_at a1) (text_at b1) _ _ (same_text front most a1 b1 h1)
      (λ value a2 b2 e2 h2. same_step front most Moved (IsStep front most IsTurn) _ _ _ _ (same_field front most uvarint_at (uvarint_field front most) a2 b2 h2)
      (λ offset a3 b3 e3 h3.
      let row : PostingsRow = record { name = name; value = value; offset = offset } in
      same_bind front most (λ x y. x ≡ y) (IsStep front most IsTurn) (row_told before p.place a1.place a2.place row) (row_told before q.place b1.place b2.place row) _ _
      (told_same before p q a1 b1 a2 b2 row m h1 h2 (text_within a a1 name e1) (text_within a1 a2 value e2))
      (λ x y e4 same. subst (λ (z : PostingsRow). IsSame front most (IsStep front most IsTurn) (Ok (x, (Some x, a3))) (Ok (z, (Some z, b3)))) same (turned x a3 b3 h3)))))))
