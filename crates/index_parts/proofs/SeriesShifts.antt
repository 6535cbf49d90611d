-- What a series is read of in a part of an index, and the same in the index.
use Rattle.std.proofs.Common.{◌≡◌, ℕ, zero, suc, ◌+◌, ◌≤◌, List, [], ◌∷◌, ◌++◌, length, Option, Some, None, Result, Ok, refl, ap, ℤ, pos}
use Rattle.std.specs.Prelude.{◌+ℤ◌}
use Rattle.std.specs.Int.RustNames.{unsigned_abs}
use Rattle.base.specs.Decimal.{fits_signed}
use Rattle.base.specs.Members.{members_at}
use Rattle.wire_bytes.specs.Position.{Position}
use Rattle.wire_bytes.specs.Fields.{uvarint_at, varint_at}
use Rattle.index_parts.specs.declared.refusal.PartRefusal.{PartRefusal}
use Rattle.index_parts.specs.declared.refusal.PartRefusal.TheVariants.{Overlong}
use Rattle.index_parts.specs.declared.chunk_place.ChunkPlace.{ChunkPlace}
use Rattle.index_parts.specs.declared.raw_series.SymbolNumber.{SymbolNumber}
use Rattle.index_parts.specs.declared.raw_series.RawLabel.{RawLabel}
use Rattle.index_parts.specs.Placed.{field}
use Rattle.index_parts.specs.SeriesEntry.{reference_of}
use Rattle.index_parts.specs.SeriesReading.{fits_unsigned, labels_begin_at, symbol_number_at, label_at, later_at, moved_at, begin_at, reference_at, chunk_of, chunk_at, chunks_at}
use Rattle.index_parts.specs.Shifting.{shifted_refusal}
use Rattle.index_parts.proofs.Shifts.{IsMoved, IsSame, IsStep, same_value, same_bind, same_step, same_unless}
use Rattle.index_parts.proofs.FieldShifts.{uvarint_field, varint_field, same_field}
use Rattle.index_parts.proofs.SectionShifts.{same_framed, Turned, IsTurn, turned, same_turns}

module _ (front : List ℕ) (most : ℕ) where
  abbrev Moved : Position → Position → Type 0
  Moved = IsMoved front most

  -- a value and the position behind it, read on either side
  abbrev Read : {V : Type 0} → Result (V × Position) PartRefusal → Result (V × Position) PartRefusal → Type 0
  Read r s = IsSame front most (IsStep front most Moved) r s

  read_is : {V : Type 0} (v : V) (p q : Position) → Moved p q → Read (Ok (v, p)) (Ok (v, q))
  read_is v p q m = same_value front most (IsStep front most Moved) _ _ (record { value = refl; state = m })

  uvarint : (p q : Position) → Moved p q → Read (field uvarint_at p) (field uvarint_at q)
  uvarint p q m = same_field front most uvarint_at (uvarint_field front most) p q m

  varint : (p q : Position) → Moved p q → Read (field varint_at p) (field varint_at q)
  varint p q m = same_field front most varint_at (varint_field front most) p q m

  overlong : (p q : Position) → Moved p q → Overlong q.place ≡ shifted_refusal (length front) (Overlong p.place)
  overlong p q m = ap Overlong m.place_is

  -- ---- labels

  -- the same number, so many bytes further
  pub record IsFurther (m n : SymbolNumber) : Type 0 where
    pub number_is : m.number ≡ n.number
    pub place_is : n.place ≡ length front + m.place
    pub within : m.place ≤ most

  abbrev pub LabelFurther : RawLabel → RawLabel → Type 0
  LabelFurther x y = IsFurther x.name y.name × IsFurther x.value y.value

  abbrev pub AreFurther : List RawLabel → List RawLabel → Type 0
  AreFurther [] [] = Unit {0}
  AreFurther [] (y ∷ ys) = ⊥
  AreFurther (x ∷ xs) [] = ⊥
  AreFurther (x ∷ xs) (y ∷ ys) = LabelFurther x y × AreFurther xs ys

  -- what is read on either side, and the positions behind it
  pub record AreBehind {V : Type 0} (Rel : V → V → Type 0) (x y : V × Position) : Type 0 where
    pub values : Rel x.0 y.0
    pub state : Moved x.1 y.1

  number_same : (p q : Position) → Moved p q → IsSame front most (AreBehind IsFurther) (symbol_number_at p) (symbol_number_at q)
  unfolding symbol_number_at
  number_same p q m =
      same_step front most Moved (AreBehind IsFurther) _ _ _ _ (uvarint p q m) (λ number a b e h.
      same_value front most (AreBehind IsFurther) _ _ (record { values = record { number_is = refl; place_is = m.place_is; within = m.within }; state = h }))

  label_same : (p q : Position) → Moved p q → IsSame front most (AreBehind LabelFurther) (label_at p) (label_at q)
  unfolding label_at
  label_same p q m =
      same_bind front most (AreBehind IsFurther) (AreBehind LabelFurther) _ _ _ _ (number_same p q m) (λ x y e name.
      same_bind front most (AreBehind IsFurther) (AreBehind LabelFurther) _ _ _ _ (number_same x.1 y.1 name.state) (λ v w e' value.
      same_value front most (AreBehind LabelFurther) _ _ (record { values = (name.values, value.values); state = value.state })))

  pub labels_same : (n : ℕ) (p q : Position) → Moved p q → IsSame front most (AreBehind AreFurther) (members_at label_at n p) (members_at label_at n q)
  unfolding members_at
  labels_same zero p q m = same_value front most (AreBehind AreFurther) ([], p) ([], q) (record { values = tt; state = m })
  labels_same (suc n) p q m =
      same_bind front most (AreBehind LabelFurther) (AreBehind AreFurther) _ _ _ _ (label_same p q m) (λ x y e first.
      same_bind front most (AreBehind AreFurther) (AreBehind AreFurther) _ _ _ _ (labels_same n x.1 y.1 first.state) (λ v w e' others.
      same_value front most (AreBehind AreFurther) (x.0 ∷ v.0, v.1) (y.0 ∷ w.0, w.1) (record { values = (first.values, others.values); state = others.state })))

  pub begin_same : (part : List ℕ) (at : ℕ) → length part ≤ most → at ≤ most → Read (labels_begin_at part at) (labels_begin_at (front ++ part) (length front + at))
  unfolding labels_begin_at
  begin_same part at few le =
      same_bind front most Moved (IsStep front most Moved) _ _ _ _ (same_framed front most uvarint_at (uvarint_field front most) part at few le) (λ p q e h. uvarint p q h)

  -- ---- chunks

  later_same : (time : ℤ) (p q : Position) → Moved p q → Read (later_at time p) (later_at time q)
  unfolding later_at
  later_same time p q m =
      same_step front most Moved (IsStep front most Moved) _ _ _ _ (uvarint p q m) (λ by a b e h.
      same_unless front most (IsStep front most Moved) (fits_signed (time +ℤ pos by)) (Overlong p.place) (Overlong q.place) _ _ (overlong p q m) m.within (λ _. read_is (time +ℤ pos by) a b h))

  moved_same : (reference : ℕ) (p q : Position) → Moved p q → Read (moved_at reference p) (moved_at reference q)
  unfolding moved_at
  moved_same reference p q m =
      same_step front most Moved (IsStep front most Moved) _ _ _ _ (varint p q m) (λ by a b e h.
      same_unless front most (IsStep front most Moved) (fits_unsigned (pos reference +ℤ by)) (Overlong p.place) (Overlong q.place) _ _ (overlong p q m) m.within (λ _. read_is (unsigned_abs (pos reference +ℤ by)) a b h))

  first_same : (before : Option ChunkPlace) (p q : Position) → Moved p q → Read (begin_at before p) (begin_at before q)
  unfolding begin_at
  first_same None p q m = varint p q m
  first_same (Some before) p q m = later_same before.max p q m

  reference_same : (before : Option ChunkPlace) (p q : Position) → Moved p q → Read (reference_at before p) (reference_at before q)
  unfolding reference_at
  reference_same None p q m = uvarint p q m
  reference_same (Some before) p q m = moved_same (reference_of before) p q m

  chunk_turned : Turned front most chunk_at
  unfolding chunk_at
  chunk_turned before p q m =
      same_step front most Moved (IsStep front most (IsTurn front most)) _ _ _ _ (first_same before p q m) (λ min a b e h.
      same_step front most Moved (IsStep front most (IsTurn front most)) _ _ _ _ (later_same min a b h) (λ max a1 b1 e1 h1.
      same_step front most Moved (IsStep front most (IsTurn front most)) _ _ _ _ (reference_same before a1 b1 h1) (λ reference a2 b2 e2 h2.
      turned front most (chunk_of min max reference) a2 b2 h2)))

  pub chunks_same : (p q : Position) → Moved p q → IsSame front most (λ xs ys. xs ≡ ys) (chunks_at p) (chunks_at q)
  unfolding chunks_at
  chunks_same p q m =
      same_step front most Moved (λ xs ys. xs ≡ ys) _ _ _ _ (uvarint p q m) (λ count a b e h. same_turns front most chunk_at chunk_turned count a b h)
