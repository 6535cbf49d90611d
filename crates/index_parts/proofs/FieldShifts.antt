-- Fields in a part of an index, and the same in the index.
use Rattle.std.proofs.Common.{◌≡◌, ℕ, zero, suc, ◌+◌, ◌-◌, ◌*◌, ◌≤◌, Bool, true, false, cond, List, [], ◌∷◌, length, take, Result, Ok, Err, refl, ap, ◌∙◌, arith, inl, inr}
use Rattle.std.specs.Prelude.{nat_lt}
use Rattle.std.specs.Int.{Width, byte_len, from_be_bytes}
use Rattle.std.proofs.lemmas.Bool.{ltb-false}
use Rattle.std.proofs.lemmas.List.{length-drop}
use Rattle.base.specs.Reading.{◌>>=◌, refused_as}
use Rattle.base.proofs.Binds.{bind_ok, ok_is, cond_is, cond_ok_second}
use Rattle.wire_bytes.specs.declared.varint.WireRefusal.{WireRefusal}
use Rattle.wire_bytes.specs.declared.varint.WireRefusal.TheVariants as wire
use Rattle.wire_bytes.specs.Position.{Position, left, further}
use Rattle.wire_bytes.specs.Fields.{bytes_at, number_at, groups_of, uvarint_at, unzigzag, varint_at}
use Rattle.index_parts.specs.Placed.{refused_at, field, text_at}
use Rattle.index_parts.specs.Shifting.{shifted_refusal}
use Rattle.index_parts.proofs.Shifts.{IsWithin, IsMoved, left_same, IsSame, IsStep, same_value, same_refusal, same_step}

module _ (front : List ℕ) (most : ℕ) where
  -- a field by its reading, which has no places yet
  abbrev pub StepBy : {V : Type 0} → Result (V × Position) WireRefusal → Result (V × Position) WireRefusal → Type 0
  StepBy (Ok x) (Ok y) = IsStep front most (IsMoved front most) x y
  StepBy (Ok x) (Err e) = ⊥
  StepBy (Err d) (Ok y) = ⊥
  StepBy (Err d) (Err e) = d ≡ e

  pub record IsField {V : Type 0} (read : Position → Result (V × Position) WireRefusal) : Type 0 where
    pub steps : (p q : Position) → IsMoved front most p q → StepBy (read p) (read q)

  -- so many of the bytes that are left
  pub moved_on : (count : ℕ) (p q : Position) → count ≤ length (left p) → IsMoved front most p q → IsMoved front most (further count p) (further count q)
  moved_on count p q enough m = let w = m.within in let f = m.few in record {
    bytes_are = m.bytes_are;
    place_is = ap (λ (n : ℕ). n + count) m.place_is ∙ (omega arith);
    few = m.few;
    within = omega (arith, length-drop p.place p.bytes);
  }

  choice : {V : Type 0} (b : Bool) (v : V) (p q : Position) → (b ≡ false → IsMoved front most p q) → StepBy (cond b (Err wire.Short) (Ok (v, p))) (cond b (Err wire.Short) (Ok (v, q)))
  choice true v p q m = refl
  choice false v p q m = record { value = refl; state = m refl }

  bytes_step : (count : ℕ) (p q : Position) → IsMoved front most p q → StepBy (bytes_at count p) (bytes_at count q)
  unfolding bytes_at
  bytes_step count p q m =
      rw (left_same front most p q m) (choice (nat_lt (length (left p)) count) (take count (left p)) (further count p) (further count q) (λ e. moved_on count p q (ltb-false (length (left p)) count e) m))

  pub bytes_field : (count : ℕ) → IsField (bytes_at count)
  bytes_field count = record { steps = bytes_step count }

  number_step : (w : Width) (p q : Position) → IsMoved front most p q → StepBy (number_at w p) (number_at w q)
  unfolding number_at
  number_step w p q m =
      rw (left_same front most p q m) (choice (nat_lt (length (left p)) (byte_len w)) (from_be_bytes w (take (byte_len w) (left p))) (further (byte_len w) p) (further (byte_len w) q) (λ e. moved_on (byte_len w) p q (ltb-false (length (left p)) (byte_len w) e) m))

  pub number_field : (w : Width) → IsField (number_at w)
  number_field w = record { steps = number_step w }

  groups_within : (more : ℕ) (bytes : List ℕ) (n : ℕ × ℕ) → groups_of more bytes ≡ Ok n → n.1 ≤ length bytes
  unfolding groups_of
  groups_within more [] n e = absurd cc
  groups_within zero (group ∷ groups) n e = let one = ok_is {E = WireRefusal} _ _ (cond_ok_second (nat_lt group 2) (Ok (group, 1)) wire.Overlong n e).1 in omega (arith, ap (λ (x : ℕ × ℕ). x.1) one)
  groups_within (suc more) (group ∷ groups) n e =
      elim (cond_is (nat_lt group 128) (Ok (group, 1)) (groups_of more groups >>= λ high. Ok (group - 128 + 128 * high.0, high.1 + 1)) (Ok n) e) [
        | inl last ↦ let one = ok_is {E = WireRefusal} (group, 1) n last.1 in omega (arith, ap (λ (x : ℕ × ℕ). x.1) one)
        | inr next ↦ let high = bind_ok (groups_of more groups) (λ high. Ok (group - 128 + 128 * high.0, high.1 + 1)) n next.1 in
            let one = ok_is {E = WireRefusal} (group - 128 + 128 * high.0.0, high.0.1 + 1) n high.2 in
            omega (arith, ap (λ (x : ℕ × ℕ). x.1) one, groups_within more groups high.0 high.1)
      ]

  groups_step : (r : Result (ℕ × ℕ) WireRefusal) (p q : Position) → ((n : ℕ × ℕ) → r ≡ Ok n → IsMoved front most (further n.1 p) (further n.1 q)) → StepBy (r >>= λ n. Ok (n.0, further n.1 p)) (r >>= λ n. Ok (n.0, further n.1 q))
  groups_step (Ok n) p q m = record { value = refl; state = m n refl }
  groups_step (Err d) p q m = refl

  uvarint_step : (p q : Position) → IsMoved front most p q → StepBy (uvarint_at p) (uvarint_at q)
  unfolding uvarint_at
  uvarint_step p q m = rw (left_same front most p q m) (groups_step (groups_of 9 (left p)) p q (λ n e. moved_on n.1 p q (groups_within 9 (left p) n e) m))

  pub uvarint_field : IsField uvarint_at
  uvarint_field = record { steps = uvarint_step }

  varint_by : (r s : Result (ℕ × Position) WireRefusal) → StepBy r s → StepBy (r >>= λ n. Ok (unzigzag n.0, n.1)) (s >>= λ n. Ok (unzigzag n.0, n.1))
  varint_by (Ok x) (Ok y) h = record { value = ap unzigzag h.value; state = h.state }
  varint_by (Ok x) (Err e) h = absurd h
  varint_by (Err d) (Ok y) h = absurd h
  varint_by (Err d) (Err e) h = h

  varint_step : (p q : Position) → IsMoved front most p q → StepBy (varint_at p) (varint_at q)
  unfolding varint_at
  varint_step p q m = varint_by (uvarint_at p) (uvarint_at q) (uvarint_step p q m)

  pub varint_field : IsField varint_at
  varint_field = record { steps = varint_step }

  -- ---- with the place where the field begins

  refused_same : (place : ℕ) (d : WireRefusal) → place ≤ most → (refused_at (length front + place) d ≡ shifted_refusal (length front) (refused_at place d)) × IsWithin most (refused_at place d)
  refused_same place wire.Short le = (refl, le)
  refused_same place wire.Overlong le = (refl, le)

  field_by : {V : Type 0} (place here : ℕ) (r s : Result (V × Position) WireRefusal) → here ≡ length front + place → place ≤ most → StepBy r s → IsSame front most (IsStep front most (IsMoved front most)) (refused_as (refused_at place) r) (refused_as (refused_at here) s)
  field_by place here (Ok x) (Ok y) is le h = same_value front most (IsStep front most (IsMoved front most)) x y h
  field_by place here (Ok x) (Err e) is le h = absurd h
  field_by place here (Err d) (Ok y) is le h = absurd h
  field_by place here (Err d) (Err e) is le h =
      let placed = refused_same place d le in
      same_refusal front most (IsStep front most (IsMoved front most)) (refused_at place d) (refused_at here e) (rw (is, ← h) placed.0) placed.1

  pub same_field : {V : Type 0} (read : Position → Result (V × Position) WireRefusal) → IsField read → (p q : Position) → IsMoved front most p q → IsSame front most (IsStep front most (IsMoved front most)) (field read p) (field read q)
  same_field read is p q m = field_by p.place q.place (read p) (read q) m.place_is m.within (is.steps p q m)

  pub same_text : (p q : Position) → IsMoved front most p q → IsSame front most (IsStep front most (IsMoved front most)) (text_at p) (text_at q)
  unfolding text_at
  same_text p q m =
      same_step front most (IsMoved front most) (IsStep front most (IsMoved front most)) (field uvarint_at p) (field uvarint_at q) _ _ (same_field uvarint_at uvarint_field p q m)
      (λ size p' q' e m'. same_field (bytes_at size) (bytes_field size) p' q' m')
