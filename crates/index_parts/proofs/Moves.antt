-- Fields move a position within the same bytes, and no field begins past their end.
use Rattle.wire_bytes.proofs.ByteFields.{bytes_parts}
use Rattle.std.proofs.Common.{◌≡◌, ℕ, ◌+◌, ◌<◌, ◌≤◌, List, [], length, take, Result, Ok, Err, refl, sym, ap, ◌∙◌, arith}
use Rattle.std.specs.Int.{w32, byte_len}
use Rattle.std.proofs.lemmas.List.{drop_all, length-drop, length-take}
use Rattle.base.specs.Reading.{Answers}
use Rattle.base.proofs.Binds.{bind_ok, cond_ok, refused_as_ok, ok_is}
use Rattle.wire_bytes.specs.Position.{Position, left, further}
use Rattle.wire_bytes.specs.Fields.{bytes_at, number_at, uvarint_at, groups_of}
use Rattle.wire_bytes.specs.declared.varint.WireRefusal.{WireRefusal}
use Rattle.wire_bytes.specs.declared.varint.WireRefusal.TheVariants as wire
use Rattle.index_parts.specs.declared.refusal.PartRefusal.{PartRefusal}
use Rattle.index_parts.specs.declared.refusal.PartRefusal.TheVariants.{Short}
use Rattle.index_parts.specs.Placed.{at_place, field}
use Rattle.index_parts.specs.Framing.{summed_at, framed_at}

-- How a length is read: that moves a position within the same bytes, and nothing is read past their end.
pub record IsSizeOf (size_at : Position → Result (ℕ × Position) WireRefusal) : Type 0 where
  pub moves : (p q : Position) (n : ℕ) → size_at p ≡ Ok (n, q) → (count : ℕ) × (further count p ≡ q)
  pub past : (p : Position) → left p ≡ [] → size_at p ≡ Err wire.Short

number_moves : (p q : Position) (n : ℕ) → number_at w32 p ≡ Ok (n, q) → (count : ℕ) × (further count p ≡ q)
unfolding number_at
number_moves p q n e =
    let g = cond_ok _ _ _ _ e in
    let same = ok_is {E = WireRefusal} _ _ g.1 in
    (byte_len w32, ap (λ y. y.1) same)

number_past : (p : Position) → left p ≡ [] → number_at w32 p ≡ Err wire.Short
unfolding number_at
number_past p e = rw e refl

pub number_size : IsSizeOf (number_at w32)
number_size = record { moves = number_moves; past = number_past }

uvarint_moves : (p q : Position) (n : ℕ) → uvarint_at p ≡ Ok (n, q) → (count : ℕ) × (further count p ≡ q)
unfolding uvarint_at
uvarint_moves p q n e =
    let x = bind_ok (groups_of 9 (left p)) _ _ e in
    let same : ◌≡◌ {A = ℕ × Position} (x.0.0, further x.0.1 p) (n, q) = ok_is {E = WireRefusal} _ _ x.2 in
    (x.0.1, ap (λ (y : ℕ × Position). y.1) same)

uvarint_past : (p : Position) → left p ≡ [] → uvarint_at p ≡ Err wire.Short
unfolding uvarint_at groups_of
uvarint_past p e = rw e refl

pub uvarint_size : IsSizeOf uvarint_at
uvarint_size = record { moves = uvarint_moves; past = uvarint_past }

-- ---- the end of what is summed

pub end_is : (index : List ℕ) (place size end : ℕ) (content : List ℕ) (q : Position) → place ≤ length index → end ≡ q.place → bytes_at size (at_place index place) ≡ Ok (content, q) → (end ≡ place + size) × (end ≤ length index)
end_is index place _ _ _ q within here e =
    let x = bytes_parts _ _ q _ e in
    let at = ap (λ (r : Position). r.place) x.2 in
    (omega arith, omega (arith, length-drop place index))

pub end_within : (index : List ℕ) (place size end : ℕ) (content : List ℕ) (q : Position) → bytes_at size (at_place index place) ≡ Ok (content, q) → end ≡ q.place → place ≤ length index → end ≡ length (take end index)
end_within index _ _ end content q e here within =
    let x = end_is _ _ _ _ _ q within here e in
    omega (arith, length-take end index, x.1)

pub start_within : (index : List ℕ) (place size end : ℕ) (content : List ℕ) (q : Position) → bytes_at size (at_place index place) ≡ Ok (content, q) → end ≡ q.place → place ≤ length index → place ≤ length (take end index)
start_within index _ _ end content q e here within =
    let x = end_is _ _ _ _ _ q within here e in
    omega (arith, length-take end index, x.0, x.1)

-- ---- from a length to the content

module _ (size_at : Position → Result (ℕ × Position) WireRefusal) (is : IsSizeOf size_at) where
  -- a position is its bytes and its place
  moved : (index : List ℕ) (at size : ℕ) (q : Position) → field size_at (at_place index at) ≡ Ok (size, q) → at_place index q.place ≡ q
  moved index at size q e =
      let x = is.moves (at_place index at) q size (refused_as_ok _ _ _ e) in
      ap (λ r. at_place index r.place) (sym x.1) ∙ x.1

  pub framed_within : (index : List ℕ) (at size place : ℕ) (q : Position) → field size_at (at_place index at) ≡ Ok (size, q) → place ≡ q.place → q.place ≤ length q.bytes → place ≤ length index
  framed_within _ at size _ q e here within =
      let same = ap (λ r. r.bytes) (moved _ at size q e) in
      omega (arith, ap length same)

  pub framed_past : (index : List ℕ) (at : ℕ) → length index < at → framed_at size_at index at ≡ Err (Short at)
  unfolding framed_at
  framed_past index at lt = rw (is.past (at_place index at) (drop_all at index (omega arith))) refl

  steps : (index : List ℕ) (at size : ℕ) (q : Position) → field size_at (at_place index at) ≡ Ok (size, q) → framed_at size_at index at ≡ summed_at at size (at_place index q.place)
  unfolding framed_at
  steps _ at size q e = rw e (ap (summed_at at size) (sym (moved _ at size q e)))

  pub framed_answers : (index : List ℕ) (at size counted place : ℕ) (q : Position) (r : Result Position PartRefusal) → Answers (λ content. content) r (summed_at at counted (at_place index place)) → field size_at (at_place index at) ≡ Ok (size, q) → counted ≡ size → place ≡ q.place
      → Answers (λ content. content) r (framed_at size_at index at)
  framed_answers index at size counted place q r h e same here =
      let whole = steps _ at size q e ∙ ap (λ n. summed_at at n (at_place index q.place)) (sym same) ∙ ap (λ n. summed_at at counted (at_place index n)) (sym here) in
      rw whole h
