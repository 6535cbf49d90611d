-- A frame that ends within some bytes is read alike whatever follows these.
use Rattle.std.proofs.Common.{◌≡◌, ℕ, zero, suc, ◌+◌, ◌-◌, ◌*◌, ◌<◌, ◌≤◌, List, [], ◌∷◌, ◌++◌, length, take, drop, Result, Ok, Err, refl, sym, ap, ◌∙◌, arith, inl, inr}
use Rattle.std.specs.Prelude.{◌==◌, nat_lt}
use Rattle.std.specs.Result.{IsOkAnd}
use Rattle.std.specs.Int.{Width, w32, byte_len, from_be_bytes}
use Rattle.std.proofs.lemmas.Bool.{le-ltb, lt-ltb, ltb-false}
use Rattle.std.proofs.lemmas.List.{length-drop, length-append, drop-append-le, take-append-le}
use Rattle.base.specs.Reading.{◌>>=◌, ◌>>◌, unless}
use Rattle.base.proofs.Binds.{bind_ok, ok_is, cond_ok, cond_is}
use Rattle.wire_bytes.specs.declared.varint.WireRefusal.{WireRefusal}
use Rattle.wire_bytes.specs.declared.varint.WireRefusal.TheVariants as wire
use Rattle.wire_bytes.specs.Crc.{crc}
use Rattle.wire_bytes.specs.Position.{Position, left, further}
use Rattle.wire_bytes.specs.Fields.{bytes_at, number_at, groups_of, uvarint_at}
use Rattle.index_parts.specs.declared.refusal.PartRefusal.{PartRefusal}
use Rattle.index_parts.specs.declared.refusal.PartRefusal.TheVariants.{Short, BadSum}
use Rattle.index_parts.specs.Placed.{at_place, refused_at, field}
use Rattle.index_parts.specs.Framing.{summed_at, framed_at}

-- ---- lengths

-- a length that is read is read again with more bytes behind
pub record IsLonger (size_at : Position → Result (ℕ × Position) WireRefusal) : Type 0 where
  pub again : (bytes after : List ℕ) (at : ℕ) (size : ℕ × Position) → size_at (at_place bytes at) ≡ Ok size → (size.1.bytes ≡ bytes) × (size_at (at_place (bytes ++ after) at) ≡ Ok (size.0, at_place (bytes ++ after) size.1.place))

left_longer : (bytes after : List ℕ) (at : ℕ) → at ≤ length bytes → left (at_place (bytes ++ after) at) ≡ left (at_place bytes at) ++ after
left_longer bytes after at le = drop-append-le at bytes after le

number_longer_by : (w : Width) (bytes after : List ℕ) (at : ℕ) → at ≤ length bytes → byte_len w ≤ length (left (at_place bytes at)) → number_at w (at_place (bytes ++ after) at) ≡ Ok (from_be_bytes w (take (byte_len w) (left (at_place bytes at))), at_place (bytes ++ after) (at + byte_len w))
unfolding number_at
number_longer_by w bytes after at le enough =
    rw (left_longer bytes after at le, le-ltb (length (left (at_place bytes at) ++ after)) (byte_len w) (omega (arith, enough, length-append (left (at_place bytes at)) after)), take-append-le (byte_len w) (left (at_place bytes at)) after enough) refl

number_again : (w : Width) (bytes after : List ℕ) (at : ℕ) (size : ℕ × Position) → 1 ≤ byte_len w → number_at w (at_place bytes at) ≡ Ok size → (size.1.bytes ≡ bytes) × (number_at w (at_place (bytes ++ after) at) ≡ Ok (size.0, at_place (bytes ++ after) size.1.place))
unfolding number_at
number_again w bytes after at size some e =
    let p = at_place bytes at in
    let read = cond_ok (nat_lt (length (left p)) (byte_len w)) wire.Short (Ok (from_be_bytes w (take (byte_len w) (left p)), further (byte_len w) p)) size e in
    let enough : byte_len w ≤ length (left p) = ltb-false (length (left p)) (byte_len w) read.0 in
    let here : at ≤ length bytes = omega (arith, enough, some, length-drop at bytes) in
    let same : (from_be_bytes w (take (byte_len w) (left p)), further (byte_len w) p) ≡ size = ok_is {E = WireRefusal} _ _ read.1 in (
      sym (ap (λ (x : ℕ × Position). x.1.bytes) same),
      number_longer_by w bytes after at here enough ∙ ap (λ (x : ℕ × Position). Ok (x.0, at_place (bytes ++ after) x.1.place)) same,
    )

pub section_longer : IsLonger (number_at w32)
section_longer = record { again = λ bytes after at size e. number_again w32 bytes after at size (omega arith) e }

groups_longer : (more : ℕ) (bytes after : List ℕ) (n : ℕ × ℕ) → groups_of more bytes ≡ Ok n → groups_of more (bytes ++ after) ≡ Ok n
unfolding groups_of
groups_longer more [] after n e = absurd cc
groups_longer zero (group ∷ groups) after n e = e
groups_longer (suc more) (group ∷ groups) after n e =
    elim (cond_is (nat_lt group 128) (Ok (group, 1)) (groups_of more groups >>= λ high. Ok (group - 128 + 128 * high.0, high.1 + 1)) (Ok n) e) [
      | inl last ↦ rw last.0 last.1
      | inr next ↦
          let high = bind_ok (groups_of more groups) (λ high. Ok (group - 128 + 128 * high.0, high.1 + 1)) n next.1 in
          rw (next.0, groups_longer more groups after high.0 high.1) high.2
    ]

some_groups : (more : ℕ) (bytes : List ℕ) (n : ℕ × ℕ) → groups_of more bytes ≡ Ok n → 1 ≤ length bytes
unfolding groups_of
some_groups more [] n e = absurd cc
some_groups more (group ∷ groups) n e = omega arith

uvarint_again : (bytes after : List ℕ) (at : ℕ) (size : ℕ × Position) → uvarint_at (at_place bytes at) ≡ Ok size → (size.1.bytes ≡ bytes) × (uvarint_at (at_place (bytes ++ after) at) ≡ Ok (size.0, at_place (bytes ++ after) size.1.place))
unfolding uvarint_at
uvarint_again bytes after at size e =
    let p = at_place bytes at in
    let n = bind_ok (groups_of 9 (left p)) (λ n. Ok (n.0, further n.1 p)) size e in
    let some = some_groups 9 (left p) n.0 n.1 in
    let here : at ≤ length bytes = omega (arith, some, length-drop at bytes) in
    let same : (n.0.0, further n.0.1 p) ≡ size = ok_is {E = WireRefusal} _ _ n.2 in (
      sym (ap (λ (x : ℕ × Position). x.1.bytes) same),
      rw (left_longer bytes after at here, groups_longer 9 (left p) after n.0 n.1) (ap (λ (x : ℕ × Position). Ok (x.0, at_place (bytes ++ after) x.1.place)) same),
    )

pub entry_longer : IsLonger uvarint_at
entry_longer = record { again = uvarint_again }

-- ---- what a length tells of

bytes_read : (bytes : List ℕ) (at count : ℕ) → at + count ≤ length bytes → bytes_at count (at_place bytes at) ≡ Ok (take count (drop at bytes), at_place bytes (at + count))
unfolding bytes_at
bytes_read bytes at count le = rw (le-ltb (length (drop at bytes)) count (omega (arith, le, length-drop at bytes))) refl

number_read : (w : Width) (bytes : List ℕ) (at : ℕ) → at + byte_len w ≤ length bytes → number_at w (at_place bytes at) ≡ Ok (from_be_bytes w (take (byte_len w) (drop at bytes)), at_place bytes (at + byte_len w))
unfolding number_at
number_read w bytes at le = rw (le-ltb (length (drop at bytes)) (byte_len w) (omega (arith, le, length-drop at bytes))) refl

-- by the content, the bytes of its sum, and the bytes up to the content's end
abbrev summed : List ℕ → List ℕ → List ℕ → ℕ → Result Position PartRefusal
summed content kept all at = unless (from_be_bytes w32 kept == crc content) (BadSum (from_be_bytes w32 kept) (crc content)) >> Ok (at_place all at)

summed_read : (place : ℕ) (bytes : List ℕ) (at count : ℕ) → at + count + 4 ≤ length bytes → summed_at place count (at_place bytes at) ≡ summed (take count (drop at bytes)) (take 4 (drop (at + count) bytes)) (take (at + count) bytes) at
unfolding summed_at
summed_read place bytes at count le = rw (bytes_read bytes at count (omega (arith, le)), number_read w32 bytes (at + count) (omega (arith, le))) refl

piece : (bytes after : List ℕ) (at count : ℕ) → at + count ≤ length bytes → take count (drop at (bytes ++ after)) ≡ take count (drop at bytes)
piece bytes after at count le =
    ap (take count) (drop-append-le at bytes after (omega (arith, le))) ∙ take-append-le count (drop at bytes) after (omega (arith, le, length-drop at bytes))

summed_longer : (place : ℕ) (bytes after : List ℕ) (at count : ℕ) → at + count + 4 ≤ length bytes → summed_at place count (at_place (bytes ++ after) at) ≡ summed_at place count (at_place bytes at)
summed_longer place bytes after at count le =
    let long : at + count + 4 ≤ length (bytes ++ after) = omega (arith, le, length-append bytes after) in
    let content = piece bytes after at count (omega (arith, le)) in
    let kept = piece bytes after (at + count) 4 (omega (arith, le)) in
    let all = take-append-le (at + count) bytes after (omega (arith, le)) in
    summed_read place (bytes ++ after) at count long ∙ ap (λ (xs : List ℕ). summed xs (take 4 (drop (at + count) (bytes ++ after))) (take (at + count) (bytes ++ after)) at) content
    ∙ ap (λ (xs : List ℕ). summed (take count (drop at bytes)) xs (take (at + count) (bytes ++ after)) at) kept ∙ ap (λ (xs : List ℕ). summed (take count (drop at bytes)) (take 4 (drop (at + count) bytes)) xs at) all ∙ sym (summed_read place bytes at count le)

pub no_content : (place : ℕ) (bytes : List ℕ) (at count : ℕ) → length (drop at bytes) < count → summed_at place count (at_place bytes at) ≡ Err (Short place)
unfolding summed_at bytes_at
no_content place bytes at count few = rw (lt-ltb (length (drop at bytes)) count few) refl

number_missing : (bytes : List ℕ) (at : ℕ) → length (drop at bytes) < 4 → number_at w32 (at_place bytes at) ≡ Err wire.Short
unfolding number_at
number_missing bytes at few = rw (lt-ltb (length (drop at bytes)) 4 few) refl

content_read : (bytes : List ℕ) (at count : ℕ) → count ≤ length (drop at bytes) → bytes_at count (at_place bytes at) ≡ Ok (take count (drop at bytes), at_place bytes (at + count))
unfolding bytes_at
content_read bytes at count enough = rw (le-ltb (length (drop at bytes)) count enough) refl

pub no_sum : (place : ℕ) (bytes : List ℕ) (at count : ℕ) → count ≤ length (drop at bytes) → length (drop (at + count) bytes) < 4 → summed_at place count (at_place bytes at) ≡ Err (Short place)
unfolding summed_at
no_sum place bytes at count enough few = rw (content_read bytes at count enough, number_missing bytes (at + count) few) refl

field_is : (size_at : Position → Result (ℕ × Position) WireRefusal) (p : Position) (size : ℕ × Position) → size_at p ≡ Ok size → field size_at p ≡ Ok size
field_is size_at p size e = rw e refl

pub framed_is : (size_at : Position → Result (ℕ × Position) WireRefusal) (bytes : List ℕ) (at : ℕ) (size : ℕ × Position) → size_at (at_place bytes at) ≡ Ok size → framed_at size_at bytes at ≡ summed_at at size.0 size.1
unfolding framed_at
framed_is size_at bytes at size e = rw (field_is size_at (at_place bytes at) size e) refl

field_refused : (size_at : Position → Result (ℕ × Position) WireRefusal) (p : Position) (d : WireRefusal) → size_at p ≡ Err d → field size_at p ≡ Err (refused_at p.place d)
field_refused size_at p d e = rw e refl

pub framed_refused : (size_at : Position → Result (ℕ × Position) WireRefusal) (bytes : List ℕ) (at : ℕ) (d : WireRefusal) → size_at (at_place bytes at) ≡ Err d → framed_at size_at bytes at ≡ Err (refused_at at d)
unfolding framed_at
framed_refused size_at bytes at d e = rw (field_refused size_at (at_place bytes at) d e) refl

of_told : {A E P : Type 0} (Is : A → Type 0) (r : Result A E) → IsOkAnd r Is → ((x : A) → r ≡ Ok x → Is x → P) → P
of_told Is (Ok x) h k = k x refl h
of_told Is (Err e) h k = absurd h

pub framed_longer : (size_at : Position → Result (ℕ × Position) WireRefusal) → IsLonger size_at → (bytes after : List ℕ) (at : ℕ) → IsOkAnd (size_at (at_place bytes at)) (λ (size : ℕ × Position). size.1.place + size.0 + 4 ≤ length bytes) → framed_at size_at (bytes ++ after) at ≡ framed_at size_at bytes at
framed_longer size_at is bytes after at lies =
    of_told (λ (size : ℕ × Position). size.1.place + size.0 + 4 ≤ length bytes) (size_at (at_place bytes at)) lies (λ size e le.
    let more = is.again bytes after at size e in
    let here : at_place bytes size.1.place ≡ size.1 = ap (λ (xs : List ℕ). at_place xs size.1.place) (sym more.0) in
    framed_is size_at (bytes ++ after) at (size.0, at_place (bytes ++ after) size.1.place) more.1 ∙ summed_longer at bytes after size.1.place size.0 le ∙ ap (summed_at at size.0) here ∙ sym (framed_is size_at bytes at size e))
