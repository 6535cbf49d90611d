-- A loop over the groups of a number: what is read of the low groups, put before what the rest gives.
use Rattle.std.proofs.Common.{◌≡◌, ℕ, suc, ◌+◌, ◌-◌, ◌*◌, ◌%◌, ◌^◌, ◌<◌, ◌≤◌, List, [], ◌∷◌, length, get_or, drop, Result, Ok, Err, refl, ap, ◌∙◌, arith, add-one, drop-cons, length-drop}
use Rattle.std.proofs.Math.Nat.{mul-le-mul_left}
use Rattle.std.proofs.Math.Pow.{pow_mono}
use Rattle.std.proofs.lemmas.Nat.{pow-add, shl_whole}
use Rattle.std.proofs.lemmas.Bool.{le-ltb, lt-ltb}
use Rattle.std.proofs.lemmas.List.{nil_from_length}
use Rattle.base.specs.Reading.{◌>>=◌}
use Rattle.wire_bytes.specs.declared.varint.WireRefusal.{WireRefusal}
use Rattle.wire_bytes.specs.declared.varint.WireRefusal.TheVariants.{Short}
use Rattle.wire_bytes.specs.Fields.{groups_of}
use Rattle.wire_bytes.proofs.GroupLaws.{groups-nil}

-- i low groups that make n, before what the others give
abbrev pub with_low : ℕ → ℕ → Result (ℕ × ℕ) WireRefusal → Result (ℕ × ℕ) WireRefusal
with_low n i high = high >>= λ h. Ok (n + 2 ^ (7 * i) * h.0, i + h.1)

pub next_weight : (i : ℕ) → 2 ^ (7 * (i + 1)) ≡ 128 * 2 ^ (7 * i)
next_weight i =
    let e : 7 * (i + 1) ≡ 7 + 7 * i = omega arith in
    ap (λ k. 2 ^ k) e ∙ pow-add 2 7 _

scaled_below : (n group weight : ℕ) → n < weight → group < 128 → n + group * weight < 128 * weight
scaled_below n group weight small low =
    let most : group * weight ≤ 127 * weight = omega (arith, mul-le-mul_left weight (let p : group ≤ 127 = omega arith in p)) in
    omega arith

-- a group more stays below the next weight
pub joined_below : (n group i : ℕ) → n < 2 ^ (7 * i) → group < 128 → n + group * 2 ^ (7 * i) < 2 ^ (7 * (i + 1))
joined_below n _ i small low = rw next_weight (scaled_below n _ _ small low)

-- and a shift puts it in its place
pub shifted_group : (group i : ℕ) → group < 128 → i < 9 → group * 2 ^ (7 * i) % 18446744073709551616 ≡ group * 2 ^ (7 * i)
shifted_group _ i low few = shl_whole _ 7 _ 64 low (omega arith)

pub weight_fits : (i : ℕ) → i < 9 → 2 ^ (7 * (i + 1)) ≤ 2 ^ 63
weight_fits i few = let p : 7 * (i + 1) ≤ 63 = omega arith in pow_mono p

split : (i : ℕ) (bytes : List ℕ) → i < length bytes → drop i bytes ≡ get_or bytes i 0 ∷ drop (i + 1) bytes
split i bytes lt = rw (add-one, drop-cons bytes i 0) refl

ended : (i : ℕ) (bytes : List ℕ) → length bytes ≤ i → drop i bytes ≡ []
ended i bytes le = nil_from_length _ (omega (arith, length-drop i bytes))

pub low_short : (n i : ℕ) (bytes : List ℕ) → length bytes ≤ i → with_low n i (groups_of (9 - i) (drop i bytes)) ≡ Err Short
low_short n i _ le = rw (ended, groups-nil) refl

scaled : (n group weight k : ℕ) → ◌≡◌ {A = Result (ℕ × ℕ) WireRefusal} (Ok (n + weight * group, k)) (Ok (n + group * weight, k))
scaled n group weight k = let e : n + weight * group ≡ n + group * weight = omega arith in ap (λ m. Ok (m, k)) e

pub low_last : (n i group : ℕ) (bytes : List ℕ) → i < 9 → i < length bytes → group ≡ get_or bytes i 0 → group < 128 → with_low n i (groups_of (9 - i) (drop i bytes)) ≡ Ok (n + group * 2 ^ (7 * i), i + 1)
unfolding groups_of
low_last n i _ _ few lt is small =
    let k : 9 - i ≡ suc (9 - (i + 1)) = omega arith in
    let test = lt-ltb _ _ small in
    rw (split, k, ← is, test) (scaled n _ _ _)

abbrev raised : ℕ → Result (ℕ × ℕ) WireRefusal → Result (ℕ × ℕ) WireRefusal
raised low high = high >>= λ h. Ok (low + 128 * h.0, h.1 + 1)

abbrev put_before : ℕ → ℕ → ℕ → Result (ℕ × ℕ) WireRefusal → Result (ℕ × ℕ) WireRefusal
put_before n i weight high = high >>= λ h. Ok (n + weight * h.0, i + h.1)

moved : (n low i weight next : ℕ) → next ≡ 128 * weight → (high : Result (ℕ × ℕ) WireRefusal) → put_before n i weight (raised low high) ≡ put_before (n + low * weight) (i + 1) next high
moved n _ i _ _ e (Err f) = refl
moved n low i weight next e (Ok h) =
    let value : n + weight * (low + 128 * h.0) ≡ n + low * weight + next * h.0 = rw e (omega arith) in
    let count : i + (h.1 + 1) ≡ i + 1 + h.1 = omega arith in
    ap (λ v. Ok (v, i + (h.1 + 1))) value ∙ ap (λ k. Ok (n + low * weight + next * h.0, k)) count

pub low_more : (n i group : ℕ) (bytes : List ℕ) → i < 9 → i < length bytes → group ≡ get_or bytes i 0 → 128 ≤ group → with_low n i (groups_of (9 - i) (drop i bytes)) ≡ with_low (n + (group - 128) * 2 ^ (7 * i)) (i + 1) (groups_of (9 - (i + 1)) (drop (i + 1) bytes))
unfolding groups_of
low_more n i _ _ few lt is high =
    let k : 9 - i ≡ suc (9 - (i + 1)) = omega arith in
    let test = le-ltb _ _ high in
    rw (split, k, ← is, test) (moved n _ i _ _ (next_weight i) _)
