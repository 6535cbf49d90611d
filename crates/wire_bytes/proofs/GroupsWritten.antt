-- A loop that writes the groups of a number.
use Rattle.std.proofs.Common.{◌≡◌, ℕ, suc, ◌+◌, ◌-◌, ◌*◌, ◌/◌, ◌%◌, ◌^◌, ◌<◌, ◌≤◌, List, [], ◌∷◌, ◌++◌, length, take, set, ◌∙◌, arith, append_assoc}
use Rattle.std.proofs.lemmas.List.{take_more_set}
use Rattle.std.proofs.lemmas.Bool.{le-ltb, lt-ltb}
use Rattle.std.proofs.Math.Nat.{mul-le-mul_right}
use Rattle.wire_bytes.specs.Written.{groups_text}
use Rattle.wire_bytes.proofs.Groups.{next_weight}

-- the last group that is written
pub written_last : (i high : ℕ) (groups whole : List ℕ) → i < 9 → length groups ≡ 10 → high < 128 → take i groups ++ groups_text (9 - i) high ≡ whole → take (i + 1) (set groups i high) ≡ whole
unfolding groups_text
written_last i high groups whole few room small so_far =
    let k : 9 - i ≡ suc (9 - (i + 1)) = omega arith in
    let test = lt-ltb _ _ small in
    let all : take i groups ++ high ∷ [] ≡ whole = rw (k, test) at so_far in
    take_more_set _ i _ (omega arith) ∙ all

-- a group with others behind it
pub written_more : (i high : ℕ) (groups whole : List ℕ) → i < 9 → length groups ≡ 10 → 128 ≤ high → take i groups ++ groups_text (9 - i) high ≡ whole → take (i + 1) (set groups i (128 + high % 128)) ++ groups_text (9 - (i + 1)) (high / 128) ≡ whole
unfolding groups_text
written_more i high groups whole few room large so_far =
    let k : 9 - i ≡ suc (9 - (i + 1)) = omega arith in
    let test = le-ltb _ _ large in
    let all : take i groups ++ ((128 + high % 128) ∷ groups_text (9 - (i + 1)) (high / 128)) ≡ whole = rw (k, test) at so_far in
    let one = take_more_set groups i (128 + high % 128) (omega arith) in
    rw one (append_assoc (take i groups) ((128 + high % 128) ∷ []) (groups_text (9 - (i + 1)) (high / 128)) ∙ all)

-- the tenth group
pub written_tenth : (i high : ℕ) (groups whole : List ℕ) → 9 ≤ i → i ≤ 9 → length groups ≡ 10 → take i groups ++ groups_text (9 - i) high ≡ whole → take 10 (set groups 9 high) ≡ whole
unfolding groups_text
written_tenth i high groups whole low top room so_far =
    let nine : i ≡ 9 = omega arith in
    let all : take 9 groups ++ high ∷ [] ≡ whole = rw nine at so_far in
    take_more_set _ 9 _ (omega arith) ∙ all

weighed : (high weight limit : ℕ) → high * weight < limit → high / 128 * (128 * weight) < limit
weighed high weight _ below =
    let part = mul-le-mul_right weight (let p : high / 128 * 128 ≤ high = omega arith in p) in
    omega arith

-- what is left of a number keeps below 2 ^ 64 at its place
pub still_small : (high i : ℕ) → high * 2 ^ (7 * i) < 18446744073709551616 → high / 128 * 2 ^ (7 * (i + 1)) < 18446744073709551616
still_small _ i below = rw next_weight (weighed _ _ _ below)
