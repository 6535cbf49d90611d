-- A number of few groups is told from its bytes.
use Rattle.std.proofs.Common.{◌≡◌, ℕ, ◌+◌, ◌-◌, ◌*◌, ◌<◌, ◌≤◌, List, [], ◌∷◌, length, get_or, Ok, refl, arith}
use Rattle.std.proofs.lemmas.Bool.{lt-ltb, le-ltb}
use Rattle.wire_bytes.specs.Fields.{groups_of}

pub one_group : (bytes : List ℕ) (first : ℕ) → 0 < length bytes → first ≡ get_or bytes 0 0 → first < 128 → groups_of 9 bytes ≡ Ok (first, 1)
unfolding groups_of
one_group [] _ some at low = absurd (omega arith)
one_group (a ∷ bytes) _ some at low = rw (at, lt-ltb a 128 (rw at at low)) refl

pub two_groups : (bytes : List ℕ) (first second : ℕ) → 2 ≤ length bytes → first ≡ get_or bytes 0 0 → second ≡ get_or bytes 1 0 → 128 ≤ first → second < 128 → groups_of 9 bytes ≡ Ok (first - 128 + 128 * second, 2)
unfolding groups_of
two_groups [] _ _ some a b high low = absurd (omega arith)
two_groups (x ∷ []) _ _ some a b high low = absurd (omega arith)
two_groups (x ∷ y ∷ bytes) _ _ some a b high low = rw (a, b, le-ltb x 128 (rw a at high), lt-ltb y 128 (rw b at low)) refl

pub three_groups : (bytes : List ℕ) (first second third : ℕ) → 3 ≤ length bytes → first ≡ get_or bytes 0 0 → second ≡ get_or bytes 1 0 → third ≡ get_or bytes 2 0 → 128 ≤ first → 128 ≤ second → third < 128 → groups_of 9 bytes ≡ Ok (first - 128 + 128 * (second - 128 + 128 * third), 3)
unfolding groups_of
three_groups [] _ _ _ some a b c high next low = absurd (omega arith)
three_groups (x ∷ []) _ _ _ some a b c high next low = absurd (omega arith)
three_groups (x ∷ y ∷ []) _ _ _ some a b c high next low = absurd (omega arith)
three_groups (x ∷ y ∷ z ∷ bytes) _ _ _ some a b c high next low = rw (a, b, c, le-ltb x 128 (rw a at high), le-ltb y 128 (rw b at next), lt-ltb z 128 (rw c at low)) refl
