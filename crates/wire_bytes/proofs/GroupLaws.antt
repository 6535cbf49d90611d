-- Reading groups against their grammar: what is read is a text of the number, each text is read, and each refusal has its
-- cause.
use Rattle.std.proofs.Common.{◌≡◌, ℕ, zero, suc, ◌+◌, ◌-◌, ◌*◌, ◌<◌, ◌≤◌, List, [], ◌∷◌, ◌++◌, length, get_or, take, Ok, Err, refl, sym, ap, ◌∙◌, arith, inl, inr}
use Rattle.std.specs.List.{AllByRecursion}
use Rattle.std.proofs.lemmas.Bool.{cases_lt, le-ltb, lt-ltb}
use Rattle.base.specs.Reading.{◌>>=◌}
use Rattle.base.specs.Grammar.{IsBytes}
use Rattle.base.proofs.Binds.{bind_ok, bind_err, ok_is}
use Rattle.wire_bytes.specs.declared.varint.WireRefusal.{WireRefusal}
use Rattle.wire_bytes.specs.declared.varint.WireRefusal.TheVariants.{Short, Overlong}
use Rattle.wire_bytes.specs.Fields.{groups_of}
use Rattle.wire_bytes.specs.FieldTexts.{IsGroups}

-- a bound on what so many groups more than one make, the last of which is one bit
abbrev pub limit : ℕ → ℕ
limit zero = 2
limit (suc more) = 128 * limit more

-- ---- one step of reading

last_bit : (more group : ℕ) (groups : List ℕ) → group < 128 → groups_of (suc more) (group ∷ groups) ≡ Ok (group, 1)
unfolding groups_of
last_bit _ _ _ small = rw (lt-ltb _ _ small) refl

not_last : (more group : ℕ) (groups : List ℕ) → 128 ≤ group → groups_of (suc more) (group ∷ groups) ≡ (groups_of more groups >>= λ high. Ok (group - 128 + 128 * high.0, high.1 + 1))
unfolding groups_of
not_last _ _ _ large = rw (le-ltb _ _ large) refl

tenth_bit : (group : ℕ) (groups : List ℕ) → group < 2 → groups_of 0 (group ∷ groups) ≡ Ok (group, 1)
unfolding groups_of
tenth_bit _ _ small = rw (lt-ltb _ _ small) refl

tenth_passes : (group : ℕ) (groups : List ℕ) → 2 ≤ group → groups_of 0 (group ∷ groups) ≡ Err Overlong
unfolding groups_of
tenth_passes _ _ large = rw (le-ltb _ _ large) refl

pub groups-nil : (more : ℕ) → groups_of more [] ≡ Err Short
unfolding groups_of
groups-nil _ = refl

-- ---- what is read is a text

pub record Reads (more : ℕ) (bytes : List ℕ) (n count : ℕ) : Type 0 where
  pub groups : IsGroups (take count bytes) n
  pub within : count ≤ length bytes
  pub few : count ≤ suc more
  pub small : n < limit more

pub more_groups : (group n high : ℕ) (text : List ℕ) → 128 ≤ group → group < 256 → n + 128 ≡ group + 128 * high → IsGroups text high → IsGroups (group ∷ text) n
more_groups _ n _ [] large byte value are = absurd are
more_groups _ n high (next ∷ others) large byte value are = (large, byte, high, value, are)

reads_last : (more group : ℕ) (groups : List ℕ) (n count : ℕ) → group < 128 → group < limit more → ◌≡◌ {A = ℕ × ℕ} (group, 1) (n, count) → Reads more (group ∷ groups) n count
reads_last _ _ groups n _ small fits e =
    let value = ap (λ p. p.0) e in
    let one = ap (λ p. p.1) e in
    rw (← one, ← value) (record { groups = (small, refl); within = omega arith; few = omega arith; small = fits })

reads_more : (more group : ℕ) (groups : List ℕ) (n count high taken : ℕ) → 128 ≤ group → group < 256 → Reads more groups high taken → ◌≡◌ {A = ℕ × ℕ} (group - 128 + 128 * high, taken + 1) (n, count) → Reads (suc more) (group ∷ groups) n count
reads_more _ group groups n count high taken large byte so_far e =
    let value : group - 128 + 128 * high ≡ n = ap (λ (p : ℕ × ℕ). p.0) e in
    let length_is : suc taken ≡ count = omega (arith, ap (λ p. p.1) e) in
    rw (← length_is) (record {
      groups = more_groups _ n _ _ large byte (omega arith) so_far.groups;
      within = omega arith;
      few = omega arith;
      small = omega arith;
    })

rest_bytes : (b : ℕ) (bytes : List ℕ) → IsBytes (b ∷ bytes) → IsBytes bytes
rest_bytes b _ are i = are (suc i)

two_or_more : (more : ℕ) → 128 ≤ limit (suc more)
two_or_more zero = omega arith
two_or_more (suc more) = omega (arith, two_or_more more)

pub groups_found : (more : ℕ) (bytes : List ℕ) (n count : ℕ) → IsBytes bytes → groups_of more bytes ≡ Ok (n, count) → Reads more bytes n count
groups_found more [] n count are e = let no = groups-nil more in absurd cc
groups_found zero (group ∷ groups) n count are e =
    elim (cases_lt group 2) [
      | inl small ↦ reads_last 0 group groups n count (omega arith) small (ok_is {E = WireRefusal} _ _ (sym (tenth_bit group groups small) ∙ e))
      | inr large ↦ let no = tenth_passes group groups large in absurd cc
    ]
groups_found (suc more) (group ∷ groups) n count are e =
    elim (cases_lt group 128) [
      | inl small ↦ reads_last (suc more) group groups n _ small (omega (arith, two_or_more more)) (ok_is {E = WireRefusal} _ _ (sym (last_bit _ _ _ small) ∙ e))
      | inr large ↦
          let p = bind_ok _ _ _ (sym (not_last _ _ _ large) ∙ e) in
          reads_more _ _ _ n _ _ p.0.1 large (are 0) (groups_found more groups _ _ (rest_bytes _ _ are) p.1) (ok_is {E = WireRefusal} _ _ p.2)
    ]

-- ---- each text is read, whatever follows

pub groups_again : (more : ℕ) (text : List ℕ) (n : ℕ) (after : List ℕ) → IsGroups text n → length text ≤ suc more → n < limit more → groups_of more (text ++ after) ≡ Ok (n, length text)
groups_again _ [] n _ are few small = absurd are
groups_again zero (group ∷ []) n _ are few small = rw are.1 (tenth_bit _ _ (omega arith))
groups_again (suc more) (group ∷ []) n _ are few small = rw are.1 (last_bit _ _ _ are.0)
groups_again zero (group ∷ next ∷ others) n after are few small = absurd (omega arith)
groups_again (suc more) (group ∷ next ∷ others) n after are few small =
    let high = are.2 in
    let again = groups_again more (next ∷ others) high after are.4 (omega arith) (omega (arith, are.3)) in
    let value : group - 128 + 128 * high ≡ n = omega arith in
    let count : suc (length others) + 1 ≡ suc (suc (length others)) = omega arith in
    not_last _ _ _ are.0 ∙ rw (again, value, count) refl

-- ---- refusals

-- a refusal comes from the groups that follow
step_err : (more group : ℕ) (groups : List ℕ) (d : WireRefusal) → 128 ≤ group → groups_of (suc more) (group ∷ groups) ≡ Err d → groups_of more groups ≡ Err d
step_err _ _ _ d large e =
    elim (bind_err _ _ d (sym (not_last _ _ _ large) ∙ e)) [
      | inl refused ↦ refused
      | inr p ↦ let no = p.2 in absurd cc
    ]

step_refused : (more group : ℕ) (groups : List ℕ) (d : WireRefusal) → 128 ≤ group → groups_of more groups ≡ Err d → groups_of (suc more) (group ∷ groups) ≡ Err d
step_refused _ _ _ d large e = not_last _ _ _ large ∙ rw e refl

pub groups_short : (more : ℕ) (bytes : List ℕ) → groups_of more bytes ≡ Err Short → AllByRecursion (λ byte. 128 ≤ byte) bytes × (length bytes ≤ more)
groups_short _ [] e = (tt, omega arith)
groups_short zero (group ∷ groups) e =
    elim (cases_lt group 2) [
      | inl small ↦ let no = tenth_bit group groups small in absurd cc
      | inr large ↦ let no = tenth_passes group groups large in absurd cc
    ]
groups_short (suc more) (group ∷ groups) e =
    elim (cases_lt group 128) [
      | inl small ↦ let no = last_bit more group groups small in absurd cc
      | inr large ↦
          let p = groups_short _ _ (step_err _ _ _ _ large e) in
          ((large, p.0), omega arith)
    ]

pub groups_short_again : (more : ℕ) (bytes : List ℕ) → AllByRecursion (λ byte. 128 ≤ byte) bytes → length bytes ≤ more → groups_of more bytes ≡ Err Short
groups_short_again _ [] follow few = groups-nil _
groups_short_again zero (group ∷ groups) follow few = absurd (omega arith)
groups_short_again (suc more) (group ∷ groups) follow few = step_refused _ _ _ _ follow.0 (groups_short_again _ _ follow.1 (omega arith))

pub record Passes (more : ℕ) (bytes : List ℕ) : Type 0 where
  pub follows : AllByRecursion (λ byte. 128 ≤ byte) (take more bytes)
  pub many : more < length bytes
  pub large : 1 < get_or bytes more 0

pub groups_over : (more : ℕ) (bytes : List ℕ) → groups_of more bytes ≡ Err Overlong → Passes more bytes
groups_over more [] e = let no = groups-nil more in absurd cc
groups_over zero (group ∷ groups) e =
    elim (cases_lt group 2) [
      | inl small ↦ let no = tenth_bit group groups small in absurd cc
      | inr large ↦ record { follows = tt; many = omega arith; large = omega arith }
    ]
groups_over (suc more) (group ∷ groups) e =
    elim (cases_lt group 128) [
      | inl small ↦ let no = last_bit more group groups small in absurd cc
      | inr large ↦
          let p = groups_over _ _ (step_err _ _ _ _ large e) in
          record { follows = (large, p.follows); many = omega (arith, p.many); large = p.large }
    ]

pub groups_over_again : (more : ℕ) (bytes : List ℕ) → Passes more bytes → groups_of more bytes ≡ Err Overlong
groups_over_again _ [] p = absurd (omega arith)
groups_over_again zero (group ∷ groups) p = tenth_passes _ _ (omega arith)
groups_over_again (suc more) (group ∷ groups) p = step_refused _ _ _ _ p.follows.0 (groups_over_again _ _ (record { follows = p.follows.1; many = omega arith; large = p.large }))
