-- What the word that is peeked at tells of the bits, and what is read behind bits that were read from it.
use Rattle.std.proofs.Common.{◌≡◌, ℕ, zero, suc, ◌+◌, ◌-◌, ◌*◌, ◌/◌, ◌%◌, ◌^◌, ◌<◌, ◌≤◌, Bool, true, false, cond, List, [], ◌∷◌, ◌++◌, length, drop, Result, Ok, Err, refl, sym, ap, ◌∙◌, arith, inl, inr, ℤ, pos, ◌+ℤ◌}
use Rattle.std.proofs.lemmas.Bool.{le-ltb}
use Rattle.std.proofs.lemmas.List.{drop_at}
use Rattle.std.proofs.lemmas.Nat.{pow-add, pow_pos, shr-shr, shl-shr, shr_high, mod-pow-add, mod_below, mod-mul-add}
use Rattle.base.specs.Reading.{◌>>=◌}
use Rattle.wire_bytes.specs.Fields.{field_value}
use Rattle.xor_chunks.specs.State.{State}
use Rattle.xor_chunks.specs.declared.refusal.XorRefusal.{XorRefusal}
use Rattle.xor_chunks.specs.declared.refusal.XorRefusal.TheVariants.{OutOfRange}
use Rattle.wire_bytes.specs.Bits.{bits_of, number_of}
use Rattle.wire_bytes.specs.Buffer.{front, Shows}
use Rattle.xor_chunks.specs.Window.{Window, told_by, is_inside}
use Rattle.xor_chunks.specs.Steps.{take_at, behind, field_behind, change_at, value_at, within_at, time_after, follow_at, next_at}
use Rattle.wire_bytes.proofs.BitLists.{length-bits_of}
use Rattle.wire_bytes.proofs.Buffers.{shl_cut, front-joined}
use Rattle.xor_chunks.proofs.Takes.{take_again, take_found, take_cases, field_found, field_short, front-nil, front-cons, front-lt}
use Rattle.xor_chunks.proofs.Values.{take_split, take_split_short, value_same, value_10, opened_found, opened_short}

-- ---- the bits behind others in the word

front-zero : (bits : List Bool) → front 0 bits ≡ 0
unfolding number_of
front-zero _ = refl

first_more : (bit : Bool) (j n a b : ℕ) → cond bit (2 ^ (j + n)) 0 + (a * 2 ^ n + b) ≡ (cond bit (2 ^ j) 0 + a) * 2 ^ n + b
first_more true j n a b = omega (arith, pow-add 2 j n)
first_more false j n a b = omega arith

pub front-drop : (j n : ℕ) (bits : List Bool) → front (j + n) bits ≡ front j bits * 2 ^ n + front n (drop j bits)
front-drop zero n bits =
    let same : 0 + n ≡ n = omega arith in
    ap (λ (k : ℕ). front k bits) same ∙ omega (arith, ap (λ (k : ℕ). k * 2 ^ n) (front-zero bits))
front-drop (suc j) n [] = omega (arith, front-nil (suc j + n), front-nil (suc j), front-nil n, ap (λ (k : ℕ). k * 2 ^ n) (front-nil (suc j)))
front-drop (suc j) n (bit ∷ bits) =
    let longer : suc j + n ≡ suc (j + n) = omega arith in
    let rest = front-drop j n _ in
    ap (λ (k : ℕ). front k (bit ∷ bits)) longer ∙ front-cons _ _ _ ∙ ap (λ (k : ℕ). cond bit (2 ^ (j + n)) 0 + k) rest
    ∙ first_more _ j n _ _ ∙ ap (λ k. k * 2 ^ n + front n (drop j bits)) (sym (front-cons j _ _))

pub head_is : (word known n : ℕ) (bits : List Bool) → known + n ≤ 64 → word / 2 ^ (64 - (known + n)) ≡ front (known + n) bits → word * 2 ^ known % 2 ^ 64 / 2 ^ (64 - n) ≡ front n (drop known bits)
head_is word known n bits few e =
    let k = 64 - (known + n) in
    let f = front n (drop known bits) in
    let whole : 64 ≡ (64 - known) + known = omega arith in
    let low : 64 - known ≡ n + k = omega arith in
    let high : 64 - n ≡ known + k = omega arith in
    let cut = ap (λ m. word * 2 ^ known % 2 ^ m) whole ∙ shl_cut _ _ _ ∙ ap (λ m. word % 2 ^ m * 2 ^ known) low in
    let back =
    ap (λ m. m / 2 ^ (64 - n)) cut ∙ ap (λ m. word % 2 ^ (n + k) * 2 ^ known / 2 ^ m) high ∙ sym (shr-shr _ _ k) ∙ ap (λ m. m / 2 ^ k) (shl-shr _ _) in
    let parts = ap (λ m. m / 2 ^ k) (mod-pow-add _ n k) ∙ shr_high _ k _ (mod_below _ _ (pow_pos k)) in
    back ∙ parts ∙ ap (λ m. m % 2 ^ n) (e ∙ front-drop _ n _) ∙ mod-mul-add _ _ f (front-lt n _)

-- ---- behind bits

passed_is : (known k n : ℕ) (bits after : List Bool) → take_at known bits ≡ Ok (n, after) → after ≡ drop known bits
passed_is known k n _ after e =
    let found = take_found _ _ n _ e in
    sym (drop_at (bits_of known n) after known (length-bits_of _ n)) ∙ ap (λ a. drop known a) (sym found.0)

pub behind_found : {Y : Type 0} (read : List Bool → Result Y XorRefusal) (known k n : ℕ) (bits after : List Bool) (r : Result Y XorRefusal) → take_at (known + k) bits ≡ Ok (n, after)
    → ((middle : List Bool) → middle ≡ drop known bits → take_at k middle ≡ Ok (n % 2 ^ k, after) → read middle ≡ r) → behind known read bits ≡ r
behind_found {Y = Y} read _ k n _ after r e h =
    let parts = take_split _ k n _ _ e in
    let middle = bits_of k n ++ after in
    ap (λ t. t >>= λ passed. read passed.1) parts.0 ∙ h middle (passed_is _ k _ _ _ parts.0) parts.1

pub behind_short : {Y : Type 0} (read : List Bool → Result Y XorRefusal) (known k : ℕ) (bits : List Bool) (e : XorRefusal) → take_at (known + k) bits ≡ Err e
    → ((middle : List Bool) → middle ≡ drop known bits → take_at k middle ≡ Err e → read middle ≡ Err e) → behind known read bits ≡ Err e
behind_short {Y = Y} read _ k _ e short h =
    elim (take_split_short _ k _ e short) [
      | inl lacks ↦ ap (λ t. t >>= λ passed. read passed.1) lacks
      | inr parts ↦ ap (λ t. t >>= λ passed. read passed.1) parts.2 ∙ h parts.1 (passed_is _ k _ _ _ parts.2) parts.3
    ]

take_none : (bits : List Bool) → take_at 0 bits ≡ Ok (0, bits)
unfolding take_at number_of
take_none bits = rw (le-ltb (length bits) 0 (omega arith)) refl

pub behind_none : {Y : Type 0} (read : List Bool → Result Y XorRefusal) (bits : List Bool) → behind 0 read bits ≡ read bits
behind_none {Y = Y} read _ =
    ap (λ t. t >>= λ passed. read passed.1) (take_none _)

-- ---- values

pub same_behind : (pattern n : ℕ) (window : Window) (known : ℕ) (bits after : List Bool) → front 1 (drop known bits) ≡ 0 → take_at (known + 1) bits ≡ Ok (n, after) → behind known (value_at pattern window) bits ≡ Ok ((pattern, window), after)
same_behind pattern n window _ _ _ e t =
    behind_found _ _ 1 n _ _ _ t (λ middle same one. value_same pattern window middle (ap (front 1) same ∙ e) ∙ rw one refl)

pub same_lacks : (pattern : ℕ) (window : Window) (known : ℕ) (bits : List Bool) (refusal : XorRefusal) → front 1 (drop known bits) ≡ 0 → take_at (known + 1) bits ≡ Err refusal → behind known (value_at pattern window) bits ≡ Err refusal
same_lacks pattern window _ _ _ e t =
    behind_short _ _ 1 _ _ t (λ middle same one. value_same pattern window middle (ap (front 1) same ∙ e) ∙ rw one refl)

pub within_behind : (pattern n : ℕ) (window : Window) (known : ℕ) (bits after : List Bool) → front 2 (drop known bits) ≡ 2 → take_at (known + 2) bits ≡ Ok (n, after) → behind known (value_at pattern window) bits ≡ within_at pattern window after
within_behind pattern n window _ _ _ e t =
    behind_found _ _ 2 n _ _ _ t (λ middle same two. value_10 pattern window middle (ap (front 2) same ∙ e) ∙ rw two refl)

pub within_lacks : (pattern : ℕ) (window : Window) (known : ℕ) (bits : List Bool) (refusal : XorRefusal) → front 2 (drop known bits) ≡ 2 → take_at (known + 2) bits ≡ Err refusal → behind known (value_at pattern window) bits ≡ Err refusal
within_lacks pattern window _ _ _ e t =
    behind_short _ _ 2 _ _ t (λ middle same two. value_10 pattern window middle (ap (front 2) same ∙ e) ∙ rw two refl)

told_low : (n : ℕ) → told_by (n % 2 ^ 13) ≡ told_by n
told_low n =
    let lead : n % 2 ^ 13 / 64 % 32 ≡ n / 64 % 32 = omega arith in
    let width : n % 2 ^ 13 % 64 ≡ n % 64 = omega arith in
    rw (lead, width) refl

pub opened_behind : (pattern n : ℕ) (window : Window) (known : ℕ) (bits after : List Bool) → front 2 (drop known bits) ≡ 3 → take_at (known + 13) bits ≡ Ok (n, after) → behind known (value_at pattern window) bits ≡ within_at pattern (told_by n) after
opened_behind pattern n window _ _ after e t =
    behind_found _ _ _ n _ _ _ t
    (λ middle same head. opened_found pattern (n % 2 ^ 13) window middle after (ap (front 2) same ∙ e) head ∙ ap (λ w. within_at pattern w after) (told_low n))

pub opened_lacks : (pattern : ℕ) (window : Window) (known : ℕ) (bits : List Bool) (refusal : XorRefusal) → front 2 (drop known bits) ≡ 3 → take_at (known + 13) bits ≡ Err refusal → behind known (value_at pattern window) bits ≡ Err refusal
opened_lacks pattern window _ _ refusal e t =
    behind_short _ _ _ _ _ t (λ middle same head. opened_short pattern window middle refusal (ap (front 2) same ∙ e) head)

-- where no other word fits, the bits tell a window
pub eleven : (head : ℕ) (bits : List Bool) → head < 2 ^ 64 → head / 2 ^ 62 ≡ front 2 bits → (head / 2 ^ 63 ≡ 0 → ⊥) → (head / 2 ^ 62 ≡ 2 → ⊥) → front 2 bits ≡ 3
eleven head _ lt two a b =
    let three : head / 2 ^ 62 ≡ 3 = omega arith in
    sym two ∙ three

-- ---- samples

follow_over : (r : Result (ℕ × List Bool) XorRefusal) (last : State) (change : ℤ) (e : XorRefusal) → (r >>= λ p. value_at last.pattern last.window p.1) ≡ Err e → (r >>= λ p. follow_at last change p.1) ≡ Err e
unfolding follow_at
follow_over (Ok x) _ _ e h = rw h refl
follow_over (Err d) _ _ e h = cc

pub follow_lacks : (known : ℕ) (last : State) (change : ℤ) (bits : List Bool) (e : XorRefusal) → behind known (value_at last.pattern last.window) bits ≡ Err e → behind known (follow_at last change) bits ≡ Err e
follow_lacks _ _ _ _ e h = follow_over _ _ _ e h

outside_over : (r : Result (ℕ × List Bool) XorRefusal) (last : State) (change : ℤ) (pattern : ℕ) (window : Window) (after : List Bool) → (r >>= λ p. value_at last.pattern last.window p.1) ≡ Ok ((pattern, window), after) → is_inside window ≡ false
    → (r >>= λ p. follow_at last change p.1) ≡ Err OutOfRange
unfolding follow_at
outside_over (Ok x) _ _ _ _ _ h outside = rw (h, outside) refl
outside_over (Err d) _ _ _ _ _ h outside = absurd cc

pub follow_outside : (known : ℕ) (last : State) (change : ℤ) (bits : List Bool) (pattern : ℕ) (window : Window) (after : List Bool) → behind known (value_at last.pattern last.window) bits ≡ Ok ((pattern, window), after) → is_inside window ≡ false
    → behind known (follow_at last change) bits ≡ Err OutOfRange
follow_outside _ _ _ _ _ _ _ h outside = outside_over _ _ _ _ _ _ h outside

time_over : (r : Result (ℕ × List Bool) XorRefusal) (last : State) (change : ℤ) (pattern : ℕ) (window : Window) (after : List Bool) → (r >>= λ p. value_at last.pattern last.window p.1) ≡ Ok ((pattern, window), after) → is_inside window ≡ true
    → (r >>= λ p. follow_at last change p.1) ≡ (time_after last.time (pos last.delta +ℤ change) >>= λ t. Ok (record { time = t.0; delta = t.1; pattern = pattern; window = window }, after))
unfolding follow_at
time_over (Ok x) _ _ _ _ _ h inside = rw (h, inside) refl
time_over (Err d) _ _ _ _ _ h inside = absurd cc

pub follow_time : (known : ℕ) (last : State) (change : ℤ) (bits : List Bool) (pattern : ℕ) (window : Window) (after : List Bool) → behind known (value_at last.pattern last.window) bits ≡ Ok ((pattern, window), after) → is_inside window ≡ true
    → behind known (follow_at last change) bits ≡ (time_after last.time (pos last.delta +ℤ change) >>= λ t. Ok (record { time = t.0; delta = t.1; pattern = pattern; window = window }, after))
follow_time _ _ _ _ _ _ _ h inside = time_over _ _ _ _ _ _ h inside

next_over : (r : Result (ℕ × List Bool) XorRefusal) (last : State) (change : ℤ) → ◌>>=◌ {A = ℤ × List Bool} (r >>= λ p. Ok (change, p.1)) (λ c. follow_at last c.0 c.1) ≡ (r >>= λ p. follow_at last change p.1)
next_over (Ok x) _ _ = refl
next_over (Err d) _ _ = refl

-- a change that was read from the word, and the sample behind it
pub next_behind : (known : ℕ) (last : State) (change : ℤ) (bits : List Bool) → change_at bits ≡ behind known (λ after. Ok (change, after)) bits → next_at last bits ≡ behind known (follow_at last change) bits
unfolding next_at
next_behind _ last _ _ e = ap (λ t. t >>= λ c. follow_at last c.0 c.1) e ∙ next_over _ _ _

-- the same of a reader that was peeked at, and of a change as the code hands it on
pub next_known : (known : ℕ) (last : State) (change given : ℤ) (bits peeked : List Bool) → change_at bits ≡ behind known (λ after. Ok (change, after)) bits → given ≡ change → peeked ≡ bits → next_at last bits ≡ behind known (follow_at last given) peeked
next_known known last _ given bits _ told same still =
    next_behind _ _ _ _ told ∙ ap (λ z. behind known (follow_at last z) bits) (sym same) ∙ ap (λ b. behind known (follow_at last given) b) (sym still)

-- ---- changes

field_in_word : (known width : ℕ) (bits : List Bool) → field_behind known width bits ≡ behind (known + width) (λ after. Ok (field_value width (front (known + width) bits % 2 ^ width), after)) bits
field_in_word known width bits =
    elim (take_cases _ _) [
      | inl lacks ↦ field_short _ _ _ _ lacks ∙ sym (ap (λ t. t >>= λ p. Ok (field_value width (front (known + width) bits % 2 ^ width), p.1)) lacks)
      | inr parts ↦
          let taken = ap (take_at (known + width)) parts.3 ∙ take_again _ _ _ parts.2 in
          let number = ap (front (known + width)) parts.3 ∙ front-joined _ _ _ parts.2 in
          field_found _ _ _ _ _ taken ∙ sym (ap (λ t. t >>= λ p. Ok (field_value width (front (known + width) bits % 2 ^ width), p.1)) taken ∙ ap (λ n. Ok (field_value width (n % 2 ^ width), parts.1)) number)
    ]

pub row_told : (known width word length : ℕ) (change : ℤ) (bits : List Bool) → change_at bits ≡ field_behind known width bits → Shows word 24 bits → known + width ≤ 24 → change ≡ field_value width (word / 2 ^ (64 - (known + width)) % 2 ^ width) → length ≡ known + width
    → change_at bits ≡ behind length (λ after. Ok (change, after)) bits
row_told known width _ _ change bits e shows few change-is length-is =
    let value = ap (λ n. field_value width (n % 2 ^ width)) (sym (shows.first (known + width) few)) ∙ sym change-is in
    e ∙ field_in_word _ _ _ ∙ ap (λ z. behind (known + width) (λ after. Ok (z, after)) bits) value ∙ ap (λ k. behind k (λ after. Ok (change, after)) bits) (sym length-is)

pub shows_less : (word more few : ℕ) (bits : List Bool) → few ≤ more → Shows word more bits → Shows word few bits
shows_less _ _ _ _ le shows = record { first = λ n h. shows.first n (omega arith) }
