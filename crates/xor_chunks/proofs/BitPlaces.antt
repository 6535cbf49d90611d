-- Bits from a place on, and what a word that stands there tells of the sample that begins there.
use Rattle.std.proofs.Common.{◌≡◌, ℕ, zero, suc, ◌+◌, ◌-◌, ◌*◌, ◌/◌, ◌%◌, ◌^◌, ◌<◌, ◌≤◌, Bool, true, List, [], ◌∷◌, ◌++◌, length, take, drop, Ok, ℤ, pos, ◌+ℤ◌, refl, sym, ap, ◌∙◌, append_assoc, arith}
use Rattle.std.proofs.Math.Seq.{drop-nil}
use Rattle.std.proofs.lemmas.Bool.{le-ltb, le-leb}
use Rattle.std.proofs.lemmas.List.{drop_at, drop-drop, take_rest, take-append-drop, take-append-le, length-append, length-drop}
use Rattle.std.proofs.lemmas.List.Concat.{flat_map-append}
use Rattle.base.specs.Reading.{◌>>=◌}
use Rattle.xor_chunks.specs.State.{State, with_pattern}
use Rattle.wire_bytes.specs.Bits.{bits_of, bits_in, number_of, EndWith}
use Rattle.wire_bytes.specs.Buffer.{front, Shows}
use Rattle.xor_chunks.specs.Window.{Window, told_by, IsInside, is_inside, changed_pattern}
use Rattle.xor_chunks.specs.Steps.{take_at, behind, change_at, within_at, value_at, time_after, next_at}
use Rattle.xor_chunks.specs.Spans.{end_at}
use Rattle.wire_bytes.proofs.BitLists.{length-bits_of, bits_of-append, length-bits_in}
use Rattle.wire_bytes.proofs.Buffers.{field_below, front-joined}
use Rattle.xor_chunks.proofs.Takes.{no_change}
use Rattle.xor_chunks.proofs.Peeks.{head_is, front-drop, same_behind, within_behind, opened_behind, follow_time, next_behind}
use Rattle.xor_chunks.proofs.Followed.{passed_on}

-- ---- places

drop_bytes : (k : ℕ) (bytes : List ℕ) → drop (8 * k) (bits_in bytes) ≡ bits_in (drop k bytes)
drop_bytes zero _ = refl
drop_bytes (suc k) [] = drop-nil _
drop_bytes (suc k) (b ∷ bytes) =
    let longer : 8 * suc k ≡ 8 + 8 * k = omega arith in
    ap (λ n. drop n (bits_of 8 b ++ bits_in bytes)) longer ∙ sym (drop-drop (8 * k) 8 (bits_of 8 b ++ bits_in bytes)) ∙ ap (drop (8 * k)) (drop_at (bits_of 8 b) (bits_in bytes) 8 (length-bits_of 8 b)) ∙ drop_bytes k _

-- the bits from a place on are those of the bytes from its byte on, without the first of them
pub place_bits : (place : ℕ) (bytes : List ℕ) → drop (place % 8) (bits_in (drop (place / 8) bytes)) ≡ drop place (bits_in bytes)
place_bits place bytes =
    let whole : 8 * (place / 8) + place % 8 ≡ place = omega arith in
    ap (drop (place % 8)) (sym (drop_bytes (place / 8) _)) ∙ drop-drop (place % 8) (8 * (place / 8)) (bits_in bytes) ∙ ap (λ n. drop n (bits_in bytes)) whole

-- a number of 64 bits that are the first ones
word_front : (word n : ℕ) (bytes : List ℕ) → bits_of 64 word ≡ bits_in (take 8 bytes) → word < 2 ^ 64 → n ≤ 64 → word / 2 ^ (64 - n) ≡ front n (bits_in bytes)
word_front word n bytes same lt few =
    let v = word / 2 ^ (64 - n) in
    let rest = bits_of (64 - n) word ++ bits_in (drop 8 bytes) in
    let whole : n + (64 - n) ≡ 64 = omega arith in
    let parts =
    ap bits_in (sym (take-append-drop 8 _)) ∙ flat_map-append (bits_of 8) (take 8 bytes) (drop 8 bytes) ∙ ap (λ l. l ++ bits_in (drop 8 bytes)) (sym same ∙ ap (λ k. bits_of k word) (sym whole) ∙ bits_of-append n _ _)
    ∙ append_assoc (bits_of n v) (bits_of (64 - n) word) (bits_in (drop 8 bytes)) in
    sym (ap (front n) parts ∙ front-joined n v _ (field_below _ n few lt))

pub word_shows : (place first word : ℕ) (bytes : List ℕ) → bits_of 64 first ≡ bits_in (take 8 (drop (place / 8) bytes)) → first < 2 ^ 64 → word ≡ first * 2 ^ (place % 8) % 2 ^ 64 → Shows word 57 (drop place (bits_in bytes))
word_shows place first word bytes same lt is = record {
  first = λ n le.
      ap (λ (w : ℕ). w / 2 ^ (64 - n)) is ∙ head_is first _ n _ (omega (arith, le)) (word_front _ _ _ same lt (omega arith))
      ∙ ap (front n) (place_bits _ _);
}

-- where a reader stands
pub stands_at : (place size left : ℕ) (bits end : List Bool) → EndWith bits end → length bits ≡ size → length end ≡ left → place ≡ size - left → drop place bits ≡ end
stands_at place _ _ _ end (begin, is) size_is left_is place_is =
    let first : length begin ≡ place = omega (arith, ap length is, length-append begin end, size_is, left_is, place_is) in
    ap (drop place) is ∙ drop_at begin end place first

-- a reader of the bits from a place on
pub reader_passed : (place number : ℕ) (reader after : List Bool) (bytes : List ℕ) → reader ≡ bits_in (take (length bytes - place / 8) (drop (place / 8) bytes)) → reader ≡ bits_of (place % 8) number ++ after → after ≡ drop place (bits_in bytes)
reader_passed place number _ after bytes is parts =
    sym (drop_at (bits_of (place % 8) number) after (place % 8) (length-bits_of _ _)) ∙ ap (drop (place % 8)) (sym parts ∙ is ∙ ap bits_in (take_rest bytes (place / 8))) ∙ place_bits _ _

pub reader_long : (place : ℕ) (reader : List Bool) (bytes : List ℕ) → place ≤ 8 * length bytes → reader ≡ bits_in (take (length bytes - place / 8) (drop (place / 8) bytes)) → length reader < place % 8 → ⊥
reader_long place _ bytes within is short =
    let size = ap length is ∙ ap (λ l. length (bits_in l)) (take_rest bytes (place / 8)) ∙ length-bits_in _ ∙ ap (λ n. 8 * n) (length-drop (place / 8) bytes) in
    omega (arith, short)

-- ---- a value

taken_whole : (count : ℕ) (bits : List Bool) → count ≤ length bits → take_at count bits ≡ Ok (front count bits, drop count bits)
unfolding take_at
taken_whole count bits le =
    let same = take-append-le _ _ _ le in
    rw (le-ltb (length bits) count le) (ap (λ l. Ok (number_of l, drop count bits)) (sym same))

-- the value that is passed, and what is left behind it
abbrev pub IsPassed : ℕ → Window → ℕ → List Bool → Window → ℕ → Type 0
IsPassed known window pattern bits told passed = (after : ℕ) × (behind known (value_at pattern window) bits ≡ Ok ((after, told), drop passed bits))

pub pass_same : (known : ℕ) (window : Window) (pattern passed : ℕ) (bits : List Bool) → front 1 (drop known bits) ≡ 0 → passed ≡ known + 1 → known + 1 ≤ length bits → IsPassed known window pattern bits window passed
pass_same _ window pattern _ bits e is long =
    (pattern, same_behind _ _ _ _ _ _ e (taken_whole _ _ long) ∙ ap (λ n. Ok ((pattern, window), drop n bits)) (sym is))

within_passed : (pattern known : ℕ) (window : Window) (bits : List Bool) → known + window.width ≤ length bits → within_at pattern window (drop known bits) ≡ Ok ((changed_pattern pattern window (front window.width (drop known bits)), window), drop (known + window.width) bits)
unfolding within_at
within_passed pattern known window bits long =
    let taken = taken_whole window.width (drop known bits) (omega (arith, length-drop known bits)) in
    rw taken (ap (λ (l : List Bool). Ok ((changed_pattern pattern window (front window.width (drop known bits)), window), l)) (drop-drop window.width known bits))

pub pass_within : (known : ℕ) (window : Window) (pattern passed : ℕ) (bits : List Bool) → front 2 (drop known bits) ≡ 2 → passed ≡ known + 2 + window.width → passed ≤ length bits → IsPassed known window pattern bits window passed
pass_within known window pattern passed bits e is long = (
  changed_pattern pattern window (front window.width (drop (known + 2) bits)),
  within_behind pattern _ _ _ _ _ e (taken_whole _ _ (omega arith))
      ∙ within_passed _ (known + 2) window bits (omega (arith, long)) ∙ ap (λ n. Ok ((changed_pattern pattern window (front window.width (drop (known + 2) bits)), window), drop n bits)) (sym is),
)

pub pass_told : (known word : ℕ) (window told : Window) (pattern passed : ℕ) (bits : List Bool) → front 2 (drop known bits) ≡ 3 → word ≡ front (known + 13) bits → told ≡ told_by word → passed ≡ known + 13 + told.width → passed ≤ length bits
    → IsPassed known window pattern bits told passed
pass_told known _ _ told pattern _ bits e word_is told_is is long =
    let same = ap told_by (sym word_is) ∙ sym told_is in (
      changed_pattern pattern told (front told.width (drop (known + 13) bits)),
      opened_behind _ _ _ _ _ _ e (taken_whole _ _ (omega arith))
          ∙ ap (λ w. within_at pattern w (drop (known + 13) bits)) same ∙ within_passed _ _ told bits (omega (arith, long))
          ∙ ap (λ (n : ℕ). Ok ((changed_pattern pattern told (front told.width (drop (known + 13) bits)), told), drop n bits)) (sym is),
    )

-- ---- a sample

pub pass_next : (known passed : ℕ) (last : State) (change : ℤ) (bits : List Bool) (told : Window) (inside : Bool) (time : ℤ) (delta : ℕ) → change_at bits ≡ behind known (λ after. Ok (change, after)) bits → IsPassed known last.window last.pattern bits told passed
    → inside ≡ is_inside told → inside ≡ true → time_after last.time (pos last.delta +ℤ change) ≡ Ok (time, delta)
    → (pattern : ℕ) × (next_at last bits ≡ Ok (record { time = time; delta = delta; pattern = pattern; window = told }, drop passed bits))
pass_next _ passed _ _ bits told _ time delta told_change (pattern, value) inside_is yes' times = (
  pattern,
  next_behind _ _ _ _ told_change ∙ follow_time _ _ _ _ _ _ _ value (sym inside_is ∙ yes')
      ∙ ap (λ r. r >>= λ t. Ok (record { time = t.0; delta = t.1; pattern = pattern; window = told }, drop passed bits)) times,
)

-- a sample by the same step, whose value stands in the same window
pub pass_steadily : (word passed : ℕ) (last : State) (after : ℤ) (bits : List Bool) → word / 2 ^ 61 ≡ 2 → Shows word 37 bits → 101 ≤ length bits → passed ≡ 3 + last.window.width → IsInside last.window → time_after last.time (pos last.delta +ℤ pos 0) ≡ Ok (after, last.delta)
    → (pattern : ℕ) × (next_at last bits ≡ Ok (record { time = after; delta = last.delta; pattern = pattern; window = last.window }, drop passed bits))
pass_steadily _ passed last after bits head shows long is inside times =
    let one = sym (shows.first 1 (omega arith)) ∙ omega (arith, head) in
    let three : front 3 bits ≡ 2 = sym (shows.first 3 (omega arith)) ∙ head in
    let two : front 2 (drop 1 bits) ≡ 2 = omega (arith, front-drop 1 2 bits, one, three) in
    pass_next 1 _ _ _ _ _ _ _ _ (no_change _ one) (pass_within 1 _ _ _ _ two (omega arith) (omega arith)) refl
    (le-leb (last.window.lead + last.window.width) 64 inside) times

-- a sample whose value stays or stands in the same window
pub pass_kept_next : (known passed : ℕ) (last : State) (begin : ℤ) (step : ℕ) (change : ℤ) (bits : List Bool) (time : ℤ) (delta : ℕ) → last.time ≡ begin → last.delta ≡ step → IsInside last.window → change_at bits ≡ behind known (λ after. Ok (change, after)) bits → IsPassed known last.window last.pattern bits last.window passed
    → time_after begin (pos step +ℤ change) ≡ Ok (time, delta) → (pattern : ℕ) × (next_at last bits ≡ Ok (record { time = time; delta = delta; pattern = pattern; window = last.window }, drop passed bits))
pass_kept_next _ _ last begin _ change _ _ delta begin_is step_is inside told value times =
    pass_next _ _ _ _ _ _ _ _ _ told value refl (le-leb (last.window.lead + last.window.width) 64 inside)
    (ap (λ z. time_after z (pos last.delta +ℤ change)) begin_is ∙ ap (λ n. time_after begin (pos n +ℤ change)) step_is ∙ times)

-- ---- the loop

-- the samples that are left, from where the last one ended, end as all of them
abbrev pub EndsAlike : ℕ → State → List Bool → ℕ → State → List Bool → Type 0
EndsAlike count second begin left last bits = end_at count second begin ≡ end_at left last bits

pub ends_on : (count left less place passed next : ℕ) (second last after : State) (begin bits : List Bool) → EndsAlike count second begin left last (drop place bits) → 0 < left → less ≡ left - 1 → next ≡ place + passed
    → ((pattern : ℕ) × (next_at last (drop place bits) ≡ Ok (with_pattern pattern after, drop passed (drop place bits)))) → EndsAlike count second begin less after (drop next bits)
ends_on count zero less place passed next second last after begin bits h some less_is next_is found = absurd (omega (arith, some))
ends_on count (suc n) less place passed next second last after begin bits h some less_is next_is (pattern, e) =
    let one : less ≡ n = omega (arith, less_is) in
    h ∙ passed_on n pattern _ _ _ _ e ∙ ap (λ l. end_at n after l) (drop-drop passed place bits ∙ ap (λ k. drop k bits) (sym next_is))
    ∙ ap (λ k. end_at k after (drop next bits)) (sym one)

-- the same at another time, behind another step
abbrev pub at_time : ℤ → ℕ → State → State
at_time time delta s = record { time = time; delta = delta; pattern = s.pattern; window = s.window }

-- a sample in the same window is passed, and time, step and place are those behind it
pub kept_on : (count left place passed next : ℕ) (second : State) (begin bits : List Bool) (t u v : ℤ) (d e f : ℕ) → EndsAlike count second begin left (at_time t d second) (drop place bits) → 0 < left → next ≡ place + passed → v ≡ u → f ≡ e
    → ((pattern : ℕ) × (next_at (at_time t d second) (drop place bits) ≡ Ok (with_pattern pattern (at_time u e second), drop passed (drop place bits)))) → EndsAlike count second begin (left - 1) (at_time v f second) (drop next bits)
kept_on count left place passed next second begin bits t u v d e f h some next_is v_is f_is (pattern, found) =
    ends_on _ _ _ _ _ _ _ _ _ _ _ h some refl next_is (
      pattern,
      found ∙ ap (λ z. Ok (with_pattern pattern (at_time z e second), drop passed (drop place bits))) (sym v_is)
          ∙ ap (λ n. Ok (with_pattern pattern (at_time v n second), drop passed (drop place bits))) (sym f_is),
    )

-- the bits that are left from a place on
pub bits_left : (place greatest : ℕ) (bytes : List ℕ) → place ≤ greatest → greatest ≡ 8 * (length bytes - 16) → 16 ≤ length bytes → 101 ≤ length (drop place (bits_in bytes))
bits_left place _ bytes le is long = omega (arith, length-drop place (bits_in bytes), length-bits_in bytes)
