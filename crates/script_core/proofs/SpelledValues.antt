-- The reader's tests, in the words of the grammar.
use Rattle.std.proofs.Common.{◌≡◌, ℕ, ◌+◌, ◌-◌, ◌^◌, ◌<◌, ◌≤◌, ℤ, pos, negsuc, ◌≤ℤ◌, Bool, true, false, ◌&&◌, nat_le, leb-true, int_lt, List, [], ◌∷◌, None, refl, sym, arith}
use Rattle.std.specs.Prelude.{IsTrue, ◌↔◌}
use Rattle.std.specs.Cmp.{int_cmp_total}
use Rattle.std.specs.List.{All}
use Rattle.std.specs.List.Sorted.{IsStrictlySortedBy}
use Rattle.std.specs.Ordering.{int_cmp}
use Rattle.std.specs.declared.cmp.Ordering.TheVariants.{Less}
use Rattle.std.proofs.lemmas.Bool.Decides.{nat_tests}
use Rattle.std.proofs.lemmas.Int.{ints}
use Rattle.std.proofs.lemmas.List.Elements.{All-nil, All-cons, All-head, All-tail}
use Rattle.std.proofs.lemmas.Bool.{and_parts, le-leb, false_from_ne_true, true≢false}
use Rattle.base.specs.Order.{ComesAfter}
use Rattle.base.proofs.Order.{in_order_tells, order_from_sorted, sorted_from_order}
use Rattle.base.proofs.Membership.{all_members}
use Rattle.label_sets.specs.declared.sample.Sample.{Sample}
use Rattle.label_sets.proofs.TimesWithin.{within_found, within_again}
use Rattle.label_sets.specs.Times.{times_of, is_within, IsWithin}
use Rattle.moment_core.specs.declared.rules.Rules.{Rules}
use Rattle.script_fields.specs.Samples.{are_within}
use Rattle.script_fields.specs.Values.{is_time, agree}
use Rattle.script_core.specs.Lines.{times_ascend}
use Rattle.script_core.specs.Spelling.{IsNear, DoAgree}
use Rattle.script_core.proofs.LawfulParts.{near_low, near_high}

-- ---- times and ULIDs

pub near_spelled : (time : ℤ) → is_time time ≡ true → IsNear time
near_spelled time near = record { early = near_low time near; late = near_high time near }

pub near_tested : (time : ℤ) → IsNear time → is_time time ≡ true
near_tested (pos n) is = let late = is.late in let l : n ≤ 2 ^ 62 = omega (arith, ints) in grind (arith, nat_tests)
near_tested (negsuc n) is = let early = is.early in let l : n < 2 ^ 62 = omega (arith, ints) in grind (arith, nat_tests)

pub free_spelled : (entropy : ℕ) → nat_le (2 ^ 80 - 2 ^ 20) entropy ≡ false → entropy < 2 ^ 80 - 2 ^ 20
free_spelled entropy free = grind (arith, nat_tests)

pub free_tested : (entropy : ℕ) → entropy < 2 ^ 80 - 2 ^ 20 → nat_le (2 ^ 80 - 2 ^ 20) entropy ≡ false
free_tested entropy below = grind (arith, nat_tests)

-- ---- times that ascend

pub below_compared : (a b : ℤ) → int_lt a b ≡ true → int_cmp a b ≡ Less
below_compared a b below = rw below refl

pub ascend_spelled : (samples : List Sample) → times_ascend samples ≡ true → IsStrictlySortedBy int_cmp (times_of samples)
ascend_spelled samples test = sorted_from_order int_cmp int_cmp_total None (times_of samples) ((in_order_tells int_cmp None (times_of samples)).0 test)

pub ascend_tested : (samples : List Sample) → IsStrictlySortedBy int_cmp (times_of samples) → times_ascend samples ≡ true
ascend_tested samples up =
    let first = all_members (ComesAfter int_cmp None) (times_of samples) (λ time among. tt) in (in_order_tells int_cmp None (times_of samples)).1 (order_from_sorted int_cmp None (times_of samples) first up)

-- what a test answers that tells whether times ascend
pub ascend_told : (samples : List Sample) (r : Bool) → IsTrue r ↔ IsStrictlySortedBy int_cmp (times_of samples) → r ≡ times_ascend samples
ascend_told samples true is = sym (ascend_tested samples (is.0 refl))
ascend_told samples false is =
    sym (false_from_ne_true (times_ascend samples) (λ yes. true≢false (sym (is.1 (ascend_spelled samples yes)))))

-- ---- times within a range

pub within_spelled : (first last : ℤ) (samples : List Sample) → are_within first last samples ≡ true → All (IsWithin first last) samples
within_spelled first last [] h = All-nil (IsWithin first last)
within_spelled first last (sample ∷ samples) h =
    let parts = and_parts (is_within first last sample) (are_within first last samples) h in
    All-cons (IsWithin first last) sample samples (within_found first last sample parts.0) (within_spelled first last samples parts.1)

pub not_before : (first time : ℤ) → first ≤ℤ time → int_lt time first ≡ false
not_before first time from = grind (arith, ints)

pub within_tested : (first last : ℤ) (samples : List Sample) → All (IsWithin first last) samples → are_within first last samples ≡ true
within_tested first last [] all = refl
within_tested first last (sample ∷ samples) all =
    let one = within_again first last sample (All-head (IsWithin first last) sample samples all) in
    rw one (within_tested first last samples (All-tail (IsWithin first last) sample samples all))

-- ---- rules that agree

pub agree_spelled : (set : Rules) → agree set ≡ true → DoAgree set
agree_spelled set h =
    let all = and_parts (nat_le set.upload.ms set.partial.ms && nat_le (set.upload.ms + 1000) set.delete.ms) (nat_le set.ignore.ms set.delete.ms) h in
    let two = and_parts (nat_le set.upload.ms set.partial.ms) (nat_le (set.upload.ms + 1000) set.delete.ms) all.0 in
    record { partial = leb-true _ _ two.0; delete = leb-true _ _ two.1; ignore = leb-true _ _ all.1 }

pub agree_tested : (set : Rules) → DoAgree set → agree set ≡ true
agree_tested set is =
    let one = le-leb set.upload.ms set.partial.ms is.partial in
    let two = le-leb (set.upload.ms + 1000) set.delete.ms is.delete in
    let three = le-leb set.ignore.ms set.delete.ms is.ignore in
    rw (one, two, three) refl
