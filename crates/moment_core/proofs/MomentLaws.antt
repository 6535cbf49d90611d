-- What ties the text of a moment to its milliseconds.
use Rattle.std.proofs.Common.{◌≡◌, ℕ, ℤ, pos, negsuc, ◌+◌, ◌*◌, ◌/◌, ◌%◌, ◌<◌, Bool, true, false, cond, eqb, ltb, List, None, Some, Result, Ok, Err, sym, ap, subst, ◌∙◌, arith}
use Rattle.std.specs.Bool.{MatchBool}
use Rattle.std.specs.Str.Parse.{digits_value}
use Rattle.std.proofs.lemmas.Bool.Decides.{nat_tests}
use Rattle.std.proofs.lemmas.Nat.{div-add-mod'}
use Rattle.jiff.specs.Words.{parse_timestamp, Error}
use Rattle.base.specs.ShortNumber.{is_number}
use Rattle.moment_core.specs.MomentText.{IsMomentText, moment_within, moment_of_timestamp, moment_of}
use Rattle.moment_core.specs.Limits.{moment_limit}
use Rattle.std.proofs.lemmas.Option.{cond_some, none-some}
use Rattle.base.proofs.Options.{tested_some}

within_found : (value ms : ℕ) → moment_within value ≡ Some ms → (ms < moment_limit) × (value ≡ ms)
within_found value ms is =
    let passed = cond_some (ltb value moment_limit) value ms is in
    let test : ltb value moment_limit ≡ true = passed.0 in
    let low : value < moment_limit = grind (arith, nat_tests) in
    (subst (λ n. n < moment_limit) passed.1 low, passed.1)

within_only : (ms : ℕ) → ms < moment_limit → moment_within ms ≡ Some ms
within_only ms low = let test : ltb ms moment_limit ≡ true = grind (arith, nat_tests) in ap (λ b. cond b (Some ms) None) test

-- what is read of a timestamp is whole milliseconds
at_found : (r : Result ℤ Error) (ms : ℕ) → moment_of_timestamp r ≡ Some ms → (ms < moment_limit) × (r ≡ Ok (pos (ms * 1_000_000)))
at_found (Ok (pos n)) ms is =
    let tested = tested_some (eqb (n % 1_000_000) 0) (moment_within (n / 1_000_000)) ms is in
    let whole : n % 1_000_000 ≡ 0 = let test : eqb (n % 1_000_000) 0 ≡ true = tested.0 in grind (arith, nat_tests) in
    let known = within_found (n / 1_000_000) ms tested.1 in
    let parts : n / 1_000_000 * 1_000_000 + n % 1_000_000 ≡ n = div-add-mod' n 1_000_000 in
    let same : n ≡ ms * 1_000_000 = omega (arith, known.1) in
    (known.0, ap (λ k. Ok (pos k)) same)
at_found (Ok (negsuc n)) ms is = absurd (none-some ms is)
at_found (Err e) ms is = absurd (none-some ms is)

at_only : (ms : ℕ) → ms < moment_limit → moment_of_timestamp (Ok (pos (ms * 1_000_000))) ≡ Some ms
at_only ms low =
    let rest : ms * 1_000_000 % 1_000_000 ≡ 0 = omega arith in
    let whole : eqb (ms * 1_000_000 % 1_000_000) 0 ≡ true = grind (arith, nat_tests) in
    let parts : ms * 1_000_000 / 1_000_000 ≡ ms = omega arith in
    ap (λ b. cond b (moment_within (ms * 1_000_000 / 1_000_000)) None) whole ∙ ap moment_within parts ∙ within_only ms low

read_found : (b : Bool) (value : ℕ) (r : Result ℤ Error) (ms : ℕ) → cond b (moment_within value) (moment_of_timestamp r) ≡ Some ms
    → (ms < moment_limit) × MatchBool b (ms ≡ value) (r ≡ Ok (pos (ms * 1_000_000)))
read_found true value r ms is = let known = within_found value ms is in (known.0, sym known.1)
read_found false value r ms is = at_found r ms is

read_only : (b : Bool) (value : ℕ) (r : Result ℤ Error) (ms : ℕ) → ms < moment_limit → MatchBool b (ms ≡ value) (r ≡ Ok (pos (ms * 1_000_000)))
    → cond b (moment_within value) (moment_of_timestamp r) ≡ Some ms
read_only true value r ms low is = ap moment_within (sym is) ∙ within_only ms low
read_only false value r ms low is = ap moment_of_timestamp is ∙ at_only ms low

pub moment_of-found : (text : List ℕ) (ms : ℕ) → moment_of text ≡ Some ms → IsMomentText text ms
unfolding moment_of
moment_of-found text ms is =
    let known = read_found (is_number 15 text) (digits_value 10 text) (parse_timestamp text) ms is in
    record { below = known.0; written = known.1 }

pub moment_of-only : (text : List ℕ) (ms : ℕ) → IsMomentText text ms → moment_of text ≡ Some ms
unfolding moment_of
moment_of-only text ms is = read_only (is_number 15 text) (digits_value 10 text) (parse_timestamp text) ms is.below is.written

-- what is read is the moment
pub moment_of-same : (text : List ℕ) (read ms : ℕ) → Some read ≡ moment_of text → IsMomentText text ms → read ≡ ms
moment_of-same text read ms is of_ms = let e : Some read ≡ Some ms = is ∙ moment_of-only text ms of_ms in cc

pub moment_of-none : (text : List ℕ) (ms : ℕ) → None ≡ moment_of text → IsMomentText text ms → ⊥
moment_of-none text ms is of_ms = none-some ms (is ∙ moment_of-only text ms of_ms)
