-- The values of fields are read from their texts, and from no others.
use Rattle.std.proofs.Common.{◌≡◌, ℕ, ◌^◌, ◌<◌, ◌≤◌, ℤ, pos, negsuc, leb-true, true, ◌&&◌, nat_le, List, Option, Some, None, is_none, Ok, refl, sym, ap, ◌∙◌, subst, arith}
use Rattle.std.specs.Int.{w64}
use Rattle.std.specs.Int.RustNames.{FitsSigned}
use Rattle.std.proofs.lemmas.Bool.Decides.{nat_tests}
use Rattle.base.specs.Decimal.{decimal_text, signed_text, unsigned_of, signed_of}
use Rattle.base.proofs.Binds.{bind_ok, unless_ok, ok_is, refused_as_ok, ok_or_ok}
use Rattle.std.proofs.lemmas.Bool.{and_parts}
use Rattle.base.proofs.Parsed.{unsigned_again, unsigned_found}
use Rattle.base.proofs.ParsedSigned.{signed_again, signed_found}
use Rattle.moment_core.proofs.MomentLaws.{moment_of-found, moment_of-only}
use Rattle.moment_core.proofs.SpanLaws.{span_of-found, span_of-only}
use Rattle.moment_core.specs.MomentText.{IsMomentText, moment_of}
use Rattle.moment_core.specs.SpanText.{IsSpanText, span_of}
use Rattle.moment_core.specs.declared.moment.Moment.{Moment}
use Rattle.moment_core.specs.declared.span.Span.{Span}
use Rattle.ulid_core.proofs.UlidLaws.{ulid_of-found, ulid_of-only}
use Rattle.ulid_core.specs.UlidText.{IsUlidText}
use Rattle.script_fields.specs.declared.cause.LineCause.TheVariants.{BadNumber}
use Rattle.script_fields.specs.declared.rule_name.RuleName.{RuleName}
use Rattle.script_fields.specs.declared.rule_name.RuleName.TheVariants as names
use Rattle.script_fields.specs.Values.{is_time, time_field, page_limit_field, stop_count, span_from, span_field, tick_field, moment_from, moment_field, ulid_field, value_field}
use Rattle.script_core.specs.Spelling.{IsValueText}
use Rattle.moment_core.specs.Limits.{longest_tick}
use Rattle.script_fields.specs.Limits.{latest_stop}
use Rattle.base.proofs.Options.{option_map-Some}

pub is_none_is : {A : Type 0} (o : Option A) → is_none o ≡ true → o ≡ None
is_none_is None h = refl
is_none_is (Some x) h = absurd cc

-- ---- times

pub time_fits : (time : ℤ) → is_time time ≡ true → FitsSigned w64 time
time_fits (pos n) near = let l : n ≤ 2 ^ 62 = grind (arith, nat_tests) in search (arith, l)
time_fits (negsuc n) near = let l : n < 2 ^ 62 = grind (arith, nat_tests) in search (arith, l)

pub time_found : (text : List ℕ) (time : ℤ) → time_field text ≡ Ok time → (text ≡ signed_text time) × (is_time time ≡ true)
unfolding time_field
time_found text time h =
    let a = bind_ok _ _ _ h in
    let b = unless_ok _ _ _ _ a.2 in
    let same : a.0 ≡ time = ok_is _ _ b.1 in
    ((signed_found text a.0 (refused_as_ok _ _ _ a.1)).0 ∙ ap signed_text same, ap is_time (sym same) ∙ b.0)

pub time_again : (text : List ℕ) (time : ℤ) → text ≡ signed_text time → is_time time ≡ true → time_field text ≡ Ok time
unfolding time_field
time_again text time written near =
    let read : signed_of text ≡ Ok time = ap signed_of written ∙ signed_again time (time_fits time near) in
    rw (read, near) refl

-- ---- spans, page limits, moments and ULIDs

pub span_found : (text : List ℕ) (span : Span) → span_field text ≡ Ok span → IsSpanText text span.ms
unfolding span_field
span_found text span h =
    let some = option_map-Some span_from (span_of text) span (ok_or_ok _ _ _ h) in
    subst (λ (s : Span). IsSpanText text s.ms) some.2 (span_of-found text some.0 some.1)

pub span_again : (text : List ℕ) (span : Span) → IsSpanText text span.ms → span_field text ≡ Ok span
unfolding span_field
span_again text span is = rw (span_of-only text span.ms is) refl

pub tick_found : (text : List ℕ) (span : Span) → tick_field text ≡ Ok span → IsSpanText text span.ms × (span.ms ≤ longest_tick)
unfolding tick_field
tick_found text span h =
    let a = bind_ok _ _ _ h in
    let b = unless_ok _ _ _ _ a.2 in
    let same : a.0 ≡ span = ok_is _ _ b.1 in
    let small : a.0.ms ≤ longest_tick = let test = b.0 in grind (arith, nat_tests) in
    (subst (λ (s : Span). IsSpanText text s.ms) same (span_found text a.0 a.1), subst (λ (s : Span). s.ms ≤ longest_tick) same small)

pub tick_again : (text : List ℕ) (span : Span) → IsSpanText text span.ms → span.ms ≤ longest_tick → tick_field text ≡ Ok span
unfolding tick_field
tick_again text span is small =
    let test : nat_le span.ms longest_tick ≡ true = grind (arith, nat_tests) in rw (span_again text span is, test) refl

pub page_limit_found : (text : List ℕ) (limit : ℕ) → page_limit_field text ≡ Ok limit → (text ≡ decimal_text limit) × (1 ≤ limit) × (limit ≤ 10_000)
unfolding page_limit_field
page_limit_found text limit h =
    let a = bind_ok _ _ _ h in
    let b = unless_ok (nat_le 1 a.0 && nat_le a.0 10_000) BadNumber _ _ a.2 in
    let same : a.0 ≡ limit = ok_is _ _ b.1 in
    let tests = and_parts (nat_le 1 a.0) (nat_le a.0 10_000) b.0 in
    let low : 1 ≤ a.0 = leb-true 1 a.0 tests.0 in
    let high : a.0 ≤ 10_000 = leb-true a.0 10_000 tests.1 in
    ((unsigned_found text a.0 (refused_as_ok _ _ _ a.1)).0 ∙ ap decimal_text same, omega (arith, same), omega (arith, same))

pub page_limit_again : (text : List ℕ) (limit : ℕ) → text ≡ decimal_text limit → 1 ≤ limit → limit ≤ 10_000 → page_limit_field text ≡ Ok limit
unfolding page_limit_field
page_limit_again text limit written low high =
    let small : limit < 2 ^ 64 = omega arith in
    let read : unsigned_of text ≡ Ok limit = ap unsigned_of written ∙ unsigned_again limit small in
    let first : nat_le 1 limit ≡ true = grind (arith, nat_tests) in
    let last : nat_le limit 10_000 ≡ true = grind (arith, nat_tests) in
    rw (read, first, last) refl

pub stop_count_found : (text : List ℕ) (count : ℕ) → stop_count text ≡ Ok count → (text ≡ decimal_text count) × (1 ≤ count) × (count ≤ latest_stop)
unfolding stop_count
stop_count_found text count h =
    let a = bind_ok _ _ _ h in
    let b = unless_ok (nat_le 1 a.0 && nat_le a.0 latest_stop) BadNumber _ _ a.2 in
    let same : a.0 ≡ count = ok_is _ _ b.1 in
    let tests = and_parts (nat_le 1 a.0) (nat_le a.0 latest_stop) b.0 in
    let low : 1 ≤ a.0 = leb-true 1 a.0 tests.0 in
    let high : a.0 ≤ latest_stop = leb-true a.0 latest_stop tests.1 in
    ((unsigned_found text a.0 (refused_as_ok _ _ _ a.1)).0 ∙ ap decimal_text same, omega (arith, same), omega (arith, same))

pub stop_count_again : (text : List ℕ) (count : ℕ) → text ≡ decimal_text count → 1 ≤ count → count ≤ latest_stop → stop_count text ≡ Ok count
unfolding stop_count
stop_count_again text count written low high =
    let small : count < 2 ^ 64 = omega arith in
    let read : unsigned_of text ≡ Ok count = ap unsigned_of written ∙ unsigned_again count small in
    let first : nat_le 1 count ≡ true = grind (arith, nat_tests) in
    let last : nat_le count latest_stop ≡ true = grind (arith, nat_tests) in
    rw (read, first, last) refl

pub moment_found : (text : List ℕ) (moment : Moment) → moment_field text ≡ Ok moment → IsMomentText text moment.ms
unfolding moment_field
moment_found text moment h =
    let some = option_map-Some moment_from (moment_of text) moment (ok_or_ok _ _ _ h) in
    subst (λ (m : Moment). IsMomentText text m.ms) some.2 (moment_of-found text some.0 some.1)

pub moment_again : (text : List ℕ) (ms : ℕ) → IsMomentText text ms → moment_field text ≡ Ok (moment_from ms)
unfolding moment_field
moment_again text ms is = rw (moment_of-only text ms is) refl

pub ulid_found : (text : List ℕ) (ulid : ℕ) → ulid_field text ≡ Ok ulid → IsUlidText text ulid
unfolding ulid_field
ulid_found text ulid h = ulid_of-found text ulid (refused_as_ok _ _ _ h)

pub ulid_again : (text : List ℕ) (ulid : ℕ) → IsUlidText text ulid → ulid_field text ≡ Ok ulid
unfolding ulid_field
ulid_again text ulid is = rw (ulid_of-only text ulid is) refl

-- ---- rules

pub value_found : (name : RuleName) (text : List ℕ) (value : ℕ) → value_field name text ≡ Ok value → IsValueText name text value
unfolding value_field
value_found names.PageLimit text value h = page_limit_found text value h
value_found names.Tick text value h =
    let a = bind_ok _ _ _ h in
    subst (IsValueText names.Tick text) (ok_is _ _ a.2) (tick_found text a.0 a.1)
value_found name text value h =
    let a = bind_ok _ _ _ h in subst (IsSpanText text) (ok_is _ _ a.2) (span_found text a.0 a.1)

pub value_again : (name : RuleName) (text : List ℕ) (value : ℕ) → IsValueText name text value → value_field name text ≡ Ok value
unfolding value_field
value_again names.PageLimit text value is = page_limit_again text value is.0 is.1 is.2
value_again names.Tick text value is = rw (tick_again text (span_from value) is.0 is.1) refl
value_again name text value is = rw (span_again text (span_from value) is) refl
