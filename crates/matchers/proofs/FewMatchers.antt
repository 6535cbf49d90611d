-- A selector has no more matchers, and no longer texts, than its own text has bytes.
use Rattle.std.proofs.Common.{inl, inr, ℕ, ◌+◌, ◌*◌, ◌≤◌, Bool, true, false, cond, List, [], ◌∷◌, ◌++◌, length, Result, Ok, Err, sym, ap, subst, arith}
use Rattle.std.specs.Prelude.{IfOk, IsTrue, ◌==◌}
use Rattle.std.specs.List.{AllByRecursion}
use Rattle.std.proofs.lemmas.List.{length-append}
use Rattle.std.proofs.lemmas.List.Concat.{flat_map-cons}
use Rattle.base.proofs.Lists.{AllByRecursion-append}
use Rattle.label_sets.specs.Notation.{quoted_byte, quoted}
use Rattle.matchers.specs.declared.condition.Condition.{Condition}
use Rattle.matchers.specs.declared.condition.Condition.TheVariants.{Equal, NotEqual, Matches, MatchesNot}
use Rattle.matchers.specs.declared.matcher.Matcher.{Matcher}
use Rattle.matchers.specs.SelectorRefusals.{IsReadable}
use Rattle.matchers.specs.SelectorText.{sign_of, asked_by, opening_text, matcher_text, comma_text, commas_text, AreListed, metric_part, HasBraces, IsSelectorText, AreFew}
use Rattle.matchers.specs.Selectors.{is_metric_name, metric_matcher}

some_byte : (a b c : Bool) (byte : ℕ) → 1 ≤ length (cond a (92 ∷ 92 ∷ []) (cond b (92 ∷ 34 ∷ []) (cond c (92 ∷ 110 ∷ []) (byte ∷ []))))
some_byte true b c _ = omega arith
some_byte false true c _ = omega arith
some_byte false false true _ = omega arith
some_byte false false false _ = omega arith

longer_quoted : (value : List ℕ) → length value ≤ length (quoted value)
unfolding quoted quoted_byte
longer_quoted [] = omega arith
longer_quoted (byte ∷ value) =
    omega (arith, longer_quoted value, some_byte (byte == 92) (byte == 34) (byte == 10) byte, length-append (quoted_byte byte) (quoted value))

some_sign : (condition : Condition) → 1 ≤ length (sign_of condition)
some_sign (Equal text) = omega arith
some_sign (NotEqual text) = omega arith
some_sign (Matches pattern) = omega arith
some_sign (MatchesNot pattern) = omega arith

one_fits : (m : Matcher) → length m.name + length (asked_by m.condition) + 4 ≤ length (comma_text m)
unfolding matcher_text
one_fits m =
    let asked = quoted (asked_by m.condition) in
    omega (arith, longer_quoted (asked_by m.condition), some_sign m.condition, length-append (matcher_text m) (44 ∷ []), length-append (opening_text m) (34 ∷ (asked ++ 34 ∷ [])), length-append m.name (sign_of m.condition), length-append asked (34 ∷ []))

abbrev Fits : ℕ → Matcher → Type 0
Fits most m = (length m.name ≤ 8 * most) × (length (asked_by m.condition) ≤ most)

commas_few : (most : ℕ) (matchers : List Matcher) → length (commas_text matchers) ≤ most → (4 * length matchers ≤ length (commas_text matchers)) × AllByRecursion (Fits most) matchers
commas_few most [] le = (omega arith, tt)
commas_few most (m ∷ matchers) le =
    let whole = ap length (flat_map-cons comma_text m matchers) in
    let parts = length-append (comma_text m) (commas_text matchers) in
    let one = one_fits m in
    let others = commas_few most matchers (omega (arith, le, whole, parts)) in
    (omega (arith, whole, parts, one, others.0), ((omega (arith, le, whole, parts, one), omega (arith, le, whole, parts, one)), others.1))

listed_few : (inside : List ℕ) (matchers : List Matcher) → AreListed inside matchers → length (commas_text matchers) ≤ length inside + 1
listed_few inside matchers (inl all) = omega (arith, ap length all)
listed_few inside matchers (inr less) = omega (arith, ap length less, length-append inside (44 ∷ []))

metric_fits : (most : ℕ) (metric : List ℕ) → length metric ≤ most → (length (metric_part metric) ≤ length metric) × AllByRecursion (Fits most) (metric_part metric)
unfolding metric_matcher
metric_fits most [] le = (omega arith, tt)
metric_fits most (byte ∷ bytes) le = (omega arith, ((omega (arith, le), le), tt))

braces_few : (text : List ℕ) (selector : List Matcher) → HasBraces text selector → AreFew (length text) selector
braces_few text selector is =
    let whole = ap length is.written in
    let outer = length-append is.metric (123 ∷ (is.inside ++ 125 ∷ [])) in
    let inner = length-append is.inside (125 ∷ []) in
    let commas = listed_few is.inside is.matchers is.listed in
    let metric = metric_fits (length text) is.metric (omega (arith, whole, outer)) in
    let matchers = commas_few (length text) is.matchers (omega (arith, whole, outer, inner, commas)) in
    let all = AllByRecursion-append (Fits (length text)) (metric_part is.metric) is.matchers metric.1 matchers.1 in (
      omega (arith, whole, outer, inner, commas, metric.0, matchers.0, ap length is.selector_is, length-append (metric_part is.metric) is.matchers),
      subst (AllByRecursion (Fits (length text))) (sym is.selector_is) all,
    )

name_few : (text : List ℕ) → IsTrue (is_metric_name text) → AreFew (length text) (metric_matcher text ∷ [])
unfolding metric_matcher is_metric_name
name_few [] is = absurd (cc (is))
name_few (byte ∷ bytes) is = (omega arith, ((omega arith, omega arith), tt))

selector_few : (text : List ℕ) (selector : List Matcher) → IsSelectorText text selector → AreFew (length text) selector
selector_few text selector (inl one) = subst (AreFew (length text)) (sym one.1) (name_few text one.0)
selector_few text selector (inr is) = braces_few text selector is

pub read_few : {X E : Type 0} (view : X → List Matcher) (r : Result X E) (text : List ℕ) (replicas : List (List ℕ)) → IfOk r (λ x. IsReadable text replicas (view x)) → IfOk r (λ x. AreFew (length text) (view x))
read_few view (Ok x) text replicas is = selector_few text (view x) is.is_text
read_few view (Err e) text replicas is = tt
