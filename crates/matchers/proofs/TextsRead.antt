-- Each text of a selector is read, and gives the selector.
use Rattle.std.proofs.Common.{◌≡◌, ◌⊎◌, inl, inr, ℕ, ◌+◌, List, [], ◌∷◌, ◌++◌, length, map, Some, Ok, refl, sym, ap, ◌∙◌, subst, arith, Bool, true, false, cond, eqb, ◌||◌, append_assoc, append-nil}
use Rattle.std.specs.List.{All, list_all}
use Rattle.std.specs.Char.{is_ascii_digit}
use Rattle.std.proofs.lemmas.List.{length-append, append_cancel_right, map-append}
use Rattle.std.proofs.lemmas.List.Elements.{All-head, All-tail, All-pop}
use Rattle.std.proofs.lemmas.Bool.{true≢false, and_parts}
use Rattle.std.proofs.lemmas.Bool.Decides.{nat_tests}
use Rattle.base.proofs.Bools.{by_bool}
use Rattle.base.specs.Reading.{◌>>=◌}
use Rattle.label_sets.specs.Notation.{is_name, is_name_start, is_name_byte, quoted, quoted_byte}
use Rattle.label_sets.proofs.ReadPairs.{plain_byte}
use Rattle.label_sets.proofs.SetsFound.{start_is_byte}
use Rattle.matchers.specs.declared.asked.Asked.{Asked}
use Rattle.matchers.specs.declared.condition.Condition.{Condition}
use Rattle.matchers.specs.declared.condition.Condition.TheVariants as conditions
use Rattle.matchers.specs.declared.draft.Draft.{Draft}
use Rattle.matchers.specs.declared.matcher.Matcher.{Matcher}
use Rattle.matchers.specs.declared.asked.Operator.{Operator}
use Rattle.matchers.specs.declared.asked.Operator.TheVariants.{Equal, NotEqual, Matches, MatchesNot}
use Rattle.matchers.specs.declared.stage.Stage.{Stage}
use Rattle.matchers.specs.declared.stage.Stage.TheVariants.{Metric, Comma, Name, Exclamation, Equals, Sign, Value, Backslash, Quote, End}
use Rattle.matchers.specs.Selectors.{metric_matcher, is_metric_name, is_metric_start, is_metric_byte}
use Rattle.matchers.specs.SelectorText.{sign_of, asked_by, matcher_text, comma_text, commas_text, metric_part, IsSelectorText}
use Rattle.matchers.specs.Stages.{Next, condition_of, matcher_of, selector_of, nothing_asked, nothing_read, after_start, after_metric, after_comma, after_name, after_exclamation, after_equals, after_sign, in_value, after_backslash, after_quote, step, ended_draft, read_from, read_whole}
use Rattle.matchers.proofs.StageTexts.{commas_more}

-- ---- reading goes on past these bytes

abbrev Passes : Draft → ℕ → List ℕ → Draft → Type 0
Passes d place bytes next = (rest : List ℕ) → read_from d place (bytes ++ rest) ≡ read_from next (place + length bytes) rest

one_byte : (d next : Draft) (place byte : ℕ) → step d place byte ≡ Ok next → Passes d place (byte ∷ []) next
unfolding read_from
one_byte d next place byte e rest = ap (λ (r : Next). r >>= λ one. read_from one (place + 1) rest) e

no_bytes : (d : Draft) (place : ℕ) → Passes d place [] d
no_bytes d place rest = ap (λ n. read_from d n rest) (omega arith)

then_bytes : (d middle next : Draft) (place : ℕ) (front bytes : List ℕ) → Passes d place front middle → Passes middle (place + length front) bytes next → Passes d place (front ++ bytes) next
then_bytes d middle next place front bytes one two rest =
    ap (read_from d place) (append_assoc front bytes rest) ∙ one (bytes ++ rest) ∙ two rest
    ∙ ap (λ n. read_from next n rest) (omega (arith, length-append front bytes))

-- from the front of a text
first_bytes : (d middle next : Draft) (front bytes : List ℕ) → Passes d 0 front middle → Passes middle (length front) bytes next → Passes d 0 (front ++ bytes) next
first_bytes d middle next front bytes one two =
    let place : 0 + length front ≡ length front = omega arith in
    then_bytes d middle next 0 front bytes one (subst (λ n. Passes middle n bytes next) (sym place) two)

and_byte : (d middle next : Draft) (place byte : ℕ) (bytes : List ℕ) → step d place byte ≡ Ok middle → Passes middle (place + 1) bytes next → Passes d place (byte ∷ bytes) next
and_byte d middle next place byte bytes e two = then_bytes d middle next place (byte ∷ []) bytes (one_byte d middle place byte e) two

-- a test whose answer is known
yes_test : (b : Bool) (r s : Next) → b ≡ true → cond b r s ≡ r
yes_test true r s e = refl
yes_test false r s e = absurd cc

no_test : (b : Bool) (r s : Next) → b ≡ false → cond b r s ≡ s
no_test true r s e = absurd cc
no_test false r s e = refl

-- ---- stages as they are passed

abbrev at_stage : Stage → List ℕ → List Asked → Asked → Draft
at_stage stage metric listed asked = record { stage = stage; metric = metric; listed = listed; asked = asked }

abbrev asking : List ℕ → Operator → List ℕ → ℕ → Asked
asking name operator value quote = record { name = name; operator = operator; value = value; quote = quote }

-- ---- a metric name

metric_no_brace : (byte : ℕ) → is_metric_byte byte ≡ true → eqb byte 123 ≡ false
metric_no_brace byte t = by_bool (eqb byte 123)
    (λ same. let e : byte ≡ 123 = grind (arith, nat_tests) in let no : is_metric_byte 123 ≡ true = ap is_metric_byte (sym e) ∙ t in absurd (cc no))
    (λ other. other)

metric_start_is_byte : (byte : ℕ) → is_metric_start byte ≡ true → is_metric_byte byte ≡ true
metric_start_is_byte byte t = ap (λ b. b || is_ascii_digit byte) t

metric_bytes : (front bytes : List ℕ) (place : ℕ) → list_all is_metric_byte bytes ≡ true → Passes (at_stage Metric front [] nothing_asked) place bytes (at_stage Metric (front ++ bytes) [] nothing_asked)
unfolding step after_metric
metric_bytes front [] place all = subst (λ m. Passes (at_stage Metric front [] nothing_asked) place [] (at_stage Metric m [] nothing_asked)) (sym (append-nil front)) (no_bytes _ place)
metric_bytes front (byte ∷ bytes) place all =
    let parts = and_parts (is_metric_byte byte) (list_all is_metric_byte bytes) all in
    and_byte _ (at_stage Metric (front ++ byte ∷ []) [] nothing_asked) _ place byte bytes
    (no_test _ _ _ (metric_no_brace byte parts.0) ∙ yes_test _ _ _ parts.0)
    (subst (λ m. Passes (at_stage Metric (front ++ byte ∷ []) [] nothing_asked) (place + 1) bytes (at_stage Metric m [] nothing_asked)) (append_assoc front (byte ∷ []) bytes)
    (metric_bytes (front ++ byte ∷ []) bytes (place + 1) parts.1))

metric_passes : (name : List ℕ) → is_metric_name name ≡ true → Passes nothing_read 0 name (at_stage Metric name [] nothing_asked)
unfolding is_metric_name step after_start
metric_passes [] is = absurd cc
metric_passes (byte ∷ bytes) is =
    let parts = and_parts (is_metric_start byte) (list_all is_metric_byte bytes) is in
    and_byte _ (at_stage Metric (byte ∷ []) [] nothing_asked) _ 0 byte bytes
    (no_test _ _ _ (metric_no_brace byte (metric_start_is_byte byte parts.0)) ∙ yes_test _ _ _ parts.0)
    (metric_bytes (byte ∷ []) bytes 1 parts.1)

-- up to the opening brace
brace_passes : (metric : List ℕ) → (metric ≡ []) ⊎ (is_metric_name metric ≡ true) → Passes nothing_read 0 (metric ++ 123 ∷ []) (at_stage Comma metric [] nothing_asked)
unfolding step after_start after_metric
brace_passes metric (inl none) = subst (λ m. Passes nothing_read 0 (m ++ 123 ∷ []) (at_stage Comma m [] nothing_asked)) (sym none) (one_byte nothing_read (at_stage Comma [] [] nothing_asked) 0 123 refl)
brace_passes metric (inr is) = first_bytes nothing_read (at_stage Metric metric [] nothing_asked) _ metric (123 ∷ []) (metric_passes metric is) (one_byte _ (at_stage Comma metric [] nothing_asked) (length metric) 123 refl)

-- ---- the name of a matcher

name_no : (byte other : ℕ) → is_name_byte byte ≡ true → is_name_byte other ≡ false → eqb byte other ≡ false
name_no byte other t never = by_bool (eqb byte other)
    (λ same. let e : byte ≡ other = grind (arith, nat_tests) in let yes : is_name_byte other ≡ true = ap is_name_byte (sym e) ∙ t in absurd (true≢false (sym yes ∙ never)))
    (λ differs. differs)

abbrev read_operator : Condition → Operator
read_operator (conditions.Equal asked) = Equal
read_operator (conditions.NotEqual asked) = NotEqual
read_operator (conditions.Matches pattern) = Matches
read_operator (conditions.MatchesNot pattern) = MatchesNot

abbrev read_asked : ℕ → Matcher → Asked
read_asked place m = asking m.name (read_operator m.condition) (asked_by m.condition) (place + length m.name + length (sign_of m.condition))

module _ (metric : List ℕ) (listed : List Asked) where
  name_bytes : (front bytes : List ℕ) (place : ℕ) → list_all is_name_byte bytes ≡ true
      → Passes (at_stage Name metric listed (asking front Equal [] 0)) place bytes (at_stage Name metric listed (asking (front ++ bytes) Equal [] 0))
  unfolding step after_name
  name_bytes front [] place all = subst (λ m. Passes (at_stage Name metric listed (asking front Equal [] 0)) place [] (at_stage Name metric listed (asking m Equal [] 0))) (sym (append-nil front)) (no_bytes _ place)
  name_bytes front (byte ∷ bytes) place all =
      let parts = and_parts (is_name_byte byte) (list_all is_name_byte bytes) all in
      and_byte _ (at_stage Name metric listed (asking (front ++ byte ∷ []) Equal [] 0)) _ place byte bytes
      (no_test _ _ _ (name_no byte 61 parts.0 refl) ∙ no_test _ _ _ (name_no byte 33 parts.0 refl) ∙ yes_test _ _ _ parts.0)
      (subst (λ m. Passes (at_stage Name metric listed (asking (front ++ byte ∷ []) Equal [] 0)) (place + 1) bytes (at_stage Name metric listed (asking m Equal [] 0))) (append_assoc front (byte ∷ []) bytes)
      (name_bytes (front ++ byte ∷ []) bytes (place + 1) parts.1))

  name_passes : (name : List ℕ) (place : ℕ) → is_name name ≡ true → Passes (at_stage Comma metric listed nothing_asked) place name (at_stage Name metric listed (asking name Equal [] 0))
  unfolding is_name step after_comma
  name_passes [] place is = absurd cc
  name_passes (byte ∷ bytes) place is =
      let parts = and_parts (is_name_start byte) (list_all is_name_byte bytes) is in
      and_byte _ (at_stage Name metric listed (asking (byte ∷ []) Equal [] 0)) _ place byte bytes
      (no_test _ _ _ (name_no byte 125 (start_is_byte byte parts.0) refl) ∙ yes_test _ _ _ parts.0)
      (name_bytes (byte ∷ []) bytes (place + 1) parts.1)

  -- ---- the operator and the opening quote

  sign_passes : (name : List ℕ) (condition : Condition) (place : ℕ)
      → Passes (at_stage Name metric listed (asking name Equal [] 0)) place (sign_of condition ++ 34 ∷ []) (at_stage Value metric listed (asking name (read_operator condition) [] (place + length (sign_of condition))))
  unfolding step after_name after_exclamation after_equals after_sign
  sign_passes name (conditions.Equal asked) place =
      and_byte _ (at_stage Equals metric listed (asking name Equal [] 0)) _ place 61 (34 ∷ []) refl (one_byte _ _ (place + 1) 34 refl)
  sign_passes name (conditions.NotEqual asked) place =
      and_byte _ (at_stage Exclamation metric listed (asking name Equal [] 0)) _ place 33 (61 ∷ 34 ∷ []) refl
      (and_byte _ (at_stage Sign metric listed (asking name NotEqual [] 0)) _ (place + 1) 61 (34 ∷ []) refl
      (one_byte _ _ (place + 1 + 1) 34 (ap (λ n. Ok (at_stage Value metric listed (asking name NotEqual [] n))) (omega arith))))
  sign_passes name (conditions.Matches pattern) place =
      and_byte _ (at_stage Equals metric listed (asking name Equal [] 0)) _ place 61 (126 ∷ 34 ∷ []) refl
      (and_byte _ (at_stage Sign metric listed (asking name Matches [] 0)) _ (place + 1) 126 (34 ∷ []) refl
      (one_byte _ _ (place + 1 + 1) 34 (ap (λ n. Ok (at_stage Value metric listed (asking name Matches [] n))) (omega arith))))
  sign_passes name (conditions.MatchesNot pattern) place =
      and_byte _ (at_stage Exclamation metric listed (asking name Equal [] 0)) _ place 33 (126 ∷ 34 ∷ []) refl
      (and_byte _ (at_stage Sign metric listed (asking name MatchesNot [] 0)) _ (place + 1) 126 (34 ∷ []) refl
      (one_byte _ _ (place + 1 + 1) 34 (ap (λ n. Ok (at_stage Value metric listed (asking name MatchesNot [] n))) (omega arith))))

  -- ---- the value

  value_byte : (name front : List ℕ) (operator : Operator) (quote place byte : ℕ)
      → Passes (at_stage Value metric listed (asking name operator front quote)) place (quoted_byte byte) (at_stage Value metric listed (asking name operator (front ++ byte ∷ []) quote))
  unfolding quoted_byte step in_value after_backslash
  value_byte name front operator quote place byte =
      let before : Draft = at_stage Value metric listed (asking name operator front quote) in
      let escape : Draft = at_stage Backslash metric listed (asking name operator front quote) in
      let after : ℕ → Draft = λ b. at_stage Value metric listed (asking name operator (front ++ b ∷ []) quote) in
      by_bool (eqb byte 92)
      (λ t. let is : byte ≡ 92 = grind (arith, nat_tests) in
      subst (λ b. Passes before place (quoted_byte b) (after b)) (sym is) (and_byte before escape (after 92) place 92 (92 ∷ []) refl (one_byte escape (after 92) (place + 1) 92 refl)))
      (λ b. by_bool (eqb byte 34)
      (λ t. let is : byte ≡ 34 = grind (arith, nat_tests) in
      subst (λ b. Passes before place (quoted_byte b) (after b)) (sym is) (and_byte before escape (after 34) place 92 (34 ∷ []) refl (one_byte escape (after 34) (place + 1) 34 refl)))
      (λ q. by_bool (eqb byte 10)
      (λ t. let is : byte ≡ 10 = grind (arith, nat_tests) in
      subst (λ b. Passes before place (quoted_byte b) (after b)) (sym is) (and_byte before escape (after 10) place 92 (110 ∷ []) refl (one_byte escape (after 10) (place + 1) 110 refl)))
      (λ n. subst (λ front. Passes before place front (after byte)) (sym (plain_byte byte q n b))
      (one_byte before (after byte) place byte (no_test _ _ _ q ∙ no_test _ _ _ b ∙ no_test _ _ _ n)))))

  value_bytes : (name front value : List ℕ) (operator : Operator) (quote place : ℕ)
      → Passes (at_stage Value metric listed (asking name operator front quote)) place (quoted value) (at_stage Value metric listed (asking name operator (front ++ value) quote))
  unfolding quoted
  value_bytes name front [] operator quote place =
      subst (λ v. Passes (at_stage Value metric listed (asking name operator front quote)) place [] (at_stage Value metric listed (asking name operator v quote))) (sym (append-nil front)) (no_bytes _ place)
  value_bytes name front (byte ∷ value) operator quote place =
      then_bytes _ (at_stage Value metric listed (asking name operator (front ++ byte ∷ []) quote)) _ place (quoted_byte byte) (quoted value) (value_byte name front operator quote place byte)
      (subst (λ v. Passes (at_stage Value metric listed (asking name operator (front ++ byte ∷ []) quote)) (place + length (quoted_byte byte)) (quoted value) (at_stage Value metric listed (asking name operator v quote))) (append_assoc front (byte ∷ []) value)
      (value_bytes name (front ++ byte ∷ []) value operator quote (place + length (quoted_byte byte))))

  -- ---- a matcher

  quote_shape : (m : Matcher) → matcher_text m ≡ m.name ++ ((sign_of m.condition ++ 34 ∷ []) ++ (quoted (asked_by m.condition) ++ 34 ∷ []))
  unfolding matcher_text
  quote_shape m = append_assoc m.name (sign_of m.condition) (34 ∷ (quoted (asked_by m.condition) ++ 34 ∷ []))
      ∙ ap (λ t. m.name ++ t) (sym (append_assoc (sign_of m.condition) (34 ∷ []) (quoted (asked_by m.condition) ++ 34 ∷ [])))

  matcher_passes : (m : Matcher) (place : ℕ) → is_name m.name ≡ true → Passes (at_stage Comma metric listed nothing_asked) place (matcher_text m) (at_stage Quote metric listed (read_asked place m))
  unfolding step in_value
  matcher_passes m place named =
      let quote : ℕ = place + length m.name + length (sign_of m.condition) in
      let opened : Draft = at_stage Value metric listed (asking m.name (read_operator m.condition) [] quote) in
      let filled : Draft = at_stage Value metric listed (asking m.name (read_operator m.condition) (asked_by m.condition) quote) in
      subst (λ t. Passes (at_stage Comma metric listed nothing_asked) place t (at_stage Quote metric listed (read_asked place m))) (sym (quote_shape m))
      (then_bytes _ (at_stage Name metric listed (asking m.name Equal [] 0)) _ place m.name _ (name_passes m.name place named)
      (then_bytes _ opened _ (place + length m.name) (sign_of m.condition ++ 34 ∷ []) _ (sign_passes m.name m.condition (place + length m.name))
      (then_bytes opened filled _ _ (quoted (asked_by m.condition)) (34 ∷ []) (value_bytes m.name [] (asked_by m.condition) (read_operator m.condition) quote _)
      (one_byte filled _ _ 34 refl))))

  comma_passes : (m : Matcher) (place : ℕ) → is_name m.name ≡ true → Passes (at_stage Comma metric listed nothing_asked) place (comma_text m) (at_stage Comma metric (listed ++ read_asked place m ∷ []) nothing_asked)
  unfolding step after_quote
  comma_passes m place named = then_bytes _ (at_stage Quote metric listed (read_asked place m)) _ place (matcher_text m) (44 ∷ []) (matcher_passes m place named) (one_byte _ _ _ 44 refl)

-- ---- matchers

abbrev all_asked : ℕ → List Matcher → List Asked
all_asked place [] = []
all_asked place (m ∷ ms) = read_asked place m ∷ all_asked (place + length (comma_text m)) ms

condition_again : (c : Condition) → condition_of (read_operator c) (asked_by c) ≡ c
condition_again (conditions.Equal asked) = refl
condition_again (conditions.NotEqual asked) = refl
condition_again (conditions.Matches pattern) = refl
condition_again (conditions.MatchesNot pattern) = refl

asked_again : (place : ℕ) (m : Matcher) → matcher_of (read_asked place m) ≡ m
asked_again place m = λ i. record { name = m.name; condition = condition_again m.condition i }

all_again : (place : ℕ) (ms : List Matcher) → map matcher_of (all_asked place ms) ≡ ms
all_again place [] = refl
all_again place (m ∷ ms) = λ i. asked_again place m i ∷ all_again (place + length (comma_text m)) ms i

abbrev AreNamed : List Matcher → Type 0
AreNamed ms = All (λ (m : Matcher). is_name m.name ≡ true) ms

commas_pass : (metric : List ℕ) (listed : List Asked) (ms : List Matcher) (place : ℕ) → AreNamed ms
    → Passes (at_stage Comma metric listed nothing_asked) place (commas_text ms) (at_stage Comma metric (listed ++ all_asked place ms) nothing_asked)
commas_pass metric listed [] place named =
    subst (λ l. Passes (at_stage Comma metric listed nothing_asked) place [] (at_stage Comma metric l nothing_asked)) (sym (append-nil listed)) (no_bytes _ place)
commas_pass metric listed (m ∷ ms) place named =
    then_bytes _ (at_stage Comma metric (listed ++ read_asked place m ∷ []) nothing_asked) _ place (comma_text m) (commas_text ms)
    (comma_passes metric listed m place (All-head (λ (x : Matcher). is_name x.name ≡ true) m ms named))
    (subst (λ l. Passes (at_stage Comma metric (listed ++ read_asked place m ∷ []) nothing_asked) (place + length (comma_text m)) (commas_text ms) (at_stage Comma metric l nothing_asked))
    (append_assoc listed (read_asked place m ∷ []) (all_asked (place + length (comma_text m)) ms))
    (commas_pass metric (listed ++ read_asked place m ∷ []) ms (place + length (comma_text m)) (All-tail (λ (x : Matcher). is_name x.name ≡ true) m ms named)))

-- ---- whole texts

-- the text is read, and gives the selector
pub record IsRead (text : List ℕ) (selector : List Matcher) : Type 0 where
  pub draft : Draft
  pub is_read : read_whole text ≡ Ok draft
  pub gives : selector_of draft ≡ selector

whole_passed : (text : List ℕ) (d : Draft) → Passes nothing_read 0 text d → ended_draft d (length text) ≡ Ok d → read_whole text ≡ Ok d
unfolding read_from
whole_passed text d passes ends =
    let place : 0 + length text ≡ length text = omega arith in
    ap (read_from nothing_read 0) (sym (append-nil text)) ∙ passes [] ∙ ap (ended_draft d) place ∙ ends

metric_read : (text : List ℕ) → is_metric_name text ≡ true → IsRead text (metric_matcher text ∷ [])
unfolding is_metric_name ended_draft
metric_read [] is = absurd cc
metric_read (byte ∷ bytes) is = record {
  draft = at_stage Metric (byte ∷ bytes) [] nothing_asked;
  is_read = whole_passed (byte ∷ bytes) _ (metric_passes (byte ∷ bytes) is) refl;
  gives = refl;
}

-- behind the opening brace
closes : (text metric inside : List ℕ) (ms : List Matcher) (listed : List Asked) → text ≡ metric ++ 123 ∷ (inside ++ 125 ∷ []) → (metric ≡ []) ⊎ (is_metric_name metric ≡ true)
    → Passes (at_stage Comma metric [] nothing_asked) (length (metric ++ 123 ∷ [])) (inside ++ 125 ∷ []) (at_stage End metric listed nothing_asked) → map matcher_of listed ≡ ms
    → IsRead text (metric_part metric ++ ms)
unfolding ended_draft
closes text metric inside ms listed e is passes same = record {
  draft = at_stage End metric listed nothing_asked;
  is_read = whole_passed text (at_stage End metric listed nothing_asked)
      (subst (λ t. Passes nothing_read 0 t (at_stage End metric listed nothing_asked)) (append_assoc metric (123 ∷ []) (inside ++ 125 ∷ []) ∙ sym e)
      (first_bytes nothing_read (at_stage Comma metric [] nothing_asked) _ (metric ++ 123 ∷ []) (inside ++ 125 ∷ []) (brace_passes metric is) passes)) refl;
  gives = ap (λ xs. metric_part metric ++ xs) same;
}

last_of : (m : Matcher) (ms : List Matcher) → (front : List Matcher) × (last : Matcher) × (m ∷ ms ≡ front ++ last ∷ [])
last_of m [] = ([], m, refl)
last_of m (n ∷ ns) = let v = last_of n ns in (m ∷ v.0, v.1, ap (λ xs. m ∷ xs) v.2)

nothing_before : (inside : List ℕ) → inside ++ 44 ∷ [] ≡ [] → ⊥
nothing_before [] e = absurd cc
nothing_before (x ∷ xs) e = absurd cc

all_commas : (text metric inside : List ℕ) (ms : List Matcher) → text ≡ metric ++ 123 ∷ (inside ++ 125 ∷ []) → (metric ≡ []) ⊎ (is_metric_name metric ≡ true) → AreNamed ms → inside ≡ commas_text ms → IsRead text (metric_part metric ++ ms)
unfolding step after_comma
all_commas text metric inside ms e is named listed =
    let place : ℕ = length (metric ++ 123 ∷ []) in
    closes text metric inside ms (all_asked place ms) e is
    (then_bytes _ (at_stage Comma metric (all_asked place ms) nothing_asked) _ place inside (125 ∷ [])
    (subst (λ t. Passes (at_stage Comma metric [] nothing_asked) place t (at_stage Comma metric (all_asked place ms) nothing_asked)) (sym listed) (commas_pass metric [] ms place named))
    (one_byte _ _ _ 125 refl))
    (all_again place ms)

-- the last matcher lacks its comma
lacks_comma : (text metric inside : List ℕ) (front : List Matcher) (last : Matcher) → text ≡ metric ++ 123 ∷ (inside ++ 125 ∷ []) → (metric ≡ []) ⊎ (is_metric_name metric ≡ true) → AreNamed front → is_name last.name ≡ true
    → inside ≡ commas_text front ++ matcher_text last → IsRead text (metric_part metric ++ (front ++ last ∷ []))
unfolding step after_quote
lacks_comma text metric inside front last e is named ends listed =
    let place : ℕ = length (metric ++ 123 ∷ []) in
    let there : ℕ = place + length (commas_text front) in
    let one : Asked = read_asked there last in
    let read : List Asked = all_asked place front in
    closes text metric inside (front ++ last ∷ []) (read ++ one ∷ []) e is
    (subst (λ t. Passes (at_stage Comma metric [] nothing_asked) place t (at_stage End metric (read ++ one ∷ []) nothing_asked))
    (sym (ap (λ t. t ++ 125 ∷ []) listed ∙ append_assoc (commas_text front) (matcher_text last) (125 ∷ [])))
    (then_bytes _ (at_stage Comma metric read nothing_asked) _ place (commas_text front) (matcher_text last ++ 125 ∷ []) (commas_pass metric [] front place named)
    (then_bytes _ (at_stage Quote metric read one) _ there (matcher_text last) (125 ∷ []) (matcher_passes metric read last there ends) (one_byte _ _ _ 125 refl))))
    (map-append matcher_of read (one ∷ []) ∙ (λ i. all_again place front i ++ asked_again there last i ∷ []))

open_braces : (text metric inside : List ℕ) (ms : List Matcher) → text ≡ metric ++ 123 ∷ (inside ++ 125 ∷ []) → (metric ≡ []) ⊎ (is_metric_name metric ≡ true) → AreNamed ms → inside ++ 44 ∷ [] ≡ commas_text ms → IsRead text (metric_part metric ++ ms)
open_braces text metric inside [] e is named listed = absurd (nothing_before inside listed)
open_braces text metric inside (m ∷ ms) e is named listed =
    let v = last_of m ms in
    let parts = All-pop (λ (x : Matcher). is_name x.name ≡ true) (m ∷ ms) v.0 (Some v.1) v.2 named in
    let cut : inside ≡ commas_text v.0 ++ matcher_text v.1 =
    append_cancel_right inside (commas_text v.0 ++ matcher_text v.1) (44 ∷ []) (listed ∙ ap commas_text v.2 ∙ commas_more v.0 v.1 ∙ sym (append_assoc (commas_text v.0) (matcher_text v.1) (44 ∷ []))) in
    subst (λ xs. IsRead text (metric_part metric ++ xs)) (sym v.2) (lacks_comma text metric inside v.0 v.1 e is parts.0 parts.1 cut)

pub text_is_read : (text : List ℕ) (selector : List Matcher) → IsSelectorText text selector → IsRead text selector
text_is_read text selector (inl metric) = subst (IsRead text) (sym metric.1) (metric_read text metric.0)
text_is_read text selector (inr b) = subst (IsRead text) (sym b.selector_is) (elim b.listed [
  | inl all ↦ all_commas text b.metric b.inside b.matchers b.written b.is_metric b.named all
  | inr less ↦ open_braces text b.metric b.inside b.matchers b.written b.is_metric b.named less
])
