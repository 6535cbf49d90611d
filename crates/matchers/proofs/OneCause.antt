-- A text has one selector or one cause to be refused.
use Rattle.std.proofs.Common.{◌≡◌, ◌⊎◌, inl, inr, ℕ, suc, ◌≤◌, List, [], ◌∷◌, ◌++◌, length, take, drop, Result, Ok, Err, refl, sym, ap, ◌∙◌, subst, arith, Bool, true, false, ◌&&◌, ◌||◌, append_assoc}
use Rattle.std.specs.Prelude.{IfOk, IfErr, IsErrAnd, MatchResult}
use Rattle.std.specs.List.{list_all}
use Rattle.std.specs.Char.{is_ascii_digit}
use Rattle.std.proofs.lemmas.Bool.{true≢false, cases_order, and_parts}
use Rattle.std.proofs.lemmas.List.{append_cancel_left, take-take, take-append-drop}
use Rattle.std.proofs.lemmas.List.Folds.{list_all-append}
use Rattle.base.proofs.Lists.{cons_parts}
use Rattle.matchers.specs.declared.condition.Condition.{Condition}
use Rattle.matchers.specs.declared.condition.Condition.TheVariants.{Equal, NotEqual, Matches, MatchesNot}
use Rattle.matchers.specs.declared.matcher.Matcher.{Matcher}
use Rattle.matchers.specs.declared.draft.Draft.{Draft}
use Rattle.matchers.specs.declared.selector_refusal.SelectorRefusal.{SelectorRefusal}
use Rattle.matchers.specs.declared.selector_refusal.SelectorRefusal.TheVariants.{BadSelector, BadPattern, PatternSize, ReplicaNamed, NoMemory}
use Rattle.matchers.specs.Patterns.{is_pattern}
use Rattle.matchers.specs.Selectors.{has_pattern, is_metric_start, is_metric_byte, is_metric_name}
use Rattle.matchers.specs.SelectorText.{asked_by, opening_text, commas_text, IsMetric, metric_part, IsSelectorText, is_lawful, are_lawful, named_replicas}
use Rattle.matchers.specs.SelectorRefusals.{BeginsASelector, StopsAt, HasPatternAt, HasBadPattern, IsReadable, IsRefused, IsGivenUp}
use Rattle.matchers.specs.Stages.{Next, selector_of, read_whole}
use Rattle.matchers.proofs.TextsRead.{text_is_read}

same_draft : (r : Next) (d e : Draft) → r ≡ Ok d → r ≡ Ok e → d ≡ e
same_draft r d e h k = cc

pub one_selector : (text : List ℕ) (one other : List Matcher) → IsSelectorText text one → IsSelectorText text other → one ≡ other
one_selector text one other is also =
    let a = text_is_read text one is in
    let b = text_is_read text other also in
    sym a.gives ∙ ap selector_of (same_draft (read_whole text) a.draft b.draft a.is_read b.is_read) ∙ b.gives

-- ---- the place at which no selector goes on

shorter_begins : (front more : List ℕ) → BeginsASelector (front ++ more) → BeginsASelector front
shorter_begins front more b = record { after = more ++ b.after; selector = b.selector; is_text = subst (λ t. IsSelectorText t b.selector) (append_assoc front more b.after) b.is_text }

begins_before : (text : List ℕ) (p q : ℕ) → p ≤ q → BeginsASelector (take q text) → BeginsASelector (take p text)
begins_before text p q le b =
    let cut : take q text ≡ take p text ++ drop p (take q text) = sym (take-append-drop p (take q text)) ∙ ap (λ t. t ++ drop p (take q text)) (take-take p q text le) in
    shorter_begins (take p text) (drop p (take q text)) (subst BeginsASelector cut b)

one_stop : (text : List ℕ) (p q : ℕ) → StopsAt text p → StopsAt text q → p ≡ q
one_stop text p q s r = elim (cases_order p q) [
  | inl same ↦ same
  | inr differs ↦ elim differs [
    | inl below ↦ absurd (s.no_further (omega (arith, r.within)) (begins_before text (suc p) q (omega arith) r.so_far))
    | inr above ↦ absurd (r.no_further (omega (arith, s.within)) (begins_before text (suc q) p (omega arith) s.so_far))
  ]
]

-- ---- the first pattern that is none

lawful_pattern : (c : Condition) → has_pattern c ≡ true → is_lawful c ≡ true → is_pattern (asked_by c) ≡ true
unfolding has_pattern
lawful_pattern (Equal asked) has is = absurd cc
lawful_pattern (NotEqual asked) has is = absurd cc
lawful_pattern (Matches pattern) has is = is
lawful_pattern (MatchesNot pattern) has is = is

unlawful_pattern : (c : Condition) → has_pattern c ≡ true → is_pattern (asked_by c) ≡ false → is_lawful c ≡ false
unfolding has_pattern
unlawful_pattern (Equal asked) has is = absurd cc
unlawful_pattern (NotEqual asked) has is = absurd cc
unlawful_pattern (Matches pattern) has is = is
unlawful_pattern (MatchesNot pattern) has is = is

lawful_there : (front others : List Matcher) (m : Matcher) → are_lawful (front ++ m ∷ others) ≡ true → is_lawful m.condition ≡ true
lawful_there front others m all =
    let parts = and_parts (are_lawful front) (are_lawful (m ∷ others)) (sym (list_all-append (λ (x : Matcher). is_lawful x.condition) front (m ∷ others)) ∙ all) in
    (and_parts (is_lawful m.condition) (are_lawful others) parts.1).0

bad_is_unlawful : (text : List ℕ) (place : ℕ) (selector : List Matcher) → HasBadPattern text place → IsSelectorText text selector → are_lawful selector ≡ true → ⊥
bad_is_unlawful text place selector bad is lawful =
    let m : Matcher = bad.0 in
    let at : HasPatternAt text place m = bad.1 in
    let same = one_selector text selector (metric_part at.metric ++ (at.before ++ m ∷ at.others)) is at.is_text in
    let whole : are_lawful ((metric_part at.metric ++ at.before) ++ m ∷ at.others) ≡ true = ap are_lawful (append_assoc (metric_part at.metric) at.before (m ∷ at.others) ∙ sym same) ∙ lawful in
    true≢false (sym (lawful_pattern m.condition at.has_pattern (lawful_there (metric_part at.metric ++ at.before) at.others m whole)) ∙ bad.2)

metric_bytes : (metric : List ℕ) → IsMetric metric → list_all is_metric_byte metric ≡ true
unfolding is_metric_name
metric_bytes [] is = refl
metric_bytes (byte ∷ bytes) (inl none) = absurd (cc none)
metric_bytes (byte ∷ bytes) (inr is) =
    let parts = and_parts (is_metric_start byte) (list_all is_metric_byte bytes) is in
    λ i. (parts.0 i || is_ascii_digit byte) && parts.1 i

no_brace : (byte : ℕ) (more : Bool) → 123 ≡ byte → (is_metric_byte byte && more) ≡ true → ⊥
no_brace byte more e t = let brace : (is_metric_byte 123 && more) ≡ true = ap (λ b. is_metric_byte b && more) e ∙ t in absurd (cc brace)

-- what stands before the first brace
one_metric : (one other rest more : List ℕ) → list_all is_metric_byte one ≡ true → list_all is_metric_byte other ≡ true → one ++ 123 ∷ rest ≡ other ++ 123 ∷ more → one ≡ other
one_metric [] [] rest more a b e = refl
one_metric [] (y ∷ ys) rest more a b e = absurd (no_brace y (list_all is_metric_byte ys) (cons_parts 123 y rest (ys ++ 123 ∷ more) e).0 b)
one_metric (x ∷ xs) [] rest more a b e = absurd (no_brace x (list_all is_metric_byte xs) (sym (cons_parts x 123 (xs ++ 123 ∷ rest) more e).0) a)
one_metric (x ∷ xs) (y ∷ ys) rest more a b e =
    let parts = cons_parts x y (xs ++ 123 ∷ rest) (ys ++ 123 ∷ more) e in
    let later = one_metric xs ys rest more (and_parts (is_metric_byte x) (list_all is_metric_byte xs) a).1 (and_parts (is_metric_byte y) (list_all is_metric_byte ys) b).1 parts.1 in
    λ i. parts.0 i ∷ later i

-- the first member that is not lawful
first_bad : (before front others more : List Matcher) (m n : Matcher) → before ++ m ∷ others ≡ front ++ n ∷ more → are_lawful before ≡ true → are_lawful front ≡ true
    → is_lawful m.condition ≡ false → is_lawful n.condition ≡ false → (before ≡ front) × (m ≡ n)
first_bad [] [] others more m n e a b c d = (refl, (cons_parts m n others more e).0)
first_bad [] (y ∷ ys) others more m n e a b c d =
    let same = (cons_parts m y others (ys ++ n ∷ more) e).0 in
    absurd (true≢false (sym (and_parts (is_lawful y.condition) (are_lawful ys) b).0 ∙ ap (λ (x : Matcher). is_lawful x.condition) (sym same) ∙ c))
first_bad (x ∷ xs) [] others more m n e a b c d =
    let same = (cons_parts x n (xs ++ m ∷ others) more e).0 in
    absurd (true≢false (sym (and_parts (is_lawful x.condition) (are_lawful xs) a).0 ∙ ap (λ (y : Matcher). is_lawful y.condition) same ∙ d))
first_bad (x ∷ xs) (y ∷ ys) others more m n e a b c d =
    let parts = cons_parts x y (xs ++ m ∷ others) (ys ++ n ∷ more) e in
    let later = first_bad xs ys others more m n parts.1 (and_parts (is_lawful x.condition) (are_lawful xs) a).1 (and_parts (is_lawful y.condition) (are_lawful ys) b).1 c d in
    ((λ i. parts.0 i ∷ later.0 i), later.1)

stands_behind : (text metric front rest : List ℕ) → text ≡ (metric ++ 123 ∷ front) ++ 34 ∷ rest → text ≡ metric ++ 123 ∷ (front ++ 34 ∷ rest)
stands_behind text metric front rest e = e ∙ append_assoc metric (123 ∷ front) (34 ∷ rest)

one_bad : (text : List ℕ) (p q : ℕ) → HasBadPattern text p → HasBadPattern text q → p ≡ q
one_bad text p q one other =
    let m : Matcher = one.0 in
    let n : Matcher = other.0 in
    let a : HasPatternAt text p m = one.1 in
    let b : HasPatternAt text q n = other.1 in
    let metric : a.metric ≡ b.metric =
    one_metric a.metric b.metric _ _ (metric_bytes a.metric a.is_metric) (metric_bytes b.metric b.is_metric)
    (sym (stands_behind text a.metric (commas_text a.before ++ opening_text m) a.rest a.stands) ∙ stands_behind text b.metric (commas_text b.before ++ opening_text n) b.rest b.stands) in
    let same : a.before ++ m ∷ a.others ≡ b.before ++ n ∷ b.others =
    append_cancel_left (metric_part a.metric) (a.before ++ m ∷ a.others) (b.before ++ n ∷ b.others)
    (one_selector text _ _ a.is_text b.is_text ∙ ap (λ x. metric_part x ++ (b.before ++ n ∷ b.others)) (sym metric)) in
    let first = first_bad a.before b.before a.others b.others m n same a.lawful b.lawful (unlawful_pattern m.condition a.has_pattern one.2) (unlawful_pattern n.condition b.has_pattern other.2) in
    a.place_is ∙ (λ i. length (metric i ++ 123 ∷ (commas_text (first.0 i) ++ opening_text (first.1 i)))) ∙ sym b.place_is

-- ---- all causes

one_name : (name other : List ℕ) (names others : List (List ℕ)) → name ∷ names ≡ other ∷ others → name ≡ other
one_name name other names others e = (cons_parts name other names others e).0

one_cause : (text : List ℕ) (replicas : List (List ℕ)) (e d : SelectorRefusal) → IsRefused text replicas e → IsRefused text replicas d → d ≡ e
one_cause text replicas (BadSelector p) (BadSelector q) one other = ap BadSelector (one_stop text q p other one)
one_cause text replicas (BadSelector p) (BadPattern q) one other = absurd (one.no_selector _ other.1.is_text)
one_cause text replicas (BadSelector p) (ReplicaNamed name) one other = absurd (one.no_selector other.0 other.1)
one_cause text replicas (BadPattern p) (BadSelector q) one other = absurd (other.no_selector _ one.1.is_text)
one_cause text replicas (BadPattern p) (BadPattern q) one other = ap BadPattern (one_bad text q p other one)
one_cause text replicas (BadPattern p) (ReplicaNamed name) one other = absurd (bad_is_unlawful text p other.0 one other.1 other.2)
one_cause text replicas (ReplicaNamed name) (BadSelector q) one other = absurd (other.no_selector one.0 one.1)
one_cause text replicas (ReplicaNamed name) (BadPattern q) one other = absurd (bad_is_unlawful text q one.0 other one.1 one.2)
one_cause text replicas (ReplicaNamed name) (ReplicaNamed second) one other =
    ap ReplicaNamed (one_name second name other.3.0 one.3.0 (sym other.3.1 ∙ ap (named_replicas replicas) (one_selector text other.0 one.0 other.1 one.1) ∙ one.3.1))
one_cause text replicas (PatternSize p) d one other = absurd one
one_cause text replicas NoMemory d one other = absurd one
one_cause text replicas e (PatternSize p) one other = absurd other
one_cause text replicas e NoMemory one other = absurd other

none_named : (name : List ℕ) (names : List (List ℕ)) → [] ≡ name ∷ names → ⊥
none_named name names e = absurd cc

readable_not_refused : (text : List ℕ) (replicas : List (List ℕ)) (selector : List Matcher) (e : SelectorRefusal) → IsReadable text replicas selector → IsRefused text replicas e → ⊥
readable_not_refused text replicas selector (BadSelector p) readable why = why.no_selector selector readable.is_text
readable_not_refused text replicas selector (BadPattern p) readable why = bad_is_unlawful text p selector why readable.is_text readable.lawful
readable_not_refused text replicas selector (PatternSize p) readable why = why
readable_not_refused text replicas selector (ReplicaNamed name) readable why =
    none_named name why.3.0 (sym readable.no_replica ∙ ap (named_replicas replicas) (one_selector text selector why.0 readable.is_text why.1) ∙ why.3.1)
readable_not_refused text replicas selector NoMemory readable why = why

-- ---- what a call answers

pub only_of : {X : Type 0} (view : X → List Matcher) (r : Result X SelectorRefusal) (text : List ℕ) (replicas : List (List ℕ)) (selector : List Matcher)
    → IfOk r (λ x. IsReadable text replicas (view x)) → IfErr r (λ e. IsGivenUp text e ⊎ IsRefused text replicas e) → IsReadable text replicas selector
    → MatchResult r (λ x. view x ≡ selector) (λ e. IsGivenUp text e)
only_of view (Ok x) text replicas selector found fails readable = one_selector text (view x) selector found.is_text readable.is_text
only_of view (Err e) text replicas selector found (inl given_up) readable = given_up
only_of view (Err e) text replicas selector found (inr why) readable = absurd (readable_not_refused text replicas selector e readable why)

pub exact_of : {X : Type 0} (view : X → List Matcher) (r : Result X SelectorRefusal) (text : List ℕ) (replicas : List (List ℕ)) (refusal : SelectorRefusal)
    → IfOk r (λ x. IsReadable text replicas (view x)) → IfErr r (λ e. IsGivenUp text e ⊎ IsRefused text replicas e) → IsRefused text replicas refusal
    → IsErrAnd r (λ e. IsGivenUp text e ⊎ (e ≡ refusal))
exact_of view (Ok x) text replicas refusal found fails why = absurd (readable_not_refused text replicas (view x) refusal found why)
exact_of view (Err e) text replicas refusal found (inl given_up) why = inl given_up
exact_of view (Err e) text replicas refusal found (inr cause) why = inr (one_cause text replicas refusal e why cause)
