-- Matchers that were built of what was read.
use Rattle.std.proofs.Common.{◌≡◌, inl, inr, ℕ, ◌+◌, ◌<◌, List, [], ◌∷◌, ◌++◌, length, take, drop, get_or, map, Result, Ok, Err, refl, sym, ap, ◌∙◌, subst, true, cond, ◌&&◌, append_assoc}
use Rattle.std.specs.Prelude.{IsErrAnd, IfErr}
use Rattle.std.specs.List.{All, filter}
use Rattle.std.specs.Str.{IsUtf8}
use Rattle.std.proofs.lemmas.List.{map-append, take_more}
use Rattle.std.proofs.lemmas.List.Elements.{filter-append}
use Rattle.std.proofs.lemmas.List.Folds.{list_all-append}
use Rattle.label_sets.specs.Finals.{is_among}
use Rattle.matchers.specs.declared.asked.Asked.{Asked}
use Rattle.matchers.specs.declared.draft.Draft.{Draft}
use Rattle.matchers.specs.declared.matcher.Matcher.{Matcher}
use Rattle.matchers.specs.declared.selector_refusal.SelectorRefusal.{SelectorRefusal}
use Rattle.matchers.specs.Selectors.{metric_matcher}
use Rattle.matchers.specs.SelectorText.{metric_part, is_lawful, are_lawful, named_replicas}
use Rattle.matchers.specs.Stages.{matcher_of, selector_of}
use Rattle.matchers.specs.Building.{IsUnbuilt, IsUnbuiltCondition, IsUnbuiltList}
use Rattle.base.proofs.Lists.{split_place}

abbrev pub IsText : Asked → Type 0
IsText a = IsUtf8 a.name × IsUtf8 a.value

-- the member at a place
pub text_there : (xs : List Asked) (i : ℕ) (a : Asked) → All IsText xs → i < length xs → a ≡ get_or xs i a → IsText a
text_there xs i a all lt at = subst IsText (sym at) (all i a lt)

one_more : {A : Type 0} (xs : List A) (i : ℕ) (a : A) → i < length xs → a ≡ get_or xs i a → take (i + 1) xs ≡ take i xs ++ a ∷ []
one_more xs i a lt at = take_more xs i a lt ∙ ap (λ (x : _). take i xs ++ x ∷ []) (sym at)

pub made_more : (new old start : List Matcher) (xs : List Asked) (i : ℕ) (a : Asked) (m : Matcher) → new ≡ old ++ m ∷ [] → old ≡ start ++ map matcher_of (take i xs) → m ≡ matcher_of a
    → i < length xs → a ≡ get_or xs i a → new ≡ start ++ map matcher_of (take (i + 1) xs)
made_more new old start xs i a m pushed made is lt at =
    pushed ∙ (λ k. made k ++ is k ∷ []) ∙ append_assoc start (map matcher_of (take i xs)) (matcher_of a ∷ [])
    ∙ ap (λ ms. start ++ ms) (sym (ap (map matcher_of) (one_more xs i a lt at) ∙ map-append matcher_of (take i xs) (a ∷ [])))

both_lawful : (front : List Matcher) (m : Matcher) → are_lawful front ≡ true → is_lawful m.condition ≡ true → are_lawful (front ++ m ∷ []) ≡ true
both_lawful front m all one = list_all-append (λ (x : Matcher). is_lawful x.condition) front (m ∷ []) ∙ (λ i. all i && (one i && true))

pub lawful_more : (xs : List Asked) (i : ℕ) (a : Asked) (m : Matcher) → are_lawful (map matcher_of (take i xs)) ≡ true → is_lawful m.condition ≡ true → m ≡ matcher_of a → i < length xs → a ≡ get_or xs i a
    → are_lawful (map matcher_of (take (i + 1) xs)) ≡ true
lawful_more xs i a m all one is lt at =
    ap (λ ys. are_lawful (map matcher_of ys)) (one_more xs i a lt at) ∙ ap are_lawful (map-append matcher_of (take i xs) (a ∷ []))
    ∙ both_lawful (map matcher_of (take i xs)) (matcher_of a) all (ap (λ (x : Matcher). is_lawful x.condition) (sym is) ∙ one)

pub unbuilt_there : {X : Type 0} (r : Result X SelectorRefusal) (e : SelectorRefusal) (xs : List Asked) (i : ℕ) (a : Asked) → IsErrAnd r (λ d. d ≡ e) → IsUnbuiltCondition a.operator a.value a.quote e
    → are_lawful (map matcher_of (take i xs)) ≡ true → i < length xs → a ≡ get_or xs i a → IfErr r (λ d. IsUnbuiltList xs d)
unbuilt_there (Ok x) e xs i a is why lawful lt at = absurd is
unbuilt_there (Err d) e xs i a is (inl none) lawful lt at = inl (is ∙ none)
unbuilt_there (Err d) e xs i a is (inr why) lawful lt at =
    inr (record { before = take i xs; asked = a; others = drop (i + 1) xs; stands = split_place xs i a lt at; lawful = lawful; has_pattern = why.0; unbuilt = subst (IsUnbuilt a.value a.quote) (sym is) why.1 })

metric_lawful : (metric : List ℕ) → are_lawful (metric_part metric) ≡ true
unfolding metric_matcher
metric_lawful [] = refl
metric_lawful (byte ∷ bytes) = refl

pub made_lawful : (made old : List Matcher) (listed : List Asked) (metric : List ℕ) → made ≡ old ++ map matcher_of listed → old ≡ metric_part metric → are_lawful (map matcher_of listed) ≡ true → are_lawful made ≡ true
made_lawful made old listed metric is part lawful =
    ap are_lawful (is ∙ ap (λ ms. ms ++ map matcher_of listed) part) ∙ list_all-append (λ (x : Matcher). is_lawful x.condition) (metric_part metric) (map matcher_of listed)
    ∙ (λ i. metric_lawful metric i && lawful i)

pub made_is : (made old : List Matcher) (listed : List Asked) (d : Draft) → made ≡ old ++ map matcher_of listed → old ≡ metric_part d.metric → listed ≡ d.listed → made ≡ selector_of d
made_is made old listed d is part same = is ∙ (λ i. part i ++ map matcher_of (same i))

pub unbuilt_in : {X : Type 0} (r : Result X SelectorRefusal) (e : SelectorRefusal) (listed other : List Asked) → IsErrAnd r (λ d. d ≡ e) → IsUnbuiltList listed e → listed ≡ other → IfErr r (λ d. IsUnbuiltList other d)
unbuilt_in (Ok x) e listed other is why same = absurd is
unbuilt_in (Err d) e listed other is why same = subst (λ xs. IsUnbuiltList xs d) same (subst (IsUnbuiltList listed) (sym is) why)

-- ---- replica labels

named-append : (replicas : List (List ℕ)) (front back : List Matcher) → named_replicas replicas (front ++ back) ≡ named_replicas replicas front ++ named_replicas replicas back
named-append replicas front back = ap (filter (is_among replicas)) (map-append (λ (m : Matcher). m.name) front back) ∙ filter-append (is_among replicas) (map (λ (m : Matcher). m.name) front) (map (λ (m : Matcher). m.name) back)

named_here : (replicas : List (List ℕ)) (m : Matcher) (back : List Matcher) → is_among replicas m.name ≡ true → named_replicas replicas (m ∷ back) ≡ m.name ∷ named_replicas replicas back
named_here replicas m back among = ap (λ b. cond b (m.name ∷ named_replicas replicas back) (named_replicas replicas back)) among

pub named_first : (replicas : List (List ℕ)) (xs : List Matcher) (i : ℕ) (m : Matcher) → named_replicas replicas (take i xs) ≡ [] → is_among replicas m.name ≡ true → i < length xs → m ≡ get_or xs i m
    → (others : List (List ℕ)) × (named_replicas replicas xs ≡ m.name ∷ others)
named_first replicas xs i m none among lt at = (
  named_replicas replicas (drop (i + 1) xs),
  ap (named_replicas replicas) (split_place xs i m lt at) ∙ named-append replicas (take i xs) (m ∷ drop (i + 1) xs)
      ∙ (λ k. none k ++ named_here replicas m (drop (i + 1) xs) among k),
)
