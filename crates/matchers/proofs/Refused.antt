-- Why a text was refused, of what was read and built.
use Rattle.std.proofs.Common.{◌≡◌, ◌⊎◌, inl, inr, ℕ, ◌+◌, List, [], ◌∷◌, ◌++◌, length, map, Result, Ok, Err, refl, sym, ap, ◌∙◌, subst, arith, true, append_assoc}
use Rattle.std.specs.Prelude.{IsErrAnd, IfErr}
use Rattle.std.proofs.lemmas.List.{length-append, map-append}
use Rattle.std.proofs.lemmas.List.Concat.{flat_map-append}
use Rattle.base.proofs.Lists.{cons_parts, nil_not_middle}
use Rattle.label_sets.specs.Notation.{quoted}
use Rattle.matchers.specs.declared.asked.Asked.{Asked}
use Rattle.matchers.specs.declared.draft.Draft.{Draft}
use Rattle.matchers.specs.declared.matcher.Matcher.{Matcher}
use Rattle.matchers.specs.declared.selector_refusal.SelectorRefusal.{SelectorRefusal}
use Rattle.matchers.specs.declared.selector_refusal.SelectorRefusal.TheVariants.{BadSelector, BadPattern, PatternSize, ReplicaNamed, NoMemory}
use Rattle.matchers.specs.Patterns.{is_pattern}
use Rattle.matchers.specs.SelectorText.{asked_by, opening_text, matcher_text, comma_text, commas_text, AreListed, IsSelectorText, metric_part, are_lawful, named_replicas}
use Rattle.matchers.specs.SelectorRefusals.{HasPatternAt, IsReadable, IsRefused, IsGivenUp}
use Rattle.matchers.specs.Stages.{matcher_of, selector_of, read_whole}
use Rattle.matchers.specs.Building.{FirstUnbuilt, IsUnbuilt, IsUnbuiltList}
use Rattle.matchers.proofs.StageTexts.{opening_is, value_is, quoted_there, AreQuoted, IsClosed}
use Rattle.matchers.proofs.Stops.{IsWhole, read_is_whole, whole_is_text, refused_stops}

-- what a text is not read for
abbrev pub Fails : List ℕ → List (List ℕ) → SelectorRefusal → Type 0
Fails text replicas e = IsGivenUp text e ⊎ IsRefused text replicas e

pub no_memory : (text : List ℕ) (replicas : List (List ℕ)) (e : SelectorRefusal) → e ≡ NoMemory → Fails text replicas e
no_memory text replicas e none = subst (Fails text replicas) (sym none) (inl tt)

pub draft_fails : (text : List ℕ) (replicas : List (List ℕ)) (e : SelectorRefusal) → (e ≡ NoMemory) ⊎ (read_whole text ≡ Err e) → Fails text replicas e
draft_fails text replicas e (inl none) = no_memory text replicas e none
draft_fails text replicas e (inr h) = let stop = refused_stops text e h in subst (Fails text replicas) (sym stop.1) (inr stop.2)

-- ---- where a pattern stands

front_of : (xs front rest : List ℕ) (c d : ℕ) → xs ++ c ∷ [] ≡ front ++ d ∷ rest → (tail : List ℕ) × (xs ≡ front ++ tail)
front_of xs [] rest c d e = (xs, refl)
front_of [] (x ∷ front) rest c d e = absurd (nil_not_middle d front rest (cons_parts c x [] (front ++ d ∷ rest) e).1)
front_of (y ∷ xs) (x ∷ front) rest c d e =
    let parts = cons_parts y x (xs ++ c ∷ []) (front ++ d ∷ rest) e in
    let later = front_of xs front rest c d parts.1 in
    (later.0, λ i. parts.0 i ∷ later.1 i)

commas_parts : (before others : List Matcher) (m : Matcher) → commas_text (before ++ m ∷ others) ≡ (commas_text before ++ matcher_text m) ++ 44 ∷ commas_text others
commas_parts before others m =
    flat_map-append comma_text before (m ∷ others) ∙ ap (λ t. commas_text before ++ t) (append_assoc (matcher_text m) (44 ∷ []) (commas_text others))
    ∙ sym (append_assoc (commas_text before) (matcher_text m) (44 ∷ commas_text others))

in_list : (inside : List ℕ) (before others : List Matcher) (m : Matcher) → AreListed inside (before ++ m ∷ others) → (tail : List ℕ) × (inside ≡ (commas_text before ++ matcher_text m) ++ tail)
in_list inside before others m (inl all) = (44 ∷ commas_text others, all ∙ commas_parts before others m)
in_list inside before others m (inr less) = front_of inside (commas_text before ++ matcher_text m) (commas_text others) 44 44 (less ∙ commas_parts before others m)

-- the text up to the quote, and what is behind it
quote_parts : (metric front tail : List ℕ) (m : Matcher) → metric ++ 123 ∷ (((front ++ matcher_text m) ++ tail) ++ 125 ∷ []) ≡ (metric ++ 123 ∷ (front ++ opening_text m)) ++ 34 ∷ ((quoted (asked_by m.condition) ++ 34 ∷ []) ++ (tail ++ 125 ∷ []))
unfolding matcher_text
quote_parts metric front tail m =
    let value : List ℕ = quoted (asked_by m.condition) ++ 34 ∷ [] in
    ap (λ t. metric ++ 123 ∷ t)
    (append_assoc (front ++ (opening_text m ++ 34 ∷ value)) tail (125 ∷ [])
    ∙ append_assoc front (opening_text m ++ 34 ∷ value) (tail ++ 125 ∷ [])
    ∙ ap (λ t. front ++ t) (append_assoc (opening_text m) (34 ∷ value) (tail ++ 125 ∷ []))
    ∙ sym (append_assoc front (opening_text m) (34 ∷ (value ++ (tail ++ 125 ∷ [])))))
    ∙ sym (append_assoc metric (123 ∷ (front ++ opening_text m)) (34 ∷ (value ++ (tail ++ 125 ∷ []))))

module _ (text : List ℕ) (d : Draft) (e : SelectorRefusal) (first : FirstUnbuilt d.listed e) where
  abbrev before : List Matcher
  before = map matcher_of first.before

  abbrev here : Matcher
  here = matcher_of first.asked

  abbrev others : List Matcher
  others = map matcher_of first.others

  listed_is : map matcher_of d.listed ≡ before ++ here ∷ others
  listed_is = ap (map matcher_of) first.stands ∙ map-append matcher_of first.before (first.asked ∷ first.others)

  pattern_stands : IsClosed d.metric d.listed text → HasPatternAt text first.asked.quote here
  pattern_stands closed =
      let there = in_list closed.inside before others here (subst (AreListed closed.inside) listed_is closed.lists) in
      let quote = quoted_there (length d.metric + 1) first.before first.asked first.others (subst (AreQuoted (length d.metric + 1)) first.stands closed.read.placed) in
      record {
        metric = d.metric;
        before = before;
        others = others;
        is_text = subst (IsSelectorText text) (ap (λ ms. metric_part d.metric ++ ms) listed_is) (whole_is_text text d (inr closed));
        rest = (quoted (asked_by here.condition) ++ 34 ∷ []) ++ (there.0 ++ 125 ∷ []);
        stands = closed.text_is ∙ ap (λ t. d.metric ++ 123 ∷ (t ++ 125 ∷ [])) there.1 ∙ quote_parts d.metric (commas_text before) there.0 here;
        is_metric = closed.read.is_metric;
        place_is = omega (arith, quote, ap length (opening_is first.asked), length-append d.metric (123 ∷ (commas_text before ++ opening_text here)), length-append (commas_text before) (opening_text here));
        lawful = first.lawful;
        has_pattern = first.has_pattern;
      }

  none_listed : (listed : List Asked) → listed ≡ [] → listed ≡ first.before ++ first.asked ∷ first.others → ⊥
  none_listed listed none stands = nil_not_middle first.asked first.before first.others (sym none ∙ stands)

  at_quote : IsWhole d text → HasPatternAt text first.asked.quote here
  at_quote (inl r) = absurd (none_listed d.listed r.2 first.stands)
  at_quote (inr closed) = pattern_stands closed

same_pattern : (a : Asked) → is_pattern (asked_by (matcher_of a).condition) ≡ is_pattern a.value
same_pattern a = ap is_pattern (value_is a.operator a.value)

cause_fails : (text : List ℕ) (replicas : List (List ℕ)) (a : Asked) (e : SelectorRefusal) → HasPatternAt text a.quote (matcher_of a) → IsUnbuilt a.value a.quote e → Fails text replicas e
cause_fails text replicas a (BadPattern place) at why = inr (matcher_of a, subst (λ p. HasPatternAt text p (matcher_of a)) (sym why.0) at, same_pattern a ∙ why.1)
cause_fails text replicas a (PatternSize place) at why = inl (matcher_of a, subst (λ p. HasPatternAt text p (matcher_of a)) (sym why.0) at, same_pattern a ∙ why.1)
cause_fails text replicas a (BadSelector place) at why = absurd why
cause_fails text replicas a (ReplicaNamed name) at why = absurd why
cause_fails text replicas a NoMemory at why = absurd why

pub build_fails : (text : List ℕ) (replicas : List (List ℕ)) (d : Draft) (e : SelectorRefusal) → read_whole text ≡ Ok d → IsUnbuiltList d.listed e → Fails text replicas e
build_fails text replicas d e read (inl none) = no_memory text replicas e none
build_fails text replicas d e read (inr first) = cause_fails text replicas first.asked e (at_quote text d e first (read_is_whole text d read)) first.unbuilt

pub replica_fails : (text : List ℕ) (replicas : List (List ℕ)) (d : Draft) (made : List Matcher) (name : List ℕ) → read_whole text ≡ Ok d → made ≡ selector_of d → are_lawful made ≡ true
    → ((others : List (List ℕ)) × (named_replicas replicas made ≡ name ∷ others)) → Fails text replicas (ReplicaNamed name)
replica_fails text replicas d made name read is lawful named =
    inr (made, subst (IsSelectorText text) (sym is) (whole_is_text text d (read_is_whole text d read)), lawful, named)

pub matchers_found : (text : List ℕ) (replicas : List (List ℕ)) (d : Draft) (made : List Matcher) → read_whole text ≡ Ok d → made ≡ selector_of d → are_lawful made ≡ true → named_replicas replicas made ≡ []
    → IsReadable text replicas made
matchers_found text replicas d made read is lawful none = record {
  is_text = subst (IsSelectorText text) (sym is) (whole_is_text text d (read_is_whole text d read));
  lawful = lawful;
  no_replica = none;
}

-- ---- what the call answers

pub fails_on : {X : Type 0} (r : Result X SelectorRefusal) (text : List ℕ) (replicas : List (List ℕ)) (e : SelectorRefusal) → IsErrAnd r (λ d. d ≡ e) → Fails text replicas e → IfErr r (λ d. Fails text replicas d)
fails_on (Ok x) text replicas e is why = absurd is
fails_on (Err d) text replicas e is why = subst (Fails text replicas) (sym is) why

pub unread : (text bytes : List ℕ) (replicas : List (List ℕ)) (e : SelectorRefusal) → bytes ≡ text → (e ≡ NoMemory) ⊎ (read_whole bytes ≡ Err e) → Fails text replicas e
unread text bytes replicas e same why = subst (λ t. Fails t replicas e) same (draft_fails bytes replicas e why)

pub unbuilt : (text bytes : List ℕ) (replicas : List (List ℕ)) (d : Draft) (e : SelectorRefusal) → bytes ≡ text → read_whole bytes ≡ Ok d → IsUnbuiltList d.listed e → Fails text replicas e
unbuilt text bytes replicas d e same read why = subst (λ t. Fails t replicas e) same (build_fails bytes replicas d e read why)

pub named : (text bytes : List ℕ) (replicas : List (List ℕ)) (d : Draft) (made lent : List Matcher) (name copied : List ℕ) → bytes ≡ text → read_whole bytes ≡ Ok d → made ≡ selector_of d → are_lawful made ≡ true → lent ≡ made
    → ((others : List (List ℕ)) × (named_replicas replicas lent ≡ name ∷ others)) → copied ≡ name → Fails text replicas (ReplicaNamed copied)
named text bytes replicas d made lent name copied same read is lawful lends first copy =
    subst (λ n. Fails text replicas (ReplicaNamed n)) (sym copy)
    (subst (λ t. Fails t replicas (ReplicaNamed name)) same (replica_fails bytes replicas d made name read is lawful (first.0, ap (named_replicas replicas) (sym lends) ∙ first.1)))

pub found : (text bytes : List ℕ) (replicas : List (List ℕ)) (d : Draft) (made lent : List Matcher) → bytes ≡ text → read_whole bytes ≡ Ok d → made ≡ selector_of d → are_lawful made ≡ true → lent ≡ made
    → named_replicas replicas lent ≡ [] → IsReadable text replicas made
found text bytes replicas d made lent same read is lawful lends none =
    subst (λ t. IsReadable t replicas made) same (matchers_found bytes replicas d made read is lawful (ap (named_replicas replicas) (sym lends) ∙ none))
