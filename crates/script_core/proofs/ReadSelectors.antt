-- What is read of the text of a selector is what its relations say.
use Rattle.std.proofs.Common.{◌≡◌, ℕ, Bool, true, false, ◌==◌, List, [], ◌∷◌, length, Result, Ok, Err, ◌⊎◌, inl, inr, refl, ap, ◌∙◌, subst, arith}
use Rattle.std.proofs.lemmas.Bool.Decides.{nat_tests}
use Rattle.base.specs.Reading.{◌>>=◌, ◌>>◌, unless, refused_as}
use Rattle.base.proofs.Binds.{bind_ok, unless_ok, ok_is, refused_as_ok}
use Rattle.matchers.specs.declared.matcher.Matcher.{Matcher}
use Rattle.matchers.specs.declared.selector_refusal.SelectorRefusal.{SelectorRefusal}
use Rattle.matchers.specs.declared.selector_refusal.SelectorRefusal.TheVariants as refusals
use Rattle.matchers.specs.SelectorRefusals.{IsReadable, IsGivenUp, IsRefused, StopsAt, HasBadPattern, NamesReplica}
use Rattle.matchers.specs.SelectorText.{IsSelectorText, are_lawful, named_replicas}
use Rattle.matchers.specs.Stages.{Next, read_whole, selector_of}
use Rattle.matchers.proofs.OneCause.{only_of, exact_of}
use Rattle.matchers.proofs.Stops.{read_is_whole, whole_is_text}
use Rattle.matchers.proofs.TextsRead.{text_is_read}
use Rattle.script_fields.specs.declared.cause.LineCause.{LineCause}
use Rattle.script_fields.specs.declared.cause.LineCause.TheVariants as causes
use Rattle.script_fields.specs.declared.line_refusal.LineRefusal.{LineRefusal}
use Rattle.script_fields.specs.declared.line_refusal.LineRefusal.TheVariants as lines
use Rattle.script_core.specs.GivenUp.{IsSelectorGivenUp}
use Rattle.script_fields.specs.LineRefusals.{bad}
use Rattle.script_core.specs.Lines.{selector_field}

-- what a selector is tested for once its text is read
abbrev tested : List (List ℕ) → List Matcher → Result (List Matcher) LineCause
tested replicas selector =
    unless (are_lawful selector) causes.BadPatternText
    >> (unless (length (named_replicas replicas selector) == 0) causes.ReplicaNamed >> Ok selector)

-- of what was read of a text
abbrev tested_read : List (List ℕ) → Next → Result (List Matcher) LineCause
tested_read replicas read = refused_as (λ _. causes.BadSelectorText) read >>= λ draft. tested replicas (selector_of draft)

field_is : (replicas : List (List ℕ)) (text : List ℕ) → selector_field replicas text ≡ tested_read replicas (read_whole text)
unfolding selector_field
field_is replicas text = refl

-- the text of a selector is read as it, and then tested
text_tested : (replicas : List (List ℕ)) (text : List ℕ) (selector : List Matcher) → IsSelectorText text selector → selector_field replicas text ≡ tested replicas selector
text_tested replicas text selector is =
    let read = text_is_read text selector is in
    field_is replicas text ∙ ap (tested_read replicas) read.is_read ∙ ap (tested replicas) read.gives

tested_by : (replicas : List (List ℕ)) (selector : List Matcher) (lawful none : Bool) → are_lawful selector ≡ lawful → (length (named_replicas replicas selector) == 0) ≡ none
    → tested replicas selector ≡ unless lawful causes.BadPatternText >> (unless none causes.ReplicaNamed >> Ok selector)
tested_by replicas selector lawful none one other =
    λ i. unless (one i) causes.BadPatternText >> (unless (other i) causes.ReplicaNamed >> Ok selector)

-- ---- what is lawful

pub selector_again : (replicas : List (List ℕ)) (text : List ℕ) (selector : List Matcher) → IsReadable text replicas selector → selector_field replicas text ≡ Ok selector
selector_again replicas text selector is =
    text_tested replicas text selector is.is_text
    ∙ tested_by replicas selector true true is.lawful (ap (λ (names : List (List ℕ)). length names == 0) is.no_replica)

none_named : (names : List (List ℕ)) → (length names == 0) ≡ true → names ≡ []
none_named [] none = refl
none_named (name ∷ names) none = absurd (grind (arith, nat_tests))

pub selector_found : (replicas : List (List ℕ)) (text : List ℕ) (selector : List Matcher) → selector_field replicas text ≡ Ok selector → IsReadable text replicas selector
unfolding selector_field
selector_found replicas text selector h =
    let a = bind_ok _ _ _ h in
    let b = unless_ok (are_lawful (selector_of a.0)) causes.BadPatternText _ _ a.2 in
    let c = unless_ok (length (named_replicas replicas (selector_of a.0)) == 0) causes.ReplicaNamed _ _ b.1 in
    let read : read_whole text ≡ Ok a.0 = refused_as_ok _ _ _ a.1 in
    let whole : IsReadable text replicas (selector_of a.0) = record {
      is_text = whole_is_text text a.0 (read_is_whole text a.0 read);
      lawful = b.0;
      no_replica = none_named (named_replicas replicas (selector_of a.0)) c.0;
    } in
    subst (IsReadable text replicas) (ok_is _ _ c.1) whole

-- ---- what is refused

stopped_by : (replicas : List (List ℕ)) (text : List ℕ) (place : ℕ) (read : Next) → read_whole text ≡ read → StopsAt text place → tested_read replicas read ≡ Err causes.BadSelectorText
stopped_by replicas text place (Ok draft) is stops =
    absurd (stops.no_selector (selector_of draft) (whole_is_text text draft (read_is_whole text draft is)))
stopped_by replicas text place (Err refusal) is stops = refl

stopped : (replicas : List (List ℕ)) (text : List ℕ) (place : ℕ) → StopsAt text place → selector_field replicas text ≡ Err causes.BadSelectorText
stopped replicas text place stops =
    field_is replicas text ∙ stopped_by replicas text place (read_whole text) refl stops

-- the selector of a text with a bad pattern is not lawful
module _ (replicas : List (List ℕ)) (text : List ℕ) (place : ℕ) (selector : List Matcher) (is : IsSelectorText text selector) (why : HasBadPattern text place) where
  unlawful_by : (names : List (List ℕ)) → named_replicas replicas selector ≡ names → are_lawful selector ≡ true → ⊥
  unlawful_by [] none lawful =
      only_of (λ (s : List Matcher). s) (Err (refusals.BadPattern place)) text replicas selector tt (inr why) (record { is_text = is; lawful = lawful; no_replica = none })
  unlawful_by (name ∷ names) named lawful =
      elim (exact_of (λ (s : List Matcher). s) (Err (refusals.BadPattern place)) text replicas (refusals.ReplicaNamed name) tt (inr why) (selector, is, lawful, (names, named))) [
        | inl given_up ↦ given_up
        | inr same ↦ absurd cc
      ]

  unlawful : (lawful : Bool) → are_lawful selector ≡ lawful → tested replicas selector ≡ Err causes.BadPatternText
  unlawful true test = absurd (unlawful_by (named_replicas replicas selector) refl test)
  unlawful false test = rw test refl

  refused_pattern : selector_field replicas text ≡ Err causes.BadPatternText
  refused_pattern = text_tested replicas text selector is ∙ unlawful (are_lawful selector) refl

bad_pattern : (replicas : List (List ℕ)) (text : List ℕ) (place : ℕ) → HasBadPattern text place → selector_field replicas text ≡ Err causes.BadPatternText
bad_pattern replicas text place why = refused_pattern replicas text place _ why.1.is_text why

some_named : (name : List ℕ) (names all : List (List ℕ)) → all ≡ name ∷ names → (length all == 0) ≡ false
some_named name names [] is = absurd cc
some_named name names (one ∷ more) is = grind (arith, nat_tests)

replica : (replicas : List (List ℕ)) (text name : List ℕ) → NamesReplica text replicas name → selector_field replicas text ≡ Err causes.ReplicaNamed
replica replicas text name why =
    text_tested replicas text why.0 why.1
    ∙ tested_by replicas why.0 true false why.2 (some_named name why.3.0 (named_replicas replicas why.0) why.3.1)

-- ---- what a call of the reader of selectors says of the line

-- the refusal of a line for one of its selector
abbrev pub of_selector : SelectorRefusal → LineRefusal
of_selector (refusals.BadSelector place) = lines.Bad causes.BadSelectorText
of_selector (refusals.BadPattern place) = lines.Bad causes.BadPatternText
of_selector (refusals.PatternSize place) = lines.Bad causes.PatternSizeText
of_selector (refusals.ReplicaNamed name) = lines.Bad causes.ReplicaNamed
of_selector refusals.NoMemory = lines.NoMemory

pub read_selector : (replicas : List (List ℕ)) (text : List ℕ) (selector : List Matcher) → IsReadable text replicas selector → bad (selector_field replicas text) ≡ Ok selector
read_selector replicas text selector is = ap bad (selector_again replicas text selector is)

pub refused_selector : (replicas : List (List ℕ)) (text : List ℕ) (refusal : SelectorRefusal) → IsGivenUp text refusal ⊎ IsRefused text replicas refusal
    → IsSelectorGivenUp text (of_selector refusal) ⊎ (bad (selector_field replicas text) ≡ Err (of_selector refusal))
refused_selector replicas text (refusals.BadSelector place) (inl given_up) = absurd given_up
refused_selector replicas text (refusals.BadSelector place) (inr why) = inr (ap bad (stopped replicas text place why))
refused_selector replicas text (refusals.BadPattern place) (inl given_up) = absurd given_up
refused_selector replicas text (refusals.BadPattern place) (inr why) = inr (ap bad (bad_pattern replicas text place why))
refused_selector replicas text (refusals.PatternSize place) (inl good) = inl (inr (refl, (place, good)))
refused_selector replicas text (refusals.PatternSize place) (inr why) = absurd why
refused_selector replicas text (refusals.ReplicaNamed name) (inl given_up) = absurd given_up
refused_selector replicas text (refusals.ReplicaNamed name) (inr why) = inr (ap bad (replica replicas text name why))
refused_selector replicas text refusals.NoMemory known = inl (inl refl)
