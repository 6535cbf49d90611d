-- The texts of selectors, from which the selectors are read again.
use Rattle.std.proofs.Common.{◌≡◌, ℕ, zero, suc, ◌+◌, ◌<◌, ◌≤◌, List, [], ◌∷◌, ◌++◌, length, take, get_or, refl, sym, ap, subst, ◌∙◌, arith}
use Rattle.std.specs.Prelude.{Some, Result, Ok, Err, IfOk, slice_get}
use Rattle.std.specs.List.{AllZip}
use Rattle.std.proofs.lemmas.List.{take_all}
use Rattle.std.proofs.lemmas.List.Elements.{All-contains}
use Rattle.std.proofs.lemmas.Slice.Zip.{AllZip-long}
use Rattle.base.proofs.Lists.{take_place, slice_get-below}
use Rattle.base.proofs.Membership.{contains_place}
use Rattle.base.proofs.Pairs.{AllZip-push}
use Rattle.matchers.specs.SelectorRefusals.{IsGivenUp, IsReadable}
use Rattle.matchers.specs.declared.selector_refusal.SelectorRefusal.{SelectorRefusal}
use Rattle.matchers.specs.declared.selector_refusal.SelectorRefusal.TheVariants.{BadSelector, BadPattern, PatternSize, ReplicaNamed, NoMemory}
use Rattle.matchers.specs.SelectorText.{IsSelectorText}
use Rattle.matchers.specs.declared.matcher.Matcher.{Matcher}
use Rattle.script_core.specs.Lawful.{IsLawfulScript, IsLawfulSelector}
use Rattle.script_core.specs.declared.script.Script.{Script}
use Rattle.script_running.specs.Lending.{AreTextsOf}
use Rattle.script_running.proofs.Taking.{found}

abbrev IsTextOf : List Matcher → List ℕ → Type 0
IsTextOf selector text = IsSelectorText text selector

-- ---- as they are kept

pub none_kept : (texts : List (List ℕ)) → texts ≡ [] → AreTextsOf [] texts
none_kept texts none = subst (AreTextsOf []) (sym none) tt

pub one_kept : (selectors : List (List Matcher)) (number : ℕ) (selector : List Matcher) (texts more : List (List ℕ)) (text own : List ℕ) → number < length selectors → selector ≡ get_or selectors number selector → IsSelectorText text selector → own ≡ text
    → more ≡ texts ++ own ∷ [] → AreTextsOf (take number selectors) texts → AreTextsOf (take (number + 1) selectors) more
one_kept selectors number selector texts more text own below is spelled same are kept =
    let at = found selectors number number selector refl below is in
    subst (λ (l : List (List Matcher)). AreTextsOf l more) (sym (take_place selectors number selector at))
    (subst (AreTextsOf (take number selectors ++ selector ∷ [])) (sym are) (AllZip-push IsTextOf (take number selectors) texts selector own kept (subst (λ (t : List ℕ). IsSelectorText t selector) (sym same) spelled)))

pub all_kept : (selectors : List (List Matcher)) (number : ℕ) (texts : List (List ℕ)) → length selectors ≤ number → AreTextsOf (take number selectors) texts → AreTextsOf selectors texts
all_kept selectors number texts all kept = subst (λ (l : List (List Matcher)). AreTextsOf l texts) (take_all number selectors all) kept

-- ---- as they are read

pub zip_at : {A B : Type 0} (R : A → B → Type 0) (xs : List A) (ys : List B) (n : ℕ) (x : A) (y : B) → AllZip R xs ys → slice_get xs n ≡ Some x → slice_get ys n ≡ Some y → R x y
zip_at R [] ys n x y all at and = absurd (cc (at))
zip_at R (a ∷ xs) [] n x y all at and = absurd all
zip_at R (a ∷ xs) (b ∷ ys) zero x y all at and = let one : a ≡ x = cc (at) in let other : b ≡ y = cc (and) in subst (λ v. R v y) one (subst (R a) other all.0)
zip_at R (a ∷ xs) (b ∷ ys) (suc n) x y all at and = zip_at R xs ys n x y all.1 at and

readable : (replicas : List (List ℕ)) (text : List ℕ) (selector : List Matcher) → IsLawfulSelector replicas selector → IsSelectorText text selector → IsReadable text replicas selector
readable replicas text selector lawful is = record { is_text = is; lawful = (lawful.1).lawful; no_replica = (lawful.1).no_replica }

read_so : {E : Type 0} (selectors : List (List Matcher)) (number : ℕ) (selector : List Matcher) (r : Result (List Matcher) E) → slice_get selectors number ≡ Some selector → IfOk r (λ read. read ≡ selector) → IfOk r (λ read. slice_get selectors number ≡ Some read)
read_so selectors number selector (Ok read) at same = at ∙ ap (λ s. Some s) (sym same)
read_so selectors number selector (Err e) at same = tt

pub texts_long : (selectors : List (List Matcher)) (texts : List (List ℕ)) → AreTextsOf selectors texts → length texts ≡ length selectors
texts_long selectors texts kept = AllZip-long IsTextOf selectors texts kept

module _ (script : Script) (texts replicas : List (List ℕ)) (number : ℕ) (lawful : IsLawfulScript script) (same : replicas ≡ script.rules.replicas) (kept : AreTextsOf script.selectors texts) (below : number < length script.selectors) where
  -- the text at a place is that of the selector there
  stands_there : (selector : List Matcher) × (slice_get script.selectors number ≡ Some selector) × ((text : List ℕ) × (slice_get texts number ≡ Some text) × IsReadable text replicas selector)
  stands_there =
      let s = slice_get-below script.selectors number below in
      let long = texts_long script.selectors texts kept in
      let t = slice_get-below texts number (omega (arith, long, below)) in
      let allowed = All-contains (IsLawfulSelector script.rules.replicas) script.selectors s.0 lawful.selectors (contains_place script.selectors number s.0 s.1) in
      (s.0, s.1, (t.0, t.1, subst (λ (l : List (List ℕ)). IsReadable t.0 l s.0) (sym same) (readable script.rules.replicas t.0 s.0 allowed (zip_at IsTextOf script.selectors texts number s.0 t.0 kept s.1 t.1))))

  pub read_before : (text : List ℕ) × (selector : List Matcher) × (slice_get texts number ≡ Some text) × IsReadable text replicas selector
  read_before = let (selector, is, (text, stands, may)) = stands_there in (text, selector, stands, may)

  -- what is read from it is the selector
  pub read_again : {E : Type 0} (r : Result (List Matcher) E) → ((text : List ℕ) (selector : List Matcher) → slice_get texts number ≡ Some text → IsReadable text replicas selector → IfOk r (λ read. read ≡ selector)) → IfOk r (λ read. slice_get script.selectors number ≡ Some read)
  read_again r reads = let (selector, is, (text, stands, may)) = stands_there in read_so script.selectors number selector r is (reads text selector stands may)

-- what is given up is memory, or a pattern's size
pub only_given_up : (text : List ℕ) (refusal : SelectorRefusal) → IsGivenUp text refusal → (refusal ≡ NoMemory → ⊥) → ((place : ℕ) → refusal ≡ PatternSize place → ⊥) → ⊥
only_given_up text (BadSelector place) given memory size = given
only_given_up text (BadPattern place) given memory size = given
only_given_up text (PatternSize place) given memory size = size place refl
only_given_up text (ReplicaNamed name) given memory size = given
only_given_up text NoMemory given memory size = memory refl
