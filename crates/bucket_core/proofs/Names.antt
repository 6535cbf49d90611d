-- The names of keys.
use Rattle.std.proofs.Common.{◌≡◌, ℕ, ◌+◌, cond, List, [], ◌∷◌, ◌++◌, length, drop, refl, sym, ◌∙◌, ap, inl, inr, ◌≢◌, Option, Some, None, option_map}
use Rattle.std.specs.Option.{MatchOption, option_and_then}
use Rattle.std.specs.Str.Pattern.{FindsTextPrefix, LacksTextAt}
use Rattle.std.proofs.lemmas.Bool.{eqb-true, cases_Bool}
use denote.Ref.{Bor}
use Rattle.bucket_core.specs.Stored.{text_after}
use Rattle.base.proofs.Numbers.{equals_itself}

-- what follows a text is found
pub text_after-append : (p rest : List ℕ) → text_after p (p ++ rest) ≡ Some rest
text_after-append [] _ = refl
text_after-append (b ∷ p) rest = ap (λ t. cond t (text_after p (p ++ rest)) None) (equals_itself b) ∙ text_after-append p _

-- and what is found follows it
pub append-text_after : (p text rest : List ℕ) → text_after p text ≡ Some rest → text ≡ p ++ rest
append-text_after [] _ _ e = cc
append-text_after (b ∷ p) [] _ e = cc
append-text_after (b ∷ p) (f ∷ text) rest e =
    elim (cases_Bool _) [
      | inl same ↦ (let e' = sym (ap (λ t. cond t (text_after p text) None) same) ∙ e in
          let h = append-text_after p _ _ e' in
          let bf = eqb-true b f same in
          ap (λ r. f ∷ r) h ∙ ap (λ x. x ∷ (p ++ rest)) (sym bf))
      | inr differs ↦ (let e' = sym (ap (λ t. cond t (text_after p text) None) differs) ∙ e in cc)
    ]

none_if : {A : Type 0} (o : Option A) → ((x : A) → o ≡ Some x → ⊥) → None ≡ o
none_if None never = refl
none_if (Some x) never = absurd (never x refl)

-- an answer that tells what follows the text, or that nothing does
pub text_after_is : (p text : List ℕ) (r : Option (Bor (List ℕ))) → MatchOption r ((rest : List ℕ) → text ≡ p ++ rest → ⊥) (λ x. text ≡ p ++ x.now)
    → option_map (λ x. x.now) r ≡ text_after p text
text_after_is p _ None none = none_if _ (λ rest e. none rest (append-text_after p _ _ e))
text_after_is p _ (Some x) is = sym (ap (text_after p) is ∙ text_after-append p _)

-- a text in two parts
pub text_after-both : (p q text : List ℕ) → text_after (p ++ q) text ≡ option_and_then (text_after q) (text_after p text)
text_after-both [] q _ = refl
text_after-both (b ∷ p) q [] = refl
text_after-both (b ∷ p) q (f ∷ text) =
    elim (cases_Bool _) [
      | inl same ↦ ap (λ t. cond t (text_after (p ++ q) text) None) same ∙ text_after-both p q _
          ∙ ap (λ t. option_and_then (text_after q) (cond t (text_after p text) None)) (sym same)
      | inr differs ↦ ap (λ t. cond t (text_after (p ++ q) text) None) differs
          ∙ ap (λ t. option_and_then (text_after q) (cond t (text_after p text) None)) (sym differs)
    ]

drop_none : (text : List ℕ) → drop 0 text ≡ text
drop_none [] = refl
drop_none (b ∷ text) = refl

-- the clause of `strip_prefix` at a text
pub stripped : (p text : List ℕ) (r : Option (Bor (List ℕ)))
    → MatchOption r (LacksTextAt p text 0) (λ x. (n : ℕ) × FindsTextPrefix p text (Some n) × (x.now ≡ drop n text) × (length x.now + n ≡ length text))
    → option_map (λ x. x.now) r ≡ text_after p text
stripped p _ None lacks = text_after_is p _ None (λ rest e. lacks rest (drop_none _ ∙ e))
stripped p _ (Some x) found = text_after_is p _ (Some x) (found.1.1 ∙ ap (λ r. p ++ r) (sym found.2))

-- the clause of `strip_prefix` at a slash
pub stripped_slash : (text : List ℕ) (r : Option (Bor (List ℕ))) → MatchOption r ((rest : List ℕ) → text ≢ 47 ∷ rest) (λ x. text ≡ 47 ∷ x.now)
    → option_map (λ x. x.now) r ≡ text_after (47 ∷ []) text
stripped_slash text None lacks = text_after_is (47 ∷ []) text None lacks
stripped_slash text (Some x) found = text_after_is (47 ∷ []) text (Some x) found
