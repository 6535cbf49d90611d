-- One more name at the end of names in order.
use Rattle.std.proofs.Common.{◌≡◌, ℕ, ◌-◌, ◌<◌, suc, Bool, true, List, [], ◌∷◌, ◌++◌, length, sym, ap, ◌∙◌, subst, arith, length-append}
use Rattle.std.specs.Prelude.{IsTrue, Some, slice_get}
use Rattle.std.specs.Cmp.Lexicographic.{slice_cmp}
use Rattle.std.specs.Ordering.{nat_cmp, is_lt}
use Rattle.std.proofs.lemmas.List.Elements.{All-append, All-cons, All-nil}
use Rattle.std.proofs.lemmas.Option.{same_Some}
use Rattle.base.proofs.Bools.{Less-from_is_lt}
use Rattle.base.specs.Order.{InOrderAfter, ComesAfter}
use Rattle.label_sets.specs.Labels.{ComesBefore, compare_texts}
use Rattle.dir_bucket.specs.Listings.{IsListing}
use Rattle.dir_bucket.specs.Names.{is_plain}

ascends_more : (after : List ℕ) (names : List (List ℕ)) (last name : List ℕ) → Some last ≡ slice_get names (length names - 1) → ComesBefore last name → InOrderAfter (ComesAfter compare_texts) (Some after) names → InOrderAfter (ComesAfter compare_texts) (Some after) (names ++ name ∷ [])
ascends_more after [] last name is before up = cc
ascends_more after (x ∷ []) last name is before up = (up.0, (subst (λ l. ComesBefore l name) (same_Some _ _ is) before, tt))
ascends_more after (x ∷ y ∷ ys) last name is before up =
    let behind : length (x ∷ y ∷ ys) - 1 ≡ suc (length ys) = omega arith in
    let within : length ys ≡ length (y ∷ ys) - 1 = omega arith in
    (up.0, ascends_more x (y ∷ ys) last name (is ∙ ap (slice_get (x ∷ y ∷ ys)) behind ∙ ap (slice_get (y ∷ ys)) within) before up.1)

-- a name that is greater than the last one
pub behind_last : (after : List ℕ) (names : List (List ℕ)) (last name : List ℕ) (less : Bool) → Some last ≡ slice_get names (length names - 1) → less ≡ is_lt (slice_cmp nat_cmp last name) → IsTrue less → InOrderAfter (ComesAfter compare_texts) (Some after) names → InOrderAfter (ComesAfter compare_texts) (Some after) (names ++ name ∷ [])
behind_last after names last name less is tested holds up = ascends_more after names last name is (Less-from_is_lt _ (sym tested ∙ holds)) up

-- a plain name where there is room
pub listing_more : (after : List ℕ) (limit : ℕ) (names more : List (List ℕ)) (name : List ℕ) → more ≡ names ++ name ∷ [] → length names < limit → is_plain name ≡ true
    → (InOrderAfter (ComesAfter compare_texts) (Some after) names → InOrderAfter (ComesAfter compare_texts) (Some after) (names ++ name ∷ [])) → IsListing after limit names → IsListing after limit more
listing_more after limit names more name same room plain up listing =
    subst (IsListing after limit) (sym same) (record {
      ascend = up listing.ascend;
      few = omega (arith, room, length-append names (name ∷ []));
      plain = All-append (λ x. is_plain x ≡ true) names (name ∷ []) listing.plain (All-cons (λ x. is_plain x ≡ true) name [] plain (All-nil (λ x. is_plain x ≡ true)));
    })
