-- Where the entries of a list and of the lists that it is made of stand.
use Rattle.base.proofs.Membership.{contains_first}
use Rattle.std.proofs.Common.{◌≡◌, ◌⊎◌, inl, inr, suc, zero, Bool, true, false, List, [], ◌∷◌, ◌++◌, Contains, refl, ◌∙◌, ap, subst, arith}
use Rattle.std.specs.List.{AllZip, filter, zip}
use Rattle.std.proofs.lemmas.List.Elements.{filter-append, Contains-append_right}

-- a member of two lists one after the other stands in the first or in the second
pub split : {X : Type 0} (xs ys before after : List X) (x : X) → xs ++ ys ≡ before ++ x ∷ after
    → ((rest : List X) × (xs ≡ before ++ x ∷ rest) × (after ≡ rest ++ ys)) ⊎ ((more : List X) × (before ≡ xs ++ more) × (ys ≡ more ++ x ∷ after))
split [] ys before after x is = inr (before, refl, is)
split (y ∷ xs) ys [] after x is = let same : y ≡ x = cc (is) in inl (xs, cc (same), cc (is))
split (y ∷ xs) ys (z ∷ before) after x is =
    let same : y ≡ z = cc (is) in
    elim (split xs ys before after x (cc (is))) [
      | inl (rest, one, two) ↦ inl (rest, cc (same, one), two)
      | inr (more, one, two) ↦ inr (more, cc (same, one), two)
    ]

-- where a member of those that pass a test stands in the list
abbrev Unfiltered : {X : Type 0} → (X → Bool) → List X → List X → X → Type 0
Unfiltered {X} p xs before x = (front : List X) × (back : List X) × (xs ≡ front ++ x ∷ back) × (filter p front ≡ before)

unfilter_first : {X : Type 0} (p : X → Bool) (y : X) (xs : List X) (rest : (before after : List X) (x : X) → filter p xs ≡ before ++ x ∷ after → Unfiltered p xs before x) (before after : List X) (x : X) (b : Bool) → p y ≡ b
    → filter p (y ∷ xs) ≡ before ++ x ∷ after → Unfiltered p (y ∷ xs) before x
unfilter_first p y xs rest [] after x true test is =
    let e : y ∷ filter p xs ≡ x ∷ after = rw test at is in
    let same : y ≡ x = cc (e) in ([], xs, cc (same), refl)
unfilter_first p y xs rest (z ∷ before) after x true test is =
    let e : y ∷ filter p xs ≡ z ∷ before ++ x ∷ after = rw test at is in
    let same : y ≡ z = cc (e) in
    let tail = rest before after x (cc (e)) in
    (y ∷ tail.0, tail.1, ap (λ l. y ∷ l) tail.2, rw test (ap (λ l. y ∷ l) tail.3 ∙ ap (λ h. h ∷ before) same))
unfilter_first p y xs rest before after x false test is =
    let e : filter p xs ≡ before ++ x ∷ after = rw test at is in
    let tail = rest before after x e in
    (y ∷ tail.0, tail.1, ap (λ l. y ∷ l) tail.2, rw test tail.3)

pub unfilter : {X : Type 0} (p : X → Bool) (xs before after : List X) (x : X) → filter p xs ≡ before ++ x ∷ after → Unfiltered p xs before x
unfilter p [] [] after x is = absurd (cc (is))
unfilter p [] (z ∷ before) after x is = absurd (cc (is))
unfilter p (y ∷ xs) before after x is = unfilter_first p y xs (λ b a z same. unfilter p xs b a z same) before after x (p y) refl is

-- a member that passes a test stands among those that do, after those that do before it
pub filtered : {X : Type 0} (p : X → Bool) (front back : List X) (x : X) → p x ≡ true → filter p (front ++ x ∷ back) ≡ filter p front ++ x ∷ filter p back
filtered {X} p front back x test =
    let one : filter p (x ∷ back) ≡ x ∷ filter p back = rw test refl in
    filter-append p front (x ∷ back) ∙ ap (λ (l : List X). filter p front ++ l) one

-- what holds of two lists place by place holds of a pair of theirs
pub zipped : {A B : Type 0} (R : A → B → Type 0) (xs : List A) (ys : List B) (x : A) (y : B) → AllZip R xs ys → Contains (zip xs ys) (x, y) → R x y
zipped {A} {B} R [] ys x y all (k, below, is) = absurd (omega (arith, below))
zipped {A} {B} R (a ∷ xs) [] x y all (k, below, is) = absurd all
zipped {A} {B} R (a ∷ xs) (b ∷ ys) x y all (zero, below, is) = subst (R x) (ap (λ (p : A × B). p.1) is) (subst (λ z. R z b) (ap (λ (p : A × B). p.0) is) all.0)
zipped {A} {B} R (a ∷ xs) (b ∷ ys) x y all (suc k, below, is) = zipped R xs ys x y all.1 (k, omega (arith, below), is)

-- a member is where it stands
pub stands_in : {X : Type 0} (before after : List X) (x : X) → Contains (before ++ x ∷ after) x
stands_in before after x = Contains-append_right before (x ∷ after) x (contains_first x after)
