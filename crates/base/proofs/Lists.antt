-- Lists, where the standard library has no lemma: parts at a place, filters, pairs, and what holds of each member.
use Rattle.std.proofs.Common.{◌≡◌, ◌≢◌, ◌⊎◌, inl, inr, ℕ, zero, suc, ◌+◌, ◌<◌, Bool, true, false, cond, List, [], ◌∷◌, ◌++◌, length, take, drop, map, zip, set, get_or, Some, refl, sym, ap, ◌∙◌, subst, arith, append_assoc, append-nil}
use Rattle.std.specs.Prelude.{slice_get, sum_by, option_map, ◌==◌}
use Rattle.std.specs.List.{All, AllByRecursion, filter, find, flat_map}
use Rattle.std.proofs.lemmas.Bool.{eqb-false, ne_eqb}
use Rattle.std.proofs.lemmas.List.{drop_more, take_more, take-append-drop, nil_from_length}
use Rattle.std.proofs.lemmas.List.Sums.{sum_by-append, sum_by-cons}
use Rattle.base.specs.Lists.{joined}
use Rattle.std.proofs.lemmas.List.Elements.{All-head, All-tail}
use Rattle.std.proofs.lemmas.Option.{slice_get_within, get_or_from_slice_get}
use Rattle.base.proofs.Bools.{by_bool}

-- ---- the first member and the others

pub cons_parts : {A : Type 0} (x y : A) (xs ys : List A) → x ∷ xs ≡ y ∷ ys → (x ≡ y) × (xs ≡ ys)
cons_parts x y xs ys e = (cc, cc)

pub cons_same : {A : Type 0} (x y : A) (xs ys : List A) → x ≡ y → xs ≡ ys → x ∷ xs ≡ y ∷ ys
cons_same x y xs ys e f = cc

pub nil_not_cons : {A : Type 0} (x : A) (xs : List A) → [] ≡ x ∷ xs → ⊥
nil_not_cons x xs e = absurd cc

pub nil_not_middle : {A : Type 0} (x : A) (xs ys : List A) → [] ≡ xs ++ x ∷ ys → ⊥
nil_not_middle x [] ys e = absurd cc
nil_not_middle x (y ∷ xs) ys e = absurd cc

pub middle_not_nil : {A : Type 0} (xs : List A) (y : A) (ys : List A) → xs ++ y ∷ ys ≡ [] → ⊥
middle_not_nil [] y ys e = absurd cc
middle_not_nil (x ∷ xs) y ys e = absurd cc

pub pushed_not_nil : {A : Type 0} (xs : List A) (x : A) → xs ++ x ∷ [] ≡ [] → ⊥
pushed_not_nil xs x e = middle_not_nil xs x [] e

-- a list is empty, or has a last member
pub last_or_none : {A : Type 0} (xs : List A) → (xs ≡ []) ⊎ ((others : List A) × (last : A) × (xs ≡ others ++ last ∷ []))
last_or_none [] = inl refl
last_or_none (x ∷ xs) =
    elim (last_or_none xs) [
      | inl none ↦ inr ([], x, ap (λ l. x ∷ l) none)
      | inr more ↦ inr (x ∷ more.0, more.1, ap (λ l. x ∷ l) more.2)
    ]

-- that a list is empty, by its length
pub some-from_length : {A : Type 0} (xs : List A) → (length xs == 0) ≡ false → xs ≢ []
some-from_length xs e none = eqb-false (length xs) 0 e (ap length none)

pub some-length : {A : Type 0} (xs : List A) → xs ≢ [] → 0 < length xs
some-length [] some = absurd (some refl)
some-length (x ∷ xs) some = omega arith

pub length-some : {A : Type 0} (xs : List A) → xs ≢ [] → (length xs == 0) ≡ false
length-some xs some = ne_eqb (length xs) 0 (λ e. some (nil_from_length xs e))

pub some-from_long : {A : Type 0} (xs : List A) → 0 < length xs → xs ≢ []
some-from_long [] long e = absurd (omega arith)
some-from_long (x ∷ xs) long e = cc

-- ---- parts at a place

pub take_none : {A : Type 0} (xs : List A) → take 0 xs ≡ []
take_none [] = refl
take_none (x ∷ xs) = refl

pub drop_none : {A : Type 0} (xs : List A) → drop 0 xs ≡ xs
drop_none [] = refl
drop_none (x ∷ xs) = refl

-- the member at a place is the first of what lies behind, and the last of the front that ends with it
pub drop_place : {A : Type 0} (xs : List A) (place : ℕ) (x : A) → slice_get xs place ≡ Some x → drop place xs ≡ x ∷ drop (place + 1) xs
drop_place xs place x at =
    drop_more xs place x (slice_get_within xs place x at) ∙ ap (λ (y : _). y ∷ drop (place + 1) xs) (get_or_from_slice_get xs place x x at)

pub take_place : {A : Type 0} (xs : List A) (place : ℕ) (x : A) → slice_get xs place ≡ Some x → take (place + 1) xs ≡ take place xs ++ x ∷ []
take_place xs place x at =
    take_more xs place x (slice_get_within xs place x at) ∙ ap (λ (y : _). take place xs ++ y ∷ []) (get_or_from_slice_get xs place x x at)

-- a list is what lies before a place, the member there, and what lies behind it
pub split_place : {A : Type 0} (xs : List A) (place : ℕ) (x : A) → place < length xs → x ≡ get_or xs place x → xs ≡ take place xs ++ x ∷ drop (place + 1) xs
split_place xs place x lt at =
    sym (take-append-drop place xs) ∙ ap (λ ys. take place xs ++ ys) (drop_more xs place x lt ∙ ap (λ y. y ∷ drop (place + 1) xs) (sym at))

-- below its length a list has a member, whatever would be taken elsewhere
pub slice_get-below : {A : Type 0} (xs : List A) (place : ℕ) → place < length xs → (x : A) × (slice_get xs place ≡ Some x)
slice_get-below [] place lt = absurd (omega (arith, lt))
slice_get-below (x ∷ xs) zero lt = (x, refl)
slice_get-below (x ∷ xs) (suc place) lt = slice_get-below xs place (omega (arith, lt))

pub get_or-any : {A : Type 0} (xs : List A) (place : ℕ) (x y : A) → place < length xs → get_or xs place x ≡ get_or xs place y
get_or-any [] place x y lt = absurd (omega (arith, lt))
get_or-any (z ∷ xs) zero x y lt = refl
get_or-any (z ∷ xs) (suc place) x y lt = get_or-any xs place x y (omega (arith, lt))

pub take_whole : {A : Type 0} (xs : List A) → take (length xs) xs ≡ xs
take_whole [] = refl
take_whole (x ∷ xs) = ap (λ l. x ∷ l) (take_whole xs)

-- a member of a front stands at the same place of the list
pub slice_get-take : {A : Type 0} (xs : List A) (count place : ℕ) (x : A) → slice_get (take count xs) place ≡ Some x → slice_get xs place ≡ Some x
slice_get-take [] zero place x at = absurd cc
slice_get-take [] (suc count) place x at = absurd cc
slice_get-take (y ∷ ys) zero place x at = absurd cc
slice_get-take (y ∷ ys) (suc count) zero x at = at
slice_get-take (y ∷ ys) (suc count) (suc place) x at = slice_get-take ys count place x at

pub slice_get-drop : {A : Type 0} (xs : List A) (count place : ℕ) → slice_get (drop count xs) place ≡ slice_get xs (count + place)
slice_get-drop xs zero place = let e : 0 + place ≡ place = omega arith in rw (e, drop_none xs) refl
slice_get-drop [] (suc count) place = refl
slice_get-drop (x ∷ xs) (suc count) place = let e : suc count + place ≡ suc (count + place) = omega arith in rw e (slice_get-drop xs count place)

-- what is put at a place changes no other
pub slice_get-set_other : {A : Type 0} (xs : List A) (i j : ℕ) (x : A) → j ≢ i → slice_get (set xs i x) j ≡ slice_get xs j
slice_get-set_other [] i j x differ = refl
slice_get-set_other (y ∷ ys) zero zero x differ = absurd (differ refl)
slice_get-set_other (y ∷ ys) zero (suc j) x differ = refl
slice_get-set_other (y ∷ ys) (suc i) zero x differ = refl
slice_get-set_other (y ∷ ys) (suc i) (suc j) x differ = slice_get-set_other ys i j x (λ e. differ (ap suc e))

pub map-push : {A B : Type 0} (f : A → B) (xs : List A) (x : A) → map f (xs ++ x ∷ []) ≡ map f xs ++ f x ∷ []
map-push f [] x = refl
map-push f (y ∷ xs) x = ap (λ l. f y ∷ l) (map-push f xs x)

pub flat_map-push : {A B : Type 0} (f : A → List B) (xs : List A) (x : A) → flat_map f (xs ++ x ∷ []) ≡ flat_map f xs ++ f x
flat_map-push f [] x = append-nil (f x)
flat_map-push f (y ∷ xs) x = ap (λ l. f y ++ l) (flat_map-push f xs x) ∙ sym (append_assoc (f y) (flat_map f xs) (f x))

pub joined-push : {A : Type 0} (parts : List (List A)) (part : List A) → joined (parts ++ part ∷ []) ≡ joined parts ++ part
joined-push parts part = flat_map-push (λ p. p) parts part

pub sum_by-push : {A : Type 0} (size : A → ℕ) (xs : List A) (x : A) → sum_by size (xs ++ x ∷ []) ≡ sum_by size xs + size x
sum_by-push size xs x = omega (arith, sum_by-append size xs (x ∷ []), sum_by-cons size x [])

-- ---- filters and finds

pub filter_hit : {A : Type 0} (p : A → Bool) (x : A) (xs : List A) → p x ≡ true → filter p (x ∷ xs) ≡ x ∷ filter p xs
filter_hit p x xs h = ap (λ b. cond b (x ∷ filter p xs) (filter p xs)) h

pub filter_miss : {A : Type 0} (p : A → Bool) (x : A) (xs : List A) → p x ≡ false → filter p (x ∷ xs) ≡ filter p xs
filter_miss p x xs h = ap (λ b. cond b (x ∷ filter p xs) (filter p xs)) h

pub filter-map : {A B : Type 0} (p : B → Bool) (f : A → B) (xs : List A) → filter p (map f xs) ≡ map f (filter (λ x. p (f x)) xs)
filter-map p f [] = refl
filter-map p f (x ∷ xs) = by_bool (p (f x))
    (λ t. filter_hit p (f x) (map f xs) t ∙ ap (λ l. f x ∷ l) (filter-map p f xs) ∙ sym (ap (map f) (filter_hit (λ y. p (f y)) x xs t)))
    (λ t. filter_miss p (f x) (map f xs) t ∙ filter-map p f xs ∙ sym (ap (map f) (filter_miss (λ y. p (f y)) x xs t)))

pub filter_twice : {A : Type 0} (p q : A → Bool) (xs : List A) → filter p (filter q xs) ≡ filter q (filter p xs)
filter_twice p q [] = refl
filter_twice p q (x ∷ xs) = by_bool (p x)
    (λ t. by_bool (q x)
    (λ u. ap (filter p) (filter_hit q x xs u) ∙ filter_hit p x (filter q xs) t ∙ ap (λ l. x ∷ l) (filter_twice p q xs) ∙ sym (ap (filter q) (filter_hit p x xs t) ∙ filter_hit q x (filter p xs) u))
    (λ u. ap (filter p) (filter_miss q x xs u) ∙ filter_twice p q xs ∙ sym (ap (filter q) (filter_hit p x xs t) ∙ filter_miss q x (filter p xs) u)))
    (λ t. by_bool (q x)
    (λ u. ap (filter p) (filter_hit q x xs u) ∙ filter_miss p x (filter q xs) t ∙ filter_twice p q xs ∙ sym (ap (filter q) (filter_miss p x xs t)))
    (λ u. ap (filter p) (filter_miss q x xs u) ∙ filter_twice p q xs ∙ sym (ap (filter q) (filter_miss p x xs t))))

-- where every member passes, and where none does
pub filter_all : {A : Type 0} (p : A → Bool) (xs : List A) → All (λ x. p x ≡ true) xs → filter p xs ≡ xs
filter_all p [] all = refl
filter_all p (x ∷ xs) all =
    filter_hit p x xs (All-head (λ x. p x ≡ true) x xs all) ∙ ap (λ l. x ∷ l) (filter_all p xs (All-tail (λ x. p x ≡ true) x xs all))

pub filter_none : {A : Type 0} (p : A → Bool) (xs : List A) → All (λ x. p x ≡ false) xs → filter p xs ≡ []
filter_none p [] all = refl
filter_none p (x ∷ xs) all =
    filter_miss p x xs (All-head (λ x. p x ≡ false) x xs all) ∙ filter_none p xs (All-tail (λ x. p x ≡ false) x xs all)

pub find-map : {A B : Type 0} (p : B → Bool) (f : A → B) (xs : List A) → find p (map f xs) ≡ option_map f (find (λ x. p (f x)) xs)
find-map p f [] = refl
find-map p f (x ∷ xs) = by_bool (p (f x)) (λ t. rw t refl) (λ g. rw g (find-map p f xs))

-- what is found passes, and has what every member has
found_first : {A : Type 0} (P : A → Type 0) (p : A → Bool) (x : A) (xs : List A) (y : A) (b : Bool) → p x ≡ b → (p x ≡ true → P x) → (find p xs ≡ Some y → P y) → find p (x ∷ xs) ≡ Some y → P y
found_first P p x xs y true test own later is = let same : x ≡ y = cc (rw test at is) in subst P same (own test)
found_first P p x xs y false test own later is = later (rw test at is)

pub find_passes : {A : Type 0} (p : A → Bool) (xs : List A) (y : A) → find p xs ≡ Some y → p y ≡ true
find_passes p [] y is = absurd cc
find_passes p (x ∷ xs) y is = found_first (λ z. p z ≡ true) p x xs y (p x) refl (λ test. test) (find_passes p xs y) is

pub find_holds : {A : Type 0} (P : A → Type 0) (p : A → Bool) (xs : List A) (y : A) → All P xs → find p xs ≡ Some y → P y
find_holds P p [] y all is = absurd cc
find_holds P p (x ∷ xs) y all is = found_first P p x xs y (p x) refl (λ _. All-head P x xs all) (find_holds P p xs y (All-tail P x xs all)) is

-- ---- pairs

pub zip_firsts : {A B : Type 0} (xs : List A) (ys : List B) → length xs ≡ length ys → map (λ (p : A × B). p.0) (zip xs ys) ≡ xs
zip_firsts [] ys e = refl
zip_firsts (x ∷ xs) [] e = absurd (omega arith)
zip_firsts {A} (x ∷ xs) (y ∷ ys) e = ap (λ (zs : List A). x ∷ zs) (zip_firsts xs ys (omega arith))

pub zip_seconds : {A B : Type 0} (xs : List A) (ys : List B) → length xs ≡ length ys → map (λ (p : A × B). p.1) (zip xs ys) ≡ ys
zip_seconds [] [] e = refl
zip_seconds [] (y ∷ ys) e = absurd (omega arith)
zip_seconds (x ∷ xs) [] e = absurd (omega arith)
zip_seconds {A} {B} (x ∷ xs) (y ∷ ys) e = ap (λ (zs : List B). y ∷ zs) (zip_seconds xs ys (omega arith))

pub zip_parts : {A B : Type 0} (ps : List (A × B)) → zip (map (λ p. p.0) ps) (map (λ p. p.1) ps) ≡ ps
zip_parts [] = refl
zip_parts {A} {B} (p ∷ ps) = ap (λ (qs : List (A × B)). p ∷ qs) (zip_parts ps)

pub length-zip : {A B : Type 0} (xs : List A) (ys : List B) → length xs ≡ length ys → length (zip xs ys) ≡ length xs
length-zip [] ys e = refl
length-zip (x ∷ xs) [] e = absurd (omega arith)
length-zip (x ∷ xs) (y ∷ ys) e = ap suc (length-zip xs ys (omega arith))

-- ---- what holds of each member, member by member

pub AllByRecursion-append : {A : Type 0} (P : A → Type 0) (xs ys : List A) → AllByRecursion P xs → AllByRecursion P ys → AllByRecursion P (xs ++ ys)
AllByRecursion-append P [] ys all more = more
AllByRecursion-append P (x ∷ xs) ys all more = (all.0, AllByRecursion-append P xs ys all.1 more)

pub AllByRecursion-push : {A : Type 0} (P : A → Type 0) (xs : List A) (x : A) → AllByRecursion P xs → P x → AllByRecursion P (xs ++ x ∷ [])
AllByRecursion-push P xs x all one = AllByRecursion-append P xs (x ∷ []) all (one, tt)

pub AllByRecursion-append_right : {A : Type 0} (P : A → Type 0) (xs ys : List A) → AllByRecursion P (xs ++ ys) → AllByRecursion P ys
AllByRecursion-append_right P [] ys all = all
AllByRecursion-append_right P (x ∷ xs) ys all = AllByRecursion-append_right P xs ys all.1

pub AllByRecursion-at : {A : Type 0} (P : A → Type 0) (xs : List A) (k : ℕ) (d : A) → AllByRecursion P xs → k < length xs → P (get_or xs k d)
AllByRecursion-at P [] k d all lt = absurd (omega arith)
AllByRecursion-at P (x ∷ xs) zero d all lt = all.0
AllByRecursion-at P (x ∷ xs) (suc k) d all lt = AllByRecursion-at P xs k d all.1 (omega arith)

pub AllByRecursion-weaker : {A : Type 0} (P Q : A → Type 0) → ((x : A) → P x → Q x) → (xs : List A) → AllByRecursion P xs → AllByRecursion Q xs
AllByRecursion-weaker P Q each [] all = tt
AllByRecursion-weaker P Q each (x ∷ xs) all = (each x all.0, AllByRecursion-weaker P Q each xs all.1)

pub AllByRecursion-map : {A B : Type 0} (P : A → Type 0) (Q : B → Type 0) (f : A → B) → ((x : A) → P x → Q (f x)) → (xs : List A) → AllByRecursion P xs → AllByRecursion Q (map f xs)
AllByRecursion-map P Q f each [] all = tt
AllByRecursion-map P Q f each (x ∷ xs) all = (each x all.0, AllByRecursion-map P Q f each xs all.1)

-- ---- and at both sides of `++`

pub All-append_left : {A : Type 0} (P : A → Type 0) (xs ys : List A) → All P (xs ++ ys) → All P xs
All-append_left P [] ys all k d lt = absurd (omega arith)
All-append_left P (x ∷ xs) ys all zero d lt = all 0 d (omega arith)
All-append_left P (x ∷ xs) ys all (suc k) d lt = All-append_left P xs ys (All-tail P x (xs ++ ys) all) k d (omega arith)

pub All-append_right : {A : Type 0} (P : A → Type 0) (xs ys : List A) → All P (xs ++ ys) → All P ys
All-append_right P [] ys all = all
All-append_right P (x ∷ xs) ys all = All-append_right P xs ys (All-tail P x (xs ++ ys) all)
