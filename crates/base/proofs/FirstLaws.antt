-- Lists whose members are read or tested one by one: what the functions give is what the relations say.
use Rattle.std.proofs.Common.{◌≡◌, ℕ, zero, suc, List, [], ◌∷◌, ◌++◌, length, Option, None, Some, Result, Ok, Err, refl, sym, ap, subst, ◌∙◌, get_or, ◌+◌, ◌<◌, ◌≤◌, ◌⊎◌, inl, inr, arith}
use Rattle.std.specs.Prelude.{slice_get, take, drop, option_map}
use Rattle.std.specs.List.{AllByRecursion, AllZip}
use Rattle.std.proofs.lemmas.List.{take_more, take_all, drop_more, length-take-le, take-append-drop}
use Rattle.base.specs.Reading.{◌>>=◌, refused_as}
use Rattle.base.proofs.Binds.{bind_ok, ok_is, refused_as_ok}
use Rattle.base.specs.Firsts.{IsFirstAt, each_at, or_else, first_at}

pub some_is : {A : Type 0} (x y : A) → ◌≡◌ {A = Option A} (Some x) (Some y) → x ≡ y
some_is x y e = cc

pub nothing_there : {A : Type 0} (k : ℕ) (x : A) → slice_get {X = A} [] k ≡ Some x → ⊥
nothing_there k x e = absurd cc

first_bad : {A : Type 0} (Good Bad : A → Type 0) (x : A) (xs : List A) → Bad x → IsFirstAt Good Bad (x ∷ xs) 0
first_bad Good Bad x _ bad = record { member = x; stands = refl; bad = bad; before = tt }

later_bad : {A : Type 0} (Good Bad : A → Type 0) (x : A) (xs : List A) (k : ℕ) → Good x → IsFirstAt Good Bad xs k → IsFirstAt Good Bad (x ∷ xs) (suc k)
later_bad Good Bad x _ k good is = record { member = is.member; stands = is.stands; bad = is.bad; before = (good, is.before) }

pub bad_head : {A : Type 0} (Good Bad : A → Type 0) (x : A) (xs : List A) → IsFirstAt Good Bad (x ∷ xs) 0 → Bad x
bad_head Good Bad x _ is = subst Bad (sym (some_is x _ is.stands)) is.bad

pub bad_tail : {A : Type 0} (Good Bad : A → Type 0) (x : A) (xs : List A) (k : ℕ) → IsFirstAt Good Bad (x ∷ xs) (suc k) → Good x × IsFirstAt Good Bad xs k
bad_tail Good Bad x _ k is = (is.before.0, record { member = is.member; stands = is.stands; bad = is.bad; before = is.before.1 })

-- ---- reading

-- what a reading function says of a member: what it is read as, and why it is refused
pub record Tells {A B E : Type 0} (read : A → Result B E) (Good : A → B → Type 0) (Bad : A → E → Type 0) : Type 0 where
  pub found : (x : A) (y : B) → read x ≡ Ok y → Good x y
  pub again : (x : A) (y : B) → Good x y → read x ≡ Ok y
  pub refused : (x : A) (e : E) → read x ≡ Err e → Bad x e
  pub refuses : (x : A) (e : E) → Bad x e → read x ≡ Err e

-- the refusal of the first member, or of those behind it
refused_parts : {B E : Type 0} (first : Result B E) (others : Result (List B) (ℕ × E)) (r : ℕ × E)
    → (refused_as (λ (e : E). (0, e)) first >>= λ y. (refused_as (λ (s : ℕ × E). (suc s.0, s.1)) others >>= λ ys. Ok (y ∷ ys))) ≡ Err r
    → ((e : E) × (first ≡ Err e) × ((0, e) ≡ r)) ⊎ ((y : B) × (s : ℕ × E) × (first ≡ Ok y) × (others ≡ Err s) × ((suc s.0, s.1) ≡ r))
refused_parts (Err e) _ r h = inl (e, refl, cc)
refused_parts (Ok y) (Err s) r h = inr (y, s, refl, refl, cc)
refused_parts (Ok y) (Ok ys) r h = absurd cc

module _ {A B E : Type 0} (read : A → Result B E) (Good : A → B → Type 0) (Bad : A → E → Type 0) (tells : Tells read Good Bad) where
  pub each_found : (xs : List A) (ys : List B) → each_at read xs ≡ Ok ys → AllZip Good xs ys
  unfolding each_at
  each_found [] _ e = subst (λ zs. AllZip Good [] zs) (ok_is {E = ℕ × E} _ _ e) tt
  each_found (x ∷ xs) _ e =
      let one = bind_ok _ _ _ e in
      let others = bind_ok _ _ _ one.2 in
      let pair : AllZip Good (x ∷ xs) (one.0 ∷ others.0) = (tells.found x one.0 (refused_as_ok _ _ _ one.1), each_found xs _ (refused_as_ok _ _ _ others.1)) in
      subst (λ zs. AllZip Good (x ∷ xs) zs) (ok_is {E = ℕ × E} _ _ others.2) pair

  pub each_again : (xs : List A) (ys : List B) → AllZip Good xs ys → each_at read xs ≡ Ok ys
  unfolding each_at
  each_again [] [] are = refl
  each_again [] (y ∷ ys) are = absurd are
  each_again (x ∷ xs) [] are = absurd are
  each_again (x ∷ xs) (y ∷ ys) are = rw (tells.again x y are.0, each_again xs ys are.1) refl

  refused_by : (x : A) (xs : List A) (r : ℕ × E) → ((s : ℕ × E) → each_at read xs ≡ Err s → IsFirstAt (λ z. (y : B) × Good z y) (λ z. Bad z s.1) xs s.0)
      → ((e : E) × (read x ≡ Err e) × ((0, e) ≡ r)) ⊎ ((y : B) × (s : ℕ × E) × (read x ≡ Ok y) × (each_at read xs ≡ Err s) × ((suc s.0, s.1) ≡ r))
      → IsFirstAt (λ z. (y : B) × Good z y) (λ z. Bad z r.1) (x ∷ xs) r.0
  refused_by x xs r behind (inl (e, is, same)) = subst (λ q. IsFirstAt (λ z. (y : B) × Good z y) (λ z. Bad z q.1) (x ∷ xs) q.0) same (first_bad _ _ x _ (tells.refused x e is))
  refused_by x xs r behind (inr (y, s, is, others, same)) =
      subst (λ q. IsFirstAt (λ z. (w : B) × Good z w) (λ z. Bad z q.1) (x ∷ xs) q.0) same (later_bad _ _ x _ _ (y, tells.found x y is) (behind s others))

  pub each_refused : (xs : List A) (r : ℕ × E) → each_at read xs ≡ Err r → IsFirstAt (λ z. (y : B) × Good z y) (λ z. Bad z r.1) xs r.0
  unfolding each_at
  each_refused [] r e = absurd cc
  each_refused (x ∷ xs) r e = refused_by x _ r (λ s f. each_refused xs s f) (refused_parts _ _ r e)

  pub each_refuses : (xs : List A) (k : ℕ) (e : E) → IsFirstAt (λ z. (y : B) × Good z y) (λ z. Bad z e) xs k → each_at read xs ≡ Err (k, e)
  unfolding each_at
  each_refuses [] k e is = absurd (nothing_there k _ is.stands)
  each_refuses (x ∷ xs) zero e is = rw (tells.refuses x e (bad_head _ _ x _ is)) refl
  each_refuses (x ∷ xs) (suc k) e is =
      let parts = bad_tail _ _ x _ k is in
      rw (tells.again x parts.0.0 parts.0.1, each_refuses xs k e parts.1) refl

  -- so a list of lists is told by what tells its members
  pub each_tells : Tells (each_at read) (AllZip Good) (λ (xs : List A) (r : ℕ × E). IsFirstAt (λ z. (y : B) × Good z y) (λ z. Bad z r.1) xs r.0)
  each_tells = record { found = each_found; again = each_again; refused = each_refused; refuses = λ xs r is. each_refuses xs r.0 r.1 is }

-- ---- testing

-- what a test says of a member: that it is good, or what is found at it
pub record Finds {A X : Type 0} (found : A → Option X) (Good : A → Type 0) (Bad : A → X → Type 0) : Type 0 where
  pub none : (x : A) → found x ≡ None → Good x
  pub passes : (x : A) → Good x → found x ≡ None
  pub some : (x : A) (e : X) → found x ≡ Some e → Bad x e
  pub finds : (x : A) (e : X) → Bad x e → found x ≡ Some e

abbrev pub joins : {X : Type 0} → Option X → Option (ℕ × X) → Option (ℕ × X)
joins {X} one others = or_else (option_map (λ e. (0, e)) one) (option_map (λ r. (suc r.0, r.1)) others)

none_parts : {X : Type 0} (one : Option X) (others : Option (ℕ × X)) → joins one others ≡ None → (one ≡ None) × (others ≡ None)
none_parts None None e = (refl, refl)
none_parts None (Some r) e = absurd cc
none_parts (Some x) _ e = absurd cc

some_parts : {X : Type 0} (one : Option X) (others : Option (ℕ × X)) (r : ℕ × X) → joins one others ≡ Some r
    → ((e : X) × (one ≡ Some e) × ((0, e) ≡ r)) ⊎ ((s : ℕ × X) × (one ≡ None) × (others ≡ Some s) × ((suc s.0, s.1) ≡ r))
some_parts None None r e = absurd cc
some_parts None (Some s) r e = inr (s, refl, refl, cc)
some_parts (Some x) _ r e = inl (x, refl, cc)

module _ {A X : Type 0} (found : A → Option X) (Good : A → Type 0) (Bad : A → X → Type 0) (finds : Finds found Good Bad) where
  pub all_good : (xs : List A) → first_at found xs ≡ None → AllByRecursion Good xs
  unfolding first_at
  all_good [] e = tt
  all_good (x ∷ xs) e = let parts = none_parts _ _ e in (finds.none x parts.0, all_good xs parts.1)

  pub all_pass : (xs : List A) → AllByRecursion Good xs → first_at found xs ≡ None
  unfolding first_at
  all_pass [] all = refl
  all_pass (x ∷ xs) all = rw (finds.passes x all.0, all_pass xs all.1) refl

  found_by : (x : A) (xs : List A) (r : ℕ × X) → ((s : ℕ × X) → first_at found xs ≡ Some s → IsFirstAt Good (λ z. Bad z s.1) xs s.0)
      → ((e : X) × (found x ≡ Some e) × ((0, e) ≡ r)) ⊎ ((s : ℕ × X) × (found x ≡ None) × (first_at found xs ≡ Some s) × ((suc s.0, s.1) ≡ r))
      → IsFirstAt Good (λ z. Bad z r.1) (x ∷ xs) r.0
  found_by x xs r behind (inl (e, is, same)) = subst (λ q. IsFirstAt Good (λ z. Bad z q.1) (x ∷ xs) q.0) same (first_bad _ _ x _ (finds.some x e is))
  found_by x xs r behind (inr (s, is, others, same)) =
      subst (λ q. IsFirstAt Good (λ z. Bad z q.1) (x ∷ xs) q.0) same (later_bad _ _ x _ _ (finds.none x is) (behind s others))

  pub first_found : (xs : List A) (r : ℕ × X) → first_at found xs ≡ Some r → IsFirstAt Good (λ z. Bad z r.1) xs r.0
  unfolding first_at
  first_found [] r e = absurd cc
  first_found (x ∷ xs) r e = found_by x _ r (λ s f. first_found xs s f) (some_parts _ _ r e)

  pub first_again : (xs : List A) (k : ℕ) (e : X) → IsFirstAt Good (λ z. Bad z e) xs k → first_at found xs ≡ Some (k, e)
  unfolding first_at
  first_again [] k e is = absurd (nothing_there k _ is.stands)
  first_again (x ∷ xs) zero e is = rw (finds.finds x e (bad_head _ _ x _ is)) refl
  first_again (x ∷ xs) (suc k) e is =
      let parts = bad_tail _ _ x _ k is in
      rw (finds.passes x parts.0, first_again xs k e parts.1) refl

-- ---- one more member

module _ {A B E : Type 0} (read : A → Result B E) where
  each_cons : (x : A) (xs : List A) (y : B) (ys : List B) → read x ≡ Ok y → each_at read xs ≡ Ok ys → each_at read (x ∷ xs) ≡ Ok (y ∷ ys)
  unfolding each_at
  each_cons x _ y _ e f = rw (e, f) refl

  each_parts : (x : A) (xs : List A) (ys : List B) → each_at read (x ∷ xs) ≡ Ok ys → (y : B) × (zs : List B) × (read x ≡ Ok y) × (each_at read xs ≡ Ok zs) × ((y ∷ zs) ≡ ys)
  unfolding each_at
  each_parts x _ _ e =
      let one = bind_ok _ _ _ e in
      let others = bind_ok _ _ _ one.2 in
      (one.0, others.0, refused_as_ok _ _ _ one.1, refused_as_ok _ _ _ others.1, ok_is {E = ℕ × E} _ _ others.2)

  nothing_read : each_at read [] ≡ Ok []
  unfolding each_at
  nothing_read = refl

  none_read : (ys : List B) → each_at read [] ≡ Ok ys → [] ≡ ys
  unfolding each_at
  none_read _ e = ok_is {E = ℕ × E} _ _ e

  pub each_push : (xs : List A) (ys : List B) (x : A) (y : B) → each_at read xs ≡ Ok ys → read x ≡ Ok y → each_at read (xs ++ x ∷ []) ≡ Ok (ys ++ y ∷ [])
  each_push [] _ x y e is = subst (λ bs. each_at read (x ∷ []) ≡ Ok (bs ++ y ∷ [])) (none_read _ e) (each_cons x _ y _ is nothing_read)
  each_push (z ∷ zs) _ x y e is =
      let parts = each_parts z _ _ e in
      subst (λ bs. each_at read ((z ∷ zs) ++ x ∷ []) ≡ Ok (bs ++ y ∷ [])) parts.4 (each_cons z _ _ (parts.1 ++ y ∷ []) parts.2 (each_push zs _ x y parts.3 is))

  pub each_many : (xs : List A) (ys : List B) → each_at read xs ≡ Ok ys → length xs ≡ length ys
  each_many [] _ e = ap (λ bs. length bs) (none_read _ e)
  each_many (x ∷ xs) _ e =
      let parts = each_parts x _ _ e in
      ap suc (each_many xs _ parts.3) ∙ ap (λ bs. length bs) parts.4

  pub each_stop : (xs zs : List A) (ys : List B) (x : A) (e : E) → each_at read xs ≡ Ok ys → read x ≡ Err e → each_at read (xs ++ x ∷ zs) ≡ Err (length xs, e)
  unfolding each_at
  each_stop [] _ _ x e so_far is = rw is refl
  each_stop (z ∷ xs) zs _ x e so_far is =
      let one = bind_ok _ _ _ so_far in
      let others = bind_ok _ _ _ one.2 in
      rw (refused_as_ok _ (read z) one.0 one.1, each_stop xs zs others.0 x e (refused_as_ok _ _ _ others.1) is) refl

module _ {A X : Type 0} (found : A → Option X) where
  pub none_push : (xs : List A) (x : A) → first_at found xs ≡ None → found x ≡ None → first_at found (xs ++ x ∷ []) ≡ None
  unfolding first_at
  none_push [] x e is = rw is refl
  none_push (z ∷ xs) x e is = let parts = none_parts _ _ e in rw (parts.0, none_push xs x parts.1 is) refl

  pub some_behind : (xs zs : List A) (x : A) (e : X) → first_at found xs ≡ None → found x ≡ Some e → first_at found (xs ++ x ∷ zs) ≡ Some (length xs, e)
  unfolding first_at
  some_behind [] _ x e none is = rw is refl
  some_behind (z ∷ xs) zs x e none is = let parts = none_parts _ _ none in rw (parts.0, some_behind xs zs x e parts.1 is) refl

  pub none_step : (xs : List A) (i : ℕ) (x d : A) → first_at found (take i xs) ≡ None → i < length xs → x ≡ get_or xs i d → found x ≡ None → first_at found (take (i + 1) xs) ≡ None
  none_step xs i x d none lt at is = ap (first_at found) (take_more _ i d lt ∙ ap (λ y. take i xs ++ y ∷ []) (sym at)) ∙ none_push _ x none is

  pub some_stop : (xs : List A) (i : ℕ) (x d : A) (e : X) → first_at found (take i xs) ≡ None → i < length xs → x ≡ get_or xs i d → found x ≡ Some e → first_at found xs ≡ Some (i, e)
  some_stop xs i x d e none lt at is =
      ap (first_at found) (sym (take-append-drop i _) ∙ ap (λ ys. take i xs ++ ys) (drop_more xs i d lt ∙ ap (λ y. y ∷ drop (i + 1) xs) (sym at)))
      ∙ some_behind _ _ x e none is ∙ ap (λ n. Some (n, e)) (length-take-le i _ (omega arith))

  pub none_end : (xs : List A) (i : ℕ) → first_at found (take i xs) ≡ None → length xs ≤ i → first_at found xs ≡ None
  none_end xs i none le = ap (first_at found) (sym (take_all i xs le)) ∙ none
