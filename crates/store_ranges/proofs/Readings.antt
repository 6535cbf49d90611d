-- Reading the members of a list one after another.
use Rattle.std.proofs.Common.{◌≡◌, ℕ, ◌+◌, ◌<◌, List, [], ◌∷◌, ◌++◌, take, drop, length, get_or, Option, Some, None, Result, Ok, Err, refl, sym, ap, subst, ◌∙◌, append_assoc, append-nil, arith}
use Rattle.std.specs.Prelude.{zip, IsErr}
use Rattle.std.proofs.lemmas.List.{take_more, drop_more, take-append-drop}
use Rattle.base.specs.Firsts.{each_at}
use Rattle.base.proofs.FirstLaws.{each_push, each_stop}
use Rattle.store_ranges.specs.Findings.{ReadsAs, ReadsBehind}

pub err_of : {A E : Type 0} (r : Result A E) → IsErr r → (e : E) × (r ≡ Err e)
err_of (Ok x) h = absurd (cc (h))
err_of (Err e) h = (e, refl)

pub is_err : {A E : Type 0} (r : Result A E) (e : E) → r ≡ Err e → IsErr r
is_err r e is = rw is refl

-- what was found, and where nothing was
pub some_read : {X A R : Type 0} (view : X → A) (read : Result A R) (found : Option X) (x : X) → found ≡ Some x → ReadsAs view read found → read ≡ Ok (view x)
some_read view read found x is reads = subst (ReadsAs view read) is reads

pub none_read : {X A R : Type 0} (view : X → A) (read : Result A R) (found : Option X) → found ≡ None → ReadsAs view read found → IsErr read
none_read view read found is reads = subst (ReadsAs view read) is reads

module _ {A B E : Type 0} (read : A → Result B E) (xs : List A) (i : ℕ) (d : A) where
  abbrev pub here : A
  here = get_or xs i d

  pub each_none : each_at read (take 0 xs) ≡ Ok []
  unfolding each_at
  each_none = refl

  pub each_more : (ys : List B) (y : B) → i < length xs → each_at read (take i xs) ≡ Ok ys → read here ≡ Ok y → each_at read (take (i + 1) xs) ≡ Ok (ys ++ y ∷ [])
  each_more ys y within was is = ap (each_at read) (take_more xs i d within) ∙ each_push read (take i xs) ys here y was is

  pub each_refused : (ys : List B) → i < length xs → each_at read (take i xs) ≡ Ok ys → IsErr (read here) → IsErr (each_at read xs)
  each_refused ys within was refused =
      let e = err_of (read here) refused in
      let whole : xs ≡ take i xs ++ here ∷ drop (i + 1) xs = sym (take-append-drop i xs) ∙ ap (λ (l : List A). take i xs ++ l) (drop_more xs i d within) in
      is_err (each_at read xs) (length (take i xs), e.0) (ap (each_at read) whole ∙ each_stop read (take i xs) (drop (i + 1) xs) ys here e.0 was e.1)

  -- behind others
  pub behind_none : (front : List B) → ReadsBehind (λ (l : List B). l) front (each_at read (take 0 xs)) (Some front)
  unfolding each_at
  behind_none front = ([], refl, sym (append-nil front))

  pub behind_more : (front all more : List B) (y : B) → i < length xs → ReadsBehind (λ (l : List B). l) front (each_at read (take i xs)) (Some all) → read here ≡ Ok y → more ≡ all ++ y ∷ [] → ReadsBehind (λ (l : List B). l) front (each_at read (take (i + 1) xs)) (Some more)
  behind_more front all more y within (ys, was, are) is so =
      (ys ++ y ∷ [], each_more ys y within was is, so ∙ ap (λ (l : List B). l ++ y ∷ []) are ∙ append_assoc front ys (y ∷ []))

pub zip_push : {G : Type 0} (xs : List ℕ) (ys : List G) (x : ℕ) (y : G) → length xs ≡ length ys → zip (xs ++ x ∷ []) (ys ++ y ∷ []) ≡ zip xs ys ++ (x, y) ∷ []
zip_push {G} [] [] x y same = refl
zip_push {G} [] (b ∷ ys) x y same = absurd (omega (arith, same))
zip_push {G} (a ∷ xs) [] x y same = absurd (omega (arith, same))
zip_push {G} (a ∷ xs) (b ∷ ys) x y same = ap (λ (l : List (ℕ × G)). (a, b) ∷ l) (zip_push xs ys x y (omega (arith, same)))
