-- Texts that are put at multiples of a number of bytes, step by step.
use Rattle.std.proofs.Common.{◌≡◌, ℕ, suc, ◌+◌, ◌<◌, ◌≤◌, List, [], ◌∷◌, ◌++◌, length, get_or, drop, map, replicate, Result, Ok, Err, refl, sym, ap, ◌∙◌, subst, arith, length-append, append_assoc}
use Rattle.std.specs.Prelude.{IfOk}
use Rattle.std.specs.Result.{IsErrAnd}
use Rattle.std.proofs.lemmas.List.{drop_all, append-nil}
use Rattle.index_writing.specs.declared.write_refusal.IndexWriteRefusal.{IndexWriteRefusal}
use Rattle.index_writing.specs.declared.write_refusal.IndexWriteRefusal.TheVariants.{TooLarge, NoMemory}
use Rattle.index_writing.specs.Aligned.{gap, padded, each_at, places_at}
use Rattle.index_writing.specs.WriteSteps.{greatest, Makes}
use Rattle.index_writing.proofs.Walks.{front_is}

-- ---- what a step comes to

-- what is too long is not shorter with more behind it
pub makes_longer : (A : Type 0) {B : Type 0} (r : Result B IndexWriteRefusal) (given : IndexWriteRefusal) (made mine text whole : List ℕ) → IsErrAnd r (λ e. e ≡ given) → Makes {A = A} (Err given) made text → length text ≤ length whole → Makes r mine whole
makes_longer A (Ok x) _ _ _ _ _ is makes longer = absurd is
makes_longer A {B} (Err e) TooLarge _ mine _ whole is makes longer = subst (λ x. Makes {A = B} (Err x) mine whole) (sym is) (omega arith)
makes_longer A {B} (Err e) NoMemory _ mine _ whole is makes longer = subst (λ x. Makes {A = B} (Err x) mine whole) (sym is) tt

pub padded_longer : (unit : ℕ) (text : List ℕ) → length text ≤ length (padded unit text)
unfolding padded
padded_longer unit text = omega (arith, length-append text (replicate (gap unit (length text)) 0))

pub behind_longer : (unit : ℕ) (text next : List ℕ) → length text ≤ length (padded unit text ++ next)
behind_longer unit text next = omega (arith, padded_longer unit text, length-append (padded unit text) next)

pub each_longer : (unit : ℕ) (text : List ℕ) (texts : List (List ℕ)) → length text ≤ length (each_at unit text texts)
unfolding each_at
each_longer _ _ [] = omega arith
each_longer unit text (next ∷ texts) = omega (arith, each_longer unit (padded unit text ++ next) texts, behind_longer unit text next)

-- ---- a loop over what is put

-- What was put and what is still to be put is the whole; and so are the places, as numbers, behind some before them.
pub record SoFar {A : Type 0} (unit : ℕ) (text_of : A → List ℕ) (number : ℕ → ℕ) (start before : List ℕ) (all : List A) (i : ℕ) (out found : List ℕ) : Type 0 where
  pub rest : each_at unit out (map text_of (drop i all)) ≡ each_at unit start (map text_of all)
  pub places : found ++ map number (places_at unit out (map text_of (drop i all))) ≡ before ++ map number (places_at unit start (map text_of all))
  pub room : length out ≤ greatest

module _ {A : Type 0} {unit : ℕ} {text_of : A → List ℕ} {number : ℕ → ℕ} {start before : List ℕ} {all : List A} {i : ℕ} {out found : List ℕ} (so_far : SoFar unit text_of number start before all i out found) where
  next_rest : (x d : A) → i < length all → x ≡ get_or all i d → each_at unit (padded unit out ++ text_of x) (map text_of (drop (i + 1) all)) ≡ each_at unit start (map text_of all)
  unfolding each_at
  next_rest x d lt at = ap (λ l. each_at unit out (map text_of l)) (sym (front_is all i x d lt at)) ∙ so_far.rest

  pub so_far_step : (new more : List ℕ) (x d : A) (place : ℕ) → i < length all → x ≡ get_or all i d → Makes {A = ℕ} (Ok place) new (padded unit out ++ text_of x) → place ≡ number (length (padded unit out)) → more ≡ found ++ place ∷ [] → SoFar unit text_of number start before all (i + 1) new more
  unfolding places_at
  so_far_step new _ x d place lt at makes place_is more_is =
      let others = map text_of (drop (i + 1) all) in
      let behind = map number (places_at unit new others) in
      record {
        rest = ap (λ l. each_at unit l others) makes.0 ∙ next_rest x d lt at;
        places = ap (λ l. l ++ behind) more_is ∙ append_assoc found (place ∷ []) behind ∙ ap (λ n. found ++ n ∷ behind) place_is
            ∙ ap (λ l. found ++ number (length (padded unit out)) ∷ map number (places_at unit l others)) makes.0
            ∙ ap (λ l. found ++ map number (places_at unit out (map text_of l))) (sym (front_is all i x d lt at)) ∙ so_far.places;
        room = omega (arith, makes.1, ap length makes.0);
      }

  pub so_far_stop : {B : Type 0} (r : Result B IndexWriteRefusal) (given : IndexWriteRefusal) (new mine : List ℕ) (x d : A) → i < length all → x ≡ get_or all i d → Makes {A = ℕ} (Err given) new (padded unit out ++ text_of x) → IsErrAnd r (λ e. e ≡ given) → Makes r mine (each_at unit start (map text_of all))
  so_far_stop r _ _ mine x d lt at makes is =
      makes_longer ℕ r _ _ _ _ _ is makes (omega (arith, each_longer unit (padded unit out ++ text_of x) (map text_of (drop (i + 1) all)), ap length (next_rest x d lt at)))

  pub so_far_end : (B : Type 0) (result : B) → length all ≤ i → Makes {A = B} (Ok result) out (each_at unit start (map text_of all))
  unfolding each_at
  so_far_end B _ past =
      let whole : out ≡ each_at unit start (map text_of all) = sym (ap (λ l. each_at unit out (map text_of l)) (drop_all i all past)) ∙ so_far.rest in
      (whole, omega (arith, ap length whole, so_far.room))

  pub so_far_places : length all ≤ i → found ≡ before ++ map number (places_at unit start (map text_of all))
  unfolding places_at
  so_far_places past =
      sym (append-nil found) ∙ sym (ap (λ l. found ++ map number (places_at unit out (map text_of l))) (drop_all i all past)) ∙ so_far.places

-- ---- at once too large

pub behind_padding : (unit : ℕ) (out text : List ℕ) → ((before : List ℕ) → greatest < length (before ++ text)) → greatest < length (padded unit out ++ text)
behind_padding unit out _ large = large (padded unit out)

-- ---- one before the others

module _ (unit : ℕ) where
  pub first_stop : {B : Type 0} (r : Result B IndexWriteRefusal) (given : IndexWriteRefusal) (out new mine text : List ℕ) (texts : List (List ℕ)) → Makes {A = ℕ} (Err given) new (padded unit out ++ text) → IsErrAnd r (λ e. e ≡ given) → Makes r mine (each_at unit out (text ∷ texts))
  unfolding each_at
  first_stop r _ out _ _ text texts makes is = makes_longer ℕ r _ _ _ _ _ is makes (each_longer unit (padded unit out ++ text) texts)

  pub first_end : {B : Type 0} (r : Result B IndexWriteRefusal) (out new last text : List ℕ) (texts : List (List ℕ)) → Makes {A = ℕ} (Ok 0) new (padded unit out ++ text) → Makes r last (each_at unit new texts) → Makes r last (each_at unit out (text ∷ texts))
  unfolding each_at
  first_end r _ _ last _ texts made makes = subst (λ l. Makes r last (each_at unit l texts)) made.0 makes

  pub first_places : {E : Type 0} (r : Result (List ℕ) E) (out new : List ℕ) (first : ℕ) (text : List ℕ) (texts : List (List ℕ)) → Makes {A = ℕ} (Ok 0) new (padded unit out ++ text) → first ≡ length (padded unit out) → IfOk r (λ places. places ≡ first ∷ places_at unit new texts) → IfOk r (λ places. places ≡ places_at unit out (text ∷ texts))
  unfolding places_at
  first_places (Ok places) out new _ _ texts made is places_are = places_are ∙ ap (λ n. n ∷ places_at unit new texts) is ∙ ap (λ l. length (padded unit out) ∷ places_at unit l texts) made.0
  first_places (Err e) _ _ _ _ _ made is places_are = tt

pub places_many : (unit : ℕ) (text : List ℕ) (texts : List (List ℕ)) → length (places_at unit text texts) ≡ length texts
unfolding places_at
places_many _ _ [] = refl
places_many unit text (next ∷ texts) = ap suc (places_many unit (padded unit text ++ next) texts)
