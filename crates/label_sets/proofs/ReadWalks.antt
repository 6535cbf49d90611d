-- Walks over pairs, read as far as some place.
use Rattle.std.proofs.Common.{◌≡◌, ◌⊎◌, ℕ, zero, suc, ◌+◌, ◌<◌, List, [], ◌∷◌, ◌++◌, length, Result, Ok, Err, IfOk, IfErr, refl, sym, ap, ◌∙◌, subst, arith, append_assoc, append-nil, inr}
use Rattle.std.specs.Str.{IsUtf8}
use Rattle.label_sets.specs.declared.label.Label.{Label}
use Rattle.label_sets.specs.declared.label_refusal.LabelRefusal.{LabelRefusal}
use Rattle.label_sets.specs.declared.label_refusal.LabelRefusal.TheVariants.{NoMemory}
use Rattle.label_sets.specs.Notation.{rest_past, pair_at, pairs_at, on_pair, with_label, after_pair, at_comma, end_at}
use Rattle.label_sets.proofs.ReadPairs.{rest_past-only}
use Rattle.label_sets.proofs.Utf8Parts.{cut_rest}

-- The labels so far and what is still to read make the whole walk.
pub record IsOnTheWay (text : List ℕ) (labels : List Label) (pair : List ℕ) : Type 0 where
  pub left : ℕ
  pub enough : length pair < left
  pub whole : pairs_at (length text + 1) text ≡ (labels ++ (pairs_at left pair).0, (pairs_at left pair).1)

pub on_the_way_first : (text : List ℕ) (labels : List Label) → labels ≡ [] → IsOnTheWay text labels text
on_the_way_first text _ e = record { left = length text + 1; enough = omega arith; whole = λ i. (sym e i ++ (pairs_at (length text + 1) text).0, (pairs_at (length text + 1) text).1) }

-- a step of the walk
step : (n : ℕ) (pair : List ℕ) → length pair < n → (m : ℕ) × (n ≡ suc m) × (pairs_at n pair ≡ on_pair (pairs_at m) pair (pair_at pair))
unfolding pairs_at
step zero _ l = absurd (omega arith)
step (suc m) _ l = (m, refl, refl)

pub on_the_way_refused : (text : List ℕ) (labels after : List Label) (pair : List ℕ) (e : LabelRefusal) → IsOnTheWay text labels pair → after ≡ labels → pair_at pair ≡ Err e → pairs_at (length text + 1) text ≡ (after, Err (e, pair))
unfolding on_pair
on_the_way_refused _ labels _ pair e w same h =
    let s = step _ _ w.enough in
    let here = s.2 ∙ ap (on_pair (pairs_at s.0) pair) h in
    w.whole ∙ (λ i. (labels ++ (here i).0, (here i).1)) ∙ ap (λ ls. (ls, Err (e, pair))) (append-nil labels ∙ sym same)

pub on_the_way_more : (text : List ℕ) (labels after : List Label) (pair rest next : List ℕ) (l : Label) → IsOnTheWay text labels pair → pair_at pair ≡ Ok (l, rest) → after ≡ labels ++ l ∷ [] → rest_past 44 rest ≡ Ok next
    → length rest < length pair → IsOnTheWay text after next
unfolding on_pair with_label after_pair at_comma
on_the_way_more _ labels after pair rest next l w h a p short =
    let s = step _ _ w.enough in
    let here =
    s.2 ∙ ap (on_pair (pairs_at s.0) pair) h ∙ ap (λ r. with_label l (at_comma (pairs_at s.0) rest r)) p in
    record {
      left = s.0;
      enough = omega (arith, w.enough, s.1, short, ap length (rest_past-only 44 rest next p));
      whole = w.whole ∙ (λ i. (labels ++ (here i).0, (here i).1))
          ∙ ap (λ ls. (ls, (pairs_at s.0 next).1)) (sym (append_assoc labels (l ∷ []) (pairs_at s.0 next).0) ∙ ap (λ ls. ls ++ (pairs_at s.0 next).0) (sym a));
    }

pub on_the_way_ended : (text : List ℕ) (labels after : List Label) (pair rest : List ℕ) (l : Label) (e : LabelRefusal) (o : Result (List ℕ) (LabelRefusal × List ℕ)) → IsOnTheWay text labels pair → pair_at pair ≡ Ok (l, rest) → after ≡ labels ++ l ∷ []
    → rest_past 44 rest ≡ Err e → end_at rest ≡ ([], o) → pairs_at (length text + 1) text ≡ (after, o)
unfolding on_pair with_label after_pair at_comma
on_the_way_ended _ labels _ pair rest l e o w h a p q =
    let s = step _ _ w.enough in
    let here =
    s.2 ∙ ap (on_pair (pairs_at s.0) pair) h ∙ ap (λ r. with_label l (at_comma (pairs_at s.0) rest r)) p ∙ ap (with_label l) q in
    w.whole ∙ (λ i. (labels ++ (here i).0, (here i).1)) ∙ ap (λ ls. (ls, o)) (sym a)

pub past_utf8 : (byte : ℕ) (text rest : List ℕ) → byte < 128 → rest_past byte text ≡ Ok rest → IsUtf8 text → IsUtf8 rest
past_utf8 _ _ _ l p u = cut_rest [] _ _ l (subst IsUtf8 (rest_past-only _ _ _ p) u)

pub ended_ok : {T E : Type 0} (r : Result T E) (view : T → List ℕ) (text : List ℕ) (labels after : List Label) (pair rest : List ℕ) (l : Label) (e : LabelRefusal) → IsOnTheWay text labels pair → pair_at pair ≡ Ok (l, rest) → after ≡ labels ++ l ∷ []
    → rest_past 44 rest ≡ Err e → IfOk r (λ x. end_at rest ≡ ([], Ok (view x))) → IfOk r (λ x. pairs_at (length text + 1) text ≡ (after, Ok (view x)))
ended_ok (Ok x) _ _ _ _ _ _ l e w h a p q = on_the_way_ended _ _ _ _ _ l e _ w h a p q
ended_ok (Err x) _ _ _ _ _ _ l e w h a p q = tt

pub ended_err : {T E : Type 0} (r : Result T E) (why : E → LabelRefusal) (where_from : E → List ℕ) (text : List ℕ) (labels after : List Label) (pair rest : List ℕ) (l : Label) (e : LabelRefusal) → IsOnTheWay text labels pair → pair_at pair ≡ Ok (l, rest) → after ≡ labels ++ l ∷ []
    → rest_past 44 rest ≡ Err e → IfErr r (λ x. end_at rest ≡ ([], Err (why x, where_from x))) → IfErr r (λ x. (why x ≡ NoMemory) ⊎ (pairs_at (length text + 1) text ≡ (after, Err (why x, where_from x))))
ended_err (Ok x) _ _ _ _ _ _ _ l e w h a p q = tt
ended_err (Err x) _ _ _ _ _ _ _ l e w h a p q = inr (on_the_way_ended _ _ _ _ _ l e _ w h a p q)
