-- The digest and the mark of a list, number by number.
use Rattle.std.proofs.Common.{◌≡◌, ℕ, suc, zero, ◌+◌, ◌<◌, ◌≤◌, List, [], ◌∷◌, length, get_or, drop, refl, sym, ap, ◌∙◌, arith}
use Rattle.std.specs.Prelude.{fold}
use Rattle.std.proofs.lemmas.List.{drop_more}

pub folded_more : (f : ℕ → ℕ → ℕ) (xs : List ℕ) (place digest new number source whole : ℕ) → place < length xs → new ≡ f digest number → number ≡ source → source ≡ get_or xs place source
    → fold f digest (drop place xs) ≡ whole → fold f new (drop (place + 1) xs) ≡ whole
folded_more f xs place digest new number source whole below is same at so_far =
    ap (λ n. fold f n (drop (place + 1) xs)) (is ∙ ap (f digest) (same ∙ at))
    ∙ sym (ap (fold f digest) (drop_more xs place source below)) ∙ so_far

none_left : (xs : List ℕ) (place : ℕ) → length xs ≤ place → drop place xs ≡ []
none_left [] zero past = refl
none_left [] (suc place) past = refl
none_left (x ∷ xs) zero past = absurd (omega (arith, past))
none_left (x ∷ xs) (suc place) past = none_left xs place (omega (arith, past))

pub folded_all : (f : ℕ → ℕ → ℕ) (xs : List ℕ) (place digest whole : ℕ) → length xs ≤ place → fold f digest (drop place xs) ≡ whole → digest ≡ whole
folded_all f xs place digest whole past so_far = sym (ap (fold f digest) (none_left xs place past)) ∙ so_far
