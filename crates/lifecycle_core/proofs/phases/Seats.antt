-- The entries of a seat, among entries that were all made by one.
use Rattle.std.proofs.lemmas.List.Elements.{filter-append}
use Rattle.base.proofs.Lists.{filter_all, filter_none}
use Rattle.std.proofs.Common.{◌≡◌, ◌≢◌, ℕ, Bool, true, false, List, ◌++◌, get_or, sym, ◌∙◌, ap}
use Rattle.std.specs.Prelude.{◌==◌}
use Rattle.std.specs.List.{All, filter}
use Rattle.std.proofs.lemmas.Bool.{eq-eqb, ne_eqb}
use Rattle.world_core.specs.declared.entry.Entry.{Entry}
use Rattle.world_core.specs.Journals.{of_seat}

filter_front : {X : Type 0} (p : X → Bool) (xs ys : List X) → All (λ x. p x ≡ true) xs → filter p (xs ++ ys) ≡ xs ++ filter p ys
filter_front p xs ys all = filter-append p xs ys ∙ ap (λ l. l ++ filter p ys) (filter_all p xs all)

filter_back : {X : Type 0} (p : X → Bool) (xs ys : List X) → All (λ x. p x ≡ false) xs → filter p (xs ++ ys) ≡ filter p ys
filter_back p xs ys all = filter-append p xs ys ∙ ap (λ l. l ++ filter p ys) (filter_none p xs all)

made_own : (s t : ℕ) (made : List Entry) → All (λ e. e.seat ≡ t) made → t ≡ s → All (λ e. (e.seat == s) ≡ true) made
made_own s t made all e = λ k d below. eq-eqb (get_or made k d).seat s (all k d below ∙ e)

made_other : (s t : ℕ) (made : List Entry) → All (λ e. e.seat ≡ t) made → t ≢ s → All (λ e. (e.seat == s) ≡ false) made
made_other s t made all e = λ k d below. ne_eqb (get_or made k d).seat s (λ q. e (sym (all k d below) ∙ q))

pub own_first : (s t : ℕ) (made others : List Entry) → All (λ e. e.seat ≡ t) made → t ≡ s → of_seat s (made ++ others) ≡ made ++ of_seat s others
own_first s t made others all e = filter_front (λ x. x.seat == s) made others (made_own s t made all e)

pub others_first : (s t : ℕ) (made others : List Entry) → All (λ e. e.seat ≡ t) made → t ≢ s → of_seat s (made ++ others) ≡ of_seat s others
others_first s t made others all e = filter_back (λ x. x.seat == s) made others (made_other s t made all e)
