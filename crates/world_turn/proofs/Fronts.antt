-- Laws of the entries of a seat, and of the fronts of a journal.
use Rattle.std.proofs.Common.{◌≡◌, ◌≢◌, ◌⊎◌, ℕ, zero, suc, ◌<◌, ◌≤◌, ◌==◌, List, [], ◌∷◌, ◌++◌, length, Bool, true, false, if◌then◌else◌, cond, nat_lt, Some, slice_get, refl, sym, ap, ◌∙◌, arith, length-append, append_assoc, append-nil, eq-eqb, ne_eqb, ltb-true, ltb-false, ⊎_elim}
use Rattle.std.proofs.lemmas.List.Elements.{filter-append}
use mathlib.Core.List.{IsPrefix}
use Rattle.world_core.specs.declared.entry.Entry.{Entry}
use Rattle.world_core.specs.Journals.{of_seat}
use Rattle.world_turn.specs.Steps.{longer}

-- an entry of the seat is one more
pub of_seat-own : (seat : ℕ) (xs : List Entry) (e : Entry) → e.seat ≡ seat → of_seat seat (xs ++ e ∷ []) ≡ of_seat seat xs ++ e ∷ []
of_seat-own seat xs e is = filter-append (λ (x : Entry). x.seat == seat) xs (e ∷ []) ∙ ap (λ (b : Bool). of_seat seat xs ++ cond b (e ∷ []) []) (eq-eqb e.seat seat is)

-- an entry of another seat is none
pub of_seat-other : (seat : ℕ) (xs : List Entry) (e : Entry) → e.seat ≢ seat → of_seat seat (xs ++ e ∷ []) ≡ of_seat seat xs
of_seat-other seat xs e not = filter-append (λ (x : Entry). x.seat == seat) xs (e ∷ []) ∙ (ap (λ (b : Bool). of_seat seat xs ++ cond b (e ∷ []) []) (ne_eqb e.seat seat not) ∙ append-nil (of_seat seat xs))

pub front_whole : (xs : List Entry) → IsPrefix xs xs
front_whole xs = ([], append-nil xs)

pub front_none : (xs : List Entry) → IsPrefix [] xs
front_none xs = (xs, refl)

pub front_more : (xs ys zs : List Entry) → IsPrefix xs ys → IsPrefix ys zs → IsPrefix xs zs
front_more xs ys zs a b = (a.0 ++ b.0, sym (append_assoc xs a.0 b.0) ∙ (ap (λ l. l ++ b.0) a.1 ∙ b.1))

-- nothing but the empty front begins the empty list
pub no_front : (xs more : List Entry) → xs ++ more ≡ [] → xs ≡ []
no_front [] more is = refl
no_front (x ∷ xs) more is = absurd cc

pub front_length : (xs ys : List Entry) → IsPrefix xs ys → length xs ≤ length ys
front_length xs ys a = omega (arith, sym (ap length a.1) ∙ length-append xs a.0)

-- what stands in a front stands in the whole, at the same place
pub front_get : (xs ys : List Entry) (k : ℕ) (e : Entry) → IsPrefix xs ys → slice_get xs k ≡ Some e → slice_get ys k ≡ Some e
front_get [] ys k e p h = absurd cc
front_get (x ∷ xs) [] k e p h = absurd (cc (p.1))
front_get (x ∷ xs) (y ∷ ys) zero e p h = cc (p.1, h)
front_get (x ∷ xs) (y ∷ ys) (suc k) e p h = front_get xs ys k e (p.0, cc (p.1)) h

abbrev last_in : Entry → List Entry → Entry
last_in d [] = d
last_in d (x ∷ xs) = last_in x xs

last_in-snoc : (d : Entry) (xs : List Entry) (e : Entry) → last_in d (xs ++ e ∷ []) ≡ e
last_in-snoc d [] e = refl
last_in-snoc d (x ∷ xs) e = last_in-snoc x xs e

pub one_last : (xs : List Entry) (e f : Entry) → xs ++ e ∷ [] ≡ xs ++ f ∷ [] → e ≡ f
one_last xs e f same = sym (last_in-snoc e xs e) ∙ (ap (last_in e) same ∙ last_in-snoc e xs f)

-- of two fronts of one list the shorter begins the longer
fronts_meet : (xs ys zs : List Entry) → IsPrefix xs zs → IsPrefix ys zs → length xs ≤ length ys → IsPrefix xs ys
fronts_meet [] ys zs p q le = (ys, refl)
fronts_meet (x ∷ xs) [] zs p q le = absurd (omega arith)
fronts_meet (x ∷ xs) (y ∷ ys) [] p q le = absurd (cc (p.1))
fronts_meet (x ∷ xs) (y ∷ ys) (z ∷ zs) p q le =
    let heads : x ≡ y = cc (p.1, q.1) in
    let rest = fronts_meet xs ys zs (p.0, cc (p.1)) (q.0, cc (q.1)) (omega arith) in
    (rest.0, cc (heads, rest.1))

pick : (P : List Entry → Type 0) (b : Bool) (xs ys : List Entry) → P xs → P ys → P (if b then ys else xs)
pick P true xs ys p q = q
pick P false xs ys p q = p

pub longer_front : (xs ys zs : List Entry) → IsPrefix xs zs → IsPrefix ys zs → IsPrefix (longer xs ys) zs
longer_front xs ys zs a b = pick (λ l. IsPrefix l zs) (nat_lt (length xs) (length ys)) xs ys a b

chosen : (P : List Entry → Type 0) (xs ys : List Entry) (b : Bool) → nat_lt (length xs) (length ys) ≡ b → (length xs < length ys → P ys) → (length ys ≤ length xs → P xs) → P (if b then ys else xs)
chosen P xs ys true e p q = p (ltb-true _ _ e)
chosen P xs ys false e p q = q (ltb-false _ _ e)

pub longer_first : (xs ys zs : List Entry) → IsPrefix xs zs → IsPrefix ys zs → IsPrefix xs (longer xs ys)
longer_first xs ys zs a b = chosen (IsPrefix xs) xs ys (nat_lt (length xs) (length ys)) refl (λ l. fronts_meet xs ys zs a b (omega arith)) (λ _. front_whole xs)

pub longer_second : (xs ys zs : List Entry) → IsPrefix xs zs → IsPrefix ys zs → IsPrefix ys (longer xs ys)
longer_second xs ys zs a b = chosen (IsPrefix ys) xs ys (nat_lt (length xs) (length ys)) refl (λ _. front_whole ys) (λ l. fronts_meet ys xs zs b a (omega arith))

-- a front that is as long as the whole is the whole
front_all : (xs zs : List Entry) → IsPrefix xs zs → length zs ≤ length xs → xs ≡ zs
front_all [] [] p le = refl
front_all [] (z ∷ zs) p le = absurd (omega arith)
front_all (x ∷ xs) [] p le = absurd (cc (p.1))
front_all (x ∷ xs) (z ∷ zs) p le =
    let more : xs ≡ zs = front_all xs zs (p.0, cc (p.1)) (omega arith) in
    cc (p.1, more)

-- where one of two fronts is the whole, the longer one is
pub longer_whole : (xs ys zs : List Entry) → IsPrefix xs zs → IsPrefix ys zs → (xs ≡ zs) ⊎ (ys ≡ zs) → longer xs ys ≡ zs
longer_whole xs ys zs a b = ⊎_elim
    (λ (m : xs ≡ zs). front_all (longer xs ys) zs (longer_front xs ys zs a b) (let l = front_length xs (longer xs ys) (longer_first xs ys zs a b) in let n = ap length m in omega arith))
    (λ (m : ys ≡ zs). front_all (longer xs ys) zs (longer_front xs ys zs a b) (let l = front_length ys (longer xs ys) (longer_second xs ys zs a b) in let n = ap length m in omega arith))
