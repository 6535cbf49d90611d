-- Numbers that are decoded many at a time.
use Rattle.std.proofs.Common.{◌≡◌, ℕ, zero, suc, ◌+◌, ◌*◌, ◌/◌, ◌<◌, ◌≤◌, Bool, true, ◌&&◌, List, [], ◌∷◌, ◌++◌, length, map, take, drop, get_or, Option, Some, None, Result, Ok, Err, refl, sym, ap, subst, ◌∙◌, arith, add-one}
use Rattle.std.specs.Prelude.{IfOk, IfSome}
use Rattle.std.specs.Int.{w32, from_be_bytes}
use Rattle.std.specs.Simd.{first_chunks}
use lib.Dec.{leb}
use Rattle.std.specs.Ordering.{nat_cmp}
use Rattle.base.specs.Order.{ComesAfter}
use Rattle.base.proofs.Bools.{nat_cmp-Less}
use Rattle.base.proofs.Order.{comes_after_tells}
use Rattle.std.proofs.lemmas.Bool.{le-ltb, leb-true, and_parts}
use Rattle.std.proofs.lemmas.List.{map_more, drop_more, drop_all, take_all, length-drop}
use Rattle.base.specs.Members.{members_at}
use Rattle.base.proofs.Counted.{members_first}
use Rattle.wire_bytes.specs.Position.{Position, left, further}
use Rattle.wire_bytes.specs.Fields.{number_at}
use Rattle.wire_bytes.proofs.FieldLaws.{left-further}
use Rattle.index_parts.specs.Turns.{InOrder, InOrderAfter}
use Rattle.index_parts.specs.PostingsReading.{posting_at}
use Rattle.index_parts.specs.ListReading.{turns_at}

-- ---- the loop

-- one member more is taken
pub taken_more : {X Y : Type 0} (f : X → Y) (xs : List X) (i : ℕ) (d : X) (y : Y) (old new : List Y) → i < length xs → old ≡ map f (take i xs) → y ≡ f (get_or xs i d) → new ≡ old ++ y ∷ [] → new ≡ map f (take (i + 1) xs)
taken_more f xs i d y _ _ below so_far is e = e ∙ ap (λ ys. ys ++ y ∷ []) so_far ∙ ap (λ z. map f (take i xs) ++ z ∷ []) is ∙ sym (map_more f _ i d below)

-- the greatest number below the least that may follow, if there is one
abbrev pub below_least : ℕ → Option ℕ
below_least zero = None
below_least (suc before) = Some before

least_follows : (least n : ℕ) → least ≤ n → ComesAfter nat_cmp (below_least least) n
least_follows zero n le = tt
least_follows (suc before) n le = nat_cmp-Less before n (omega arith)

below_next : (n : ℕ) → below_least (n + 1) ≡ Some n
below_next n = rw add-one refl

-- what is left comes after a number more
pub risen_more : {X : Type 0} (f : X → ℕ) (xs : List X) (i : ℕ) (d : X) (ascend : Bool) (least n : ℕ) (Whole : Type 0) → i < length xs → n ≡ f (get_or xs i d) → (ascend ≡ true → InOrderAfter (ComesAfter nat_cmp) (below_least least) (map f (drop i xs)) → Whole) → (ascend && leb least n) ≡ true → InOrderAfter (ComesAfter nat_cmp) (below_least (n + 1)) (map f (drop (i + 1) xs)) → Whole
risen_more f xs i d ascend least n Whole below is so_far both more =
    let parts = and_parts ascend (leb least n) both in
    let others = subst (λ before. InOrderAfter (ComesAfter nat_cmp) before (map f (drop (i + 1) xs))) (below_next n) more in
    let here : InOrderAfter (ComesAfter nat_cmp) (below_least least) (n ∷ map f (drop (i + 1) xs)) = (least_follows least n (leb-true least n parts.1), others) in
    let same = ap (λ ys. map f ys) (drop_more xs i d below) ∙ ap (λ m. m ∷ map f (drop (i + 1) xs)) (sym is) in
    so_far parts.0 (subst (InOrderAfter (ComesAfter nat_cmp) (below_least least)) (sym same) here)

-- nothing is left
pub all_risen : {X : Type 0} (f : X → ℕ) (xs : List X) (i : ℕ) (ascend : Bool) (least : ℕ) (items : List ℕ) → length xs ≤ i → items ≡ map f (take i xs) → (ascend ≡ true → InOrderAfter (ComesAfter nat_cmp) (below_least least) (map f (drop i xs)) → InOrder (ComesAfter nat_cmp) (map f xs)) → ascend ≡ true → (items ≡ map f xs) × InOrder (ComesAfter nat_cmp) items
all_risen f xs i _ least _ over so_far rise holds =
    let all = so_far ∙ ap (λ ys. map f ys) (take_all i xs over) in
    let nothing = subst (λ ys. InOrderAfter (ComesAfter nat_cmp) (below_least least) (map f ys)) (sym (drop_all i _ over)) tt in
    (all, subst (InOrder (ComesAfter nat_cmp)) (sym all) (rise holds nothing))

-- ---- what was decoded is what is read one after another

-- the first of more parts are the parts
take_chunks : (c k : ℕ) (bytes : List ℕ) → c ≤ k → take c (first_chunks 4 k bytes) ≡ first_chunks 4 c bytes
take_chunks zero k _ le = refl
take_chunks (suc c) zero _ le = absurd (omega arith)
take_chunks (suc c) (suc k) bytes le = ap (λ parts. take 4 bytes ∷ parts) (take_chunks c k _ (omega arith))

four_bytes : (p : Position) → 4 ≤ length (left p) → number_at w32 p ≡ Ok (from_be_bytes w32 (take 4 (left p)), further 4 p)
unfolding number_at
four_bytes p fits = rw (le-ltb _ _ fits) refl

next : (before : Option ℕ) (p : Position) → 4 ≤ length (left p) → ComesAfter nat_cmp before (from_be_bytes w32 (take 4 (left p))) → posting_at (before, p) ≡ Ok (from_be_bytes w32 (take 4 (left p)), (Some (from_be_bytes w32 (take 4 (left p))), further 4 p))
unfolding posting_at
next before p fits follows = rw (four_bytes p fits, (comes_after_tells nat_cmp before (from_be_bytes w32 (take 4 (left p)))).1 follows) refl

all_in_turn : (count : ℕ) (before : Option ℕ) (p : Position) → 4 * count ≤ length (left p) → InOrderAfter (ComesAfter nat_cmp) before (map (from_be_bytes w32) (first_chunks 4 count (left p))) → (end : Option ℕ × Position) × (members_at posting_at count (before, p) ≡ Ok (map (from_be_bytes w32) (first_chunks 4 count (left p)), end))
unfolding members_at
all_in_turn zero before p fits rise = ((before, p), refl)
all_in_turn (suc count) before p fits rise =
    let x = from_be_bytes w32 (take 4 (left p)) in
    let same = left-further 4 p in
    let long = ap length same ∙ length-drop 4 (left p) in
    let first = next before p (omega arith) rise.0 in
    let others = all_in_turn count (Some x) (further 4 p) (omega arith) (subst (λ bytes. InOrderAfter (ComesAfter nat_cmp) (Some x) (map (from_be_bytes w32) (first_chunks 4 count bytes))) (sym same) rise.1) in
    (others.0, members_first posting_at _ _ _ _ x _ first (others.1 ∙ ap (λ bytes. Ok (map (from_be_bytes w32) (first_chunks 4 count bytes), others.0)) same))

pub turns_risen : (count : ℕ) (bytes : List ℕ) (parts : List (List ℕ)) (p : Position) (numbers : List ℕ) → bytes ≡ left p → parts ≡ first_chunks 4 (length bytes / 4) bytes → length parts ≡ length bytes / 4 → count ≤ length parts → (numbers ≡ map (from_be_bytes w32) (take count parts)) × InOrder (ComesAfter nat_cmp) numbers → turns_at posting_at count p ≡ Ok numbers
unfolding turns_at
turns_risen count _ _ p _ rest are many few h =
    let long = ap length rest in
    let parts_are = ap (take count) are ∙ take_chunks _ _ _ (omega arith) ∙ ap (first_chunks 4 count) rest in
    let same = h.0 ∙ ap (λ ys. map (from_be_bytes w32) ys) parts_are in
    let all = all_in_turn _ None p (omega arith) (subst (InOrder (ComesAfter nat_cmp)) same h.1) in
    rw (all.1, same) refl

pub found_weaker : {X E : Type 0} (r : Result (Option X) E) (P Q : X → Type 0) → ((x : X) → P x → Q x) → IfOk r (λ found. IfSome found P) → IfOk r (λ found. IfSome found Q)
found_weaker (Ok None) P Q f h = tt
found_weaker (Ok (Some x)) P Q f h = f x h
found_weaker (Err e) P Q f h = tt
