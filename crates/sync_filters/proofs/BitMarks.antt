-- Of two lists, one of which has all members of the other, that one has all bits of the other.
use Rattle.std.proofs.Common.{◌≡◌, ℕ, zero, suc, ltb, ◌*◌, ◌%◌, ◌^◌, ◌+◌, ◌<◌, ◌≤◌, Bool, true, false, ◌&&◌, ◌||◌, List, [], ◌∷◌, length, map, take, get_or, Option, Some, None, refl, sym, ap, subst, ◌∙◌, arith, inl, inr}
use Rattle.std.specs.Prelude.{fold, slice_get, Contains, max, pos, option_map}
use Rattle.std.specs.Option.{option_map_or}
use Rattle.std.specs.Ordering.{int_eq}
use Rattle.std.specs.Int.Bits.{bit_or, or_self, or_zero_l}
use Rattle.std.specs.Int.{bit_at}
use Rattle.std.specs.List.{list_any}
use Rattle.std.proofs.lemmas.Bool.{and_parts, cases_Bool, eq-eqb}
use Rattle.std.proofs.lemmas.Nat.{or_comm}
use Rattle.std.proofs.lemmas.Nat.Bits.{bit_at_or, same_from_bits}
use Rattle.std.proofs.lemmas.Bool.Decides.{nat_tests}
use Rattle.std.proofs.lemmas.Option.{slice_get-map, slice_get-get_or, same_Some}
use Rattle.std.proofs.lemmas.List.{take_all, length-map}
use Rattle.std.proofs.lemmas.List.Folds.{list_any_more, list_any_at}
use Rattle.base.proofs.Membership.{member_cases, no_member, contains_first, contains_later}
use Rattle.sync_filters.specs.Filters.{is_better, has_all, has_more}
use Rattle.sync_filters.specs.Holders.{with_bit, mark_of, mark_at, has_bits, covers_at}
use Rattle.sync_filters.specs.declared.found.Found.{Found}
use Rattle.sync_filters.specs.declared.holders.Holder.{Holder}
use Rattle.sync_filters.proofs.HolderLaws.{has_source}

three : (a b c : ℕ) → max (max a b) c ≡ max a (max b c)
three a b c = omega arith

or_thrice : (a b c : ℕ) → bit_or (bit_or a b) c ≡ bit_or a (bit_or b c)
or_thrice a b c = same_from_bits (bit_or (bit_or a b) c) (bit_or a (bit_or b c)) (λ i.
    bit_at_or (bit_or a b) c i ∙ ap (λ n. max n (bit_at c i)) (bit_at_or a b i) ∙ three (bit_at a i) (bit_at b i) (bit_at c i)
    ∙ ap (max (bit_at a i)) (sym (bit_at_or b c i)) ∙ sym (bit_at_or a (bit_or b c) i))

abbrev one_bit : ℕ → ℕ
one_bit source = (1 * 2 ^ (source % 128)) % 2 ^ 128

from_mark : (mark : ℕ) (xs : List ℕ) → fold with_bit mark xs ≡ bit_or mark (fold with_bit 0 xs)
from_mark mark [] = sym (or_comm mark 0 ∙ or_zero_l mark)
from_mark mark (x ∷ xs) =
    from_mark (bit_or mark (one_bit x)) xs ∙ or_thrice mark (one_bit x) (fold with_bit 0 xs)
    ∙ ap (bit_or mark) (sym (from_mark (bit_or 0 (one_bit x)) xs ∙ ap (λ n. bit_or n (fold with_bit 0 xs)) (or_zero_l (one_bit x))))

first_bit : (x : ℕ) (xs : List ℕ) → fold with_bit 0 (x ∷ xs) ≡ bit_or (one_bit x) (fold with_bit 0 xs)
first_bit x xs = from_mark (bit_or 0 (one_bit x)) xs ∙ ap (λ n. bit_or n (fold with_bit 0 xs)) (or_zero_l (one_bit x))

twice : (a m : ℕ) → bit_or a (bit_or a m) ≡ bit_or a m
twice a m = sym (or_thrice a a m) ∙ ap (λ n. bit_or n m) (or_self a)

past : (a b m : ℕ) → bit_or a m ≡ m → bit_or a (bit_or b m) ≡ bit_or b m
past a b m is = sym (or_thrice a b m) ∙ ap (λ n. bit_or n m) (or_comm a b) ∙ or_thrice b a m ∙ ap (bit_or b) is

-- the bit of a member is there
member_bit : (x : ℕ) (xs : List ℕ) → Contains xs x → bit_or (one_bit x) (fold with_bit 0 xs) ≡ fold with_bit 0 xs
member_bit x [] among = absurd (no_member x among)
member_bit x (y ∷ ys) among =
    let parts : fold with_bit 0 (y ∷ ys) ≡ bit_or (one_bit y) (fold with_bit 0 ys) = first_bit y ys in
    ap (bit_or (one_bit x)) parts ∙ elim (member_cases y x ys among) [
      | inl same ↦ subst (λ n. bit_or (one_bit n) (bit_or (one_bit y) (fold with_bit 0 ys)) ≡ bit_or (one_bit y) (fold with_bit 0 ys)) same (twice (one_bit y) (fold with_bit 0 ys))
      | inr later ↦ past (one_bit x) (one_bit y) (fold with_bit 0 ys) (member_bit x ys later)
    ] ∙ sym parts

all_bits : (many few : List ℕ) → ((x : ℕ) → Contains few x → Contains many x) → bit_or (fold with_bit 0 few) (fold with_bit 0 many) ≡ fold with_bit 0 many
all_bits many [] all = or_zero_l (fold with_bit 0 many)
all_bits many (x ∷ few) all =
    ap (λ n. bit_or n (fold with_bit 0 many)) (first_bit x few) ∙ or_thrice (one_bit x) (fold with_bit 0 few) (fold with_bit 0 many)
    ∙ ap (bit_or (one_bit x)) (all_bits many few (λ y among. all y (contains_later x y few among))) ∙ member_bit x many (all x (contains_first x few))

-- a block has the bits of one that it covers
better_bits : (one other : Found) → is_better one.meta other.meta ≡ true → has_bits (mark_at one) (mark_at other) ≡ true
unfolding mark_of
better_bits one other e =
    let last = and_parts (int_eq one.meta.resolution (pos 0) && int_eq other.meta.resolution (pos 0) && has_more one.meta other.meta) (has_all one.meta.sources other.meta.sources) e in
    eq-eqb (bit_or (fold with_bit 0 other.meta.sources) (fold with_bit 0 one.meta.sources)) (fold with_bit 0 one.meta.sources)
    (all_bits one.meta.sources other.meta.sources (λ x among. has_source one.meta.sources other.meta.sources x last.1 among))

and_none : (x : Bool) → (x && false) ≡ false
and_none true = refl
and_none false = refl

abbrev there : Found → Option Found → Bool
there block r = option_map_or (λ (other : Found). is_better other.meta block.meta) r false

-- a test of the bits before changes nothing
marked_there : (block : Found) (r : Option Found) (theirs mark : ℕ) (b : Bool) → mark ≡ mark_at block → ((other : Found) → r ≡ Some other → mark_at other ≡ theirs) → b ≡ (has_bits theirs mark && there block r) → b ≡ there block r
marked_there block None theirs mark b mark_is at is = is ∙ and_none (has_bits theirs mark)
marked_there block (Some other) theirs mark b mark_is at is = elim (cases_Bool (is_better other.meta block.meta)) [
  | inl t ↦
      is ∙ ap (λ x. x && is_better other.meta block.meta)
      (subst (λ n. has_bits n mark ≡ true) (at other refl) (subst (λ n. has_bits (mark_at other) n ≡ true) (sym mark_is) (better_bits other block t)))
  | inr f ↦ is ∙ ap (λ x. has_bits theirs mark && x) f ∙ and_none (has_bits theirs mark) ∙ sym f
]

mark_there : (listed : List Found) (marks : List ℕ) (place theirs : ℕ) (other : Found) → marks ≡ map mark_at listed → slice_get marks place ≡ Some theirs → slice_get listed place ≡ Some other → mark_at other ≡ theirs
mark_there listed marks place theirs other are at found =
    same_Some (mark_at other) theirs (sym (ap (option_map mark_at) found) ∙ sym (slice_get-map mark_at listed place) ∙ sym (ap (λ l. slice_get l place) are) ∙ at)

at_place : (marks : List ℕ) (place theirs : ℕ) → true ≡ ltb place (length marks) → theirs ≡ get_or marks place theirs → slice_get marks place ≡ Some theirs
at_place marks place theirs inside is = let within : place < length marks = grind (arith, nat_tests) in slice_get-get_or marks place theirs within ∙ ap Some (sym is)

pub marked : (listed : List Found) (marks : List ℕ) (block : Found) (place theirs mark : ℕ) (bits b : Bool) → marks ≡ map mark_at listed → mark ≡ mark_at block → true ≡ ltb place (length marks) → theirs ≡ get_or marks place theirs
    → bits ≡ has_bits theirs mark → b ≡ (bits && covers_at listed block place) → b ≡ covers_at listed block place
marked listed marks block place theirs mark bits b are mark_is inside at bits_are is =
    marked_there block (slice_get listed place) theirs mark b mark_is (λ other found. mark_there listed marks place theirs other are (at_place marks place theirs inside at) found)
    (is ∙ ap (λ x. x && covers_at listed block place) bits_are)

past_end : (xs : List Found) (k : ℕ) → length xs ≤ k → slice_get xs k ≡ None
past_end [] k all = refl
past_end (x ∷ xs) zero all = absurd (omega (arith, all))
past_end (x ∷ xs) (suc k) all = past_end xs k (omega (arith, all))

-- behind the last mark there is no block
pub unmarked : (listed : List Found) (marks : List ℕ) (block : Found) (place : ℕ) → marks ≡ map mark_at listed → false ≡ ltb place (length marks) → false ≡ covers_at listed block place
unmarked listed marks block place are outside =
    let past_marks : length marks ≤ place = grind (arith, nat_tests) in
    let past_all : length listed ≤ place = omega (arith, past_marks, ap length are, length-map listed mark_at) in
    sym (ap (there block) (past_end listed place past_all))

-- ---- a walk over the few

pub none_more : (listed : List Found) (few : List Holder) (block : Found) (k : ℕ) (one d : Holder) (b : Bool) → k < length few → one ≡ get_or few k d → b ≡ covers_at listed block one.place → b ≡ false
    → list_any (λ h. covers_at listed block h.place) (take k few) ≡ false → list_any (λ h. covers_at listed block h.place) (take (k + 1) few) ≡ false
none_more listed few block k one d b lt at is none was =
    list_any_more (λ (h : Holder). covers_at listed block h.place) few k d lt
    ∙ ap (λ x. x || covers_at listed block (get_or few k d).place) was ∙ ap (λ (h : Holder). covers_at listed block h.place) (sym at) ∙ sym is ∙ none

pub some_there : (listed : List Found) (few : List Holder) (block : Found) (k : ℕ) (one d : Holder) (b : Bool) → k < length few → one ≡ get_or few k d → b ≡ covers_at listed block one.place → b ≡ true
    → true ≡ list_any (λ h. covers_at listed block h.place) few
some_there listed few block k one d b lt at is holds =
    sym (list_any_at (λ (h : Holder). covers_at listed block h.place) few k d lt (ap (λ (h : Holder). covers_at listed block h.place) (sym at) ∙ sym is ∙ holds))

pub none_there : (listed : List Found) (few : List Holder) (block : Found) (k : ℕ) → length few ≤ k → list_any (λ h. covers_at listed block h.place) (take k few) ≡ false → false ≡ list_any (λ h. covers_at listed block h.place) few
none_there listed few block k all was = sym (sym (ap (list_any (λ (h : Holder). covers_at listed block h.place)) (take_all k few all)) ∙ was)
