-- What the calls at one taker's places and at the others' need and leave, where these are parted and joined.
use Rattle.std.proofs.Common.{◌≡◌, ℕ, zero, suc, ◌+◌, ◌*◌, ◌-◌, ◌^◌, ◌<◌, ◌≤◌, List, [], ◌∷◌, ◌++◌, length, take, drop, refl, sym, ap, ◌∙◌, subst, arith, slice_index_or}
use denote.Ref.{MutBor}
use denote.Param.Members.{Shared}
use Rattle.std.specs.Fork.{AcceptsAt, ChangesAt}
use Rattle.std.proofs.lemmas.List.{drop_at, length-take, take_at}
use Rattle.phase_runner.specs.Dealing.{HasRounds, firsts, rest_of}
use Rattle.phase_runner.specs.Shares.{Accepts, AcceptsDealt, AcceptsStride, Changes, ChangesDealt, ChangesStride, dealt, strided}
use Rattle.phase_runner.proofs.Dealt.{accepts_count, accepts_firsts, accepts_rest, changes_joined, changes_strided, dealt_all, dealt_alone, dealt_count, dealt_parts, each_strided, strided_changes, strided_count, strided_each, strided_small}

-- lists of one length are parted at the same places
pub firsts_alike : {X Y : Type 0} (others left : ℕ) (xs : List X) (ys : List Y) → length xs ≡ length ys → length (firsts others left xs) ≡ length (firsts others left ys)
unfolding firsts
firsts_alike others left [] [] same = refl
firsts_alike others left [] (y ∷ ys) same = absurd (omega (arith, same))
firsts_alike others left (x ∷ xs) [] same = absurd (omega (arith, same))
firsts_alike others zero (x ∷ xs) (y ∷ ys) same = ap suc (firsts_alike others others xs ys (omega (arith, same)))
firsts_alike others (suc left) (x ∷ xs) (y ∷ ys) same = firsts_alike others left xs ys (omega (arith, same))

pub rest_alike : {X Y : Type 0} (others left : ℕ) (xs : List X) (ys : List Y) → length xs ≡ length ys → length (rest_of others left xs) ≡ length (rest_of others left ys)
unfolding rest_of
rest_alike others left [] [] same = refl
rest_alike others left [] (y ∷ ys) same = absurd (omega (arith, same))
rest_alike others left (x ∷ xs) [] same = absurd (omega (arith, same))
rest_alike others zero (x ∷ xs) (y ∷ ys) same = rest_alike others others xs ys (omega (arith, same))
rest_alike others (suc left) (x ∷ xs) (y ∷ ys) same = ap suc (rest_alike others left xs ys (omega (arith, same)))

pub rounds_alike : {X : Type 0} (others : ℕ) (was mid : List X) (count places : ℕ) → length was ≡ places → count ≤ length mid → take count mid ≡ firsts others 0 was → HasRounds others places count
rounds_alike others was mid count places size within are =
    let numbers = dealt 1 0 0 0 0 places in
    let long = dealt_count 1 0 0 0 0 places in
    let cut = length-take count mid in
    let many = ap length are in
    (numbers, long, firsts_alike others 0 numbers was (long ∙ sym size) ∙ omega (arith, cut, many, within))

-- the two parts of a list that was cut behind so many
pub cut_front : {X : Type 0} (all front back mine : List X) (count : ℕ) → all ≡ front ++ back → length front ≡ count → take count all ≡ mine → front ≡ mine
cut_front all front back mine count is size are = sym (ap (take count) is ∙ take_at front back count size) ∙ are

pub cut_back : {X : Type 0} (all front back theirs : List X) (count : ℕ) → all ≡ front ++ back → length front ≡ count → drop count all ≡ theirs → back ≡ theirs
cut_back all front back theirs count is size are = sym (ap (drop count) is ∙ drop_at front back count size) ∙ are

module _ {F T : Type 0} (g : Shared F (ℕ × (MutBor T × Unit {0})) ((Unit {0}) × (MutBor T × Unit {0}))) (f : F) (takers first : ℕ) where
  -- ---- the last taker

  pub alone_accepts : (xs : List T) → takers - first ≡ 1 → AcceptsDealt g f takers first xs → AcceptsStride g f first takers xs
  alone_accepts xs one a =
      let none : takers - first - 1 ≡ 0 = omega (arith, one) in
      let all : Accepts g f (strided takers first (length xs)) xs = subst (λ l. Accepts g f l xs) (ap (λ n. dealt takers n 0 first (first + 1) (length xs)) none ∙ dealt_alone takers first (first + 1) (length xs)) a.all in
      record { small = strided_small g f takers first (length xs) xs all; each = strided_each g f takers first (length xs) xs all }

  pub alone_changes : (xs ys : List T) → takers - first ≡ 1 → length ys ≡ length xs → ChangesStride g f first takers xs ys → ChangesDealt g f takers first xs ys
  alone_changes xs ys one same c =
      let none : takers - first - 1 ≡ 0 = omega (arith, one) in
      record { all = subst (λ l. Changes g f l xs ys) (sym (ap (λ n. dealt takers n 0 first (first + 1) (length xs)) none ∙ dealt_alone takers first (first + 1) (length xs))) (changes_strided g f takers first xs ys same c.each) }

  -- ---- one taker, and the others

  module _ (t : ℕ) (several : takers - first - 1 ≡ suc t) where
    next_others : takers - (first + 1) - 1 ≡ t
    next_others = omega (arith, several)

    abbrev places : ℕ → List ℕ
    places count = dealt takers (suc t) 0 first (first + 1) count

    parted : (xs : List T) → AcceptsDealt g f takers first xs → Accepts g f (places (length xs)) xs
    parted xs a = subst (λ n. Accepts g f (dealt takers n 0 first (first + 1) (length xs)) xs) several a.all

    pub own_accepts : (xs own : List T) → own ≡ firsts (takers - first - 1) 0 xs → AcceptsDealt g f takers first xs → AcceptsStride g f first takers own
    own_accepts xs own is a =
        let p = dealt_parts takers t first (first + 1 + 1) (length xs) in
        let cut = accepts_firsts g f (suc t) 0 (places (length xs)) xs (parted xs a) in
        let mine = subst (λ l. Accepts g f l own) p.2 (subst (λ l. Accepts g f (firsts (suc t) 0 (places (length xs))) l) (sym (is ∙ ap (λ n. firsts n 0 xs) several)) cut) in
        record { small = strided_small g f takers first p.0 own mine; each = strided_each g f takers first p.0 own mine }

    pub rest_accepts : (xs rest : List T) → rest ≡ rest_of (takers - first - 1) 0 xs → AcceptsDealt g f takers first xs → AcceptsDealt g f takers (first + 1) rest
    rest_accepts xs rest is a =
        let p = dealt_parts takers t first (first + 1 + 1) (length xs) in
        let cut = accepts_rest g f (suc t) 0 (places (length xs)) xs (parted xs a) in
        let theirs = subst (λ l. Accepts g f l rest) p.3 (subst (λ l. Accepts g f (rest_of (suc t) 0 (places (length xs))) l) (sym (is ∙ ap (λ n. rest_of n 0 xs) several)) cut) in
        let many : p.1 ≡ length rest = sym (dealt_count takers t 0 (first + 1) (first + 1 + 1) p.1) ∙ accepts_count g f _ rest theirs in
        record { all = subst (λ n. Accepts g f (dealt takers n 0 (first + 1) (first + 1 + 1) (length rest)) rest) (sym next_others) (subst (λ n. Accepts g f (dealt takers t 0 (first + 1) (first + 1 + 1) n) rest) many theirs) }

    pub both_changes : (xs ys own own' rest rest' : List T) → own ≡ firsts (takers - first - 1) 0 xs → rest ≡ rest_of (takers - first - 1) 0 xs → firsts (takers - first - 1) 0 ys ≡ own' → rest_of (takers - first - 1) 0 ys ≡ rest'
        → length own' ≡ length own → length rest' ≡ length rest → length ys ≡ length xs → ChangesStride g f first takers own own' → ChangesDealt g f takers (first + 1) rest rest' → ChangesDealt g f takers first xs ys
    both_changes xs ys own own' rest rest' own_is rest_is own_was rest_was own_size rest_size size mine theirs =
        let n = length xs in
        let p = dealt_parts takers t first (first + 1 + 1) n in
        let count = dealt_count takers (suc t) 0 first (first + 1) n in
        let own_at : own ≡ firsts (suc t) 0 xs = own_is ∙ ap (λ k. firsts k 0 xs) several in
        let rest_at : rest ≡ rest_of (suc t) 0 xs = rest_is ∙ ap (λ k. rest_of k 0 xs) several in
        let own_now : own' ≡ firsts (suc t) 0 ys = sym own_was ∙ ap (λ k. firsts k 0 ys) several in
        let rest_now : rest' ≡ rest_of (suc t) 0 ys = sym rest_was ∙ ap (λ k. rest_of k 0 ys) several in
        let mine_count : p.0 ≡ length own = sym (strided_count takers first p.0) ∙ ap length (sym p.2) ∙ firsts_alike (suc t) 0 (places n) xs count ∙ ap length (sym own_at) in
        let their_count : p.1 ≡ length rest = sym (dealt_count takers t 0 (first + 1) (first + 1 + 1) p.1) ∙ ap length (sym p.3) ∙ rest_alike (suc t) 0 (places n) xs count ∙ ap length (sym rest_at) in
        let first_places : firsts (suc t) 0 (places n) ≡ strided takers first (length own) = p.2 ∙ ap (strided takers first) mine_count in
        let rest_places : rest_of (suc t) 0 (places n) ≡ dealt takers t 0 (first + 1) (first + 1 + 1) (length rest) = p.3 ∙ ap (dealt takers t 0 (first + 1) (first + 1 + 1)) their_count in
        let own_changed = changes_strided g f takers first own own' own_size mine.each in
        let rest_changed = subst (λ k. Changes g f (dealt takers k 0 (first + 1) (first + 1 + 1) (length rest)) rest rest') next_others theirs.all in
        let first_changes : Changes g f (firsts (suc t) 0 (places n)) (firsts (suc t) 0 xs) (firsts (suc t) 0 ys) =
        subst (λ l. Changes g f (firsts (suc t) 0 (places n)) (firsts (suc t) 0 xs) l) own_now (subst (λ l. Changes g f (firsts (suc t) 0 (places n)) l own') own_at (subst (λ l. Changes g f l own own') (sym first_places) own_changed)) in
        let rest_changes : Changes g f (rest_of (suc t) 0 (places n)) (rest_of (suc t) 0 xs) (rest_of (suc t) 0 ys) =
        subst (λ l. Changes g f (rest_of (suc t) 0 (places n)) (rest_of (suc t) 0 xs) l) rest_now (subst (λ l. Changes g f (rest_of (suc t) 0 (places n)) l rest') rest_at (subst (λ l. Changes g f l rest rest') (sym rest_places) rest_changed)) in
        record { all = subst (λ k. Changes g f (dealt takers k 0 first (first + 1) n) xs ys) (sym several) (changes_joined g f (suc t) 0 (places n) xs ys count size first_changes rest_changes) }

module _ {F T : Type 0} (g : Shared F (ℕ × (MutBor T × Unit {0})) ((Unit {0}) × (MutBor T × Unit {0}))) (f : F) (takers : ℕ) (some : 0 < takers) where
  whole : (count : ℕ) → dealt takers (takers - 0 - 1) 0 0 (0 + 1) count ≡ strided 1 0 count
  whole count = by_takers takers some
    where
      by_takers : (takers : ℕ) → 0 < takers → dealt takers (takers - 0 - 1) 0 0 (0 + 1) count ≡ strided 1 0 count
      by_takers zero some = absurd (omega (arith, some))
      by_takers (suc t) some = let same : suc t - 0 - 1 ≡ t = omega arith in ap (λ n. dealt (suc t) n 0 0 1 count) same ∙ dealt_all t count

  at_place : (k : ℕ) → k ≡ 0 + k * 1
  at_place k = omega arith

  -- all places are dealt
  pub all_accept : (xs : List T) → length xs < 2 ^ 64 → ((k : ℕ) (d : T) → k < length xs → AcceptsAt g f k (slice_index_or xs k d)) → AcceptsDealt g f takers 0 xs
  all_accept xs small each = record {
    all = subst (λ l. Accepts g f l xs) (sym (whole (length xs)))
        (each_strided g f 1 0 xs (λ k below. omega (arith, small, below)) (λ k d below. subst (λ i. AcceptsAt g f i (slice_index_or xs k d)) (at_place k) (each k d below)));
  }

  pub all_changed : (xs ys : List T) → ChangesDealt g f takers 0 xs ys → (k : ℕ) (d : T) → k < length xs → ChangesAt g f k (slice_index_or xs k d) (slice_index_or ys k d)
  all_changed xs ys c k d below =
      subst (λ i. ChangesAt g f i (slice_index_or xs k d) (slice_index_or ys k d)) (sym (at_place k)) (strided_changes g f 1 0 (length xs) xs ys (subst (λ l. Changes g f l xs ys) (whole (length xs)) c.all) k d below)
