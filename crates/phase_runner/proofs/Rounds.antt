-- Lists whose first places of each round stand in front.
use Rattle.std.proofs.Common.{◌≡◌, ℕ, zero, suc, ◌+◌, ◌*◌, ◌-◌, ◌/◌, ◌<◌, ◌≤◌, Bool, true, false, ◌==◌, true≢false, List, [], ◌∷◌, ◌++◌, length, take, drop, refl, sym, ap, ◌∙◌, subst, arith, length-append, append_assoc, append-nil}
use Rattle.std.proofs.lemmas.List.{take_at, drop_at}
use Rattle.std.proofs.lemmas.Bool.Decides.{Decides-eqb}
use Rattle.std.proofs.lemmas.Nat.{div-add-mod', mod_below}
use Rattle.phase_runner.specs.Dealing.{HasRounds, firsts, rest_of}

pub parted : {X : Type 0} (n : ℕ) (xs : List X) → n ≤ length xs → (front back : List X) × (xs ≡ front ++ back) × (length front ≡ n)
parted zero xs within = ([], xs, refl, refl)
parted (suc n) [] within = absurd (omega (arith, within))
parted (suc n) (x ∷ xs) within =
    let p = parted n xs (omega (arith, within)) in let size = p.3 in (x ∷ p.0, p.1, ap (λ l. x ∷ l) p.2, omega (arith, size))

nil_of : {X : Type 0} (xs : List X) → length xs ≡ 0 → xs ≡ []
nil_of [] none = refl
nil_of (x ∷ xs) none = absurd (omega (arith, none))

module _ {X : Type 0} (others : ℕ) where
  -- there are no more rounds than places
  pub few_firsts : (left : ℕ) (xs : List X) → length (firsts others left xs) ≤ length xs
  unfolding firsts
  few_firsts left [] = omega arith
  few_firsts zero (x ∷ xs) = let few = few_firsts others xs in omega (arith, few)
  few_firsts (suc left) (x ∷ xs) = let few = few_firsts left xs in omega (arith, few)

  -- one more round in front
  pub firsts_front : (left : ℕ) (h tail : List X) → left ≡ length h → firsts others left (h ++ tail) ≡ firsts others 0 tail
  unfolding firsts
  firsts_front zero [] tail is = refl
  firsts_front zero (x ∷ h) tail is = absurd (omega (arith, is))
  firsts_front (suc left) [] tail is = absurd (omega (arith, is))
  firsts_front (suc left) (x ∷ h) tail is = firsts_front left h tail (omega (arith, is))

  pub rest_front : (left : ℕ) (h tail : List X) → left ≡ length h → rest_of others left (h ++ tail) ≡ h ++ rest_of others 0 tail
  unfolding rest_of
  rest_front zero [] tail is = refl
  rest_front zero (x ∷ h) tail is = absurd (omega (arith, is))
  rest_front (suc left) [] tail is = absurd (omega (arith, is))
  rest_front (suc left) (x ∷ h) tail is = ap (λ l. x ∷ l) (rest_front left h tail (omega (arith, is)))

  -- the last round, which may be short
  pub firsts_last : (left : ℕ) (h : List X) → length h ≤ left → firsts others left h ≡ []
  unfolding firsts
  firsts_last left [] few = refl
  firsts_last zero (x ∷ h) few = absurd (omega (arith, few))
  firsts_last (suc left) (x ∷ h) few = firsts_last left h (omega (arith, few))

  pub rest_last : (left : ℕ) (h : List X) → length h ≤ left → rest_of others left h ≡ h
  unfolding rest_of
  rest_last left [] few = refl
  rest_last zero (x ∷ h) few = absurd (omega (arith, few))
  rest_last (suc left) (x ∷ h) few = ap (λ l. x ∷ l) (rest_last left h (omega (arith, few)))

  -- no first place is left, so there are few others
  pub few_left : (left : ℕ) (xs : List X) → firsts others left xs ≡ [] → length xs ≤ left
  unfolding firsts
  few_left left [] none = omega arith
  few_left zero (x ∷ xs) none = absurd (cc (none))
  few_left (suc left) (x ∷ xs) none = let few = few_left left xs none in omega (arith, few)

  -- where a first place is left, so are the others before it
  pub full_round : (left : ℕ) (xs : List X) (a : X) (more : List X) → firsts others left xs ≡ a ∷ more → (h tail : List X) × (xs ≡ h ++ tail) × (length h ≡ left) × (firsts others 0 tail ≡ a ∷ more)
  unfolding firsts
  full_round left [] a more is = absurd (cc (is))
  full_round zero (x ∷ xs) a more is = ([], x ∷ xs, refl, refl, is)
  full_round (suc left) (x ∷ xs) a more is =
      let r = full_round left xs a more is in let size = r.3 in (x ∷ r.0, r.1, ap (λ l. x ∷ l) r.2, omega (arith, size), r.4)

  -- one round more
  pub firsts_round : (x : X) (h tail : List X) → others ≡ length h → firsts others 0 ((x ∷ h) ++ tail) ≡ x ∷ firsts others 0 tail
  unfolding firsts
  firsts_round x h tail is = ap (λ l. x ∷ l) (firsts_front others h tail is)

  pub rest_round : (x : X) (h tail : List X) → others ≡ length h → rest_of others 0 ((x ∷ h) ++ tail) ≡ h ++ rest_of others 0 tail
  unfolding rest_of
  rest_round x h tail is = rest_front others h tail is

  pub firsts_short : (x : X) (h : List X) → length h ≤ others → firsts others 0 (x ∷ h) ≡ x ∷ []
  unfolding firsts
  firsts_short x h few = ap (λ l. x ∷ l) (firsts_last others h few)

  pub rest_short : (x : X) (h : List X) → length h ≤ others → rest_of others 0 (x ∷ h) ≡ h
  unfolding rest_of
  rest_short x h few = rest_last others h few

-- ---- of no places

no_places : {X : Type 0} (xs : List X) (b : Bool) → b ≡ (length xs == 0) → b ≡ true → xs ≡ []
no_places [] b tests is = refl
no_places (x ∷ xs) b tests is = let none : suc (length xs) ≡ 0 = (Decides-eqb (suc (length xs)) 0).0 (sym tests ∙ is) in absurd (omega (arith, none))

pub some_places : {X : Type 0} (xs : List X) (b : Bool) → b ≡ (length xs == 0) → b ≡ false → 0 < length xs
some_places [] b tests is = let none : (0 == 0) ≡ true = (Decides-eqb 0 0).1 refl in absurd (true≢false (sym none ∙ sym tests ∙ is))
some_places (x ∷ xs) b tests is = omega arith

pub firsts_empty : {X : Type 0} (others : ℕ) (xs : List X) (b : Bool) → b ≡ (length xs == 0) → b ≡ true → [] ≡ firsts others 0 xs
unfolding firsts
firsts_empty others xs b tests is = ap (firsts others 0) (sym (no_places xs b tests is))

pub rest_empty : {X : Type 0} (others : ℕ) (xs : List X) (b : Bool) → b ≡ (length xs == 0) → b ≡ true → xs ≡ rest_of others 0 xs
unfolding rest_of
rest_empty others xs b tests is = no_places xs b tests is ∙ ap (rest_of others 0) (sym (no_places xs b tests is))

-- ---- where the last round begins, and the round before another

pub last_begins : (size takers : ℕ) → 0 < size → (size - 1) / takers * takers < size
last_begins size takers some = let parts = div-add-mod' (size - 1) takers in omega (arith, parts, some)

pub last_ends : (size takers : ℕ) → 0 < takers → size ≤ (size - 1) / takers * takers + suc (takers - 1)
last_ends size takers some = let parts = div-add-mod' (size - 1) takers in let short = mod_below (size - 1) takers some in omega (arith, parts, short, some)

pub round_more : (before takers : ℕ) → 0 < before → 0 < takers → before * takers ≡ (before - 1) * takers + suc (takers - 1)
round_more zero takers some more = absurd (omega (arith, some))
round_more (suc before) takers some more =
    let same : suc before - 1 ≡ before = omega arith in
    let width : takers ≡ suc (takers - 1) = omega (arith, more) in
    let parts : suc before * takers ≡ before * takers + takers = omega arith in
    parts ∙ ap (λ n. before * takers + n) width ∙ ap (λ n. n * takers + suc (takers - 1)) (sym same)

-- ---- the first places come to the front, from the last round on

-- The rounds from a place on are gathered: what stood there is now its first places, and behind these the others.
pub record Gathers {X : Type 0} (others : ℕ) (was now : List X) (place count : ℕ) : Type 0 where
  pub front : List X
  pub tail : List X
  pub was_is : was ≡ front ++ tail
  pub now_is : now ≡ front ++ (firsts others 0 tail ++ rest_of others 0 tail)
  pub long : length front ≡ place
  pub counted : length (firsts others 0 tail) ≡ count

module _ {X : Type 0} (others : ℕ) (was : List X) where
  -- the last round
  pub last_gathered : (place : ℕ) → place < length was → length was ≤ place + suc others → Gathers others was was place 1
  last_gathered place below short =
      let p = parted place was (omega (arith, below)) in by_tail p.0 p.1 p.2 p.3
    where
      by_tail : (front tail : List X) → was ≡ front ++ tail → length front ≡ place → Gathers others was was place 1
      by_tail front [] is long = let sizes = ap length is ∙ length-append front [] in absurd (omega (arith, sizes, long, below))
      by_tail front (x ∷ h) is long =
          let sizes = ap length is ∙ length-append front (x ∷ h) in
          let few : length h ≤ others = omega (arith, sizes, long, short) in
          let f = firsts_short others x h few in
          let r = rest_short others x h few in
          record {
            front = front;
            tail = x ∷ h;
            was_is = is;
            now_is = is ∙ ap (λ l. front ++ l) (sym (ap (λ l. l ++ rest_of others 0 (x ∷ h)) f ∙ ap (λ l. x ∷ l) r));
            long = long;
            counted = ap length f;
          }

  -- one round more
  pub one_gathered : (now next : List X) (place round count : ℕ) → Gathers others was now place count → place ≡ round + suc others
      → ((before one other behind : List X) → now ≡ before ++ (one ++ (other ++ behind)) → length before ≡ round + 1 → length one ≡ others → length other ≡ count → next ≡ before ++ (other ++ (one ++ behind)))
      → Gathers others was next round (count + 1)
  one_gathered now next place round count g is swaps =
      let long = g.long in
      let p = parted round g.front (omega (arith, is, long)) in by_round p.0 p.1 p.2 p.3
    where
      by_round : (front turn : List X) → g.front ≡ front ++ turn → length front ≡ round → Gathers others was next round (count + 1)
      by_round front [] parts size = let sizes = ap length parts ∙ length-append front [] in let long = g.long in absurd (omega (arith, sizes, size, long, is))
      by_round front (x ∷ h) parts size =
          let sizes = ap length parts ∙ length-append front (x ∷ h) in
          let long = g.long in
          let full : others ≡ length h = omega (arith, sizes, size, long, is) in
          let fs = firsts others 0 g.tail in
          let rs = rest_of others 0 g.tail in
          let f = firsts_round others x h g.tail full in
          let r = rest_round others x h g.tail full in
          let before = front ++ x ∷ [] in
          let wide = length-append front (x ∷ []) in
          let stands : now ≡ before ++ (h ++ (fs ++ rs)) = g.now_is ∙ ap (λ l. l ++ (fs ++ rs)) parts ∙ append_assoc front (x ∷ h) (fs ++ rs) ∙ sym (append_assoc front (x ∷ []) (h ++ (fs ++ rs))) in
          let moved = swaps before h fs rs stands (omega (arith, wide, size)) (sym full) g.counted in
          let size_more = g.counted in
          record {
            front = front;
            tail = (x ∷ h) ++ g.tail;
            was_is = g.was_is ∙ ap (λ l. l ++ g.tail) parts ∙ append_assoc front (x ∷ h) g.tail;
            now_is = moved ∙ append_assoc front (x ∷ []) (fs ++ (h ++ rs)) ∙ ap (λ l. front ++ l) (sym (ap (λ l. l ++ rest_of others 0 ((x ∷ h) ++ g.tail)) f ∙ ap (λ l. (x ∷ fs) ++ l) r));
            long = size;
            counted = ap length f ∙ omega (arith, size_more);
          }

  -- all rounds
  pub all_gathered : (now : List X) (count : ℕ) → Gathers others was now 0 count → (count ≤ length now) × (take count now ≡ firsts others 0 was) × (drop count now ≡ rest_of others 0 was)
  all_gathered now count g = by_front g.front g.was_is g.now_is g.long
    where
      by_front : (front : List X) → was ≡ front ++ g.tail → now ≡ front ++ (firsts others 0 g.tail ++ rest_of others 0 g.tail) → length front ≡ 0 → (count ≤ length now) × (take count now ≡ firsts others 0 was) × (drop count now ≡ rest_of others 0 was)
      by_front [] is stands none =
          let sizes = ap length stands ∙ length-append (firsts others 0 g.tail) (rest_of others 0 g.tail) in
          let size = g.counted in (
            omega (arith, sizes, size),
            ap (take count) stands ∙ take_at (firsts others 0 g.tail) (rest_of others 0 g.tail) count size ∙ ap (firsts others 0) (sym is),
            ap (drop count) stands ∙ drop_at (firsts others 0 g.tail) (rest_of others 0 g.tail) count size ∙ ap (rest_of others 0) (sym is),
          )
      by_front (x ∷ front) is stands none = absurd (omega (arith, none))

-- ---- and go back, from the first round on

-- So many rounds are left, whose first places and others still stand apart. Whatever list has these completes the whole.
pub record Returns {X : Type 0} (others : ℕ) (all_firsts all_rest now : List X) (place left : ℕ) : Type 0 where
  pub done : List X
  pub own : List X
  pub more : List X
  pub now_is : now ≡ done ++ (own ++ more)
  pub long : length done ≡ place
  pub counted : length own ≡ left
  pub rounds : HasRounds others (length own + length more) left
  pub completes : (zs : List X) → firsts others 0 zs ≡ own → rest_of others 0 zs ≡ more → (firsts others 0 (done ++ zs) ≡ all_firsts) × (rest_of others 0 (done ++ zs) ≡ all_rest)

-- so many stand in front
pub taken_apart : {X : Type 0} (others : ℕ) (now : List X) (count : ℕ) → HasRounds others (length now) count → Returns others (take count now) (drop count now) now 0 count
taken_apart others now count rounds =
    let few = few_firsts others 0 rounds.0 in
    let size = rounds.1 in
    let many = rounds.2 in
    let p = parted count now (omega (arith, few, size, many)) in
    let sizes = ap length p.2 ∙ length-append p.0 p.1 in
    let front : take count now ≡ p.0 = ap (take count) p.2 ∙ take_at p.0 p.1 count p.3 in
    let back : drop count now ≡ p.1 = ap (drop count) p.2 ∙ drop_at p.0 p.1 count p.3 in
    record {
      done = [];
      own = p.0;
      more = p.1;
      now_is = p.2;
      long = refl;
      counted = p.3;
      rounds = subst (λ n. HasRounds others n count) sizes rounds;
      completes = λ zs f r. (f ∙ sym front, r ∙ sym back);
    }

module _ {X : Type 0} (others : ℕ) (all_firsts all_rest : List X) where
  -- the lengths of a list with a round more
  next_rounds : (places left : ℕ) → HasRounds others places (suc (suc left)) → (suc others ≤ places) × HasRounds others (places - suc others) (suc left)
  unfolding firsts
  next_rounds places left ([], size, count) = absurd (omega (arith, count))
  next_rounds places left (x ∷ xs, size, count) = by_firsts (firsts others others xs) refl
    where
      by_firsts : (fs : List ℕ) → firsts others others xs ≡ fs → (suc others ≤ places) × HasRounds others (places - suc others) (suc left)
      by_firsts [] is = let none = ap length is in absurd (omega (arith, none, count))
      by_firsts (a ∷ fs) is =
          let r = full_round others others xs a fs is in
          let sizes = ap length r.2 ∙ length-append r.0 r.1 in
          let full = r.3 in
          let counts = ap length is in
          (omega (arith, sizes, full, size), (r.1, omega (arith, sizes, full, size), ap length r.4 ∙ omega (arith, counts, count)))

  pub one_returned : (now next : List X) (place left : ℕ) → Returns others all_firsts all_rest now place (left + 1) → 0 < left
      → ((before one other behind : List X) → now ≡ before ++ (one ++ (other ++ behind)) → length before ≡ place + 1 → length one ≡ left → length other ≡ others → next ≡ before ++ (other ++ (one ++ behind)))
      → Returns others all_firsts all_rest next (place + suc others) left
  one_returned now next place zero g some swaps = absurd (omega (arith, some))
  one_returned now next place (suc left) g some swaps =
      let n = next_rounds (length g.own + length g.more) left (subst (HasRounds others (length g.own + length g.more)) {x = suc left + 1} (omega arith) g.rounds) in
      by_own g.own refl n
    where
      by_own : (own : List X) → g.own ≡ own → (suc others ≤ length g.own + length g.more) × HasRounds others (length g.own + length g.more - suc others) (suc left) → Returns others all_firsts all_rest next (place + suc others) (suc left)
      by_own [] is n = let none = ap length is in let counted = g.counted in absurd (omega (arith, none, counted))
      by_own (x ∷ own) is n =
          let sizes = ap length is in
          let counted = g.counted in
          let room = few_rounds (length own) (length g.more) (length g.own + length g.more - suc others) (suc left) n.1 in
          let p = parted others g.more (omega (arith, n.0, sizes, counted, room)) in
          by_more x own is n p.0 p.1 p.2 p.3
        where
          -- a list has as many places as rounds at least
          few_rounds : (a b places rounds : ℕ) → HasRounds others places rounds → rounds ≤ places
          few_rounds a b places rounds (xs, size, count) = let few = few_firsts others 0 xs in omega (arith, few, size, count)

          by_more : (x : X) (own : List X) → g.own ≡ x ∷ own → (suc others ≤ length g.own + length g.more) × HasRounds others (length g.own + length g.more - suc others) (suc left) → (h more : List X) → g.more ≡ h ++ more → length h ≡ others
              → Returns others all_firsts all_rest next (place + suc others) (suc left)
          by_more x own is n h more parts full =
              let sizes = ap length is in
              let counted = g.counted in
              let long = g.long in
              let widths = ap length parts ∙ length-append h more in
              let before = g.done ++ x ∷ [] in
              let wide = length-append g.done (x ∷ []) in
              let stands : now ≡ before ++ (own ++ (h ++ more)) = g.now_is ∙ ap (λ l. g.done ++ (l ++ g.more)) is ∙ ap (λ l. g.done ++ (x ∷ (own ++ l))) parts ∙ sym (append_assoc g.done (x ∷ []) (own ++ (h ++ more))) in
              let moved = swaps before own h more stands (omega (arith, wide, long)) (omega (arith, sizes, counted)) full in
              let grown = length-append g.done (x ∷ h) in
              record {
                done = g.done ++ (x ∷ h);
                own = own;
                more = more;
                now_is = moved ∙ append_assoc g.done (x ∷ []) (h ++ (own ++ more)) ∙ sym (append_assoc g.done (x ∷ h) (own ++ more));
                long = omega (arith, grown, long, full);
                counted = omega (arith, sizes, counted);
                rounds = subst (λ k. HasRounds others k (suc left)) {x = length g.own + length g.more - suc others} (omega (arith, sizes, widths, full)) n.1;
                completes = λ zs f r.
                    let c = g.completes ((x ∷ h) ++ zs) (firsts_round others x h zs (sym full) ∙ ap (λ l. x ∷ l) f ∙ sym is) (rest_round others x h zs (sym full) ∙ ap (λ l. h ++ l) r ∙ sym parts) in
                    let same = append_assoc g.done (x ∷ h) zs in
                    (ap (firsts others 0) same ∙ c.0, ap (rest_of others 0) same ∙ c.1);
              }

  no_rounds : (places : ℕ) → HasRounds others places 0 → places ≡ 0
  unfolding firsts
  no_rounds places ([], size, count) = sym size
  no_rounds places (x ∷ xs, size, count) = absurd (omega (arith, count))

  one_round : (places : ℕ) → HasRounds others places 1 → places ≤ suc others
  unfolding firsts
  one_round places ([], size, count) = absurd (omega (arith, count))
  one_round places (x ∷ xs, size, count) =
      let none : length (firsts others others xs) ≡ 0 = omega (arith, count) in
      let few = few_left others others xs (nil_of (firsts others others xs) none) in
      omega (arith, few, size)

  pub all_returned : (now : List X) (place left : ℕ) → left ≤ 1 → Returns others all_firsts all_rest now place left → (firsts others 0 now ≡ all_firsts) × (rest_of others 0 now ≡ all_rest)
  unfolding firsts rest_of
  all_returned now place left few g = by_own g.own refl
    where
      finished : (zs : List X) → g.own ++ g.more ≡ zs → (firsts others 0 (g.done ++ zs) ≡ all_firsts) × (rest_of others 0 (g.done ++ zs) ≡ all_rest) → (firsts others 0 now ≡ all_firsts) × (rest_of others 0 now ≡ all_rest)
      finished zs is c =
          let same : now ≡ g.done ++ zs = g.now_is ∙ ap (λ l. g.done ++ l) is in
          (ap (firsts others 0) same ∙ c.0, ap (rest_of others 0) same ∙ c.1)

      by_own : (own : List X) → g.own ≡ own → (firsts others 0 now ≡ all_firsts) × (rest_of others 0 now ≡ all_rest)
      by_own [] is =
          let size = ap length is in
          let counted = g.counted in
          let none = no_rounds (length g.own + length g.more) (subst (HasRounds others (length g.own + length g.more)) {x = left} (omega (arith, size, counted)) g.rounds) in
          let empty = nil_of g.more (omega (arith, none)) in
          finished [] (ap (λ l. l ++ g.more) is ∙ empty) (g.completes [] (sym is) (sym empty))
      by_own (x ∷ []) is =
          let size = ap length is in
          let counted = g.counted in
          let one = one_round (length g.own + length g.more) (subst (HasRounds others (length g.own + length g.more)) {x = left} (omega (arith, size, counted)) g.rounds) in
          let short : length g.more ≤ others = omega (arith, one, size) in
          finished (x ∷ g.more) (ap (λ l. l ++ g.more) is) (g.completes (x ∷ g.more) (firsts_short others x g.more short ∙ sym is) (rest_short others x g.more short))
      by_own (x ∷ y ∷ own) is = let size = ap length is in let counted = g.counted in absurd (omega (arith, size, counted, few))

  -- the blocks of the next round are there
  pub next_there : (now : List X) (place left : ℕ) → Returns others all_firsts all_rest now place left → 1 < left → place + 1 + (left - 1) + others ≤ length now
  next_there now place zero g some = absurd (omega (arith, some))
  next_there now place (suc zero) g some = absurd (omega (arith, some))
  next_there now place (suc (suc left)) g some =
      let n = next_rounds (length g.own + length g.more) left g.rounds in
      let long = g.long in
      let counted = g.counted in
      let sizes = ap length g.now_is ∙ length-append g.done (g.own ++ g.more) in
      let both = length-append g.own g.more in
      let r = n.1 in
      let few = few_firsts others 0 r.0 in
      let size = r.1 in
      let count = r.2 in
      let room = n.0 in
      omega (arith, long, counted, sizes, both, few, size, count, room)
