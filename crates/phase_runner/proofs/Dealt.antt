-- The places that are dealt out, and what calls at them need and leave.
use Rattle.std.proofs.Common.{◌≡◌, ◌⊎◌, inl, inr, ℕ, zero, suc, ◌+◌, ◌*◌, ◌-◌, ◌^◌, ◌<◌, ◌≤◌, List, [], ◌∷◌, length, refl, sym, ap, ◌∙◌, subst, arith, slice_index_or}
use denote.Ref.{MutBor}
use denote.Param.Members.{Shared}
use Rattle.std.specs.Fork.{AcceptsAt, ChangesAt}
use Rattle.phase_runner.specs.Dealing.{firsts, rest_of}
use Rattle.phase_runner.specs.Shares.{Accepts, Changes, dealt, strided}

-- ---- the first places of all rounds are one taker's, and the others those of the next takers

-- Where the next takers go on while the others of a round are left: with their own first place behind this taker's, or with the others.
abbrev GoesOn : (takers t left own other left' own' other' : ℕ) → Type 0
GoesOn takers t left own other left' own' other' =
    ((left ≡ suc t) × (left' ≡ 0) × (own' ≡ other) × (other + takers ≡ own + 1)) ⊎ ((left' ≡ left) × (own' ≡ own + 1) × ((left ≡ 0) ⊎ (other' ≡ other)))

record Parts (takers t left own other left' own' other' count : ℕ) : Type 0 where
  pub mine : ℕ
  pub theirs : ℕ
  pub first : firsts (suc t) left (dealt takers (suc t) left own other count) ≡ strided takers own mine
  pub rest : rest_of (suc t) left (dealt takers (suc t) left own other count) ≡ dealt takers t left' own' other' theirs

parts : (takers t left own other left' own' other' count : ℕ) → GoesOn takers t left own other left' own' other' → Parts takers t left own other left' own' other' count
unfolding dealt strided firsts rest_of
parts takers t left own other left' own' other' zero goes = record { mine = 0; theirs = 0; first = refl; rest = refl }
parts takers t zero own other left' own' other' (suc count) (inl (full, none, at, apart)) = absurd (omega (arith, full))
parts takers t zero own other left' own' other' (suc count) (inr (same, at, either)) =
    let p = parts takers t (suc t) (own + takers) (own + 1) left' own' other' count (inl (refl, same, at, omega arith)) in
    record { mine = suc p.mine; theirs = p.theirs; first = ap (λ l. own ∷ l) p.first; rest = p.rest }
parts takers t (suc left) own other zero own' other' (suc count) (inl (full, none, at, apart)) =
    let p = parts takers t left own (other + 1) t (own' + takers) (own' + 1) count (inr (omega (arith, full), omega (arith, at, apart), inr (omega (arith, at)))) in
    record { mine = p.mine; theirs = suc p.theirs; first = p.first; rest = ap (λ l. other ∷ l) p.rest ∙ ap (λ i. i ∷ dealt takers t t (own' + takers) (own' + 1) p.theirs) (sym at) }
parts takers t (suc left) own other (suc left') own' other' (suc count) (inl (full, none, at, apart)) = absurd (omega (arith, none))
parts takers t (suc left) own other zero own' other' (suc count) (inr (same, at, either)) = absurd (omega (arith, same))
parts takers t (suc left) own other (suc left') own' other' (suc count) (inr (same, at, inl none)) = absurd (omega (arith, none))
parts takers t (suc left) own other (suc left') own' other' (suc count) (inr (same, at, inr is)) =
    let p = parts takers t left own (other + 1) left' own' (other' + 1) count (inr (omega (arith, same), at, inr (omega (arith, is)))) in
    record { mine = p.mine; theirs = suc p.theirs; first = p.first; rest = ap (λ l. other ∷ l) p.rest ∙ ap (λ i. i ∷ dealt takers t left' own' (other' + 1) p.theirs) (sym is) }

-- what one taker has and the next ones have, at the beginning of a round
pub dealt_parts : (takers t first other count : ℕ) → (mine theirs : ℕ) × (firsts (suc t) 0 (dealt takers (suc t) 0 first (first + 1) count) ≡ strided takers first mine) × (rest_of (suc t) 0 (dealt takers (suc t) 0 first (first + 1) count) ≡ dealt takers t 0 (first + 1) other theirs)
dealt_parts takers t first other count =
    let p = parts takers t 0 first (first + 1) 0 (first + 1) other count (inr (refl, refl, inl refl)) in (p.mine, p.theirs, p.first, p.rest)

-- the last taker
pub dealt_alone : (takers own other count : ℕ) → dealt takers 0 0 own other count ≡ strided takers own count
unfolding dealt strided
dealt_alone takers own other zero = refl
dealt_alone takers own other (suc count) = ap (λ l. own ∷ l) (dealt_alone takers (own + takers) (own + 1) count)

-- all takers together have each place once
abbrev IsNext : (t left own other place : ℕ) → Type 0
IsNext t left own other place = ((left ≡ 0) × (own ≡ place)) ⊎ ((0 < left) × (other ≡ place) × (own ≡ place + left))

dealt_next : (t left own other place count : ℕ) → IsNext t left own other place → dealt (suc t) t left own other count ≡ strided 1 place count
unfolding dealt strided
dealt_next t left own other place zero next = refl
dealt_next t zero own other place (suc count) (inl (none, is)) =
    ap (λ i. i ∷ dealt (suc t) t t (own + suc t) (own + 1) count) is ∙ ap (λ l. place ∷ l) (dealt_next t t (own + suc t) (own + 1) (place + 1) count (begun t own place is))
  where
    begun : (t own place : ℕ) → own ≡ place → IsNext t t (own + suc t) (own + 1) (place + 1)
    begun zero own place is = inl (refl, omega (arith, is))
    begun (suc t) own place is = inr (omega arith, omega (arith, is), omega (arith, is))
dealt_next t zero own other place (suc count) (inr (some, is, later)) = absurd (omega (arith, some))
dealt_next t (suc left) own other place (suc count) (inl (none, is)) = absurd (omega (arith, none))
dealt_next t (suc left) own other place (suc count) (inr (some, is, later)) =
    ap (λ i. i ∷ dealt (suc t) t left own (other + 1) count) is ∙ ap (λ l. place ∷ l) (dealt_next t left own (other + 1) (place + 1) count (going left own other place is later))
  where
    going : (left own other place : ℕ) → other ≡ place → own ≡ place + suc left → IsNext t left own (other + 1) (place + 1)
    going zero own other place is later = inl (refl, omega (arith, later))
    going (suc left) own other place is later = inr (omega arith, omega (arith, is), omega (arith, later))

pub dealt_all : (t count : ℕ) → dealt (suc t) t 0 0 1 count ≡ strided 1 0 count
dealt_all t count = dealt_next t 0 0 1 0 count (inl (refl, refl))

pub dealt_count : (takers others left own other count : ℕ) → length (dealt takers others left own other count) ≡ count
unfolding dealt
dealt_count takers others left own other zero = refl
dealt_count takers others zero own other (suc count) = ap suc (dealt_count takers others others (own + takers) (own + 1) count)
dealt_count takers others (suc left) own other (suc count) = ap suc (dealt_count takers others left own (other + 1) count)

pub strided_count : (step place count : ℕ) → length (strided step place count) ≡ count
unfolding strided
strided_count step place zero = refl
strided_count step place (suc count) = ap suc (strided_count step (place + step) count)

further : (place k step : ℕ) → (place + step) + k * step ≡ place + suc k * step
further place k step = omega arith

-- ---- calls at such places

module _ {F T : Type 0} (g : Shared F (ℕ × (MutBor T × Unit {0})) ((Unit {0}) × (MutBor T × Unit {0}))) (f : F) where
  pub accepts_count : (is : List ℕ) (xs : List T) → Accepts g f is xs → length is ≡ length xs
  accepts_count [] [] a = refl
  accepts_count [] (x ∷ xs) a = absurd a
  accepts_count (i ∷ is) [] a = absurd a
  accepts_count (i ∷ is) (x ∷ xs) a = ap suc (accepts_count is xs a.2)

  pub accepts_firsts : (others left : ℕ) (is : List ℕ) (xs : List T) → Accepts g f is xs → Accepts g f (firsts others left is) (firsts others left xs)
  unfolding firsts
  accepts_firsts others left [] [] a = tt
  accepts_firsts others left [] (x ∷ xs) a = absurd a
  accepts_firsts others left (i ∷ is) [] a = absurd a
  accepts_firsts others zero (i ∷ is) (x ∷ xs) a = (a.0, a.1, accepts_firsts others others is xs a.2)
  accepts_firsts others (suc left) (i ∷ is) (x ∷ xs) a = accepts_firsts others left is xs a.2

  pub accepts_rest : (others left : ℕ) (is : List ℕ) (xs : List T) → Accepts g f is xs → Accepts g f (rest_of others left is) (rest_of others left xs)
  unfolding rest_of
  accepts_rest others left [] [] a = tt
  accepts_rest others left [] (x ∷ xs) a = absurd a
  accepts_rest others left (i ∷ is) [] a = absurd a
  accepts_rest others zero (i ∷ is) (x ∷ xs) a = accepts_rest others others is xs a.2
  accepts_rest others (suc left) (i ∷ is) (x ∷ xs) a = (a.0, a.1, accepts_rest others left is xs a.2)

  pub changes_joined : (others left : ℕ) (is : List ℕ) (xs ys : List T) → length is ≡ length xs → length ys ≡ length xs → Changes g f (firsts others left is) (firsts others left xs) (firsts others left ys)
      → Changes g f (rest_of others left is) (rest_of others left xs) (rest_of others left ys) → Changes g f is xs ys
  unfolding firsts rest_of
  changes_joined others left [] [] [] a b first rest = tt
  changes_joined others left [] [] (y ∷ ys) a b first rest = absurd (omega (arith, b))
  changes_joined others left [] (x ∷ xs) ys a b first rest = absurd (omega (arith, a))
  changes_joined others left (i ∷ is) [] ys a b first rest = absurd (omega (arith, a))
  changes_joined others left (i ∷ is) (x ∷ xs) [] a b first rest = absurd (omega (arith, b))
  changes_joined others zero (i ∷ is) (x ∷ xs) (y ∷ ys) a b first rest = (first.0, changes_joined others others is xs ys (omega (arith, a)) (omega (arith, b)) first.1 rest)
  changes_joined others (suc left) (i ∷ is) (x ∷ xs) (y ∷ ys) a b first rest = (rest.0, changes_joined others left is xs ys (omega (arith, a)) (omega (arith, b)) first rest.1)

  -- by the place of each
  pub strided_small : (step place : ℕ) (count : ℕ) (xs : List T) → Accepts g f (strided step place count) xs → (k : ℕ) → k < length xs → place + k * step < 2 ^ 64
  unfolding strided
  strided_small step place zero [] a k below = absurd (omega (arith, below))
  strided_small step place zero (x ∷ xs) a k below = absurd a
  strided_small step place (suc count) [] a k below = absurd a
  strided_small step place (suc count) (x ∷ xs) a zero below = let here : place ≡ place + zero * step = omega arith in subst (λ i. i < 2 ^ 64) here a.0
  strided_small step place (suc count) (x ∷ xs) a (suc k) below = subst (λ i. i < 2 ^ 64) (further place k step) (strided_small step (place + step) count xs a.2 k (omega (arith, below)))

  pub strided_each : (step place : ℕ) (count : ℕ) (xs : List T) → Accepts g f (strided step place count) xs → (k : ℕ) (d : T) → k < length xs → AcceptsAt g f (place + k * step) (slice_index_or xs k d)
  unfolding strided
  strided_each step place zero [] a k d below = absurd (omega (arith, below))
  strided_each step place zero (x ∷ xs) a k d below = absurd a
  strided_each step place (suc count) [] a k d below = absurd a
  strided_each step place (suc count) (x ∷ xs) a zero d below = let here : place ≡ place + zero * step = omega arith in subst (λ i. AcceptsAt g f i x) here a.1
  strided_each step place (suc count) (x ∷ xs) a (suc k) d below =
      subst (λ i. AcceptsAt g f i (slice_index_or xs k d)) (further place k step) (strided_each step (place + step) count xs a.2 k d (omega (arith, below)))

  pub each_strided : (step place : ℕ) (xs : List T) → ((k : ℕ) → k < length xs → place + k * step < 2 ^ 64) → ((k : ℕ) (d : T) → k < length xs → AcceptsAt g f (place + k * step) (slice_index_or xs k d)) → Accepts g f (strided step place (length xs)) xs
  unfolding strided
  each_strided step place [] small each = tt
  each_strided step place (x ∷ xs) small each =
      let here : place + zero * step ≡ place = omega arith in (
        subst (λ i. i < 2 ^ 64) here (small 0 (omega arith)),
        subst (λ i. AcceptsAt g f i x) here (each 0 x (omega arith)),
        each_strided step (place + step) xs (λ k below. subst (λ i. i < 2 ^ 64) (sym (further place k step)) (small (suc k) (omega (arith, below)))) (λ k d below. subst (λ i. AcceptsAt g f i (slice_index_or xs k d)) (sym (further place k step)) (each (suc k) d (omega (arith, below)))),
      )

  pub changes_strided : (step place : ℕ) (xs ys : List T) → length ys ≡ length xs → ((k : ℕ) (d : T) → k < length xs → ChangesAt g f (place + k * step) (slice_index_or xs k d) (slice_index_or ys k d)) → Changes g f (strided step place (length xs)) xs ys
  unfolding strided
  changes_strided step place [] [] same each = tt
  changes_strided step place [] (y ∷ ys) same each = absurd (omega (arith, same))
  changes_strided step place (x ∷ xs) [] same each = absurd (omega (arith, same))
  changes_strided step place (x ∷ xs) (y ∷ ys) same each =
      let here : place + zero * step ≡ place = omega arith in (
        subst (λ i. ChangesAt g f i x y) here (each 0 x (omega arith)),
        changes_strided step (place + step) xs ys (omega (arith, same)) (λ k d below. subst (λ i. ChangesAt g f i (slice_index_or xs k d) (slice_index_or ys k d)) (sym (further place k step)) (each (suc k) d (omega (arith, below)))),
      )

  pub strided_changes : (step place : ℕ) (count : ℕ) (xs ys : List T) → Changes g f (strided step place count) xs ys → (k : ℕ) (d : T) → k < length xs → ChangesAt g f (place + k * step) (slice_index_or xs k d) (slice_index_or ys k d)
  unfolding strided
  strided_changes step place zero [] ys c k d below = absurd (omega (arith, below))
  strided_changes step place zero (x ∷ xs) ys c k d below = absurd c
  strided_changes step place (suc count) [] ys c k d below = absurd (omega (arith, below))
  strided_changes step place (suc count) (x ∷ xs) [] c k d below = absurd c
  strided_changes step place (suc count) (x ∷ xs) (y ∷ ys) c zero d below = subst (λ i. ChangesAt g f i x y) {x = place} (omega arith) c.0
  strided_changes step place (suc count) (x ∷ xs) (y ∷ ys) c (suc k) d below =
      subst (λ i. ChangesAt g f i (slice_index_or xs k d) (slice_index_or ys k d)) (further place k step) (strided_changes step (place + step) count xs ys c.1 k d (omega (arith, below)))
