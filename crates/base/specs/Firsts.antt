-- Lists whose members are read or tested one by one, and the first member that is refused.
use Rattle.std.specs.Prelude.{◌≡◌, ℕ, suc, List, [], ◌∷◌, take, slice_get, Option, None, Some, option_map, Result, Ok}
use Rattle.std.specs.List.{AllByRecursion}
use Rattle.base.specs.Reading.{◌>>=◌, refused_as}

-- ---- relations

-- The member at a place is bad, and all before it are good.
pub record IsFirstAt {A : Type 0} (Good Bad : A → Type 0) (list : List A) (place : ℕ) : Type 0 where
  pub member : A
  pub stands : slice_get list place ≡ Some member
  pub bad : Bad member
  pub before : AllByRecursion Good (take place list)

-- ---- functions

-- what the members are read as, or the first one that is refused, with its place
unfoldable pub each_at : {A B E : Type 0} → (A → Result B E) → List A → Result (List B) (ℕ × E)
each_at {A} {B} {E} read [] = Ok []
each_at {A} {B} {E} read (x ∷ xs) = do
  y ← refused_as (λ e. (0, e)) (read x)
  ys ← refused_as (λ (r : ℕ × E). (suc r.0, r.1)) (each_at read xs)
  Ok (y ∷ ys)

-- the one that is found, and else the other
abbrev pub or_else : {X : Type 0} → Option X → Option X → Option X
or_else None other = other
or_else (Some x) other = Some x

-- what is found at the first member at which anything is found, with its place
unfoldable pub first_at : {A X : Type 0} → (A → Option X) → List A → Option (ℕ × X)
first_at {A} {X} found [] = None
first_at {A} {X} found (x ∷ xs) = or_else (option_map (λ e. (0, e)) (found x)) (option_map (λ (r : ℕ × X). (suc r.0, r.1)) (first_at found xs))
