-- Plain words on lists.
use Rattle.std.specs.Prelude.{ℕ, List, Bool, ◌==◌}
use Rattle.std.specs.List.{flat_map, list_any}

-- the members of all parts, part after part
abbrev pub joined : {A : Type 0} → List (List A) → List A
joined parts = flat_map (λ part. part) parts

-- whether the number is one of these
abbrev pub is_one_of : List ℕ → ℕ → Bool
is_one_of numbers number = list_any (λ n. n == number) numbers
