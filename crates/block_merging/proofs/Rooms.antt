-- How many bytes the segments of blocks have.
use Rattle.std.proofs.Common.{◌≡◌, ℕ, ◌+◌, ◌<◌, ◌≤◌, List, length, take, get_or, sum_by, ap, subst, arith}
use Rattle.std.proofs.lemmas.List.{take_all}
use Rattle.block_content.proofs.ChunkWalks.{front}
use Rattle.base.proofs.Lists.{sum_by-push}

-- with one more of a list, of which at most so many are counted
pub counted_more : {X : Type 0} (size : X → ℕ) (all : List X) (k so_far more : ℕ) (one d : X) → so_far ≤ sum_by size (take k all) → k < length all → one ≡ get_or all k d → more ≤ so_far + size one → more ≤ sum_by size (take (k + 1) all)
counted_more size all k so_far more one d few lt at le = omega (arith, few, le, sum_by-push size (take k all) one, ap (sum_by size) (front all k one d lt at))

pub counted_all : {X : Type 0} (size : X → ℕ) (all : List X) (k so_far : ℕ) → so_far ≤ sum_by size (take k all) → length all ≤ k → so_far ≤ sum_by size all
counted_all {X = X} size all k so_far few le = subst (λ (l : List X). so_far ≤ sum_by size l) (take_all k all le) few
