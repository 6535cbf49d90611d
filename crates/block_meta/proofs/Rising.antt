-- A list that rises is in order already, and times that are lawful pass their test.
use Rattle.std.proofs.Common.{◌≡◌, ℕ, ℤ, List, true, refl}
use Rattle.std.specs.List.Sorted.{IsStrictlyIncreasing}
use Rattle.block_meta.specs.Lawful.{ascending, AreLawfulTimes, are_lawful_times}
use Rattle.block_meta.proofs.AscendingOnce.{ascending_only}
use Rattle.base.proofs.Bools.{true-from_T}

pub ascending_already : (xs : List ℕ) → IsStrictlyIncreasing xs → ascending xs ≡ xs
ascending_already xs rising = ascending_only xs xs rising (λ u. (λ c. c, λ c. c))

pub lawful_passes : (min max : ℤ) → AreLawfulTimes min max → are_lawful_times min max ≡ true
unfolding are_lawful_times
lawful_passes _ _ lawful = rw (true-from_T _ lawful.early.le, true-from_T _ lawful.ascend.lt, true-from_T _ lawful.late.le) refl
