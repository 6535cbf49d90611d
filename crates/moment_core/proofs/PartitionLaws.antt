-- Which times lie in two ranges.
use Rattle.std.proofs.Common.{◌≡◌, ◌↔◌, ℤ, ◌≤ℤ◌, sym, subst, arith}
use Rattle.std.specs.Int.{int_min, int_max}
use Rattle.std.proofs.lemmas.Int.{ints, int_max_is, int_min_is}
use Rattle.moment_core.specs.declared.partition.Partition.{Partition}
use Rattle.moment_core.specs.Partitions.{IsIn, common}

above_both : (a b t : ℤ) → int_max a b ≤ℤ t → (a ≤ℤ t) × (b ≤ℤ t)
above_both a b t le = let is = int_max_is a b in (grind (arith, ints), grind (arith, ints))

above_greatest : (a b t : ℤ) → a ≤ℤ t → b ≤ℤ t → int_max a b ≤ℤ t
above_greatest a b t one other = let is = int_max_is a b in grind (arith, ints)

below_both : (a b t : ℤ) → t ≤ℤ int_min a b → (t ≤ℤ a) × (t ≤ℤ b)
below_both a b t le = let is = int_min_is a b in (grind (arith, ints), grind (arith, ints))

below_least : (a b t : ℤ) → t ≤ℤ a → t ≤ℤ b → t ≤ℤ int_min a b
below_least a b t one other = let is = int_min_is a b in grind (arith, ints)

-- a time is in what two ranges have in common where it is in both
in_both : (one other : Partition) (time : ℤ) → IsIn (common one other) time ↔ (IsIn one time × IsIn other time)
in_both one other time = (
  λ is.
      let from = above_both one.low other.low time is.from in
      let upto = below_both one.high other.high time is.upto in
      (record { from = from.0; upto = upto.0 }, record { from = from.1; upto = upto.1 }),
  λ both. record {
    from = above_greatest one.low other.low time both.0.from both.1.from;
    upto = below_least one.high other.high time both.0.upto both.1.upto;
  },
)

-- the same of a range that is what they have in common
pub shared : (one other made : Partition) → made ≡ common one other → (time : ℤ) → IsIn made time ↔ (IsIn one time × IsIn other time)
shared one other made is time =
    subst (λ (p : Partition). IsIn p time ↔ (IsIn one time × IsIn other time)) (sym is) (in_both one other time)
