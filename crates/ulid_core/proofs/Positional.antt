-- The lemmas on fixed digits stand in base.
pub use Rattle.base.proofs.Positional.{length-fixed_digits, below-fixed_digits, number-fixed_digits, cmp-digits, number_after-ge, then_equal, then_assoc}
