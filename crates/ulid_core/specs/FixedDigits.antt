-- Numbers in a fixed count of digits stand in base.
unfoldable pub use Rattle.base.specs.FixedDigits.{fixed_digits}
