-- A list put in ascending order by a test.
unfoldable pub use Rattle.base.specs.Ordered.{placed, in_order}
