pub use Rattle.vertical_merge.specs.Merged
pub mod Asks
pub mod Gathered
