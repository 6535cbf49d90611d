pub use Rattle.label_sets.specs.Labels
pub use Rattle.label_sets.specs.Triples
pub mod Merged
pub mod Joined
pub mod Compacted
