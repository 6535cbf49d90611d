pub mod Runs
pub mod Members
pub mod Overlaps
pub mod Parts
pub mod Selections
pub mod Plans
pub mod Groups
pub mod Cuts
