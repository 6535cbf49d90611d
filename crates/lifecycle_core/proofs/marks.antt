-- Marks and deletions: why marks are put, and that nothing is deleted but late.
pub mod Reasons
pub mod Looks
pub mod Decided
pub mod Deletions
pub mod Better
pub mod Causes
pub mod Standing
