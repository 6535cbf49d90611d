pub mod Limits
pub mod Fields
pub mod Values
pub mod Samples
pub mod LineRefusals
pub mod Wording
