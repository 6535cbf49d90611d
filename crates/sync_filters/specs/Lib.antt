pub mod Filters
pub mod Holders
