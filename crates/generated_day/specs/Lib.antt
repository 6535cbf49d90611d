pub mod Day
pub mod Summaries
pub mod Wanting
