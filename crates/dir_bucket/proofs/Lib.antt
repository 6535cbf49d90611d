pub mod Listed
pub mod Noting
