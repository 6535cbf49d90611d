pub mod Limits
pub mod FixedDigits
pub mod UlidText
pub mod Times
pub mod Reserved
