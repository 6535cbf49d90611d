pub mod Limits
pub mod Works
pub mod Hands
pub mod Whose
pub mod Staff
