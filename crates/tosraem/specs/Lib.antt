pub mod Advice
pub mod Calls
pub mod Progress
pub mod Said
pub mod Troubles
