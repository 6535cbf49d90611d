pub mod Told
pub mod SoFar
