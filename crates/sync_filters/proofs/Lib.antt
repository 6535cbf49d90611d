mod Places
mod EqualSources
pub mod HolderLaws
mod HolderPlaces
mod Digests
mod BitMarks
