-- What each seat of an acting journal did, by whom objects were put and deleted, and what stands.
pub mod Words
pub mod Orders
pub mod ActingDeeds
pub mod Fronts
pub mod Sources
pub mod Stood
