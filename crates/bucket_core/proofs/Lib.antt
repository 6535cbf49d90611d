mod AtPlace
mod Edits
mod PageOf
mod Names
pub mod Order
mod Picks
mod Places
