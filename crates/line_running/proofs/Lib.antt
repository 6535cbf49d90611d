pub mod Turns
pub mod Steps
pub mod Told
pub mod SeatLists
pub mod PhaseLists
