pub mod AllAlike
pub mod AskLists
pub mod Compared
pub mod ToldOnce
