pub mod Acting
pub mod Joined
pub mod ToldCalls
