pub mod Conflicts
pub mod Counts
pub mod Dated
pub mod LineWalks
pub mod RuleLines
pub mod TaskLines
pub mod ToldLines
pub mod WorkerSeats
