pub mod ExpiredMark
pub mod MarkedBucket
pub mod ExpiredRounds
pub mod LonePhases
pub mod ExpiredBlock
pub mod ExpiredBreach
