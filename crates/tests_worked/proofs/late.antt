pub mod LateUpload
pub mod LateMark
pub mod LateRounds
pub mod LateBucket
pub mod LateCompaction
pub mod LateRules
pub mod LateBreach
