pub mod MarkSteps
pub mod MarkRooms
mod Expired
pub mod LastNamed
pub mod ReadSteps
mod PutTogether
mod Refusing
pub mod MergedInputs
mod ReadRooms
pub mod ReadCounts
pub mod TwoPlanned
mod SkippedGroups
mod JobRuns
mod CompactCounts
mod CompactSteps
mod Beginnings
mod Uploading
mod Rounds
mod AfterMerge
mod SyncParts
mod CompactBegins
mod Counted
