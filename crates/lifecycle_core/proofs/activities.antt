pub mod PagesAsk
pub mod Listing
pub mod CleaningAsks
pub mod SyncSights
pub mod MergedBlocks
pub mod MarkTexts
pub mod CompactionSoFar
mod CompactionWords
pub mod CompactionGroups
pub mod CompactionAsks
